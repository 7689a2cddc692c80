-- Powers of the root of two, by their exponents. Assumes nothing.
use Rattle.std.specs.Prelude.{◌-◌, ◌≤◌, min, if◌then◌else◌, ℤ, pos, negsuc, Some, None, Option, nat_le, unsigned_abs}
use Rattle.std.proofs.Common.{suc-le-suc}
use Rattle.std.proofs.Math.Nat.{min-le_right}
use Rattle.diagrams.specs.Limits.{limit}
use Rattle.diagrams.specs.declared.power.Power.{Power}

-- the nearest number to z within the limit
abbrev pub nearest : ℤ → ℤ
nearest (pos n) = pos (min n limit)
nearest (negsuc n) = negsuc (min n (limit - 1))

-- proved here, since `power` holds it in a ghost field, and specs/ may not name the proofs/ of its own crate
pub nearest_within : (z : ℤ) → unsigned_abs (nearest z) ≤ limit
nearest_within (pos n) = min-le_right n limit
nearest_within (negsuc n) = suc-le-suc (min-le_right n (limit - 1))

-- the power whose exponent is the nearest to z within the limit
abbrev pub power : ℤ → Power
power z = record { exponent = nearest z; bound = nearest_within z }

-- the power of exponent z, where z lies within the limit
abbrev pub exact_power : ℤ → Option Power
exact_power z = if nat_le (unsigned_abs z) limit then Some (power z) else None
