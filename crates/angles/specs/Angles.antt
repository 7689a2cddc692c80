-- Angles in equal parts of a turn, counted round and round: quarter turns and eighth turns. Assumes nothing.
use Rattle.std.specs.Prelude.{ℕ, ◌+◌, ◌/◌, ◌%◌, ◌<◌, if◌then◌else◌, Some, None, Option, ◌==◌, nat_lt}
use Rattle.angles.specs.declared.angle.Angle.{Angle}
use Rattle.std.proofs.Common.{arith}
use Rattle.std.proofs.Math.Nat.{mod-lt}

-- counting round stays below the number of parts
pub below : (n last : ℕ) → n % (last + 1) < last + 1
below n last = mod-lt n (omega arith)

-- n parts of a turn of last + 1 parts, whole turns left out
abbrev pub angle : (last n : ℕ) → Angle last
angle last n = record { parts = n % (last + 1); bound = below n last }

-- the angle of exactly n parts, where that is no whole turn
abbrev pub exact_angle : (last n : ℕ) → Option (Angle last)
exact_angle last n = if nat_lt n (last + 1) then Some (angle last n) else None

-- n quarter turns, and n eighth turns
abbrev pub phase : ℕ → Angle 3
phase = angle 3

abbrev pub turn : ℕ → Angle 7
turn = angle 7

-- the phase that is half as many quarters as a turn has eighths, where that is whole
abbrev pub half_turn : Angle 7 → Option (Angle 3)
half_turn t = if t.parts % 2 == 0 then Some (phase (t.parts / 2)) else None
