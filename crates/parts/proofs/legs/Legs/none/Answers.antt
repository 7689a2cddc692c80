use Rattle.std.proofs.Common.{length, replicate, None, sym, ap}
use Rattle.parts.specs.Tables.{leg_in}
use Rattle.parts.proofs.Tables.{no_legs, none-listed}
use Rattle.parts.proofs.legs.Legs.none.Goals as goal

pub invariant_of-result : goal.invariant_of-result
invariant_of-result c = record { counted = sym (ap length (none-listed 64 0 (leg_in (replicate 64 None)) (no_legs 64))) }

pub returns : goal.returns
returns c k = no_legs 64 k
