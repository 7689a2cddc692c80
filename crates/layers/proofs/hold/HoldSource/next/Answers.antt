use Rattle.std.proofs.Common.{arith}
use Rattle.std.proofs.lemmas.Grind.{common_steps}
use Rattle.layers.proofs.Counting.{held_past}
use Rattle.layers.proofs.hold.HoldSource.next.Goals as goal

pub returns-after-self-len-clause-leaves : goal.returns-after-self-len-clause-leaves
returns-after-self-len-clause-leaves g c = grind (arith, common_steps, held_past)
