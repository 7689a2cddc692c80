use Rattle.models.specs.Edits.{zeroed}
use Rattle.std.proofs.Common.{refl}
use Rattle.graphlike.proofs.table.diagram.Diagram.make_zero.Goals as goal

pub returns : goal.returns
unfolding zeroed
returns c = refl
