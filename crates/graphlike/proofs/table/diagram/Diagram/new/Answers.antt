use Rattle.models.specs.Edits.{blank}
use Rattle.models.proofs.Keeps.{blank-sound}
use Rattle.graphlike.specs.Shapes.{shape}
use Rattle.graphlike.proofs.Sounds.{owed}
use Rattle.graphlike.proofs.table.diagram.Diagram.new.Goals as goal

pub invariant_of-result : goal.invariant_of-result
invariant_of-result c = owed (shape c.blank.result) blank c.blank.ensures blank-sound
