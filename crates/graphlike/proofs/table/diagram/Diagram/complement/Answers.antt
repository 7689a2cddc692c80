use Rattle.models.specs.Edits.{complemented_around}
use Rattle.models.proofs.Toggles.{complemented_around-sound}
use Rattle.graphlike.specs.Shapes.{shape}
use Rattle.graphlike.specs.Diagrams.{model}
use Rattle.graphlike.proofs.Sounds.{sound, owed}
use Rattle.graphlike.proofs.table.diagram.Diagram.complement.Goals as goal

pub invariant_of-self : goal.invariant_of-self
invariant_of-self c = owed (shape c.complement.new.self) (complemented_around c.args.slot.number (model c.args.self.now)) c.complement.ensures (complemented_around-sound c.args.slot.number (sound c.args.self.now))
