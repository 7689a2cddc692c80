use Rattle.models.specs.Edits.{gained}
use Rattle.models.proofs.Toggles.{gained-sound}
use Rattle.rows.specs.Rows.{has}
use Rattle.graphlike.specs.Shapes.{shape}
use Rattle.graphlike.specs.Diagrams.{model}
use Rattle.graphlike.proofs.Sounds.{sound, owed}
use Rattle.graphlike.proofs.table.diagram.Diagram.turn.Goals as goal

pub invariant_of-self : goal.invariant_of-self
invariant_of-self c = owed (shape c.turn.new.self) (gained (has c.args.set.now) c.args.phase.parts (model c.args.self.now)) c.turn.ensures (gained-sound (has c.args.set.now) c.args.phase.parts (sound c.args.self.now))
