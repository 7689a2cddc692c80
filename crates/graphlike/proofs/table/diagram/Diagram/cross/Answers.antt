use Rattle.models.specs.Edits.{crossed}
use Rattle.models.proofs.Toggles.{crossed-sound}
use Rattle.graphlike.specs.Shapes.{shape}
use Rattle.graphlike.specs.Diagrams.{model}
use Rattle.graphlike.proofs.Sounds.{sound, owed}
use Rattle.graphlike.proofs.table.diagram.Diagram.cross.Goals as goal

pub invariant_of-self : goal.invariant_of-self
invariant_of-self c = owed (shape c.cross.new.self) (crossed c.args.u.number c.args.v.number (model c.args.self.now)) c.cross.ensures (crossed-sound c.args.u.number c.args.v.number (sound c.args.self.now))
