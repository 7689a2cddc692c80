use Rattle.std.proofs.Common.{sym, ◌∙◌}
use Rattle.models.specs.Edits.{placed}
use Rattle.models.proofs.Keeps.{placed-sound}
use Rattle.graphlike.specs.Shapes.{shape}
use Rattle.graphlike.specs.Diagrams.{model}
use Rattle.graphlike.proofs.Sounds.{sound, owed}
use Rattle.graphlike.proofs.table.diagram.Diagram.place.Goals as goal

pub invariant_of-self : goal.invariant_of-self
invariant_of-self c = owed (shape c.place.new.self) (placed c.args.slot.number c.args.phase.parts (model c.args.self.now)) c.place.ensures (placed-sound c.args.slot.number c.args.phase.parts c.args.phase.bound (sound c.args.self.now) (sym c.can_place-done.ensures ∙ c.if-done.true))
