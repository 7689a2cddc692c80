use Rattle.std.proofs.Common.{not, sym, ap, ◌∙◌}
use Rattle.models.specs.Edits.{removed}
use Rattle.models.proofs.Keeps.{removed-sound}
use Rattle.graphlike.specs.Shapes.{shape}
use Rattle.graphlike.specs.Diagrams.{model}
use Rattle.graphlike.proofs.Sounds.{sound, owed}
use Rattle.graphlike.proofs.table.diagram.Diagram.remove.Goals as goal

pub invariant_of-self : goal.invariant_of-self
invariant_of-self c = owed (shape c.remove.new.self) (removed c.args.slot.number (model c.args.self.now)) c.remove.ensures (removed-sound c.args.slot.number (sound c.args.self.now) (ap not (sym (c.boundary.ensures c.args.slot.number) ∙ sym c.holds-done.ensures ∙ c.if-done.true)))
