use Rattle.std.proofs.Common.{sym, ◌∙◌}
use Rattle.models.specs.Edits.{fused}
use Rattle.models.proofs.Fuses.{fused-sound}
use Rattle.graphlike.specs.Shapes.{shape}
use Rattle.graphlike.specs.Diagrams.{model}
use Rattle.graphlike.proofs.Sounds.{sound, owed}
use Rattle.graphlike.proofs.table.diagram.Diagram.fuse.Goals as goal

pub invariant_of-self : goal.invariant_of-self
invariant_of-self c = owed (shape c.fuse.new.self) (fused c.args.a.number c.args.b.number (model c.args.self.now)) c.fuse.ensures (fused-sound c.args.a.number c.args.b.number (sound c.args.self.now) (sym c.can_join-done.ensures ∙ c.if-done.true))
