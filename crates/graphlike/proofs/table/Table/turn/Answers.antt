use Rattle.std.proofs.Common.{◌+◌, ◌%◌, cond, refl, ap, ◌∙◌}
use Rattle.models.specs.Edits.{gained}
use Rattle.links.specs.Links.{phase_at}
use Rattle.graphlike.proofs.Shapes.{same-model}
use Rattle.graphlike.proofs.table.Table.turn.Goals as goal

pub returns : goal.returns
unfolding gained
returns c = same-model _ _ (record {
  stands = λ s. refl;
  phase = λ s. c.turn.ensures s ∙ ap (λ b. cond b ((phase_at c.args.self.now.phases s + c.args.phase.parts) % 4) (phase_at c.args.self.now.phases s)) (c.intersect.ensures s);
  edge = λ s t. refl;
  leg = λ l. refl;
  scalar = refl;
})
