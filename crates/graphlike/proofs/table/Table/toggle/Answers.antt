use Rattle.std.proofs.Common.{refl, ap, ◌∙◌}
use Rattle.graphs.specs.Rules.{xor}
use Rattle.models.specs.Edits.{toggled}
use Rattle.links.specs.Links.{linked}
use Rattle.graphlike.proofs.Shapes.{same-model}
use Rattle.graphlike.proofs.Edges.{one_pair}
use Rattle.graphlike.proofs.table.Table.toggle.Goals as goal

pub returns : goal.returns
unfolding toggled
returns c = same-model _ _ (record {
  stands = λ s. refl;
  phase = λ s. refl;
  edge = λ s t. c.toggle.ensures s t ∙ ap (xor (linked c.args.self.now.links s t)) (one_pair c.args.a.number c.args.b.number s t c.requires);
  leg = λ l. refl;
  scalar = refl;
})
