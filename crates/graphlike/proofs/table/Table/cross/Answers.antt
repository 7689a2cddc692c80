use Rattle.std.proofs.Common.{◌&&◌, refl, ◌∙◌}
use Rattle.graphs.specs.Rules.{xor}
use Rattle.models.specs.Edits.{crossed}
use Rattle.links.specs.Links.{linked}
use Rattle.graphlike.proofs.Shapes.{same-model}
use Rattle.graphlike.proofs.table.Table.cross.Goals as goal

pub returns : goal.returns
unfolding crossed
returns c = same-model _ _ (record {
  stands = λ s. refl;
  phase = λ s. refl;
  edge = λ s t. c.cross.ensures s t ∙ (λ i. xor (linked c.args.self.now.links s t) (xor (c.neighbours-of_u.ensures s i && c.neighbours-of_v.ensures t i) (c.neighbours-of_v.ensures s i && c.neighbours-of_u.ensures t i)));
  leg = λ l. refl;
  scalar = refl;
})
