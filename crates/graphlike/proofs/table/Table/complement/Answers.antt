use Rattle.std.proofs.Common.{not, ◌&&◌, eqb, refl, ◌∙◌, ap₂}
use Rattle.graphs.specs.Rules.{xor}
use Rattle.models.specs.Edits.{complemented_around}
use Rattle.links.specs.Links.{linked}
use Rattle.graphlike.proofs.Shapes.{same-model}
use Rattle.graphlike.proofs.table.Table.complement.Goals as goal

pub returns : goal.returns
unfolding complemented_around
returns c = same-model _ _ (record {
  stands = λ s. refl;
  phase = λ s. refl;
  edge = λ s t. c.complement.ensures s t ∙ ap₂ (λ a b. xor (linked c.args.self.now.links s t) (not (eqb s t) && (a && b))) (c.neighbours-neighbours.ensures s) (c.neighbours-neighbours.ensures t);
  leg = λ l. refl;
  scalar = refl;
})
