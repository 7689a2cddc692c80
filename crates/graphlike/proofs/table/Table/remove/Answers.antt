use Rattle.std.proofs.Common.{cond, ◌&&◌, eqb, refl, ap, ◌∙◌}
use Rattle.graphs.specs.Rules.{xor}
use Rattle.models.specs.Edits.{removed}
use Rattle.links.specs.Links.{linked, phase_at}
use Rattle.graphlike.proofs.Shapes.{same-model}
use Rattle.graphlike.proofs.Edges.{edge-removed}
use Rattle.graphlike.proofs.table.Table.remove.Goals as goal

pub returns : goal.returns
unfolding removed
returns c =
    let e = linked c.args.self.now.links in
    let u = c.args.slot.number in
    same-model _ _ (record {
      stands = c.remove.ensures;
      phase = λ s. c.set.ensures s ∙ ap (λ p. cond (eqb s u) p.parts (phase_at c.args.self.now.phases s)) c.of.ensures;
      edge = λ s t. c.cross.ensures s t ∙ (λ i. xor (e s t) (xor (c.only.ensures s i && c.neighbours-neighbours.ensures t i) (c.neighbours-neighbours.ensures s i && c.only.ensures t i))) ∙ edge-removed e c.requires.graph.symmetric c.requires.graph.loop_free u s t;
      leg = λ l. refl;
      scalar = refl;
    })
