use Rattle.std.proofs.Common.{◌≡◌, ℕ, ◌+◌, ◌*◌, ◌%◌, false, cond, ◌&&◌, eqb, refl, ap, ◌∙◌, ap₂, arith}
use Rattle.graphs.specs.Counts.{bit}
use Rattle.graphs.specs.Rules.{xor}
use Rattle.models.specs.Edits.{fused}
use Rattle.rows.specs.Rows.{has}
use Rattle.links.specs.Links.{linked, phase_at}
use Rattle.graphlike.proofs.Shapes.{same-model}
use Rattle.graphlike.proofs.Edges.{edge-fused}
use Rattle.graphlike.proofs.table.Table.fuse.Goals as goal

sums : (x y z v w : ℕ) → v ≡ (x + y) % 4 → w ≡ (v + z) % 4 → w ≡ (x + (y + z)) % 4
sums x y z v w e f = omega arith

pub returns : goal.returns
unfolding fused
returns c =
    let e = linked c.args.self.now.links in
    let p = phase_at c.args.self.now.phases in
    let a = c.args.a.number in
    let b = c.args.b.number in
    let others : (t : ℕ) → has c.remove.new.self t ≡ cond (eqb t a) false (e b t) = λ t. c.remove.ensures t ∙ ap (cond (eqb t a) false) (c.neighbours-of_b.ensures t) in
    let between : c.half_turn-between.result.parts ≡ 2 * bit (e a b) = c.half_turn-between.ensures ∙ ap (λ x. 2 * bit x) (c.holds.ensures ∙ c.neighbours-of_b.ensures a ∙ c.requires.sound.graph.symmetric b a) in
    let pair : c.add.result.parts ≡ (p a + p b) % 4 = ap (λ x. x.parts) c.add.ensures ∙ ap₂ (λ x y. (x + y) % 4) c.at.ensures c.at-2.ensures in
    let all : c.add-phase.result.parts ≡ (c.add.result.parts + 2 * bit (e a b)) % 4 = ap (λ x. x.parts) c.add-phase.ensures ∙ ap (λ x. (c.add.result.parts + x) % 4) between in
    let whole = sums (p a) (p b) (2 * bit (e a b)) c.add.result.parts c.add-phase.result.parts pair all in
    same-model _ _ (record {
      stands = c.remove-2.ensures;
      phase = λ s. c.set-2.ensures s ∙ ap₂ (λ x y. cond (eqb s b) x y) (ap (λ x. x.parts) c.of.ensures) (c.set.ensures s ∙ ap (λ x. cond (eqb s a) x (p s)) whole);
      edge = λ s t. c.cross-2.ensures s t
          ∙ (λ i. xor (c.cross.ensures s t i) (xor (c.only-2.ensures s i && c.neighbours-of_b.ensures t i) (c.neighbours-of_b.ensures s i && c.only-2.ensures t i)))
          ∙ (λ i. xor (xor (e s t) (xor (c.only.ensures s i && others t i) (others s i && c.only.ensures t i))) (xor (eqb s b && e b t) (e b s && eqb t b)))
          ∙ edge-fused e c.requires.sound.graph.symmetric c.requires.sound.graph.loop_free a b s t c.requires.apart;
      leg = c.lead.ensures;
      scalar = refl;
    })
