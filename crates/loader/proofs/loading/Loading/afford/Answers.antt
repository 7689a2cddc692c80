use Rattle.std.proofs.Common.{◌≡◌, ℤ, Bool, if◌then◌else◌, Result, Ok, Err, sym, ap, ◌∙◌, subst, w32}
use Rattle.std.proofs.lemmas.Int.{to_z-of_z}
use Rattle.refusals.specs.declared.LoadRefusal.{LoadRefusal}
use Rattle.refusals.specs.declared.LoadRefusal.TheVariants.{ScalarOutOfRange}
use Rattle.models.specs.Edits.{product}
use Rattle.loadings.specs.Loadings.{within}
use Rattle.graphlike.specs.Diagrams.{model}
use Rattle.parts.specs.Scales.{scale_of}
use Rattle.loader.proofs.Items.{model-given}
use Rattle.loader.proofs.loading.Loading.afford.Goals as goal

pub returns-then-not-stays_within : goal.returns-then-not-stays_within
returns-then-not-stays_within c =
    let l = c.args.self.now in
    let e = ScalarOutOfRange l.item in
    let stays = subst (λ (z : ℤ). c.stays_within.result ≡ within (product z c.args.m.parts (scale_of c.scalar.result))) (to_z-of_z w32 c.args.k c.ranges.k) c.stays_within.ensures in
    let is = stays ∙ ap (λ x. within (product c.args.k c.args.m.parts x)) (c.scalar.ensures ∙ ap (λ m. m.scalar) (sym (model-given (model l.diagram) l.spiders.items l.legs))) in
    ap (λ (b : Bool). if◌then◌else◌ {A = Result (Unit {0}) LoadRefusal} b (Ok tt) (Err e)) (sym c.if-not-stays_within.true ∙ is)

pub returns : goal.returns
returns c =
    let l = c.args.self.now in
    let e = ScalarOutOfRange l.item in
    let stays = subst (λ (z : ℤ). c.stays_within.result ≡ within (product z c.args.m.parts (scale_of c.scalar.result))) (to_z-of_z w32 c.args.k c.ranges.k) c.stays_within.ensures in
    let is = stays ∙ ap (λ x. within (product c.args.k c.args.m.parts x)) (c.scalar.ensures ∙ ap (λ m. m.scalar) (sym (model-given (model l.diagram) l.spiders.items l.legs))) in
    ap (λ (b : Bool). if◌then◌else◌ {A = Result (Unit {0}) LoadRefusal} b (Ok tt) (Err e)) (sym c.if-not-stays_within.false ∙ is)
