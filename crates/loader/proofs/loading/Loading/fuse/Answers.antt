use Rattle.std.proofs.Common.{◌≡◌, min, max, length, map, sym, ap, ◌∙◌, ap₂, subst, true≢false, arith, eq-eqb}
use Rattle.std.proofs.lemmas.List.{length-map}
use Rattle.arrayvec.proofs.ArrayVecLemmas.{items-with_items}
use Rattle.models.specs.Edits.{fused, can_fuse}
use Rattle.loadings.specs.Goods.{Good}
use Rattle.graphlike.specs.Diagrams.{model}
use Rattle.loader.specs.Givens.{moved}
use Rattle.loader.specs.States.{state}
use Rattle.loader.proofs.Items.{when_done, slots_fuse, taken_below, good_plain, plain_made}
use Rattle.loader.proofs.loading.Loading.fuse.Goals as goal

pub invariant_of-self : goal.invariant_of-self
invariant_of-self c =
    let l = c.args.self.now in
    let m = model l.diagram in
    let gs = l.spiders.items in
    let a = c.args.a.number in
    let b = c.args.b.number in
    let apart : a ≡ b → ⊥ = λ e. true≢false (sym (c.eq.ensures ∙ eq-eqb a b e) ∙ c.if-eq.false) in
    let low_a = taken_below m gs l.legs a l.good c.requires.a_given in
    let low_b = taken_below m gs l.legs b l.good c.requires.b_given in
    let lower : c.of-lower.result.number ≡ min a b = c.of-lower.ensures ∙ omega (arith, c.min.ensures, c.number.ensures.value, c.number-2.ensures.value) in
    let upper : c.of-upper.result.number ≡ max a b = c.of-upper.ensures ∙ omega (arith, c.max.ensures, c.number-3.ensures.value, c.number-4.ensures.value) in
    let can = ap₂ (λ x y. can_fuse x y m) lower upper ∙ slots_fuse m gs l.legs a b l.good c.requires.a_given c.requires.b_given apart in
    let new = when_done c.fuse.result (fused c.of-lower.result.number c.of-upper.result.number m) m (model c.fuse.new.self) (c.fuse.ensures.done ∙ can) c.fuse.ensures.after in
    let gone = c.relabel.ensures ∙ ap (map (moved c.of-lower.result c.of-upper.result)) c.deref_mut.ensures.value in
    let long = ap length gone ∙ length-map gs (moved c.of-lower.result c.of-upper.result) in
    let items = items-with_items l.spiders c.relabel.new.spiders long ∙ gone in
    let made = plain_made m (model c.fuse.new.self) gs _ l.legs a b c.of-lower.result c.of-upper.result apart lower upper new items (omega arith) in
    record { good = subst Good (sym made) (good_plain (state l) a b l.good c.requires.a_given c.requires.b_given) }

pub returns-clause-after : goal.returns-clause-after
returns-clause-after c =
    let l = c.args.self.now in
    let m = model l.diagram in
    let gs = l.spiders.items in
    let a = c.args.a.number in
    let b = c.args.b.number in
    let apart : a ≡ b → ⊥ = λ e. true≢false (sym (c.eq.ensures ∙ eq-eqb a b e) ∙ c.if-eq.false) in
    let low_a = taken_below m gs l.legs a l.good c.requires.a_given in
    let low_b = taken_below m gs l.legs b l.good c.requires.b_given in
    let lower : c.of-lower.result.number ≡ min a b = c.of-lower.ensures ∙ omega (arith, c.min.ensures, c.number.ensures.value, c.number-2.ensures.value) in
    let upper : c.of-upper.result.number ≡ max a b = c.of-upper.ensures ∙ omega (arith, c.max.ensures, c.number-3.ensures.value, c.number-4.ensures.value) in
    let can = ap₂ (λ x y. can_fuse x y m) lower upper ∙ slots_fuse m gs l.legs a b l.good c.requires.a_given c.requires.b_given apart in
    let new = when_done c.fuse.result (fused c.of-lower.result.number c.of-upper.result.number m) m (model c.fuse.new.self) (c.fuse.ensures.done ∙ can) c.fuse.ensures.after in
    let gone = c.relabel.ensures ∙ ap (map (moved c.of-lower.result c.of-upper.result)) c.deref_mut.ensures.value in
    let long = ap length gone ∙ length-map gs (moved c.of-lower.result c.of-upper.result) in
    let items = items-with_items l.spiders c.relabel.new.spiders long ∙ gone in
    plain_made m (model c.fuse.new.self) gs _ l.legs a b c.of-lower.result c.of-upper.result apart lower upper new items (omega arith)
