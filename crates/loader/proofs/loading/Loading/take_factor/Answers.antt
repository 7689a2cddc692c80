use Rattle.std.proofs.Common.{◌≡◌, ℤ, cond, Ok, Err, Result, sym, refl, ap, ◌∙◌, subst, w32, SFits, rules}
use Rattle.std.proofs.lemmas.Int.{to_z-of_z}
use Rattle.std.proofs.lemmas.Result.{err_from_is_err_and}
use Rattle.refusals.specs.declared.LoadRefusal.{LoadRefusal}
use Rattle.refusals.specs.declared.LoadRefusal.TheVariants.{ScalarOutOfRange}
use Rattle.diagrams.specs.declared.items.Item.TheVariants.{Factor}
use Rattle.models.specs.Edits.{product, scaled}
use Rattle.loadings.specs.Loadings.{refuses, within, with_model}
use Rattle.loadings.proofs.Taken.{good_taken}
use Rattle.graphlike.specs.Diagrams.{model}
use Rattle.loader.specs.Givens.{loading_of}
use Rattle.loader.specs.States.{state}
use Rattle.loader.proofs.Answers.{went_on, was_refused}
use Rattle.loader.proofs.Items.{factor_on, scaled-scalar}
use Rattle.loader.proofs.Taking.{comes, judged_beyond}
use Rattle.loader.proofs.loading.Loading.take_factor.Goals as goal

pub returns-in_err-afford : goal.returns-in_err-afford
returns-in_err-afford c =
    let l = c.args.self.now in
    let m = model l.diagram in
    let t = c.args.factor.m.parts in
    let z = c.args.factor.k.exponent in
    let fits : SFits w32 c.exponent-k.result = search rules in
    let k = to_z-of_z w32 c.exponent-k.result fits ∙ c.exponent-k.ensures in
    let afford = subst (λ (x : ℤ). c.afford.result ≡ cond {A = Result (Unit {0}) LoadRefusal} (within (product x t (state l).model.scalar)) (Ok tt) (Err (ScalarOutOfRange l.item))) k c.afford.ensures in
    let off = was_refused (within (product z t (state l).model.scalar)) (ScalarOutOfRange l.item) _ (sym afford ∙ c.in_err-afford.was) in
    let p = err_from_is_err_and c.from_residual.result c.from_residual.ensures.1 in
    comes _ (refuses ScalarOutOfRange) l.item l.item c.from_residual.result l (judged_beyond (with_model (state l) (scaled z t (state l).model)) (ap within (scaled-scalar z t (state l).model) ∙ off.0)) (p.1 ∙ ap (λ e. Err e) (p.2 ∙ off.1))

pub invariant_of-self : goal.invariant_of-self
invariant_of-self c =
    let l = c.args.self.now in
    let m = model l.diagram in
    let t = c.args.factor.m.parts in
    let z = c.args.factor.k.exponent in
    let fits : SFits w32 c.exponent-k.result = search rules in
    let k = to_z-of_z w32 c.exponent-k.result fits ∙ c.exponent-k.ensures in
    let afford = subst (λ (x : ℤ). c.afford.result ≡ cond {A = Result (Unit {0}) LoadRefusal} (within (product x t (state l).model.scalar)) (Ok tt) (Err (ScalarOutOfRange l.item))) k c.afford.ensures in
    let on = went_on (within (product z t (state l).model.scalar)) (ScalarOutOfRange l.item) _ (sym afford ∙ c.in_ok-afford.was) in
    let made = factor_on m (model c.scale.new.self) l.spiders.items l.legs c.args.factor _ c.scale.result k on c.scale.ensures.done c.scale.ensures.after in
    record { good = good_taken (state l) (loading_of (model c.scale.new.self) l.spiders.items l.legs) (Factor c.args.factor) l.good made }

pub returns : goal.returns
returns c =
    let l = c.args.self.now in
    let m = model l.diagram in
    let t = c.args.factor.m.parts in
    let z = c.args.factor.k.exponent in
    let fits : SFits w32 c.exponent-k.result = search rules in
    let k = to_z-of_z w32 c.exponent-k.result fits ∙ c.exponent-k.ensures in
    let afford = subst (λ (x : ℤ). c.afford.result ≡ cond {A = Result (Unit {0}) LoadRefusal} (within (product x t (state l).model.scalar)) (Ok tt) (Err (ScalarOutOfRange l.item))) k c.afford.ensures in
    let on = went_on (within (product z t (state l).model.scalar)) (ScalarOutOfRange l.item) _ (sym afford ∙ c.in_ok-afford.was) in
    let made = factor_on m (model c.scale.new.self) l.spiders.items l.legs c.args.factor _ c.scale.result k on c.scale.ensures.done c.scale.ensures.after in
    comes _ _ l.item l.item _ _ made (refl, refl, refl)
