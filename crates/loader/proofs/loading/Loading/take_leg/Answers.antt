use Rattle.std.proofs.Common.{◌≡◌, ◌+◌, ◌<◌, ◌≤◌, Err, sym, refl, ap, ◌∙◌, subst, w32, SFits, rules}
use Rattle.std.proofs.lemmas.Int.{to_z-of_z}
use Rattle.std.proofs.lemmas.Result.{err_from_is_err_and}
use Rattle.refusals.specs.declared.LoadRefusal.TheVariants.{ScalarOutOfRange, TooManyLegs}
use Rattle.diagrams.specs.declared.items.Item.TheVariants.{Leg}
use Rattle.loadings.specs.Loadings.{goes_on, refuses, paid, with_one_leg}
use Rattle.loadings.proofs.Taken.{good_taken}
use Rattle.graphlike.specs.Diagrams.{model}
use Rattle.loader.specs.Givens.{loading_of}
use Rattle.loader.specs.States.{state}
use Rattle.loader.specs.Legs.{leg_put, LegGuards}
use Rattle.loader.proofs.Answers.{went_on, was_refused}
use Rattle.loader.proofs.Items.{leg_spent, leg_within, leg_made, leg_on, leg_off, leg_guards}
use Rattle.loader.proofs.Taking.{comes, judged-within, judged_beyond}
use Rattle.loader.proofs.loading.Loading.take_leg.Goals as goal

pub returns-in_err-name : goal.returns-in_err-name
returns-in_err-name c =
    let l = c.args.self.now in
    let m = model l.diagram in
    let s = state l in
    let d = c.args.leg in
    let g = c.in_ok-given.given in
    let full : 64 ≤ l.legs = search rules in
    let why : c.in_err-name.field-0.0 ≡ TooManyLegs l.item = search rules in
    let p = err_from_is_err_and c.from_residual-in_err-name.result c.from_residual-in_err-name.ensures.1 in
    comes _ (refuses TooManyLegs) l.item l.item _ l (leg_off m l.spiders.items l.legs d g c.in_ok-given.ensures full) (p.1 ∙ ap (λ e. Err e) (p.2 ∙ why))

pub returns-in_err-afford : goal.returns-in_err-afford
returns-in_err-afford c =
    let l = c.args.self.now in
    let m = model l.diagram in
    let s = state l in
    let d = c.args.leg in
    let g = c.in_ok-given.given in
    let k = c.at_end-kind.result in
    let name : (c.in_ok-name.name.number ≡ l.legs) × (l.legs < 64) = search rules in
    let fits : SFits w32 c.leg_cost.result = search rules in
    let cost = leg_spent m l.spiders.items l.legs d g k c.leg_cost.result _ c.of.result.parts c.in_ok-given.ensures c.at_end-kind.ensures (to_z-of_z w32 c.leg_cost.result fits) c.leg_cost.ensures (ap (λ t. t.parts) c.of.ensures) in
    let off = was_refused _ (ScalarOutOfRange l.item) _ (sym c.afford.ensures ∙ c.in_err-afford.was) in
    let p = err_from_is_err_and c.from_residual-in_err-afford.result c.from_residual-in_err-afford.ensures.1 in
    comes _ (refuses ScalarOutOfRange) l.item l.item _ l (leg_on m l.spiders.items l.legs d g c.in_ok-given.ensures name.1 ∙ judged_beyond (with_one_leg d s) (cost ∙ off.0)) (p.1 ∙ ap (λ e. Err e) (p.2 ∙ off.1))

pub set_leg-requires-clause-guards : goal.set_leg-requires-clause-guards
set_leg-requires-clause-guards c =
    let l = c.args.self.now in
    let m = model l.diagram in
    let s = state l in
    let d = c.args.leg in
    let g = c.in_ok-given.given in
    let k = c.at_end-kind.result in
    let name : (c.in_ok-name.name.number ≡ l.legs) × (l.legs < 64) = search rules in
    subst (λ n. LegGuards n (record { side = d.side; slot = g.slot.number; kind = k }) m) (sym name.0) (leg_guards m l.spiders.items l.legs d g k l.good c.in_ok-given.ensures name.1)

pub set_leg-requires-clause-within : goal.set_leg-requires-clause-within
set_leg-requires-clause-within c =
    let l = c.args.self.now in
    let m = model l.diagram in
    let s = state l in
    let d = c.args.leg in
    let g = c.in_ok-given.given in
    let k = c.at_end-kind.result in
    let name : (c.in_ok-name.name.number ≡ l.legs) × (l.legs < 64) = search rules in
    let fits : SFits w32 c.leg_cost.result = search rules in
    let cost = leg_spent m l.spiders.items l.legs d g k c.leg_cost.result _ c.of.result.parts c.in_ok-given.ensures c.at_end-kind.ensures (to_z-of_z w32 c.leg_cost.result fits) c.leg_cost.ensures (ap (λ t. t.parts) c.of.ensures) in
    let on = cost ∙ went_on _ (ScalarOutOfRange l.item) _ (sym c.afford.ensures ∙ c.in_ok-afford.was) in
    leg_within m (leg_put c.in_ok-name.name.number (record { side = d.side; slot = g.slot.number; kind = k }) d.setting m) l.spiders.items l.legs d g k c.in_ok-given.ensures c.at_end-kind.ensures (ap (λ n. leg_put n (record { side = d.side; slot = g.slot.number; kind = k }) d.setting m) name.0) on

pub pay-requires : goal.pay-requires
pay-requires c =
    let l = c.args.self.now in
    let m = model l.diagram in
    let s = state l in
    let d = c.args.leg in
    let g = c.in_ok-given.given in
    let k = c.at_end-kind.result in
    let name : (c.in_ok-name.name.number ≡ l.legs) × (l.legs < 64) = search rules in
    let fits : SFits w32 c.leg_cost.result = search rules in
    let cost = leg_spent m l.spiders.items l.legs d g k c.leg_cost.result _ c.of.result.parts c.in_ok-given.ensures c.at_end-kind.ensures (to_z-of_z w32 c.leg_cost.result fits) c.leg_cost.ensures (ap (λ t. t.parts) c.of.ensures) in
    let on = cost ∙ went_on _ (ScalarOutOfRange l.item) _ (sym c.afford.ensures ∙ c.in_ok-afford.was) in
    leg_within m (paid k (model c.set_leg.new.diagram)) l.spiders.items l.legs d g k c.in_ok-given.ensures c.at_end-kind.ensures (ap (paid k) c.set_leg.ensures ∙ ap (λ n. leg_put n (record { side = d.side; slot = g.slot.number; kind = k }) d.setting m) name.0) on

pub invariant_of-self : goal.invariant_of-self
invariant_of-self c =
    let l = c.args.self.now in
    let m = model l.diagram in
    let s = state l in
    let d = c.args.leg in
    let g = c.in_ok-given.given in
    let k = c.at_end-kind.result in
    let name : (c.in_ok-name.name.number ≡ l.legs) × (l.legs < 64) = search rules in
    let fits : SFits w32 c.leg_cost.result = search rules in
    let cost = leg_spent m l.spiders.items l.legs d g k c.leg_cost.result _ c.of.result.parts c.in_ok-given.ensures c.at_end-kind.ensures (to_z-of_z w32 c.leg_cost.result fits) c.leg_cost.ensures (ap (λ t. t.parts) c.of.ensures) in
    let on = cost ∙ went_on _ (ScalarOutOfRange l.item) _ (sym c.afford.ensures ∙ c.in_ok-afford.was) in
    let made = leg_made m (model c.pay.new.diagram) l.spiders.items l.legs d g k c.in_ok-given.ensures c.at_end-kind.ensures (c.pay.ensures ∙ ap (paid k) c.set_leg.ensures ∙ ap (λ n. leg_put n (record { side = d.side; slot = g.slot.number; kind = k }) d.setting m) name.0) in
    record { good = good_taken s (loading_of (model c.pay.new.diagram) l.spiders.items (l.legs + 1)) (Leg d) l.good (leg_on m l.spiders.items l.legs d g c.in_ok-given.ensures name.1 ∙ judged-within (with_one_leg d s) on ∙ ap goes_on (sym made)) }

pub returns : goal.returns
returns c =
    let l = c.args.self.now in
    let m = model l.diagram in
    let s = state l in
    let d = c.args.leg in
    let g = c.in_ok-given.given in
    let k = c.at_end-kind.result in
    let name : (c.in_ok-name.name.number ≡ l.legs) × (l.legs < 64) = search rules in
    let fits : SFits w32 c.leg_cost.result = search rules in
    let cost = leg_spent m l.spiders.items l.legs d g k c.leg_cost.result _ c.of.result.parts c.in_ok-given.ensures c.at_end-kind.ensures (to_z-of_z w32 c.leg_cost.result fits) c.leg_cost.ensures (ap (λ t. t.parts) c.of.ensures) in
    let on = cost ∙ went_on _ (ScalarOutOfRange l.item) _ (sym c.afford.ensures ∙ c.in_ok-afford.was) in
    let made = leg_made m (model c.pay.new.diagram) l.spiders.items l.legs d g k c.in_ok-given.ensures c.at_end-kind.ensures (c.pay.ensures ∙ ap (paid k) c.set_leg.ensures ∙ ap (λ n. leg_put n (record { side = d.side; slot = g.slot.number; kind = k }) d.setting m) name.0) in
    comes _ _ l.item l.item _ _ (leg_on m l.spiders.items l.legs d g c.in_ok-given.ensures name.1 ∙ judged-within (with_one_leg d s) on ∙ ap goes_on (sym made)) (refl, refl, refl)
