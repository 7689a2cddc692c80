use Rattle.std.proofs.Common.{◌≡◌, ◌<◌, Some, None, sym, refl, ap, ◌∙◌, arith, rules}
use Rattle.rows.specs.Rows.{has}
use Rattle.rows.proofs.Walks.{kept, gone}
use Rattle.models.specs.Models.{slots}
use Rattle.graphlike.specs.Diagrams.{model}
use Rattle.reductions.specs.Rules.{pivot_fits}
use Rattle.reductions.specs.Runs.{first_from}
use Rattle.reductions.proofs.Runs.{first_absent}
use Rattle.reducers.proofs.Pairing.{none_begin, fit, pair_is, no_pair}
use Rattle.reducers.proofs.pivot.PivotRule.find.Goals as goal

pub loop-u-init : goal.loop-u-init
loop-u-init c =
    let m = model c.args.diagram.now in
    let even = c.interior_even-even.result in
    let same : c.into_iter-u-iterator.result.left ≡ even = search rules in
    record {
      inside = λ k h. ap (λ r. has r k) (sym same) ∙ h;
      past = λ k off. none_begin m (has even) c.interior_even-even.ensures k (ap (λ r. has r k) (sym same) ∙ off);
    }

pub loop-u-preserved : goal.loop-u-preserved
loop-u-preserved c =
    let m = model c.args.diagram.now in
    let u = c.in-Some.u.number in
    let left = has c.next.new.self.left in
    let more = has c.loop-u.u-iterator.left in
    let taken = c.in-Some.ensures.steps.1 in
    record {
      inside = λ k h. c.loop-u.invariant.inside k (kept left more u k taken h);
      past = λ k off. gone left more u k (λ j. first_from slots 0 (pivot_fits m j) ≡ None) taken (first_absent slots 0 (pivot_fits m u) (λ j a b. c.loop-v.invariant.past j (c.in-None-v.ensures.steps.0 j))) (c.loop-u.invariant.past k) off;
    }

pub returns-then-number : goal.returns-then-number
returns-then-number c =
    let m = model c.args.diagram.now in
    let u = c.in-Some.u.number in
    let v = c.in-Some-v.v.number in
    let even = has c.interior_even-even.result in
    let row = has c.partners-partners.result in
    let here = c.in-Some.ensures.steps.0 in
    let there = c.in-Some-v.ensures.steps.0 in
    let same : c.into_iter-v-iterator.result.left ≡ c.partners-partners.result = search rules in
    let order : u < v = search rules in
    let fits = fit m even c.interior_even-even.ensures u row u refl (c.loop-u.invariant.inside u here.0) c.partners-partners.ensures v order (ap (λ r. has r v) (sym same) ∙ c.loop-v.invariant.inside v there.0) in
    (λ i. Some (record { first = c.number-then-number.ensures.value i; second = c.number-then-number-2.ensures.value i }))
    ∙ pair_is m u v c.in-Some.u.bound c.in-Some-v.v.bound fits (λ k l. c.loop-v.invariant.past k (there.1 k l)) (λ k l. c.loop-u.invariant.past k (here.1 k l))

pub returns-in-None : goal.returns-in-None
returns-in-None c = no_pair (model c.args.diagram.now) slots (omega arith) (λ k l. c.loop-u.invariant.past k (c.in-None.ensures.steps.0 k))
