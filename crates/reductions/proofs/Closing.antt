-- Closing the legs of a working diagram at a row keeps its amount there, and leaves no leg open. Assumes nothing.
use Rattle.std.proofs.Common.{◌≡◌, ℕ, zero, suc, ◌+◌, ◌<◌, ◌≤◌, Bool, List, [], length, Some, None, sym, refl, ap, ◌∙◌, subst, ⊎_elim, arith}
use Rattle.std.proofs.lemmas.Bool.Decides.{eqb_tells}
use Rattle.amounts.specs.Eighths.{eighths}
use Rattle.amounts.specs.Scalars.{Same}
use Rattle.amounts.proofs.Scalars.{same_equivalence}
use Rattle.graphs.specs.Graphs.{graph_sum}
use Rattle.amplitudes.specs.Items.{first_bit, other_bits}
use Rattle.models.specs.Models.{ModelLeg, Model, Sound, slots, leg_limit, open_count, legs_term, amount, scaled_by, standing}
use Rattle.models.specs.Edits.{detached}
use Rattle.models.proofs.Counts.{with_at_here, with_at_other, open_detached}
use Rattle.models.proofs.Keeps.{detached-sound}
use Rattle.models.proofs.Stays.{standing-detached, open_same}
use Rattle.reductions.specs.Answers.{closed_leg, closed_from, closed}
use Rattle.reductions.proofs.Held.{Holdable, held_same, held-sound, held-standing, held-legs}
use Rattle.reductions.proofs.Legs.{legs-none, legs_first}
use Rattle.reductions.proofs.Runs.{some_or_none}

-- an open leg can be closed
pub leg_holdable : (m : Model) (l : ℕ) (o : ModelLeg) → Sound m → m.leg l ≡ Some o → Holdable (detached l m) o.slot l
unfolding detached
leg_holdable m l o good here = record {
  sound = detached-sound l good;
  stood = good.held l o here;
  few = good.few l o here;
  gone = with_at_here m.leg l None;
  empty = good.free l o here;
  room = let less = open_detached l o m (good.few l o here) here in let r = good.range in omega arith;
}

-- one leg, below which none is open
module _ (m : Model) (l : ℕ) (o : ModelLeg) (good : Sound m) (here : m.leg l ≡ Some o) (none : (k : ℕ) → k < l → m.leg k ≡ None) where
  holdable : Holdable (detached l m) o.slot l
  holdable = leg_holdable m l o good here

  module _ (row : List Bool) where
    abbrev after : Model
    after = closed_leg l o (first_bit row) m

    closing_same : Same (amount m row) (amount after (other_bits row))
    unfolding detached
    closing_same = subst (λ os. Same (scaled_by m.scalar (graph_sum eighths slots m.graph (legs_term eighths os row))) (amount after (other_bits row)))
        (sym (legs_first leg_limit 0 l m.leg o (omega arith) (good.few l o here) none here))
        (held_same (detached l m) o.slot l holdable o.kind (first_bit row) (other_bits row))

    closing-sound : Sound after
    closing-sound = held-sound (detached l m) o.slot l holdable o.kind (first_bit row)

    closing-standing : standing after ≤ standing m + 1
    closing-standing = let more = held-standing (detached l m) o.slot l holdable o.kind (first_bit row) in let same = standing-detached m l in omega arith

    closing_open : open_count after + 1 ≡ open_count m
    closing_open =
        ap (λ os. length os + 1) (open_same after (detached l m) (λ j h. held-legs (detached l m) o.slot l o.kind (first_bit row) j))
        ∙ open_detached l o m (good.few l o here) here

    closing-none : (k : ℕ) → k < suc l → after.leg k ≡ None
    unfolding detached
    closing-none k h = held-legs (detached l m) o.slot l o.kind (first_bit row) k ∙ ⊎_elim
        (λ e. ap (detached l m).leg e.1 ∙ with_at_here m.leg l None)
        (λ e. let ne = e.1 in with_at_other m.leg l None k ne ∙ none k (omega arith))
        (eqb_tells k l)

-- c is m with all legs closed at a row
pub record Closed (m : Model) (row : List Bool) (c : Model) : Type 0 where
  pub sound : Sound c
  pub none : (k : ℕ) → c.leg k ≡ None
  pub same : Same (amount m row) (amount c [])
  pub few : standing c ≤ standing m + open_count m

pub closed_none : (n l : ℕ) (row : List Bool) (m : Model) → m.leg l ≡ None → closed_from (suc n) l row m ≡ closed_from n (suc l) row m
unfolding closed_from
closed_none n l row m e = ap (λ q. elim q [ None ↦ closed_from n (suc l) row m | Some o ↦ closed_from n (suc l) (other_bits row) (closed_leg l o (first_bit row) m) ]) e

pub closed_some : (n l : ℕ) (row : List Bool) (m : Model) (o : ModelLeg) → m.leg l ≡ Some o → closed_from (suc n) l row m ≡ closed_from n (suc l) (other_bits row) (closed_leg l o (first_bit row) m)
unfolding closed_from
closed_some n l row m o e = ap (λ q. elim q [ None ↦ closed_from n (suc l) row m | Some p ↦ closed_from n (suc l) (other_bits row) (closed_leg l p (first_bit row) m) ]) e

-- where no leg is open, the row does not matter
nothing_open : (m : Model) (row : List Bool) → Sound m → ((k : ℕ) → m.leg k ≡ None) → Closed m row m
nothing_open m row good none = record {
  sound = good;
  none = none;
  same = subst (λ os. Same (scaled_by m.scalar (graph_sum eighths slots m.graph (legs_term eighths os row))) (scaled_by m.scalar (graph_sum eighths slots m.graph (legs_term eighths os [])))) (sym (legs-none leg_limit 0 m.leg none)) refl;
  few = omega arith;
}

closed_right : (n l : ℕ) (row : List Bool) (m : Model) → l + n ≡ leg_limit → Sound m → ((k : ℕ) → k < l → m.leg k ≡ None) → Closed m row (closed_from n l row m)
unfolding closed_from
closed_right zero l row m all good none = nothing_open m row good (λ k. ⊎_elim (λ h. let f = good.few k h.0 h.1 in none k (omega arith)) (λ h. h) (some_or_none (m.leg k)))
closed_right (suc n) l row m all good none = ⊎_elim
    (λ h.
    let o = h.0 in
    let here = h.1 in
    let c = closed_right n (suc l) (other_bits row) (closed_leg l o (first_bit row) m) (omega arith) (closing-sound m l o good here none row) (closing-none m l o good here none row) in
    let stands = closing-standing m l o good here none row in
    let fewer = closing_open m l o good here none row in
    let f = c.few in
    subst (Closed m row) (sym (closed_some n l row m o here)) (record {
      sound = c.sound;
      none = c.none;
      same = same_equivalence.transitive (amount m row) (amount (closed_leg l o (first_bit row) m) (other_bits row)) (amount (closed_from n (suc l) (other_bits row) (closed_leg l o (first_bit row) m)) []) (closing_same m l o good here none row) c.same;
      few = omega arith;
    }))
    (λ e. subst (Closed m row) (sym (closed_none n l row m e)) (closed_right n (suc l) row m (omega arith) good (λ k h. ⊎_elim (λ q. ap m.leg q.1 ∙ e) (λ q. let ne = q.1 in none k (omega arith)) (eqb_tells k l))))
    (some_or_none (m.leg l))

pub closed_is : (m : Model) (row : List Bool) → Sound m → Closed m row (closed row m)
closed_is m row good = closed_right leg_limit 0 row m refl good (λ k h. absurd (omega arith))
