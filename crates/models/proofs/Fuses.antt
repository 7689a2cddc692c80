-- Fusing two spiders keeps a working diagram sound. Assumes nothing.
use Rattle.std.proofs.Common.{◌≡◌, ℕ, ◌+◌, ◌*◌, ◌%◌, ◌<◌, Bool, true, false, cond, not, ◌&&◌, ◌||◌, eqb, Some, None, Option, sym, refl, ap, ◌∙◌, ap₂, ⊎_elim, true≢false, arith, eq-eqb, eqb-true}
use mathlib.Core.Bool.{false≢true}
use borrow.Author.Tests.{not-true}
use Rattle.graphs.specs.Counts.{bit}
use Rattle.graphs.specs.Graphs.{without}
use Rattle.graphs.specs.Rules.{xor}
use Rattle.models.specs.Models.{ModelLeg, Model, Sound, slots, spider_limit, leg_limit}
use Rattle.models.specs.Edits.{can_fuse, led, fused}
use Rattle.models.proofs.Truths.{both_true, one_true, xor_comm, eqb_comm}
use Rattle.models.proofs.Counts.{total-without_most, without-stood, without_off, legs-led}
use Rattle.models.proofs.Toggles.{other_end}

-- two of three tests the other way round
swapped : (x y z : Bool) → x || (y || z) ≡ y || (x || z)
swapped true true z = refl
swapped true false z = refl
swapped false y z = refl

last_true : (x : Bool) → x || (x || true) ≡ true
last_true true = refl
last_true false = refl

-- a leg that was led was there before, and is where it was or on a
pub led_from : (a b : ℕ) (q : Option ModelLeg) (o : ModelLeg) → led a b q ≡ Some o → (p : ModelLeg) × (q ≡ Some p) × (o.slot ≡ cond (eqb p.slot b) a p.slot)
led_from a b None o e = absurd (let z : ◌≡◌ {A = ℕ} 0 1 = cc in omega arith)
led_from a b (Some p) o e = (p, refl, sym (ap (λ r. slot_or r) e))
  where
    slot_or : Option ModelLeg → ℕ
    slot_or None = 0
    slot_or (Some r) = r.slot

pub fused-sound : {m : Model} (a b : ℕ) → Sound m → can_fuse a b m ≡ true → Sound (fused a b m)
unfolding fused
fused-sound {m} a b good can = record {
  graph = record {
    symmetric = λ s t. ap₂ (λ x y. cond x false y) (swapped (eqb s b) (eqb t b) (eqb s t) ∙ ap (λ z. eqb t b || (eqb s b || z)) (eqb_comm s t)) (ap₂ xor (good.graph.symmetric s t) (xor_comm (eqb s a && m.graph.edge b t) (eqb t a && m.graph.edge b s)));
    loop_free = λ s. ap (λ z. cond (eqb s b || (eqb s b || z)) false (edge s s)) (eq-eqb s s refl) ∙ ap (λ z. cond z false (edge s s)) (last_true (eqb s b));
    standing = λ s t e. stays s t (eqb s b) (eqb t b || eqb s t) e;
  };
  inside = λ k e. good.inside k (without-stood m.graph.stands b k e);
  phases = λ k. below k (eqb k b) (eqb k a);
  blank = λ k e. empty k (eqb k b) (eqb k a) refl e;
  few = λ l o e. let f = led_from a b (m.leg l) o e in good.few l f.0 f.1;
  held = λ l o e. let f = led_from a b (m.leg l) o e in ap (without m.graph.stands b) f.2 ∙ led_on f.0.slot (good.held l f.0 f.1) (eqb f.0.slot b) refl;
  free = λ l o e. let f = led_from a b (m.leg l) o e in without_off m.graph.stands b (spider_limit + l) (good.free l f.0 f.1);
  turn = good.turn;
  range = let less = total-without_most slots m.graph.stands b in let same = legs-led leg_limit 0 a b m.leg in let r = good.range in omega arith;
}
  where
    tests : (not (eqb a b) ≡ true) × (m.graph.stands a && m.graph.stands b ≡ true)
    tests = both_true (not (eqb a b)) (m.graph.stands a && m.graph.stands b) can

    apart : eqb a b ≡ false
    apart = not-true (eqb a b) tests.0

    a_stands : m.graph.stands a ≡ true
    a_stands = (both_true (m.graph.stands a) (m.graph.stands b) tests.1).0

    edge : ℕ → ℕ → Bool
    edge s t = xor (m.graph.edge s t) (xor (eqb s a && m.graph.edge b t) (eqb t a && m.graph.edge b s))

    joined : (s t : ℕ) → edge s t ≡ true → m.graph.stands s ≡ true
    joined s t e = ⊎_elim (good.graph.standing s t) over (one_true (m.graph.edge s t) (xor (eqb s a && m.graph.edge b t) (eqb t a && m.graph.edge b s)) e)
      where
        over : xor (eqb s a && m.graph.edge b t) (eqb t a && m.graph.edge b s) ≡ true → m.graph.stands s ≡ true
        over h = ⊎_elim
            (λ x. ap m.graph.stands (eqb-true s a (both_true (eqb s a) (m.graph.edge b t) x).0) ∙ a_stands)
            (λ x. other_end m b s good (both_true (eqb t a) (m.graph.edge b s) x).1)
            (one_true (eqb s a && m.graph.edge b t) (eqb t a && m.graph.edge b s) h)

    stays : (s t : ℕ) (x y : Bool) → cond (x || y) false (edge s t) ≡ true → cond x false (m.graph.stands s) ≡ true
    stays s t true y e = e
    stays s t false true e = absurd (false≢true e)
    stays s t false false e = joined s t e

    below : (k : ℕ) (x y : Bool) → cond x 0 (cond y ((m.graph.phase a + (m.graph.phase b + 2 * bit (m.graph.edge a b))) % 4) (m.graph.phase k)) < 4
    below k true y = omega arith
    below k false true = omega arith
    below k false false = good.phases k

    empty : (k : ℕ) (x y : Bool) → eqb k a ≡ y → cond x false (m.graph.stands k) ≡ false → cond x 0 (cond y ((m.graph.phase a + (m.graph.phase b + 2 * bit (m.graph.edge a b))) % 4) (m.graph.phase k)) ≡ 0
    empty k true y q e = refl
    empty k false true q e = absurd (true≢false (sym a_stands ∙ ap m.graph.stands (sym (eqb-true k a q)) ∙ e))
    empty k false false q e = good.blank k e

    led_on : (s : ℕ) → m.graph.stands s ≡ true → (x : Bool) → eqb s b ≡ x → without m.graph.stands b (cond x a s) ≡ true
    led_on s e true q = ap (λ z. cond z false (m.graph.stands a)) apart ∙ a_stands
    led_on s e false q = ap (λ z. cond z false (m.graph.stands s)) q ∙ e
