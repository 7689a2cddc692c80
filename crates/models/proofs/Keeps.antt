-- Edits of the spiders, of the legs and of the scalar keep a working diagram sound. Assumes nothing.
use Rattle.std.proofs.Common.{◌≡◌, ℕ, ◌+◌, ◌-◌, ◌<◌, Bool, true, false, cond, not, ◌&&◌, ◌||◌, eqb, ltb, leb, ℤ, is_some, Some, None, Option, sym, refl, ap, ◌∙◌, ap₂, true≢false, arith, ltb-true, eqb-true, le-leb, leb-true}
use mathlib.Core.Bool.{false≢true, or_comm}
use borrow.Author.Tests.{not-true}
use Rattle.graphs.specs.Graphs.{put}
use Rattle.models.specs.Models.{Scalar, nothing, root, ModelLeg, Model, Sound, slots, spider_limit, leg_limit, carries, reach, reach_limit, BelowFullTurn}
use Rattle.models.specs.Edits.{blank, reserved, can_place, placed, can_remove, removed, product, scaled, can_scale, zeroed, can_attach, attached, detached}
use Rattle.models.proofs.Truths.{both_true}
use Rattle.models.proofs.Counts.{standing_most, open_most, standing-placed, total-without_most, without-stood, without_off, open_attached, legs-none_most, carries-none}

-- no leg is open under a number that is free
none-some : {A : Type 0} {B : Type 0} (o : A) → None ≡ Some o → B
none-some o e = absurd (let z : ◌≡◌ {A = ℕ} 0 1 = cc in omega arith)

pub blank-sound : Sound blank
unfolding blank
blank-sound = record {
  graph = record { symmetric = λ s t. refl; loop_free = λ s. refl; standing = λ s t e. e };
  inside = λ s e. absurd (false≢true e);
  phases = λ s. omega arith;
  blank = λ s e. refl;
  few = λ l o e. none-some o e;
  held = λ l o e. none-some o e;
  free = λ l o e. none-some o e;
  turn = omega arith;
  range = let a = standing_most blank in let b = open_most blank in omega arith;
}

-- the scalar
pub scaled-sound : {m : Model} (k : ℤ) (t : ℕ) → Sound m → can_scale k t m ≡ true → Sound (scaled k t m)
unfolding scaled
scaled-sound {m} k t good can = record {
  graph = good.graph;
  inside = good.inside;
  phases = good.phases;
  blank = good.blank;
  few = good.few;
  held = good.held;
  free = good.free;
  turn = below m.scalar good.turn;
  range = leb-true (reach (scaled k t m)) reach_limit can;
}
  where
    below : (c : Scalar) → BelowFullTurn c → BelowFullTurn (product k t c)
    below nothing h = h
    below (root a b) h = omega arith

pub zeroed-sound : {m : Model} → Sound m → Sound (zeroed m)
unfolding zeroed
zeroed-sound {m} good = record {
  graph = good.graph;
  inside = good.inside;
  phases = good.phases;
  blank = good.blank;
  few = good.few;
  held = good.held;
  free = good.free;
  turn = omega arith;
  range = let r = good.range in omega arith;
}

-- the legs
pub attached-sound : {m : Model} (l : ℕ) (o : ModelLeg) → Sound m → can_attach l o m ≡ true → Sound (attached l o m)
unfolding attached
attached-sound {m} l o good can = record {
  graph = good.graph;
  inside = good.inside;
  phases = good.phases;
  blank = good.blank;
  few = λ k p e. few k p (eqb k l) refl e;
  held = λ k p e. held k p (eqb k l) e;
  free = λ k p e. free k p (eqb k l) refl e;
  turn = good.turn;
  range = let more = open_attached l o m low (off (m.leg l) (not-true (is_some (m.leg l)) second.0)) in let r = leb-true (reach m + 4) reach_limit fourth.1 in omega arith;
}
  where
    first : (ltb l leg_limit ≡ true) × (not (is_some (m.leg l)) && (m.graph.stands o.slot && (not (m.graph.stands (spider_limit + l)) && leb (reach m + 4) reach_limit)) ≡ true)
    first = both_true (ltb l leg_limit) _ can

    second : (not (is_some (m.leg l)) ≡ true) × (m.graph.stands o.slot && (not (m.graph.stands (spider_limit + l)) && leb (reach m + 4) reach_limit) ≡ true)
    second = both_true (not (is_some (m.leg l))) _ first.1

    third : (m.graph.stands o.slot ≡ true) × (not (m.graph.stands (spider_limit + l)) && leb (reach m + 4) reach_limit ≡ true)
    third = both_true (m.graph.stands o.slot) _ second.1

    fourth : (not (m.graph.stands (spider_limit + l)) ≡ true) × (leb (reach m + 4) reach_limit ≡ true)
    fourth = both_true (not (m.graph.stands (spider_limit + l))) _ third.1

    low : l < leg_limit
    low = ltb-true l leg_limit first.0

    off : (q : Option ModelLeg) → is_some q ≡ false → q ≡ None
    off None e = refl
    off (Some p) e = absurd (true≢false e)

    few : (k : ℕ) (p : ModelLeg) (b : Bool) → eqb k l ≡ b → cond b (Some o) (m.leg k) ≡ Some p → k < leg_limit
    few k p true q e = let s = eqb-true k l q in let t = low in omega arith
    few k p false q e = good.few k p e

    held : (k : ℕ) (p : ModelLeg) (b : Bool) → cond b (Some o) (m.leg k) ≡ Some p → m.graph.stands p.slot ≡ true
    held k p true e = let same : o ≡ p = cc in ap (λ r. m.graph.stands r.slot) (sym same) ∙ third.0
    held k p false e = good.held k p e

    free : (k : ℕ) (p : ModelLeg) (b : Bool) → eqb k l ≡ b → cond b (Some o) (m.leg k) ≡ Some p → m.graph.stands (spider_limit + k) ≡ false
    free k p true q e = ap (λ r. m.graph.stands (spider_limit + r)) (eqb-true k l q) ∙ not-true (m.graph.stands (spider_limit + l)) fourth.0
    free k p false q e = good.free k p e

pub detached-sound : {m : Model} (l : ℕ) → Sound m → Sound (detached l m)
unfolding detached
detached-sound {m} l good = record {
  graph = good.graph;
  inside = good.inside;
  phases = good.phases;
  blank = good.blank;
  few = λ k o e. good.few k o (still k o (eqb k l) e);
  held = λ k o e. good.held k o (still k o (eqb k l) e);
  free = λ k o e. good.free k o (still k o (eqb k l) e);
  turn = good.turn;
  range = let less = legs-none_most leg_limit 0 l m.leg in let r = good.range in omega arith;
}
  where
    still : (k : ℕ) (o : ModelLeg) (b : Bool) → cond b None (m.leg k) ≡ Some o → m.leg k ≡ Some o
    still k o true e = none-some o e
    still k o false e = e

-- the spiders
pub placed-sound : {m : Model} (s p : ℕ) → p < 4 → Sound m → can_place s m ≡ true → Sound (placed s p m)
unfolding placed
placed-sound {m} s p small good can = record {
  graph = record { symmetric = good.graph.symmetric; loop_free = good.graph.loop_free; standing = λ k j e. on k (good.graph.standing k j e) };
  inside = λ k e. inside k (eqb k s) refl e;
  phases = λ k. below k (eqb k s);
  blank = λ k e. empty k (eqb k s) e;
  few = good.few;
  held = λ l o e. on o.slot (good.held l o e);
  free = λ l o e. free l o e (eqb (spider_limit + l) s) refl;
  turn = good.turn;
  range = let more = standing-placed s p m low (not-true (m.graph.stands s) second.0) in let r = leb-true (reach m + 2) reach_limit third.1 in omega arith;
}
  where
    first : (ltb s slots ≡ true) × (not (m.graph.stands s) && (not (reserved m s) && leb (reach m + 2) reach_limit) ≡ true)
    first = both_true (ltb s slots) _ can

    second : (not (m.graph.stands s) ≡ true) × (not (reserved m s) && leb (reach m + 2) reach_limit ≡ true)
    second = both_true (not (m.graph.stands s)) _ first.1

    third : (not (reserved m s) ≡ true) × (leb (reach m + 2) reach_limit ≡ true)
    third = both_true (not (reserved m s)) _ second.1

    low : s < slots
    low = ltb-true s slots first.0

    on : (k : ℕ) → m.graph.stands k ≡ true → put m.graph.stands s k ≡ true
    on k e = go (eqb k s)
      where
        go : (b : Bool) → cond b true (m.graph.stands k) ≡ true
        go true = refl
        go false = e

    inside : (k : ℕ) (b : Bool) → eqb k s ≡ b → cond b true (m.graph.stands k) ≡ true → k < slots
    inside k true q e = let h = eqb-true k s q in let t = low in omega arith
    inside k false q e = good.inside k e

    below : (k : ℕ) (b : Bool) → cond b p (m.graph.phase k) < 4
    below k true = small
    below k false = good.phases k

    empty : (k : ℕ) (b : Bool) → cond b true (m.graph.stands k) ≡ false → cond b p (m.graph.phase k) ≡ 0
    empty k true e = absurd (true≢false e)
    empty k false e = good.blank k e

    free : (l : ℕ) (o : ModelLeg) → m.leg l ≡ Some o → (b : Bool) → eqb (spider_limit + l) s ≡ b → cond b true (m.graph.stands (spider_limit + l)) ≡ false
    free l o e true q =
        let h = eqb-true (spider_limit + l) s q in
        let here : s - spider_limit ≡ l = omega arith in
        let taken : reserved m s ≡ true = ap₂ ◌&&◌ (le-leb spider_limit s (omega arith)) (ap is_some (ap m.leg here ∙ e)) in
        absurd (true≢false (sym taken ∙ not-true (reserved m s) third.0))
    free l o e false q = good.free l o e

pub removed-sound : {m : Model} (s : ℕ) → Sound m → can_remove s m ≡ true → Sound (removed s m)
unfolding removed
removed-sound {m} s good can = record {
  graph = record {
    symmetric = λ k j. ap₂ (λ x y. cond x false y) (or_comm (eqb k s) (eqb j s)) (good.graph.symmetric k j);
    loop_free = λ k. loop k (eqb k s || eqb k s);
    standing = λ k j e. kept k j (eqb k s) (eqb j s) e;
  };
  inside = λ k e. good.inside k (without-stood m.graph.stands s k e);
  phases = λ k. below k (eqb k s);
  blank = λ k e. empty k (eqb k s) e;
  few = good.few;
  held = λ l o e. still l o e (eqb o.slot s) refl;
  free = λ l o e. without_off m.graph.stands s (spider_limit + l) (good.free l o e);
  turn = good.turn;
  range = let less = total-without_most slots m.graph.stands s in let r = good.range in omega arith;
}
  where
    loop : (k : ℕ) (b : Bool) → cond b false (m.graph.edge k k) ≡ false
    loop k true = refl
    loop k false = good.graph.loop_free k

    kept : (k j : ℕ) (a b : Bool) → cond (a || b) false (m.graph.edge k j) ≡ true → cond a false (m.graph.stands k) ≡ true
    kept k j true b e = e
    kept k j false true e = absurd (false≢true e)
    kept k j false false e = good.graph.standing k j e

    below : (k : ℕ) (b : Bool) → cond b 0 (m.graph.phase k) < 4
    below k true = omega arith
    below k false = good.phases k

    empty : (k : ℕ) (b : Bool) → cond b false (m.graph.stands k) ≡ false → cond b 0 (m.graph.phase k) ≡ 0
    empty k true e = refl
    empty k false e = good.blank k e

    still : (l : ℕ) (o : ModelLeg) → m.leg l ≡ Some o → (b : Bool) → eqb o.slot s ≡ b → cond b false (m.graph.stands o.slot) ≡ true
    still l o e true q = absurd ((carries-none m s good).0 (not-true (carries m s) can) l o e (eqb-true o.slot s q))
    still l o e false q = good.held l o e
