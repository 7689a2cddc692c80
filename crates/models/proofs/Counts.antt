-- How many spiders stand and how many legs are open, and how an edit changes it. Assumes nothing.
use Rattle.std.proofs.Common.{◌≡◌, ℕ, zero, suc, ◌+◌, ◌*◌, ◌<◌, ◌≤◌, Bool, true, false, cond, eqb, ◌↔◌, List, length, Some, None, Option, sym, refl, ap, ◌∙◌, ap₂, ⊎_elim, true≢false, arith, eq-eqb, ne_eqb, eqb-true}
use mathlib.Core.Bool.{false≢true}
use borrow.Author.Tests.{eqb-false}
use Rattle.std.proofs.lemmas.Bool.Decides.{eqb_tells}
use Rattle.graphs.specs.Counts.{bit, total}
use Rattle.graphs.specs.Graphs.{put, without}
use Rattle.graphs.proofs.Counting.{at, total-same, total-add, total_at}
use Rattle.graphs.proofs.Bitwise.{bit-put}
use Rattle.models.specs.Models.{ModelLeg, Model, Sound, slots, leg_limit, onto, legs_from, open_count, standing, on_slot, carried, carries}
use Rattle.models.specs.Edits.{placed, removed, fused, led, attached, detached}

-- of n bits at most n are set, and no more than of bits that are set wherever they are
pub bit_most : (b : Bool) → bit b ≤ 1
bit_most true = omega arith
bit_most false = omega arith

pub total_most : (n : ℕ) (f : ℕ → Bool) → total n (λ s. bit (f s)) ≤ n
unfolding total
total_most zero f = omega arith
total_most (suc n) f = let more = total_most n f in let last = bit_most (f n) in omega arith

pub total_least : (n : ℕ) (f g : ℕ → ℕ) → ((s : ℕ) → f s ≤ g s) → total n f ≤ total n g
unfolding total
total_least zero f g h = omega arith
total_least (suc n) f g h = let more = total_least n f g h in let last = h n in omega arith

-- without a slot, there or not, no more stand
pub without-stood : (f : ℕ → Bool) (s k : ℕ) → without f s k ≡ true → f k ≡ true
without-stood f s k = go (eqb k s)
  where
    go : (b : Bool) → cond b false (f k) ≡ true → f k ≡ true
    go true e = absurd (false≢true e)
    go false e = e

pub without_off : (f : ℕ → Bool) (s k : ℕ) → f k ≡ false → without f s k ≡ false
without_off f s k = go (eqb k s)
  where
    go : (b : Bool) → f k ≡ false → cond b false (f k) ≡ false
    go true e = refl
    go false e = e

pub without_least : (f : ℕ → Bool) (s k : ℕ) → bit (without f s k) ≤ bit (f k)
without_least f s k = go (eqb k s)
  where
    go : (b : Bool) → bit (cond b false (f k)) ≤ bit (f k)
    go true = omega arith
    go false = omega arith

pub total-without_most : (n : ℕ) (f : ℕ → Bool) (s : ℕ) → total n (λ k. bit (without f s k)) ≤ total n (λ k. bit (f k))
total-without_most n f s = total_least n (λ k. bit (without f s k)) (λ k. bit (f k)) (without_least f s)

-- one slot more, where it was not there
pub total-put : (n : ℕ) (f : ℕ → Bool) (s : ℕ) → s < n → f s ≡ false → total n (λ k. bit (put f s k)) ≡ total n (λ k. bit (f k)) + 1
total-put n f s low off =
    let apart = total-same n (λ k. bit (put f s k)) (λ k. bit (f k) + at s k * 1) (λ k l. let e = bit-put f s off k in omega arith) in
    let both = total-add n (λ k. bit (f k)) (λ k. at s k * 1) in
    let one = total_at n s (λ k. 1) low in
    omega arith

-- one slot less, where it was there
gone : (f : ℕ → Bool) (s : ℕ) → without f s s ≡ false
gone f s = ap (λ b. cond b false (f s)) (eq-eqb s s refl)

back : (f : ℕ → Bool) (s : ℕ) → f s ≡ true → (k : ℕ) → put (without f s) s k ≡ f k
back f s on k = go (eqb k s) refl
  where
    go : (b : Bool) → eqb k s ≡ b → cond b true (cond b false (f k)) ≡ f k
    go true e = sym (ap f (eqb-true k s e) ∙ on)
    go false e = refl

pub total-without : (n : ℕ) (f : ℕ → Bool) (s : ℕ) → s < n → f s ≡ true → total n (λ k. bit (without f s k)) + 1 ≡ total n (λ k. bit (f k))
total-without n f s low on =
    let more = total-put n (without f s) s low (gone f s) in
    let same = total-same n (λ k. bit (put (without f s) s k)) (λ k. bit (f k)) (λ k l. ap bit (back f s on k)) in
    omega arith

-- the same of a working diagram
pub standing_most : (m : Model) → standing m ≤ slots
standing_most m = total_most slots m.graph.stands

pub standing-placed : (s p : ℕ) (m : Model) → s < slots → m.graph.stands s ≡ false → standing (placed s p m) ≡ standing m + 1
unfolding placed
standing-placed s p m low off = total-put slots m.graph.stands s low off

pub standing-removed : (s : ℕ) (m : Model) → s < slots → m.graph.stands s ≡ true → standing (removed s m) + 1 ≡ standing m
unfolding removed
standing-removed s m low on = total-without slots m.graph.stands s low on

pub standing-fused : (a b : ℕ) (m : Model) → b < slots → m.graph.stands b ≡ true → standing (fused a b m) + 1 ≡ standing m
unfolding fused
standing-fused a b m low on = total-without slots m.graph.stands b low on

-- the open legs are told by the numbers from l on alone
pub legs-same : (n l : ℕ) (f g : ℕ → Option ModelLeg) → ((k : ℕ) → l ≤ k → k < l + n → f k ≡ g k) → legs_from n l f ≡ legs_from n l g
unfolding legs_from
legs-same zero l f g e = refl
legs-same (suc n) l f g e = ap₂ onto (e l (omega arith) (omega arith)) (legs-same n (suc l) f g (λ k h j. e k (omega arith) (omega arith)))

-- n numbers hold at most n open legs
onto_most : (o : Option ModelLeg) (os : List ModelLeg) (n : ℕ) → length os ≤ n → length (onto o os) ≤ suc n
onto_most None os n h = omega arith
onto_most (Some o) os n h = omega arith

pub legs_most : (n l : ℕ) (leg : ℕ → Option ModelLeg) → length (legs_from n l leg) ≤ n
unfolding legs_from
legs_most zero l leg = omega arith
legs_most (suc n) l leg = onto_most (leg l) (legs_from n (suc l) leg) n (legs_most n (suc l) leg)

pub open_most : (m : Model) → open_count m ≤ leg_limit
open_most m = legs_most leg_limit 0 m.leg

-- the legs with another under the number j
abbrev pub with_at : (ℕ → Option ModelLeg) → ℕ → Option ModelLeg → ℕ → Option ModelLeg
with_at leg j o k = cond (eqb k j) o (leg k)

pub with_at_here : (leg : ℕ → Option ModelLeg) (j : ℕ) (o : Option ModelLeg) → with_at leg j o j ≡ o
with_at_here leg j o = ap (λ b. cond b o (leg j)) (eq-eqb j j refl)

pub with_at_other : (leg : ℕ → Option ModelLeg) (j : ℕ) (o : Option ModelLeg) (k : ℕ) → ¬ (k ≡ j) → with_at leg j o k ≡ leg k
with_at_other leg j o k ne = ap (λ b. cond b o (leg k)) (ne_eqb k j ne)

-- a number outside does not count
pub legs_outside : (n l j : ℕ) (leg : ℕ → Option ModelLeg) (o : Option ModelLeg) → ((l ≤ j) × (j < l + n) → ⊥) → legs_from n l (with_at leg j o) ≡ legs_from n l leg
legs_outside n l j leg o out = legs-same n l (with_at leg j o) leg (λ k h i. with_at_other leg j o k (λ e. out (omega arith, omega arith)))

-- one leg more, under a number that was free
length_onto : (o : Option ModelLeg) (os ps : List ModelLeg) → length os ≡ length ps + 1 → length (onto o os) ≡ length (onto o ps) + 1
length_onto None os ps e = e
length_onto (Some o) os ps e = omega arith

pub legs-more : (n l j : ℕ) (leg : ℕ → Option ModelLeg) (o : ModelLeg) → leg j ≡ None → l ≤ j → j < l + n → length (legs_from n l (with_at leg j (Some o))) ≡ length (legs_from n l leg) + 1
unfolding legs_from
legs-more zero l j leg o off low high = absurd (omega arith)
legs-more (suc n) l j leg o off low high = ⊎_elim here (later (λ q. legs-more n (suc l) j leg o off q (omega arith))) (eqb_tells l j)
  where
    here : (eqb l j ≡ true) × (l ≡ j) → length (onto (with_at leg j (Some o) l) (legs_from n (suc l) (with_at leg j (Some o)))) ≡ length (onto (leg l) (legs_from n (suc l) leg)) + 1
    here e =
        let q = e.1 in
        let first : with_at leg j (Some o) l ≡ Some o = ap (λ b. cond b (Some o) (leg l)) e.0 in
        let rest = legs_outside n (suc l) j leg (Some o) (λ r. let b = r.0 in omega arith) in
        let none : leg l ≡ None = ap leg q ∙ off in
        let more = ap₂ (λ x y. length (onto x y)) first rest in
        let less = ap (λ x. length (onto x (legs_from n (suc l) leg))) none in
        omega arith

    later : (suc l ≤ j → length (legs_from n (suc l) (with_at leg j (Some o))) ≡ length (legs_from n (suc l) leg) + 1) → (eqb l j ≡ false) × (l ≡ j → ⊥) → length (onto (with_at leg j (Some o) l) (legs_from n (suc l) (with_at leg j (Some o)))) ≡ length (onto (leg l) (legs_from n (suc l) leg)) + 1
    later more e =
        let ne = e.1 in
        let first = with_at_other leg j (Some o) l ne in
        ap (λ x. length (onto x (legs_from n (suc l) (with_at leg j (Some o))))) first ∙ length_onto (leg l) (legs_from n (suc l) (with_at leg j (Some o))) (legs_from n (suc l) leg) (more (omega arith))

-- one leg less, under a number that was taken
pub legs-fewer : (n l j : ℕ) (leg : ℕ → Option ModelLeg) (o : ModelLeg) → leg j ≡ Some o → l ≤ j → j < l + n → length (legs_from n l (with_at leg j None)) + 1 ≡ length (legs_from n l leg)
legs-fewer n l j leg o on low high =
    let more = legs-more n l j (with_at leg j None) o (with_at_here leg j None) low high in
    let same = ap length (legs-same n l (with_at (with_at leg j None) j (Some o)) leg (λ k h i. again k (eqb k j) refl)) in
    omega arith
  where
    again : (k : ℕ) (b : Bool) → eqb k j ≡ b → cond b (Some o) (cond b None (leg k)) ≡ leg k
    again k true e = sym (ap leg (eqb-true k j e) ∙ on)
    again k false e = refl

-- a leg that goes, there or not, leaves no more
pub legs-none_most : (n l j : ℕ) (leg : ℕ → Option ModelLeg) → length (legs_from n l (with_at leg j None)) ≤ length (legs_from n l leg)
unfolding legs_from
legs-none_most zero l j leg = omega arith
legs-none_most (suc n) l j leg = go (eqb l j) (leg l) (legs-none_most n (suc l) j leg)
  where
    go : (b : Bool) (o : Option ModelLeg) → length (legs_from n (suc l) (with_at leg j None)) ≤ length (legs_from n (suc l) leg) → length (onto (cond b None o) (legs_from n (suc l) (with_at leg j None))) ≤ length (onto o (legs_from n (suc l) leg))
    go true None h = h
    go true (Some o) h = omega arith
    go false None h = h
    go false (Some o) h = omega arith

-- led to other slots, the legs are as many
pub legs-led : (n l a b : ℕ) (leg : ℕ → Option ModelLeg) → length (legs_from n l (λ k. led a b (leg k))) ≡ length (legs_from n l leg)
unfolding legs_from
legs-led zero l a b leg = refl
legs-led (suc n) l a b leg = go (leg l) (legs-led n (suc l) a b leg)
  where
    go : (o : Option ModelLeg) → length (legs_from n (suc l) (λ k. led a b (leg k))) ≡ length (legs_from n (suc l) leg) → length (onto (led a b o) (legs_from n (suc l) (λ k. led a b (leg k)))) ≡ length (onto o (legs_from n (suc l) leg))
    go None h = h
    go (Some o) h = ap suc h

-- the same of a working diagram
pub open_attached : (l : ℕ) (o : ModelLeg) (m : Model) → l < leg_limit → m.leg l ≡ None → open_count (attached l o m) ≡ open_count m + 1
unfolding attached
open_attached l o m low off = legs-more leg_limit 0 l m.leg o off (omega arith) low

pub open_detached : (l : ℕ) (o : ModelLeg) (m : Model) → l < leg_limit → m.leg l ≡ Some o → open_count (detached l m) + 1 ≡ open_count m
unfolding detached
open_detached l o m low on = legs-fewer leg_limit 0 l m.leg o on (omega arith) low

pub open_fused : (a b : ℕ) (m : Model) → open_count (fused a b m) ≡ open_count m
unfolding fused
open_fused a b m = legs-led leg_limit 0 a b m.leg

-- a slot carries no leg where none below n is on it
on_none : (s : ℕ) (q : Option ModelLeg) → on_slot s q ≡ false → (o : ModelLeg) → q ≡ Some o → ¬ (o.slot ≡ s)
on_none s None e o h r = let z : ◌≡◌ {A = ℕ} 0 1 = cc in omega arith
on_none s (Some p) e o h r = let z : o.slot ≡ p.slot = ap (slot_or o.slot) (sym h) in eqb-false p.slot s e (sym z ∙ r)
  where
    slot_or : ℕ → Option ModelLeg → ℕ
    slot_or d None = d
    slot_or d (Some x) = x.slot

none_on : (s : ℕ) (q : Option ModelLeg) → ((o : ModelLeg) → q ≡ Some o → ¬ (o.slot ≡ s)) → on_slot s q ≡ false
none_on s None h = refl
none_on s (Some o) h = ne_eqb o.slot s (h o refl)

either_false : (a b : Bool) → cond a true b ≡ false → (a ≡ false) × (b ≡ false)
either_false true b e = absurd (true≢false e)
either_false false b e = (refl, e)

pub carried_none : (n : ℕ) (leg : ℕ → Option ModelLeg) (s : ℕ) → carried n leg s ≡ false → (l : ℕ) (o : ModelLeg) → l < n → leg l ≡ Some o → ¬ (o.slot ≡ s)
unfolding carried
carried_none zero leg s e l o low h = absurd (omega arith)
carried_none (suc n) leg s e l o low h = ⊎_elim here (before (carried_none n leg s both.1 l o)) (eqb_tells l n)
  where
    both : (on_slot s (leg n) ≡ false) × (carried n leg s ≡ false)
    both = either_false (on_slot s (leg n)) (carried n leg s) e

    here : (eqb l n ≡ true) × (l ≡ n) → ¬ (o.slot ≡ s)
    here q = on_none s (leg n) both.0 o (sym (ap leg q.1) ∙ h)

    before : (l < n → leg l ≡ Some o → ¬ (o.slot ≡ s)) → (eqb l n ≡ false) × (l ≡ n → ⊥) → ¬ (o.slot ≡ s)
    before rec q = let ne = q.1 in rec (omega arith) h

pub none-carried : (n : ℕ) (leg : ℕ → Option ModelLeg) (s : ℕ) → ((l : ℕ) (o : ModelLeg) → l < n → leg l ≡ Some o → ¬ (o.slot ≡ s)) → carried n leg s ≡ false
unfolding carried
none-carried zero leg s h = refl
none-carried (suc n) leg s h = ap₂ (λ a b. cond a true b) (none_on s (leg n) (λ o q. h n o (omega arith) q)) (none-carried n leg s (λ l o low q. h l o (omega arith) q))

pub carries-none : (m : Model) (s : ℕ) → Sound m → (carries m s ≡ false) ↔ ((l : ℕ) (o : ModelLeg) → m.leg l ≡ Some o → ¬ (o.slot ≡ s))
carries-none m s good = (λ e l o h. carried_none leg_limit m.leg s e l o (good.few l o h) h, λ none. none-carried leg_limit m.leg s (λ l o low h. none l o h))
