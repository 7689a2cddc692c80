-- The legs of a table after one is written, and what a count of none says. Assumes nothing.
use Rattle.std.proofs.Common.{◌≡◌, ℕ, zero, suc, ◌+◌, ◌<◌, ◌≤◌, Bool, true, false, cond, eqb, ltb, List, [], length, get_or, set, replicate, is_some, Some, None, Option, sym, refl, ap, ◌∙◌, ⊎_elim, arith, ltb-false, le-ltb, lt-ltb, eq-eqb, ne_eqb, eqb-true}
use mir.Val.{bool_byte}
use borrow.Author.Tests.{eqb-false}
use Rattle.std.proofs.lemmas.List.{get_or-set_same, get_or-set_other, get_or-replicate, get_or_past, get_or_default, length-replicate}
use Rattle.std.proofs.lemmas.Bool.Decides.{eqb_tells, leb_tells}
use Rattle.graphs.specs.Counts.{bit}
use Rattle.models.specs.Models.{ModelLeg, onto, legs_from, on_slot, carried}
use Rattle.models.proofs.Counts.{legs-same}
use Rattle.parts.specs.declared.leg.OpenLeg.{OpenLeg}
use Rattle.parts.specs.Tables.{maybe_leg, leg_in}

-- one leg written
pub leg_written : (ts : List (Option OpenLeg)) (n : ℕ) (o : Option OpenLeg) → n < length ts → (k : ℕ) → leg_in (set ts n o) k ≡ cond (eqb k n) (maybe_leg o) (leg_in ts k)
unfolding leg_in
leg_written ts n o low k = ⊎_elim
    (λ e. ap (λ j. maybe_leg (get_or (set ts n o) j None)) e.1 ∙ ap maybe_leg (get_or-set_same ts n o None low) ∙ sym (ap (λ b. cond b (maybe_leg o) (maybe_leg (get_or ts k None))) e.0))
    (λ e. ap maybe_leg (get_or-set_other ts n k o None e.1) ∙ sym (ap (λ b. cond b (maybe_leg o) (maybe_leg (get_or ts k None))) e.0))
    (eqb_tells k n)

-- a table of no legs
pub no_legs : (n k : ℕ) → leg_in (replicate n None) k ≡ None
unfolding leg_in
no_legs n k = ap maybe_leg (⊎_elim (λ h. get_or-replicate n k None None h.1) (λ h. let past = h.1 in let long = length-replicate {A = Option OpenLeg} n None in get_or_past (replicate n None) k None (omega arith)) (leb_tells (suc k) n))

pub none-listed : (n l : ℕ) (leg : ℕ → Option ModelLeg) → ((k : ℕ) → leg k ≡ None) → legs_from n l leg ≡ []
unfolding legs_from
none-listed zero l leg none = refl
none-listed (suc n) l leg none = ap (λ o. onto o (legs_from n (suc l) leg)) (none l) ∙ none-listed n (suc l) leg none

-- where none is counted, none is open
pub none-counted : (n l : ℕ) (leg : ℕ → Option ModelLeg) → length (legs_from n l leg) ≡ 0 → (k : ℕ) → l ≤ k → k < l + n → leg k ≡ None
unfolding legs_from
none-counted zero l leg e k h j = absurd (omega arith)
none-counted (suc n) l leg e k h j = go (leg l) refl e (λ q. none-counted n (suc l) leg q k)
  where
    go : (o : Option ModelLeg) → leg l ≡ o → length (onto o (legs_from n (suc l) leg)) ≡ 0 → (length (legs_from n (suc l) leg) ≡ 0 → suc l ≤ k → k < suc l + n → leg k ≡ None) → leg k ≡ None
    go (Some o) q z more = absurd (omega arith)
    go None q z more = ⊎_elim (λ s. ap leg s.1 ∙ q) (λ s. let ne = s.1 in more z (omega arith) (omega arith)) (eqb_tells k l)

-- one leg more is listed where it is open
listed_more : (o : Option ModelLeg) (os : List ModelLeg) → length (onto o os) ≡ length os + bit (is_some o)
listed_more None os = omega arith
listed_more (Some o) os = omega arith

-- how many are open once the leg of number j is another, and the others stay
pub recounted : (n l j : ℕ) (f g : ℕ → Option ModelLeg) → l ≤ j → j < l + n → ((k : ℕ) → (k ≡ j → ⊥) → g k ≡ f k) → length (legs_from n l g) + bit (is_some (f j)) ≡ length (legs_from n l f) + bit (is_some (g j))
unfolding legs_from
recounted zero l j f g h i same = absurd (omega arith)
recounted (suc n) l j f g h i same = ⊎_elim here (later (λ a b. recounted n (suc l) j f g a b same)) (eqb_tells l j)
  where
    F : ℕ
    F = length (legs_from n (suc l) f)

    G : ℕ
    G = length (legs_from n (suc l) g)

    here : (eqb l j ≡ true) × (l ≡ j) → length (onto (g l) (legs_from n (suc l) g)) + bit (is_some (f j)) ≡ length (onto (f l) (legs_from n (suc l) f)) + bit (is_some (g j))
    here e =
        let at = e.1 in
        let tail : G ≡ F = ap length (legs-same n (suc l) g f (λ k a b. same k (λ q. omega arith))) in
        let x = listed_more (g l) (legs_from n (suc l) g) in
        let y = listed_more (f l) (legs_from n (suc l) f) in
        let p : bit (is_some (f l)) ≡ bit (is_some (f j)) = ap (λ k. bit (is_some (f k))) at in
        let q : bit (is_some (g l)) ≡ bit (is_some (g j)) = ap (λ k. bit (is_some (g k))) at in
        omega arith

    later : (suc l ≤ j → j < suc l + n → G + bit (is_some (f j)) ≡ F + bit (is_some (g j))) → (eqb l j ≡ false) × (l ≡ j → ⊥) → length (onto (g l) (legs_from n (suc l) g)) + bit (is_some (f j)) ≡ length (onto (f l) (legs_from n (suc l) f)) + bit (is_some (g j))
    later more e =
        let ne = e.1 in
        let tail = more (omega arith) (omega arith) in
        let x = listed_more (g l) (legs_from n (suc l) g) in
        let y = listed_more (f l) (legs_from n (suc l) f) in
        let p : bit (is_some (g l)) ≡ bit (is_some (f l)) = ap (λ o. bit (is_some o)) (same l ne) in
        omega arith

pub counted_most : (n l j : ℕ) (f : ℕ → Option ModelLeg) → l ≤ j → j < l + n → bit (is_some (f j)) ≤ length (legs_from n l f)
counted_most n l j f h i =
    let less = recounted n l j f (λ k. cond (eqb k j) None (f k)) h i (λ k ne. ap (λ b. cond b None (f k)) (ne_eqb k j ne)) in
    let none : bit (is_some (cond (eqb j j) None (f j))) ≡ 0 = ap (λ b. bit (is_some (cond b None (f j)))) (eq-eqb j j refl) in
    omega arith

-- a flag as a number
pub bit_of_flag : (b : Bool) → bool_byte b ≡ bit b
bit_of_flag true = refl
bit_of_flag false = refl

-- whether a leg is on a slot, one leg more
pub carried-more : (n : ℕ) (leg : ℕ → Option ModelLeg) (s : ℕ) → carried (suc n) leg s ≡ cond (on_slot s (leg n)) true (carried n leg s)
unfolding carried
carried-more n leg s = refl

pub carried-zero : (leg : ℕ → Option ModelLeg) (s : ℕ) → carried 0 leg s ≡ false
unfolding carried
carried-zero leg s = refl

pub same_some : (o : Option OpenLeg) → is_some (maybe_leg o) ≡ is_some o
same_some None = refl
same_some (Some o) = refl

-- a leg that is read, whatever stands for one past the end
pub leg_read : (ts : List (Option OpenLeg)) (n : ℕ) (d : Option OpenLeg) → n < length ts → maybe_leg (get_or ts n d) ≡ leg_in ts n
unfolding leg_in
leg_read ts n d low = ap maybe_leg (get_or_default ts n d None low)

-- legs that are changed one by one: those before the one that is next are
pub changed-more : (ts old : List (Option OpenLeg)) (n : ℕ) (f : Option ModelLeg → Option ModelLeg) (o d : Option OpenLeg) → n < length ts → ((k : ℕ) → leg_in ts k ≡ cond (ltb k n) (f (leg_in old k)) (leg_in old k)) → maybe_leg o ≡ f (maybe_leg (get_or ts n d)) → (k : ℕ) → leg_in (set ts n o) k ≡ cond (ltb k (n + 1)) (f (leg_in old k)) (leg_in old k)
changed-more ts old n f o d low before new k = leg_written ts n o low k ∙ go (eqb k n) refl
  where
    at : f (maybe_leg (get_or ts n d)) ≡ f (leg_in old n)
    at = ap f (leg_read ts n d low ∙ before n ∙ ap (λ b. cond b (f (leg_in old n)) (leg_in old n)) (le-ltb n n (omega arith)))

    go : (b : Bool) → eqb k n ≡ b → cond b (maybe_leg o) (leg_in ts k) ≡ cond (ltb k (n + 1)) (f (leg_in old k)) (leg_in old k)
    go true e =
        let same = eqb-true k n e in
        new ∙ at ∙ ap (λ j. f (leg_in old j)) (sym same) ∙ sym (ap (λ b. cond b (f (leg_in old k)) (leg_in old k)) (lt-ltb k (n + 1) (omega arith)))
    go false e = before k ∙ ap (λ b. cond b (f (leg_in old k)) (leg_in old k)) (later (eqb-false k n e))
      where
        later : (k ≡ n → ⊥) → ltb k n ≡ ltb k (n + 1)
        later ne = ⊎_elim (λ h. let l = h.1 in lt-ltb k n (omega arith) ∙ sym (lt-ltb k (n + 1) (omega arith))) (λ h. let l = h.1 in le-ltb k n (omega arith) ∙ sym (le-ltb k (n + 1) (omega arith))) (leb_tells (suc k) n)

pub changed_all : (ts old : List (Option OpenLeg)) (n : ℕ) (f : Option ModelLeg → Option ModelLeg) → f None ≡ None → length old ≤ n → ((k : ℕ) → leg_in ts k ≡ cond (ltb k n) (f (leg_in old k)) (leg_in old k)) → (k : ℕ) → leg_in ts k ≡ f (leg_in old k)
unfolding leg_in
changed_all ts old n f none few each k = each k ∙ go (ltb k n) refl
  where
    go : (b : Bool) → ltb k n ≡ b → cond b (f (leg_in old k)) (leg_in old k) ≡ f (leg_in old k)
    go true e = refl
    go false e =
        let far = ltb-false k n e in
        let past : leg_in old k ≡ None = ap maybe_leg (get_or_past old k None (omega arith)) in
        past ∙ sym none ∙ sym (ap f past)
