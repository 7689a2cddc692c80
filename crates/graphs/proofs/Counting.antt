-- Sums over slots and pairs: they are linear, and a product of two sums is a sum over pairs. Assumes nothing.
use Rattle.std.proofs.Common.{◌≡◌, ℕ, zero, suc, ◌+◌, ◌*◌, ◌%◌, ◌<◌, true, false, eqb, sym, refl, ap, ◌∙◌, ap₂, ⊎_elim, mul_assoc, add-mul, arith, eq-eqb, ne_eqb}
use native.Mathlib.Nat.{add-mod}
use Rattle.std.proofs.lemmas.Bool.Decides.{eqb_tells}
use Rattle.graphs.specs.Counts.{bit, total, pairs}

-- sums of equals, of sums and of multiples
pub total-same : (n : ℕ) (f g : ℕ → ℕ) → ((s : ℕ) → s < n → f s ≡ g s) → total n f ≡ total n g
unfolding total
total-same zero f g e = refl
total-same (suc n) f g e = let more = total-same n f g (λ s h. e s (omega arith)) in let last = e n (omega arith) in omega arith

pub total-add : (n : ℕ) (f g : ℕ → ℕ) → total n (λ s. f s + g s) ≡ total n f + total n g
unfolding total
total-add zero f g = refl
total-add (suc n) f g = let more = total-add n f g in omega arith

pub total-times : (n c : ℕ) (f : ℕ → ℕ) → total n (λ s. f s * c) ≡ total n f * c
unfolding total
total-times zero c f = omega arith
total-times (suc n) c f = let more = total-times n c f in let both = add-mul (total n f) (f n) c in omega arith

pub total-none : (n : ℕ) → total n (λ s. 0) ≡ 0
unfolding total
total-none zero = refl
total-none (suc n) = let more = total-none n in omega arith

pub pairs-same : (n : ℕ) (h k : ℕ → ℕ → ℕ) → ((s t : ℕ) → s < t → t < n → h s t ≡ k s t) → pairs n h ≡ pairs n k
unfolding pairs
pairs-same zero h k e = refl
pairs-same (suc n) h k e =
    let more = pairs-same n h k (λ s t l m. e s t l (omega arith)) in
    let last = total-same n (λ s. h s n) (λ s. k s n) (λ s l. e s n l (omega arith)) in
    omega arith

pub pairs-add : (n : ℕ) (h k : ℕ → ℕ → ℕ) → pairs n (λ s t. h s t + k s t) ≡ pairs n h + pairs n k
unfolding pairs
pairs-add zero h k = refl
pairs-add (suc n) h k = let more = pairs-add n h k in let last = total-add n (λ s. h s n) (λ s. k s n) in omega arith

pub pairs-nothing : (n : ℕ) (h : ℕ → ℕ → ℕ) → ((s t : ℕ) → s < t → t < n → h s t ≡ 0) → pairs n h ≡ 0
unfolding pairs
pairs-nothing zero h e = refl
pairs-nothing (suc n) h e =
    let more = pairs-nothing n h (λ s t l m. e s t l (omega arith)) in
    let last = total-same n (λ s. h s n) (λ s. 0) (λ s l. e s n l (omega arith)) ∙ total-none n in
    omega arith

-- sums of numbers that agree but for multiples of c
mod_add : (c a b d e : ℕ) → a % c ≡ b % c → d % c ≡ e % c → (a + d) % c ≡ (b + e) % c
mod_add c a b d e p q = add-mod a d (c) ∙ ap₂ (λ s t. (s + t) % c) p q ∙ sym (add-mod b e (c))

pub total_mod : (c n : ℕ) (f g : ℕ → ℕ) → ((s : ℕ) → s < n → f s % c ≡ g s % c) → total n f % c ≡ total n g % c
unfolding total
total_mod c zero f g e = refl
total_mod c (suc n) f g e = mod_add c (total n f) (total n g) (f n) (g n) (total_mod c n f g (λ s h. e s (omega arith))) (e n (omega arith))

pub pairs_mod : (c n : ℕ) (h k : ℕ → ℕ → ℕ) → ((s t : ℕ) → s < t → t < n → h s t % c ≡ k s t % c) → pairs n h % c ≡ pairs n k % c
unfolding pairs
pairs_mod c zero h k e = refl
pairs_mod c (suc n) h k e = mod_add c (pairs n h) (pairs n k) (total n (λ s. h s n)) (total n (λ s. k s n)) (pairs_mod c n h k (λ s t l m. e s t l (omega arith))) (total_mod c n (λ s. h s n) (λ s. k s n) (λ s l. e s n l (omega arith)))

-- the counting lemma: the pairs of one from f and one from g, either way round, and those of a slot
-- with itself, are the product of the two sums
pub counting : (n : ℕ) (f g : ℕ → ℕ) → pairs n (λ s t. f s * g t + g s * f t) + total n (λ s. f s * g s) ≡ total n f * total n g
unfolding total pairs
counting zero f g = refl
counting (suc n) f g =
    let more = counting n f g in
    let cross : total n (λ s. f s * g n + g s * f n) ≡ total n f * g n + total n g * f n =
    omega (arith, total-add n (λ s. f s * g n) (λ s. g s * f n), total-times n (g n) f, total-times n (f n) g) in
    let product : (total n f + f n) * (total n g + g n) ≡ total n f * total n g + total n f * g n + total n g * f n + f n * g n = omega arith in
    omega arith

-- one at slot u, and nothing elsewhere
abbrev pub at : ℕ → ℕ → ℕ
at u s = bit (eqb s u)

at_other : (u s : ℕ) → (s ≡ u → ⊥) → at u s ≡ 0
at_other u s ne = ap bit (ne_eqb s u ne)

at_same : (u s : ℕ) → s ≡ u → at u s ≡ 1
at_same u s e = ap bit (eq-eqb s u e)

-- a sum in which nothing counts, and one in which one slot alone counts
pub total-nothing : (n : ℕ) (f : ℕ → ℕ) → ((s : ℕ) → s < n → f s ≡ 0) → total n f ≡ 0
total-nothing n f e = total-same n f (λ s. 0) e ∙ total-none n

pub total_at : (n u : ℕ) (f : ℕ → ℕ) → u < n → total n (λ s. at u s * f s) ≡ f u
unfolding total
total_at zero u f h = absurd (omega arith)
total_at (suc n) u f h = ⊎_elim here (before (λ l. total_at n u f l)) (eqb_tells n u)
  where
    here : (eqb n u ≡ true) × (n ≡ u) → total n (λ s. at u s * f s) + at u n * f n ≡ f u
    here e =
        let none = total-nothing n (λ s. at u s * f s) (λ s l. let z = ap (λ k. k * f s) (at_other u s (λ q. omega arith)) in omega arith) in
        let last = ap (λ k. k * f n) (at_same u n e.1) in
        let same = ap f e.1 in
        omega arith

    before : (u < n → total n (λ s. at u s * f s) ≡ f u) → (eqb n u ≡ false) × (n ≡ u → ⊥) → total n (λ s. at u s * f s) + at u n * f n ≡ f u
    before rec e =
        let ne = e.1 in
        let more = rec (omega arith) in
        let last = ap (λ k. k * f n) (at_other u n ne) in
        omega arith

-- the pairs of which one is u, where b is 0 at u
pub pairs_at : (n u : ℕ) (b : ℕ → ℕ) (m : ℕ → ℕ → ℕ) → u < n → b u ≡ 0 → ((s t : ℕ) → m s t ≡ m t s) → pairs n (λ s t. (at u s * b t + b s * at u t) * m s t) ≡ total n (λ t. b t * m u t)
unfolding total pairs
pairs_at zero u b m h z sym-m = absurd (omega arith)
pairs_at (suc n) u b m h z sym-m = ⊎_elim here (later (λ l. pairs_at n u b m l z sym-m)) (eqb_tells n u)
  where
    -- u is the last slot: no pair below it counts, and those with it count as b does
    here : (eqb n u ≡ true) × (n ≡ u) → pairs n (λ s t. (at u s * b t + b s * at u t) * m s t) + total n (λ s. (at u s * b n + b s * at u n) * m s n) ≡ total n (λ t. b t * m u t) + b n * m u n
    here e =
        let none = pairs-nothing n (λ s t. (at u s * b t + b s * at u t) * m s t) (λ s t l k.
        let p = at_other u s (λ q. omega arith) in
        let q = at_other u t (λ q. omega arith) in
        rw (p, q) (omega arith)) in
        let last = total-same n (λ s. (at u s * b n + b s * at u n) * m s n) (λ t. b t * m u t) (λ s l.
        let p = at_other u s (λ q. omega arith) in
        let q = at_same u n e.1 in
        let r : m s n ≡ m u s = sym-m s n ∙ ap (λ k. m k s) e.1 in
        rw (p, q, r) (omega arith)) in
        let zero_here : b n ≡ 0 = ap b e.1 ∙ z in
        let nothing : b n * m u n ≡ 0 = rw zero_here (omega arith) in
        omega arith

    later : (u < n → pairs n (λ s t. (at u s * b t + b s * at u t) * m s t) ≡ total n (λ t. b t * m u t)) → (eqb n u ≡ false) × (n ≡ u → ⊥) → pairs n (λ s t. (at u s * b t + b s * at u t) * m s t) + total n (λ s. (at u s * b n + b s * at u n) * m s n) ≡ total n (λ t. b t * m u t) + b n * m u n
    later rec e =
        let ne = e.1 in
        let more = rec (omega arith) in
        let q = at_other u n ne in
        let step = total-same n (λ s. (at u s * b n + b s * at u n) * m s n) (λ s. at u s * (b n * m s n)) (λ s l. rw q (omega (arith, mul_assoc (at u s) (b n) (m s n)))) in
        let last = total_at n u (λ s. b n * m s n) (omega arith) in
        omega arith
