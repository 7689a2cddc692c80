-- Bits of words: of none, of one bit alone, and of a toggled word. Assumes nothing.
use Rattle.std.proofs.Common.{◌≡◌, ℕ, zero, suc, ◌+◌, ◌-◌, ◌*◌, ◌/◌, ◌%◌, ◌^◌, ◌<◌, ◌≤◌, Bool, true, false, ◌&&◌, eqb, ◌⊎◌, List, [], ◌∷◌, length, get_or, sym, refl, ap, ◌∙◌, ap₂, inl, inr, ⊎_elim, arith, pow_pos, pow-add, eq-eqb, ne_eqb}
use native.Mathlib.Nat.{mod-mod}
use lib.Bits.{bit_and, bit_xor, xor_shr, xor_mod, and_shr, and_mod}
use lib.Count.{under, count_trailing_zeros}
use lib.Pow.{shl-shr}
use borrow.Author.Tests.{eqb-false}
use Rattle.std.proofs.lemmas.Nat.{shr_le, shr-shr, pow_below, div_below}
use Rattle.std.proofs.lemmas.List.{get_or_past}
use Rattle.std.proofs.lemmas.Bool.Decides.{eqb_tells, leb_tells}
use Rattle.graphs.specs.Rules.{xor}
use Rattle.rows.specs.Rows.{bit_of}

abbrev digit : Bool → ℕ
digit true = 1
digit false = 0

-- the lowest bits of two numbers under an operation that works bit by bit
low_both : (f : ℕ → ℕ → ℕ) (g : Bool → Bool → Bool) → ((p q : Bool) → eqb (f (digit p) (digit q) % 2) 1 ≡ g p q) → (a b : ℕ) → eqb (f (a % 2) (b % 2) % 2) 1 ≡ g (eqb (a % 2) 1) (eqb (b % 2) 1)
low_both f g same a b = go (a % 2) (b % 2) (omega arith) (omega arith)
  where
    go : (p q : ℕ) → p < 2 → q < 2 → eqb (f p q % 2) 1 ≡ g (eqb p 1) (eqb q 1)
    go zero zero h k = same false false
    go zero (suc zero) h k = same false true
    go (suc zero) zero h k = same true false
    go (suc zero) (suc zero) h k = same true true
    go (suc (suc p)) q h k = absurd (omega arith)
    go zero (suc (suc q)) h k = absurd (omega arith)
    go (suc zero) (suc (suc q)) h k = absurd (omega arith)

-- bit k of two words under an operation that works bit by bit
bit_both : (f : ℕ → ℕ → ℕ) (g : Bool → Bool → Bool) → ((p q : Bool) → eqb (f (digit p) (digit q) % 2) 1 ≡ g p q) → ((a b j : ℕ) → f a b / 2 ^ j ≡ f (a / 2 ^ j) (b / 2 ^ j)) → ((a b j : ℕ) → f a b % 2 ^ j ≡ f (a % 2 ^ j) (b % 2 ^ j)) → (a b k : ℕ) → bit_of (f a b) k ≡ g (bit_of a k) (bit_of b k)
unfolding bit_of
bit_both f g same shr rem a b k =
    let low : f (a / 2 ^ k) (b / 2 ^ k) % 2 ≡ f (a / 2 ^ k % 2) (b / 2 ^ k % 2) % 2 =
    sym (mod-mod (f (a / 2 ^ k) (b / 2 ^ k)) 2) ∙ ap (λ t. t % 2) (rem (a / 2 ^ k) (b / 2 ^ k) 1) in
    ap (λ w. eqb (w % 2) 1) (shr a b k) ∙ ap (λ w. eqb w 1) low ∙ low_both f g same (a / 2 ^ k) (b / 2 ^ k)

pub bit-xor : (a b k : ℕ) → bit_of (bit_xor a b) k ≡ xor (bit_of a k) (bit_of b k)
bit-xor = bit_both bit_xor xor same xor_shr xor_mod
  where
    same : (p q : Bool) → eqb (bit_xor (digit p) (digit q) % 2) 1 ≡ xor p q
    same true true = refl
    same true false = refl
    same false true = refl
    same false false = refl

pub and_bit : (a b k : ℕ) → bit_of (bit_and a b) k ≡ bit_of a k && bit_of b k
and_bit = bit_both bit_and (λ p q. p && q) same and_shr and_mod
  where
    same : (p q : Bool) → eqb (bit_and (digit p) (digit q) % 2) 1 ≡ p && q
    same true true = refl
    same true false = refl
    same false true = refl
    same false false = refl

-- words worked one by one, of which there are five
pub all_words : (f : ℕ → ℕ → ℕ) → f 0 0 ≡ 0 → (new old other : List ℕ) → length new ≤ 5 → length old ≤ 5 → length other ≤ 5 → ((k : ℕ) → k < 5 → get_or new k 0 ≡ f (get_or old k 0) (get_or other k 0)) → (k : ℕ) → get_or new k 0 ≡ f (get_or old k 0) (get_or other k 0)
all_words f none new old other a b c each k = ⊎_elim (λ h. each k h.1) (λ h. past h.1) (leb_tells (suc k) 5)
  where
    past : 5 < suc k → get_or new k 0 ≡ f (get_or old k 0) (get_or other k 0)
    past far =
        let x = get_or_past old k 0 (omega arith) in
        let y = get_or_past other k 0 (omega arith) in
        get_or_past new k 0 (omega arith) ∙ sym none ∙ sym (ap₂ f x y)

-- the zeros below the lowest bit that is set
pub bit_suc : (w j : ℕ) → bit_of w (suc j) ≡ bit_of (w / 2) j
unfolding bit_of
bit_suc w j = ap (λ v. eqb (v % 2) 1) (ap (λ m. w / 2 ^ m) (omega arith) ∙ sym (shr-shr w 1 j))

pub bit-zero : (w : ℕ) → bit_of w 0 ≡ eqb (w % 2) 1
unfolding bit_of
bit-zero w = ap (λ v. eqb (v % 2) 1) (omega arith)

pub below_lowest : (k w j : ℕ) → j < count_trailing_zeros k w → bit_of w j ≡ false
unfolding count_trailing_zeros
below_lowest zero w j h = absurd (omega arith)
below_lowest (suc k) w j h = go (below_lowest k (w / 2)) (w % 2) refl j h
  where
    go : ((i : ℕ) → i < count_trailing_zeros k (w / 2) → bit_of (w / 2) i ≡ false) → (d : ℕ) → w % 2 ≡ d → (j : ℕ) → j < under d (count_trailing_zeros k (w / 2)) → bit_of w j ≡ false
    go more zero e zero l = bit-zero w ∙ ap (λ d. eqb d 1) e
    go more zero e (suc j) l = bit_suc w j ∙ more j (omega arith)
    go more (suc d) e j l = absurd (omega arith)

pub at_lowest : (k w : ℕ) → count_trailing_zeros k w < k → bit_of w (count_trailing_zeros k w) ≡ true
unfolding count_trailing_zeros
at_lowest zero w h = absurd (omega arith)
at_lowest (suc k) w h = go (at_lowest k (w / 2)) (w % 2) refl h
  where
    go : (count_trailing_zeros k (w / 2) < k → bit_of (w / 2) (count_trailing_zeros k (w / 2)) ≡ true) → (d : ℕ) → w % 2 ≡ d → under d (count_trailing_zeros k (w / 2)) < suc k → bit_of w (under d (count_trailing_zeros k (w / 2))) ≡ true
    go more zero e l = bit_suc w (count_trailing_zeros k (w / 2)) ∙ more (omega arith)
    go more (suc d) e l = let one : w % 2 ≡ 1 = omega arith in bit-zero w ∙ ap (λ v. eqb v 1) one

pub bit-none : (k : ℕ) → bit_of 0 k ≡ false
unfolding bit_of
bit-none k = let z : 0 / 2 ^ k ≡ 0 = omega (arith, shr_le 0 k) in ap (λ w. eqb (w % 2) 1) z

-- a word of one bit
pub bit-one : (j k : ℕ) → bit_of (2 ^ j) k ≡ eqb k j
unfolding bit_of
bit-one j k = ⊎_elim below (⊎_elim same above) (order k j)
  where
    order : (k j : ℕ) → (k < j) ⊎ ((k ≡ j) ⊎ (j < k))
    order k j = ⊎_elim (λ h. ⊎_elim (λ e. inr (inl e.1)) (λ e. let ne = e.1 in inl (lt_of k j h.1 ne)) (eqb_tells k j)) (λ h. inr (inr h.1)) (leb_tells k j)
      where
        lt_of : (k j : ℕ) → k ≤ j → (k ≡ j → ⊥) → k < j
        lt_of k j le ne = omega arith

    same : k ≡ j → eqb (2 ^ j / 2 ^ k % 2) 1 ≡ eqb k j
    same e =
        let one : 2 ^ j / 2 ^ k ≡ 1 = ap (λ m. 2 ^ m / 2 ^ k) (sym e) ∙ ap (λ m. m / 2 ^ k) (omega arith) ∙ shl-shr 1 k in
        ap (λ w. eqb (w % 2) 1) one ∙ sym (eq-eqb k j e)

    below : k < j → eqb (2 ^ j / 2 ^ k % 2) 1 ≡ eqb k j
    below h =
        let d = j - k - 1 in
        let far : j ≡ 1 + d + k = omega arith in
        let even : 2 ^ j / 2 ^ k ≡ 2 * 2 ^ d = ap (λ m. 2 ^ m / 2 ^ k) far ∙ ap (λ m. m / 2 ^ k) (pow-add 2 (1 + d) k) ∙ shl-shr (2 ^ (1 + d)) k ∙ pow-add 2 1 d in
        let z : 2 ^ j / 2 ^ k % 2 ≡ 0 = omega arith in
        ap (λ w. eqb w 1) z ∙ sym (ne_eqb k j (λ e. omega arith))

    above : j < k → eqb (2 ^ j / 2 ^ k % 2) 1 ≡ eqb k j
    above h =
        let less = pow_below j k h in
        let none : 2 ^ j / 2 ^ k ≡ 0 = omega (arith, div_below (2 ^ j) (2 ^ k) 1 (pow_pos k) (omega arith)) in
        ap (λ w. eqb (w % 2) 1) none ∙ sym (ne_eqb k j (λ e. omega arith))

-- a word of which no bit is set is 0
pub no_bits : (n w : ℕ) → w < 2 ^ n → ((k : ℕ) → k < n → bit_of w k ≡ false) → w ≡ 0
unfolding bit_of
no_bits zero w h none = let one : 2 ^ zero ≡ 1 = refl in omega arith
no_bits (suc n) w h none =
    let double : 2 ^ suc n ≡ 2 * 2 ^ n = ap (λ m. 2 ^ m) (omega arith) ∙ pow-add 2 1 n in
    let high = no_bits n (w / 2) (omega arith) (λ k l. ap (λ v. eqb (v % 2) 1) (shr-shr w 1 k ∙ ap (λ m. w / 2 ^ m) (omega arith)) ∙ none (suc k) (omega arith)) in
    let low : w % 2 ≡ 1 → ⊥ = eqb-false (w % 2) 1 (ap (λ v. eqb (v % 2) 1) (omega arith) ∙ none zero (omega arith)) in
    omega arith

-- no bit is set in five words of 0
pub no_word : (n : ℕ) → ◌≡◌ {A = ℕ} (get_or (0 ∷ 0 ∷ 0 ∷ 0 ∷ 0 ∷ []) n 0) 0
no_word zero = refl
no_word (suc zero) = refl
no_word (suc (suc zero)) = refl
no_word (suc (suc (suc zero))) = refl
no_word (suc (suc (suc (suc zero)))) = refl
no_word (suc (suc (suc (suc (suc n))))) = refl

pub nothing_set : (n k : ℕ) → bit_of (get_or (0 ∷ 0 ∷ 0 ∷ 0 ∷ 0 ∷ []) n 0) k ≡ false
nothing_set n k = ap (λ w. bit_of w k) (no_word n) ∙ bit-none k

-- bit k of word n is slot 64n + k
pub at_slot : (ws : List ℕ) (n k : ℕ) → k < 64 → ((i : ℕ) → bit_of (get_or ws (i / 64) 0) (i % 64) ≡ false) → bit_of (get_or ws n 0) k ≡ false
at_slot ws n k h none =
    let word : (64 * n + k) / 64 ≡ n = omega arith in
    let place : (64 * n + k) % 64 ≡ k = omega arith in
    (λ i. bit_of (get_or ws (sym word i) 0) (sym place i)) ∙ none (64 * n + k)

-- five words of 0 hold nothing
pub all_none : (ws : List ℕ) → length ws ≤ 5 → ((k : ℕ) → k < 5 → get_or ws k 0 ≡ 0) → (i : ℕ) → bit_of (get_or ws (i / 64) 0) (i % 64) ≡ false
all_none ws few none i = ap (λ w. bit_of w (i % 64)) (⊎_elim (λ h. none (i / 64) h.1) (λ h. let past = h.1 in get_or_past ws (i / 64) 0 (omega arith)) (leb_tells (suc (i / 64)) 5)) ∙ bit-none (i % 64)

-- past the words there is nothing
pub past_none : (ws : List ℕ) → length ws ≤ 5 → (i : ℕ) → 320 ≤ i → bit_of (get_or ws (i / 64) 0) (i % 64) ≡ false
past_none ws few i far = ap (λ w. bit_of w (i % 64)) (get_or_past ws (i / 64) 0 (omega arith)) ∙ bit-none (i % 64)

-- the lowest slot of a row: in the first word that is not 0, at its lowest bit
pub lowest_slot : (ws : List ℕ) (n : ℕ) → get_or ws n 0 < 2 ^ 64 → (get_or ws n 0 ≡ 0 → ⊥) → ((k : ℕ) → k < n → get_or ws k 0 ≡ 0) → (s : ℕ) → s ≡ 64 * n + count_trailing_zeros 64 (get_or ws n 0) → (s < 64 * n + 64) × (bit_of (get_or ws (s / 64) 0) (s % 64) ≡ true) × ((i : ℕ) → i < s → bit_of (get_or ws (i / 64) 0) (i % 64) ≡ false)
lowest_slot ws n small some none s e = (omega (arith, low), (λ i. bit_of (get_or ws (word i) 0) (place i)) ∙ at_lowest 64 w low, below)
  where
    w : ℕ
    w = get_or ws n 0

    low : count_trailing_zeros 64 w < 64
    low = ⊎_elim (λ h. h.1) (λ h. let far = h.1 in absurd (some (no_bits 64 w small (λ k l. below_lowest 64 w k (omega arith))))) (leb_tells (suc (count_trailing_zeros 64 w)) 64)

    word : s / 64 ≡ n
    word = omega (arith, low)

    place : s % 64 ≡ count_trailing_zeros 64 w
    place = omega (arith, low)

    below : (i : ℕ) → i < s → bit_of (get_or ws (i / 64) 0) (i % 64) ≡ false
    below i h = ⊎_elim (λ l. ap (λ v. bit_of v (i % 64)) (none (i / 64) l.1) ∙ bit-none (i % 64)) (λ l. let q = l.1 in same (omega (arith, low))) (leb_tells (suc (i / 64)) n)
      where
        same : i / 64 ≡ n → bit_of (get_or ws (i / 64) 0) (i % 64) ≡ false
        same q = ap (λ k. bit_of (get_or ws k 0) (i % 64)) q ∙ below_lowest 64 w (i % 64) (omega (arith, low))
