-- How many bits of words are set. Assumes nothing.
use Rattle.std.proofs.Common.{◌≡◌, ℕ, zero, suc, ◌+◌, ◌*◌, ◌/◌, ◌%◌, ◌^◌, ◌<◌, eqb, List, [], ◌∷◌, length, get_or, sum_by, refl, ap, ◌∙◌, arith, pow-add}
use lib.Count.{ones, ones_step, ones-ones}
use Rattle.std.proofs.lemmas.List.Sums.{sum_by-cons}
use Rattle.graphs.specs.Counts.{bit, total}
use Rattle.graphs.proofs.Counting.{total-same}
use Rattle.rows.specs.Rows.{bit_of, bits_in}
use Rattle.rows.proofs.Words.{bit-zero, bit_suc}

-- a sum over slots, the first taken off, and in two parts
total_front : (n : ℕ) (f : ℕ → ℕ) → total (suc n) f ≡ f 0 + total n (λ k. f (suc k))
unfolding total
total_front zero f = omega arith
total_front (suc n) f = let more = total_front n f in omega arith

total_parts : (a b : ℕ) (f : ℕ → ℕ) → total (a + b) f ≡ total a f + total b (λ k. f (a + k))
unfolding total
total_parts a zero f = let same : a + zero ≡ a = omega arith in let e = ap (λ n. total n f) same in omega arith
total_parts a (suc b) f =
    let more = total_parts a b f in
    let same : a + suc b ≡ suc (a + b) = omega arith in
    let next : total (a + suc b) f ≡ total (a + b) f + f (a + b) = ap (λ n. total n f) same in
    omega arith

low_bit : (w : ℕ) → bit (eqb (w % 2) 1) ≡ w % 2
low_bit w = go (w % 2) (omega arith)
  where
    go : (d : ℕ) → d < 2 → bit (eqb d 1) ≡ d
    go zero h = refl
    go (suc zero) h = refl
    go (suc (suc d)) h = absurd (omega arith)

-- the bits of a number of n digits
pub ones_are_bits : (n w : ℕ) → w < 2 ^ n → ones w ≡ total n (λ k. bit (bit_of w k))
unfolding total
ones_are_bits zero w h = let one : 2 ^ zero ≡ 1 = refl in let none : w ≡ 0 = omega arith in ap ones none ∙ ones-ones 0
ones_are_bits (suc n) w h =
    let double : 2 ^ suc n ≡ 2 * 2 ^ n = ap (λ m. 2 ^ m) (one_add' n) ∙ pow-add 2 1 n in
    let more = ones_are_bits n (w / 2) (omega arith) in
    let front = total_front n (λ k. bit (bit_of w k)) in
    let low : bit (bit_of w 0) ≡ w % 2 = ap bit (bit-zero w) ∙ low_bit w in
    let rest : total n (λ k. bit (bit_of w (suc k))) ≡ total n (λ k. bit (bit_of (w / 2) k)) = total-same n (λ k. bit (bit_of w (suc k))) (λ k. bit (bit_of (w / 2) k)) (λ k l. ap bit (bit_suc w k)) in
    let step = ones_step w in
    omega arith
  where
    one_add' : (n : ℕ) → suc n ≡ 1 + n
    one_add' n = omega arith

-- the bits of words, one word after the other
pub bits_in_words : (ws : List ℕ) → sum_by bits_in ws ≡ total (64 * length ws) (λ i. bit (bit_of (get_or ws (i / 64) 0) (i % 64)))
unfolding total
bits_in_words [] = refl
bits_in_words (w ∷ ws) =
    let f : ℕ → ℕ = λ i. bit (bit_of (get_or (w ∷ ws) (i / 64) 0) (i % 64)) in
    let g : ℕ → ℕ = λ i. bit (bit_of (get_or ws (i / 64) 0) (i % 64)) in
    let long : 64 * length (w ∷ ws) ≡ 64 + 64 * length ws = omega arith in
    let parts = ap (λ n. total n f) long ∙ total_parts 64 (64 * length ws) f in
    let here : total 64 f ≡ bits_in w = total-same 64 f (λ k. bit (bit_of w k)) first in
    let rest : total (64 * length ws) (λ k. f (64 + k)) ≡ total (64 * length ws) g = total-same (64 * length ws) (λ k. f (64 + k)) g (λ k l. next k) in
    let more = bits_in_words ws in
    let cons = sum_by-cons bits_in w ws in
    omega arith
  where
    first : (k : ℕ) → k < 64 → bit (bit_of (get_or (w ∷ ws) (k / 64) 0) (k % 64)) ≡ bit (bit_of w k)
    first k l =
        let high : k / 64 ≡ 0 = omega arith in
        let low : k % 64 ≡ k = omega arith in
        λ i. bit (bit_of (get_or (w ∷ ws) (high i) 0) (low i))

    next : (k : ℕ) → bit (bit_of (get_or (w ∷ ws) ((64 + k) / 64) 0) ((64 + k) % 64)) ≡ bit (bit_of (get_or ws (k / 64) 0) (k % 64))
    next k =
        let high : (64 + k) / 64 ≡ suc (k / 64) = omega arith in
        let low : (64 + k) % 64 ≡ k % 64 = omega arith in
        λ i. bit (bit_of (get_or (w ∷ ws) (high i) 0) (low i))
