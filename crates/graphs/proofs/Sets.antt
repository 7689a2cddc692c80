-- How many slots a set has, and how one slot more or less changes it. Assumes nothing.
use Rattle.std.proofs.Common.{◌≡◌, ℕ, zero, suc, ◌+◌, ◌*◌, ◌<◌, ◌≤◌, Bool, true, false, cond, eqb, sym, refl, ap, ◌∙◌, arith, eq-eqb, eqb-true}
use Rattle.graphs.specs.Counts.{bit, total}
use Rattle.graphs.specs.Graphs.{put, without}
use Rattle.graphs.proofs.Counting.{at, total-same, total-add, total_at}
use Rattle.graphs.proofs.Bitwise.{bit-put}

-- of n bits at most n are set, and no more than of bits that are set wherever they are
pub bit_most : (b : Bool) → bit b ≤ 1
bit_most true = omega arith
bit_most false = omega arith

pub total_most : (n : ℕ) (f : ℕ → Bool) → total n (λ s. bit (f s)) ≤ n
unfolding total
total_most zero f = omega arith
total_most (suc n) f = let more = total_most n f in let last = bit_most (f n) in omega arith

pub total_least : (n : ℕ) (f g : ℕ → ℕ) → ((s : ℕ) → f s ≤ g s) → total n f ≤ total n g
unfolding total
total_least zero f g h = omega arith
total_least (suc n) f g h = let more = total_least n f g h in let last = h n in omega arith

-- without a slot, there or not, no more stand
pub without_least : (f : ℕ → Bool) (s k : ℕ) → bit (without f s k) ≤ bit (f k)
without_least f s k = go (eqb k s)
  where
    go : (b : Bool) → bit (cond b false (f k)) ≤ bit (f k)
    go true = omega arith
    go false = omega arith

pub total-without_most : (n : ℕ) (f : ℕ → Bool) (s : ℕ) → total n (λ k. bit (without f s k)) ≤ total n (λ k. bit (f k))
total-without_most n f s = total_least n (λ k. bit (without f s k)) (λ k. bit (f k)) (without_least f s)

-- one slot more, where it was not there
pub total-put : (n : ℕ) (f : ℕ → Bool) (s : ℕ) → s < n → f s ≡ false → total n (λ k. bit (put f s k)) ≡ total n (λ k. bit (f k)) + 1
total-put n f s low off =
    let apart = total-same n (λ k. bit (put f s k)) (λ k. bit (f k) + at s k * 1) (λ k l. let e = bit-put f s off k in omega arith) in
    let both = total-add n (λ k. bit (f k)) (λ k. at s k * 1) in
    let one = total_at n s (λ k. 1) low in
    omega arith

-- one slot less, where it was there
gone : (f : ℕ → Bool) (s : ℕ) → without f s s ≡ false
gone f s = ap (λ b. cond b false (f s)) (eq-eqb s s refl)

back : (f : ℕ → Bool) (s : ℕ) → f s ≡ true → (k : ℕ) → put (without f s) s k ≡ f k
back f s on k = go (eqb k s) refl
  where
    go : (b : Bool) → eqb k s ≡ b → cond b true (cond b false (f k)) ≡ f k
    go true e = sym (ap f (eqb-true k s e) ∙ on)
    go false e = refl

pub total-without : (n : ℕ) (f : ℕ → Bool) (s : ℕ) → s < n → f s ≡ true → total n (λ k. bit (without f s k)) + 1 ≡ total n (λ k. bit (f k))
total-without n f s low on =
    let more = total-put n (without f s) s low (gone f s) in
    let same = total-same n (λ k. bit (put (without f s) s k)) (λ k. bit (f k)) (λ k l. ap bit (back f s on k)) in
    omega arith
