-- Bits as numbers: toggling, and setting the bit of one slot. Assumes nothing.
use Rattle.std.proofs.Common.{◌≡◌, ℕ, ◌+◌, ◌*◌, ◌<◌, Bool, true, false, cond, ◌&&◌, eqb, refl, ap, ◌∙◌, arith, eqb-true}
use Rattle.graphs.specs.Counts.{bit, total, pairs}
use Rattle.graphs.specs.Graphs.{Graph, Bits, SoundGraph, put, turns}
use Rattle.graphs.specs.Rules.{xor}
use Rattle.graphs.proofs.Counting.{at, total-same, total-add, total_at, pairs-same, pairs-add, pairs_at}

pub bit-xor : (a b : Bool) → bit (xor a b) + 2 * (bit a * bit b) ≡ bit a + bit b
bit-xor false false = refl
bit-xor false true = refl
bit-xor true false = refl
bit-xor true true = refl

pub and_bit : (a b : Bool) → bit (a && b) ≡ bit a * bit b
and_bit false false = refl
and_bit false true = refl
and_bit true false = refl
and_bit true true = refl

pub bit_square : (a : Bool) → bit a * bit a ≡ bit a
bit_square false = refl
bit_square true = refl

-- setting the bit of u adds one there
pub bit-put : (x : Bits) (u : ℕ) → x u ≡ false → (s : ℕ) → bit (put x u s) ≡ bit (x s) + at u s
bit-put x u off s = go (eqb s u) refl
  where
    go : (b : Bool) → eqb s u ≡ b → bit (cond b true (x s)) ≡ bit (x s) + bit b
    go true e = let none : x s ≡ false = ap x (eqb-true s u e) ∙ off in let z = ap bit none in omega arith
    go false e = omega arith

expand : (a b d e m : ℕ) → d * e ≡ 0 → (a + d) * (b + e) * m ≡ a * b * m + (d * b + a * e) * m
expand a b d e m z = let y = ap (λ t. t * m) z in omega arith

-- two slots are not both u
never_both : (u s t : ℕ) → s < t → at u s * at u t ≡ 0
never_both u s t l = go (eqb s u) (eqb t u) refl refl
  where
    go : (a b : Bool) → eqb s u ≡ a → eqb t u ≡ b → bit a * bit b ≡ 0
    go true true p q = let e = eqb-true s u p in let f = eqb-true t u q in absurd (omega arith)
    go true false p q = refl
    go false true p q = refl
    go false false p q = refl

-- how many neighbours of u are set
abbrev pub beside : ℕ → Graph → ℕ → Bits → ℕ
beside n G u x = total n (λ s. bit (x s) * bit (G.edge u s))

-- one more neighbour is set
pub beside_put : (n u v : ℕ) (G : Graph) (x : Bits) → v < n → x v ≡ false → G.edge u v ≡ true → beside n G u (put x v) ≡ beside n G u x + 1
beside_put n u v G x low off joined =
    let apart = total-same n (λ s. bit (put x v s) * bit (G.edge u s)) (λ s. bit (x s) * bit (G.edge u s) + at v s * bit (G.edge u s)) (λ s l. rw (bit-put x v off s) (omega arith)) in
    let both = total-add n (λ s. bit (x s) * bit (G.edge u s)) (λ s. at v s * bit (G.edge u s)) in
    let one = total_at n v (λ s. bit (G.edge u s)) low ∙ ap bit joined in
    omega arith

-- the quarter turns once the bit of u is set: its phase more, and two for each neighbour that is set
module _ (n u : ℕ) (G : Graph) (good : SoundGraph n G) (x : Bits) (low : u < n) (off : x u ≡ false) where
  phases-put : total n (λ s. bit (put x u s) * G.phase s) ≡ total n (λ s. bit (x s) * G.phase s) + G.phase u
  phases-put =
      let apart = total-same n (λ s. bit (put x u s) * G.phase s) (λ s. bit (x s) * G.phase s + at u s * G.phase s) (λ s l. rw (bit-put x u off s) (omega arith)) in
      let both = total-add n (λ s. bit (x s) * G.phase s) (λ s. at u s * G.phase s) in
      let one = total_at n u (λ s. G.phase s) low in
      omega arith

  edges-put : pairs n (λ s t. bit (put x u s) * bit (put x u t) * bit (G.edge s t)) ≡ pairs n (λ s t. bit (x s) * bit (x t) * bit (G.edge s t)) + beside n G u x
  edges-put =
      let old = λ (s t : ℕ). bit (x s) * bit (x t) * bit (G.edge s t) in
      let new = λ (s t : ℕ). (at u s * bit (x t) + bit (x s) * at u t) * bit (G.edge s t) in
      let apart : pairs n (λ s t. bit (put x u s) * bit (put x u t) * bit (G.edge s t)) ≡ pairs n (λ s t. bit (x s) * bit (x t) * bit (G.edge s t) + (at u s * bit (x t) + bit (x s) * at u t) * bit (G.edge s t)) =
      pairs-same n _ _ (λ s t l k. rw (bit-put x u off s, bit-put x u off t) (expand (bit (x s)) (bit (x t)) (at u s) (at u t) (bit (G.edge s t)) (never_both u s t l))) in
      let both = pairs-add n old new in
      let one = pairs_at n u (λ s. bit (x s)) (λ s t. bit (G.edge s t)) low (ap bit off) (λ s t. ap bit (good.symmetric s t)) in
      omega arith

  pub turns-put : turns n G (put x u) ≡ turns n G x + (G.phase u + 2 * beside n G u x)
  unfolding turns
  turns-put = let a = phases-put in let b = edges-put in omega arith
