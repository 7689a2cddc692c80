-- What joint tests tell, and that toggling does not mind the order. Assumes nothing.
use Rattle.std.proofs.Common.{◌≡◌, ℕ, Bool, true, false, ◌&&◌, ◌||◌, eqb, ◌⊎◌, sym, refl, ◌∙◌, inl, inr, true≢false, eq-eqb, eqb-true}
use Rattle.graphs.specs.Rules.{xor}

-- what a joint test tells
pub both_true : (a b : Bool) → a && b ≡ true → (a ≡ true) × (b ≡ true)
both_true true b e = (refl, e)
both_true false b e = absurd (true≢false (sym e))

pub either_true : (a b : Bool) → a || b ≡ true → (a ≡ true) ⊎ (b ≡ true)
either_true true b e = inl refl
either_true false b e = inr e

pub one_true : (a b : Bool) → xor a b ≡ true → (a ≡ true) ⊎ (b ≡ true)
one_true true b e = inl refl
one_true false b e = inr e

pub xor_comm : (a b : Bool) → xor a b ≡ xor b a
xor_comm true true = refl
xor_comm true false = refl
xor_comm false true = refl
xor_comm false false = refl

pub xor_same : (a : Bool) → xor a a ≡ false
xor_same true = refl
xor_same false = refl

pub eqb_comm : (s t : ℕ) → eqb s t ≡ eqb t s
eqb_comm s t = go (eqb s t) (eqb t s) refl refl
  where
    go : (a b : Bool) → eqb s t ≡ a → eqb t s ≡ b → a ≡ b
    go true true p q = refl
    go true false p q = sym (eq-eqb t s (sym (eqb-true s t p))) ∙ q
    go false true p q = sym p ∙ eq-eqb s t (sym (eqb-true t s q))
    go false false p q = refl
