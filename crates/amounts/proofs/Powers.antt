-- Powers in any lawful system of amounts. Assumes nothing.
use mathlib.Core.Path.{◌≡◌, sym, ap, ◌∙◌}
use Prim.Native.Nat.{ℕ, zero, suc, ◌+◌}
use native.Mathlib.Nat.{zero-add, suc-add}
use Rattle.amounts.specs.Amounts.{Amounts, power, Lawful}

module _ (A : Amounts) (law : Lawful A) where
  open A use {Amount, one, mul}

  pub one-mul : (x : Amount) → mul one x ≡ x
  one-mul x = law.mul_comm one x ∙ law.mul_one x

  pub power-add : (x : Amount) (m n : ℕ) → power A x (m + n) ≡ mul (power A x m) (power A x n)
  unfolding power
  power-add x zero n = rw (zero-add n) (sym (one-mul (power A x n)))
  power-add x (suc m) n = rw (suc-add m n) (ap (mul x) (power-add x m n) ∙ sym (law.mul_assoc x (power A x m) (power A x n)))

  pub mul-mul : (x p y q : Amount) → mul (mul x p) (mul y q) ≡ mul (mul x y) (mul p q)
  mul-mul x p y q =
      let inner = sym (law.mul_assoc p y q) ∙ ap (λ t. mul t q) (law.mul_comm p y) ∙ law.mul_assoc y p q in
      law.mul_assoc x p (mul y q) ∙ ap (mul x) inner ∙ sym (law.mul_assoc x y (mul p q))

  -- where xy = 1, their powers cancel
  pub powers_cancel : (x y : Amount) → mul x y ≡ one → (n : ℕ) → mul (power A x n) (power A y n) ≡ one
  unfolding power
  powers_cancel x y e zero = law.mul_one one
  powers_cancel x y e (suc n) = mul-mul x (power A x n) y (power A y n) ∙ ap (λ t. mul t (mul (power A x n) (power A y n))) e ∙ one-mul _ ∙ powers_cancel x y e n
