-- Powers of the eighth turn in any lawful system: they go round after eight. Assumes nothing.
use mathlib.Core.Path.{◌≡◌, refl, sym, ap, ap₂, ◌∙◌}
use Prim.Native.Nat.{ℕ, zero, suc, ◌+◌, ◌*◌, ◌/◌, ◌%◌}
use native.Mathlib.Omega.{arith}
use Rattle.amounts.specs.Amounts.{Amounts, Lawful, power, turned}
use Rattle.amounts.proofs.Powers.{power-add}

module _ (A : Amounts) (laws : Lawful A) where
  pub zero-plus : (x : A.Amount) → A.add A.zero x ≡ x
  zero-plus x = laws.add_comm A.zero x ∙ laws.add_zero x

  pub add-mul : (x y z : A.Amount) → A.mul (A.add x y) z ≡ A.add (A.mul x z) (A.mul y z)
  add-mul x y z = laws.mul_comm (A.add x y) z ∙ laws.mul_add z x y ∙ ap₂ A.add (laws.mul_comm z x) (laws.mul_comm z y)

  pub turned-add : (m n : ℕ) → turned A (m + n) ≡ A.mul (turned A m) (turned A n)
  turned-add m n = power-add A laws A.w m n

  pub turned_none : turned A 0 ≡ A.one
  unfolding power
  turned_none = refl

  -- half a turn further is the opposite
  pub opposite : (n : ℕ) → A.add (turned A (n + 4)) (turned A n) ≡ A.zero
  opposite n =
      ap₂ A.add (turned-add n 4) (sym (laws.mul_one (turned A n)))
      ∙ sym (laws.mul_add (turned A n) (turned A 4) A.one)
      ∙ ap (A.mul (turned A n)) laws.half_turn
      ∙ laws.mul_zero (turned A n)

  pub whole-turn : turned A 8 ≡ A.one
  whole-turn =
      sym (laws.add_zero (turned A 8))
      ∙ ap (A.add (turned A 8)) (sym laws.half_turn)
      ∙ sym (laws.add_assoc (turned A 8) (turned A 4) A.one)
      ∙ ap (λ t. A.add t A.one) (opposite 4)
      ∙ zero-plus A.one

  pub turned_round : (m j : ℕ) → turned A (m + 8 * j) ≡ turned A m
  turned_round m zero = ap (turned A) (omega arith)
  turned_round m (suc j) =
      let far : m + 8 * suc j ≡ m + 8 * j + 8 = omega arith in
      ap (turned A) far ∙ turned-add (m + 8 * j) 8 ∙ ap (A.mul (turned A (m + 8 * j))) whole-turn ∙ laws.mul_one (turned A (m + 8 * j)) ∙ turned_round m j

  pub turned_same : (m n : ℕ) → m % 8 ≡ n % 8 → turned A m ≡ turned A n
  turned_same m n e =
      let a : m ≡ m % 8 + 8 * (m / 8) = omega arith in
      let b : n ≡ m % 8 + 8 * (n / 8) = omega arith in
      ap (turned A) a ∙ turned_round (m % 8) (m / 8) ∙ sym (turned_round (m % 8) (n / 8)) ∙ sym (ap (turned A) b)
