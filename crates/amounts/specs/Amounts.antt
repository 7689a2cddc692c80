-- Systems of amounts: what can be added and multiplied, and has an eighth turn w. Assumes nothing.
use Rattle.std.specs.Prelude.{◌≡◌, ℕ, zero, suc}

-- the operations
pub record Amounts : Type 1 where
  pub Amount : Type 0
  pub zero : Amount
  pub one : Amount
  pub w : Amount
  pub add : Amount → Amount → Amount
  pub mul : Amount → Amount → Amount

-- x to the power n
unfoldable pub power : (A : Amounts) → A.Amount → ℕ → A.Amount
power A x zero = A.one
power A x (suc n) = A.mul x (power A x n)

-- the laws: a commutative semiring, in which w⁴ + 1 is zero. There is no need of negatives: -1 is w⁴
pub record Lawful (A : Amounts) : Type 0 where
  pub add_comm : (x y : A.Amount) → A.add x y ≡ A.add y x
  pub add_assoc : (x y z : A.Amount) → A.add (A.add x y) z ≡ A.add x (A.add y z)
  pub add_zero : (x : A.Amount) → A.add x A.zero ≡ x
  pub mul_comm : (x y : A.Amount) → A.mul x y ≡ A.mul y x
  pub mul_assoc : (x y z : A.Amount) → A.mul (A.mul x y) z ≡ A.mul x (A.mul y z)
  pub mul_one : (x : A.Amount) → A.mul x A.one ≡ x
  pub mul_zero : (x : A.Amount) → A.mul x A.zero ≡ A.zero
  pub mul_add : (x y z : A.Amount) → A.mul x (A.add y z) ≡ A.add (A.mul x y) (A.mul x z)
  pub half_turn : A.add (power A A.w 4) A.one ≡ A.zero

-- w to the power n; a quarter turn is w²; the root of two is w - w³, that is w + w⁷
abbrev pub turned : (A : Amounts) → ℕ → A.Amount
turned A n = power A A.w n

abbrev pub quarter : (A : Amounts) → A.Amount
quarter A = turned A 2

abbrev pub root_two : (A : Amounts) → A.Amount
root_two A = A.add (turned A 1) (turned A 7)

-- the operations on the values of S, and the system that they make
pub record Operations (S : Type 0) : Type 0 where
  pub nothing : S
  pub unit : S
  pub eighth : S
  pub sum : S → S → S
  pub product : S → S → S

abbrev pub amounts_of : (S : Type 0) → Operations S → Amounts
amounts_of S on = record { Amount = S; zero = on.nothing; one = on.unit; w = on.eighth; add = on.sum; mul = on.product }
