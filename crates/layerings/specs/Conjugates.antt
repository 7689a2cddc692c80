-- Conjugation of exact amounts: every turn is turned back, w becomes w⁷. Assumes nothing.
use Rattle.std.specs.Prelude.{◌≡◌, ◌↔◌, ℕ, ◌*◌, ◌-◌, ◌%◌, ◌<◌, neg_ℤ}
use Rattle.amounts.specs.Amounts.{power, turned, root_two}
use Rattle.amounts.specs.Eighths.{Eighths, none, unit, eighth_turn, plus, times, eighths}
use Rattle.amounts.specs.Scalars.{scalar, Scaled, Same}

-- c0 + c1·w + c2·w² + c3·w³ becomes c0 - c3·w - c2·w² - c1·w³
unfoldable pub conj : Eighths → Eighths
conj a = record { c0 = a.c0; c1 = neg_ℤ a.c3; c2 = neg_ℤ a.c2; c3 = neg_ℤ a.c1 }

-- it keeps sums, products, 0, 1 and √2, and turns every power of w back
pub record Conjugation : Type 0 where
  pub of_sum : (a b : Eighths) → conj (plus a b) ≡ plus (conj a) (conj b)
  pub of_product : (a b : Eighths) → conj (times a b) ≡ times (conj a) (conj b)
  pub of_none : conj none ≡ none
  pub of_unit : conj unit ≡ unit
  pub of_root : conj (root_two eighths) ≡ root_two eighths
  pub of_turns : (n : ℕ) → conj (turned eighths n) ≡ turned eighths (8 * n - n)
  pub of_powers : (n : ℕ) → conj (turned eighths n) ≡ power eighths (conj eighth_turn) n
  pub turns_back : (n : ℕ) → times (turned eighths n) (conj (turned eighths n)) ≡ unit
  pub twice : (a : Eighths) → conj (conj a) ≡ a

-- the conjugate of √2^a·w^m is √2^a·w^(-m), and only 0 has the conjugate 0
abbrev pub ConjugateScalar : Type 0
ConjugateScalar = (a m : ℕ) → m < 8 → conj (scalar a m) ≡ scalar a ((8 - m) % 8)

abbrev pub ConjugateNone : Type 0
ConjugateNone = (z : Eighths) → (conj z ≡ none) ↔ (z ≡ none)

-- the conjugate of √2^k·z, which √2 does not feel
abbrev pub conjugate : Scaled → Scaled
conjugate x = record { k = x.k; z = conj x.z }

abbrev pub ConjugateSame : Type 0
ConjugateSame = (x y : Scaled) → Same x y ↔ Same (conjugate x) (conjugate y)
