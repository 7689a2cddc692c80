-- What holds of the scalars √2^a·w^m, and of amounts with a power of √2 in front that may be negative. Assumes nothing.
use Rattle.std.specs.Prelude.{◌≡◌, ◌↔◌, ℕ, ◌<◌, ℤ, pos, negsuc, ◌-ℤ◌}
use borrow.Author.Differences.{up}
use Rattle.amounts.specs.Amounts.{power, turned, quarter, root_two}
use Rattle.amounts.specs.Eighths.{Eighths, none, times, eighths}

-- √2^a, and √2^a·w^m
abbrev pub rooted : ℕ → Eighths
rooted a = power eighths (root_two eighths) a

abbrev pub scalar : ℕ → ℕ → Eighths
scalar a m = times (rooted a) (turned eighths m)

-- √2 = w - w³, and i = w²
abbrev pub RootTwoIs : Type 0
RootTwoIs = root_two eighths ≡ record { c0 = pos 0; c1 = pos 1; c2 = pos 0; c3 = negsuc 0 }

abbrev pub QuarterIs : Type 0
QuarterIs = quarter eighths ≡ record { c0 = pos 0; c1 = pos 0; c2 = pos 1; c3 = pos 0 }

-- a factor √2 on both sides may be left out
abbrev pub RootCancels : Type 0
RootCancels = (z y : Eighths) → times (root_two eighths) z ≡ times (root_two eighths) y → z ≡ y

-- a scalar tells its power of √2 and, below a full turn, its power of w
abbrev pub ScalarTold : Type 0
ScalarTold = (a b m n : ℕ) → m < 8 → n < 8 → scalar a m ≡ scalar b n → (a ≡ b) × (m ≡ n)

-- no scalar is zero
abbrev pub ScalarNotZero : Type 0
ScalarNotZero = (a m : ℕ) → ¬ (scalar a m ≡ none)

-- √2^k·z, where k may be negative
pub record Scaled : Type 0 where
  pub k : ℤ
  pub z : Eighths

-- by how much k exceeds l, and 0 where it does not
abbrev pub excess : ℤ → ℤ → ℕ
excess k l = up (k -ℤ l)

-- the same amount: equal once the lesser power of √2 is taken out of both
abbrev pub Same : Scaled → Scaled → Type 0
Same x y = times (rooted (excess x.k y.k)) x.z ≡ times (rooted (excess y.k x.k)) y.z

-- to be the same amount is an equivalence
pub record SameEquivalence : Type 0 where
  pub reflexive : (x : Scaled) → Same x x
  pub symmetric : (x y : Scaled) → Same x y → Same y x
  pub transitive : (x y t : Scaled) → Same x y → Same y t → Same x t

-- at one power of √2, the same amount is the same number
abbrev pub SameAtOnePower : Type 0
SameAtOnePower = (k : ℤ) (z y : Eighths) → Same (record { k = k; z = z }) (record { k = k; z = y }) ↔ (z ≡ y)
