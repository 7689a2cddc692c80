-- Sums of natural numbers over slots and over pairs of slots. Assumes nothing.
use Rattle.std.specs.Prelude.{ℕ, zero, suc, ◌+◌, Bool, true, false}

abbrev pub bit : Bool → ℕ
bit true = 1
bit false = 0

-- the sum of f over the slots below n
unfoldable pub total : ℕ → (ℕ → ℕ) → ℕ
total zero f = 0
total (suc n) f = total n f + f n

-- the sum of h over the pairs s < t of slots below n
unfoldable pub pairs : ℕ → (ℕ → ℕ → ℕ) → ℕ
pairs zero h = 0
pairs (suc n) h = pairs n h + total n (λ s. h s n)
