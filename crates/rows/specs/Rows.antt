-- The slots that a row of words holds. Assumes nothing.
use Rattle.std.specs.Prelude.{◌≡◌, ℕ, ◌/◌, ◌%◌, ◌^◌, ◌<◌, Bool, true, false, if◌then◌else◌, ◌==◌, nat_eq, slice_index}
use Rattle.graphs.specs.Counts.{bit, total}
use Rattle.rows.specs.declared.row.Row.{Row}

-- bit k of a word
unfoldable pub bit_of : ℕ → ℕ → Bool
bit_of w k = w / 2 ^ k % 2 == 1

-- how many bits of a word are set
abbrev pub bits_in : ℕ → ℕ
bits_in w = total 64 (λ k. bit (bit_of w k))

-- whether slot i is in the row; none past the words is
abbrev pub has : Row → ℕ → Bool
has r i = bit_of (slice_index r.words (i / 64)) (i % 64)

-- no slot is in the row
abbrev pub IsBare : Row → Type 0
IsBare r = (i : ℕ) → has r i ≡ false

-- slot n is the lowest of the row
abbrev pub IsLowest : Row → ℕ → Type 0
IsLowest r n = (has r n ≡ true) × ((i : ℕ) → i < n → has r i ≡ false)

-- slot n is the lowest of the one row, and the other is what is left without it
abbrev pub TakesLowest : Row → ℕ → Row → Type 0
TakesLowest r n t = IsLowest r n × ((i : ℕ) → has t i ≡ (if nat_eq i n then false else has r i))
