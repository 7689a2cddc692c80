-- The row that a deposit's first line spells. Assumes nothing.
use Rattle.std.specs.Prelude.{ℕ, if◌then◌else◌, List, map, ◌==◌}

-- a character of the row: 0 and 1 are bits, and any other counts as 2
abbrev pub row_byte : ℕ → ℕ
row_byte b = if b == 48 then 0 else if b == 49 then 1 else 2

abbrev pub row_bytes : List ℕ → List ℕ
row_bytes bs = map row_byte bs
