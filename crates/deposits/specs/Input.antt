-- The two parts of a deposit's bytes. Assumes nothing.
use Rattle.std.specs.Prelude.{ℕ, ◌+◌, List, length, position, take, drop, ◌==◌}
use Rattle.std.specs.Option.{unwrap_or}

-- the most bytes that the program takes
abbrev pub input_limit : ℕ
input_limit = 60000

-- how many bytes stand before the first line end, or all where there is none
abbrev pub row_length : List ℕ → ℕ
row_length bs = unwrap_or (position (λ b. b == 10) bs) (length bs)

-- the first line
abbrev pub line_of : List ℕ → List ℕ
line_of bs = take (row_length bs) bs

-- what follows it
abbrev pub circuit_of : List ℕ → List ℕ
circuit_of bs = drop (row_length bs + 1) bs
