-- The limits of a diagram's items. Assumes nothing.
use Rattle.std.specs.Prelude.{ℕ}

-- the largest exponent of the root of two, either way
abbrev pub limit : ℕ
limit = 30000
