-- The edges between slots, and the phases of slots, as rows of bits hold them. Assumes nothing.
use Rattle.std.specs.Prelude.{◌≡◌, ℕ, ◌+◌, ◌*◌, ◌%◌, Bool, [], ◌==◌, slice_index_or}
use Rattle.graphs.specs.Counts.{bit}
use Rattle.graphs.specs.Rules.{xor}
use Rattle.rows.specs.declared.row.Row.{Row}
use Rattle.rows.specs.Rows.{has}
use Rattle.links.specs.declared.links.Links.{Links}
use Rattle.links.specs.declared.phases.Phases.{Phases}

-- no slot from 320 on has an edge
abbrev pub no_row : Row
no_row = record { words = [] }

-- whether slots s and t are joined
unfoldable pub linked : Links → ℕ → ℕ → Bool
linked l s t = has (slice_index_or l.rows s no_row) t

-- what joins slots s and t is turned over where the test of them says so, and nowhere else
abbrev pub Toggled : Links → Links → (ℕ → ℕ → Bool) → Type 0
Toggled old new test = (s t : ℕ) → linked new s t ≡ xor (linked old s t) (test s t)

-- the quarter turns of slot s: one where it is odd, and two where it has a half turn
abbrev pub phase_at : Phases → ℕ → ℕ
phase_at p s = bit (has p.odd s) + 2 * bit (has p.half s)

abbrev pub odd_at : ℕ → Bool
odd_at p = p % 2 == 1
