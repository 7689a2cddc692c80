-- A question for the amplitude at a row of bytes, and its answer. Assumes nothing.
use Rattle.std.specs.Prelude.{ℕ, ◌+◌, Bool, true, false, List, [], ◌∷◌, length, Some, None, Ok, Err, Option, Result, ◌==◌, nat_lt}
use Rattle.refusals.specs.declared.AskRefusal.{AskRefusal}
use Rattle.refusals.specs.declared.AskRefusal.TheVariants.{RowLength, RowByte}
use Rattle.models.specs.Models.{Model, open_count}
use Rattle.parts.specs.Scales.{scale_of}
use Rattle.reductions.specs.Answers.{Answer as Answered, answered}
use Rattle.archive.specs.declared.answer.Answer.{Answer}

-- a row of bytes as bits
abbrev pub bits : List ℕ → List Bool
bits [] = []
bits (b ∷ bs) = (b == 1) ∷ bits bs

-- the place of the first byte that is no bit, counted from n
abbrev pub first_bad : List ℕ → ℕ → Option ℕ
first_bad [] n = None
first_bad (b ∷ bs) n = elim (nat_lt 1 b) [ true ↦ Some n | false ↦ first_bad bs (n + 1) ]

abbrev pub judged : Option ℕ → List ℕ → Model → Result Answered AskRefusal
judged (Some p) row m = Err (RowByte p)
judged None row m = Ok (answered (bits row) m)

-- a row of another length than the open legs is refused, then one with a byte that is no bit, at its place
abbrev pub asked : List ℕ → Model → Result Answered AskRefusal
asked row m = elim (length row == open_count m) [ false ↦ Err RowLength | true ↦ judged (first_bad row 0) row m ]

-- the refusals alone
abbrev pub judged_byte : Option ℕ → Result Prim.Unit AskRefusal
judged_byte (Some p) = Err (RowByte p)
judged_byte None = Ok tt

abbrev pub judged_row : List ℕ → Model → Result Prim.Unit AskRefusal
judged_row row m = elim (length row == open_count m) [ false ↦ Err RowLength | true ↦ judged_byte (first_bad row 0) ]

abbrev pub answer_is : Answer → Answered
answer_is a = record { scalar = scale_of a.scalar; steps = a.steps }
