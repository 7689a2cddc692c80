-- An answer is the circuit's own amplitude. Assumes nothing.
use Rattle.std.specs.Prelude.{◌≡◌, ℕ, ◌<◌, ◌↔◌, List, Ok, Err}
use Rattle.amounts.specs.Eighths.{none, unit}
use Rattle.amounts.specs.Scalars.{Same}
use Rattle.graphs.specs.Graphs.{Bits}
use Rattle.amplitudes.specs.Items.{amplitude}
use Rattle.circuits.specs.declared.gates.Gate.{Gate}
use Rattle.circuits.specs.Circuits.{circuit}
use Rattle.circuits.specs.Spelling.{Spells}
use Rattle.matrices.specs.Matrices.{row_of, gates_amplitude}
use Rattle.models.specs.Models.{nothing, scaled_by}
use Rattle.reductions.specs.Answers.{Answer as Answered}
use Rattle.archive.specs.Questions.{bits}
use Rattle.deposits.specs.Input.{line_of, circuit_of}
use Rattle.replies.specs.Input.{row_bytes}
use Rattle.replies.specs.Reports.{Reply}

-- the amplitude of the circuit's items at the row, zero exactly where that is, and what the matrices of its gates
-- make of the row's inputs at its outputs
pub record CircuitAnswered (bs : List ℕ) (a : Answered) : Type 0 where
  pub items : Same (amplitude (circuit (circuit_of bs)).items (bits (row_bytes (line_of bs)))) (scaled_by a.scalar unit)
  pub zero : (a.scalar ≡ nothing) ↔ ((amplitude (circuit (circuit_of bs)).items (bits (row_bytes (line_of bs)))).z ≡ none)
  pub gates : (n : ℕ) (gs : List Gate) (x y : Bits) → Spells n gs (circuit_of bs) → bits (row_bytes (line_of bs)) ≡ row_of n x y → Same (gates_amplitude n gs x y) (scaled_by a.scalar unit)

abbrev pub RightReply : List ℕ → Reply → Type 0
RightReply bs (Ok a) = CircuitAnswered bs a
RightReply bs (Err why) = 0 < 1
