-- An answer about what a circuit was loaded into is one about the circuit. Assumes nothing.
use Rattle.std.proofs.Common.{ℕ, Bool, List, sym, subst}
use Rattle.amounts.specs.Eighths.{unit}
use Rattle.amounts.specs.Scalars.{Same}
use Rattle.amounts.proofs.Scalars.{same_equivalence}
use Rattle.amplitudes.specs.Items.{amplitude}
use Rattle.circuits.specs.Circuits.{circuit}
use Rattle.matrices.specs.Matrices.{gates_amplitude}
use Rattle.matrices.proofs.Whole.{texts_are_matrices}
use Rattle.models.specs.Models.{Model, amount, scaled_by}
use Rattle.loadings.specs.Laws.{KeptByLoading}
use Rattle.reductions.specs.Answers.{Answer as Answered, Right}
use Rattle.reductions.proofs.Told.{zero_told}
use Rattle.archive.specs.Questions.{bits}
use Rattle.deposits.specs.Input.{line_of, circuit_of}
use Rattle.replies.specs.Input.{row_bytes}
use Rattle.replies.specs.Laws.{CircuitAnswered}

pub circuit-answered : (bs : List ℕ) (m : Model) (a : Answered) → KeptByLoading (circuit (circuit_of bs)).items m → Right m (bits (row_bytes (line_of bs))) a → CircuitAnswered bs a
circuit-answered bs m a kept right =
    let row = bits (row_bytes (line_of bs)) in
    let x = amplitude (circuit (circuit_of bs)).items row in
    let same = same_equivalence.transitive x (amount m row) (scaled_by a.scalar unit) (kept.amplitude row) right.same in record {
      items = same;
      zero = zero_told x a.scalar same;
      gates = λ n gs p q spells e. same_equivalence.transitive (gates_amplitude n gs p q) x (scaled_by a.scalar unit) (same_equivalence.symmetric x (gates_amplitude n gs p q) (subst (λ (r : List Bool). Same (amplitude (circuit (circuit_of bs)).items r) (gates_amplitude n gs p q)) (sym e) (texts_are_matrices n gs (circuit_of bs) p q spells))) same;
    }
