use Rattle.matrices.proofs.Whole.{circuits_are_matrices}
use Rattle.matrices.proofs.circuits_are_their_matrices.Goals as goal

pub returns : goal.returns
returns c = circuits_are_matrices
