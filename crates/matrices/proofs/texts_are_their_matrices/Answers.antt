use Rattle.matrices.proofs.Whole.{texts_are_matrices, accepted_texts_are_matrices}
use Rattle.matrices.proofs.texts_are_their_matrices.Goals as goal

pub returns : goal.returns
returns c = record { spelled = texts_are_matrices; accepted = accepted_texts_are_matrices }
