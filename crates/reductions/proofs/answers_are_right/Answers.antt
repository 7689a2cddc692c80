use Rattle.reductions.proofs.Answering.{answers_are_right, answers_alike}
use Rattle.reductions.proofs.answers_are_right.Goals as goal

pub returns : goal.returns
returns c = record { right = answers_are_right; alike = answers_alike }
