-- The answer to a row is the amount there, and the same amount is answered alike. Assumes nothing.
use Rattle.std.proofs.Common.{Bool, List, [], arith}
use Rattle.amounts.specs.Eighths.{unit}
use Rattle.amounts.specs.Scalars.{Same}
use Rattle.amounts.proofs.Scalars.{same_equivalence}
use Rattle.models.specs.Models.{Model, Sound, slots, amount, scaled_by}
use Rattle.models.proofs.Counts.{standing_most}
use Rattle.reductions.specs.Runs.{reduced}
use Rattle.reductions.specs.Answers.{closed, answered, Right, AnswersAreRight, AnswersAlike}
use Rattle.reductions.proofs.Closing.{Closed, closed_is}
use Rattle.reductions.proofs.Ends.{Ended, reduced_ends, ended-scalar}
use Rattle.reductions.proofs.Told.{zero_told, scalars_told}

module _ (m : Model) (row : List Bool) (good : Sound m) where
  shut : Closed m row (closed row m)
  shut = closed_is m row good

  ended : Ended (closed row m) (reduced slots (closed row m))
  ended = reduced_ends slots (closed row m) shut.sound shut.none (standing_most (closed row m))

  answer-same : Same (amount m row) (scaled_by (answered row m).scalar unit)
  answer-same = same_equivalence.transitive (amount m row) (amount (closed row m) []) (scaled_by (answered row m).scalar unit) shut.same (ended-scalar (closed row m) (reduced slots (closed row m)) ended)

  answer_right : Right m row (answered row m)
  answer_right = record {
    same = answer-same;
    zero = zero_told (amount m row) (answered row m).scalar answer-same;
    few = let a = ended.few in let b = shut.few in omega arith;
  }

pub answers_are_right : AnswersAreRight
answers_are_right m good row = answer_right m row good

pub answers_alike : AnswersAlike
answers_alike m n row line a b e = scalars_told _ _ (ended m row a).sound.turn (ended n line b).sound.turn
    (same_equivalence.transitive (scaled_by (answered row m).scalar unit) (amount m row) (scaled_by (answered line n).scalar unit)
    (same_equivalence.symmetric (amount m row) (scaled_by (answered row m).scalar unit) (answer-same m row a))
    (same_equivalence.transitive (amount m row) (amount n line) (scaled_by (answered line n).scalar unit) e (answer-same n line b)))
