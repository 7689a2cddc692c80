use Rattle.std.proofs.Common.{◌≡◌, ◌-◌}
use Rattle.std.specs.Slice.Iter.{iter_rest}
use Rattle.reductions.specs.Answers.{closed, closed_from}
use Rattle.graphlike.specs.Diagrams.{model}
use Rattle.archive.specs.Questions.{bits}
use Rattle.archive.proofs.answer.close_all.Given as goal

abbrev pub invariant-loop-number : goal.invariant-loop-number
invariant-loop-number l =
    closed (bits l.row) (model l.initial.work) ≡ closed_from (64 - l.number) l.number (bits (iter_rest l.bytes)) (model l.work)
