use Rattle.std.proofs.Common.{◌≡◌, ◌+◌, ◌-◌, sym, ap, ◌∙◌, arith}
use Rattle.std.specs.Slice.Iter.{iter_rest}
use Rattle.reductions.specs.Answers.{closed_from}
use Rattle.graphlike.specs.Diagrams.{model}
use Rattle.archive.specs.Questions.{bits}
use Rattle.archive.proofs.Rows.{closed_end}
use Rattle.archive.proofs.answer.close_all.Goals as goal

pub loop-number-preserved : goal.loop-number-preserved
loop-number-preserved c =
    let l = c.loop-number.number in
    let low = c.loop-number-test.true in
    let left : 64 - l ≡ 64 - (l + 1) + 1 = omega arith in
    c.loop-number.invariant
    ∙ ap (λ k. closed_from k l (bits (iter_rest c.loop-number.bytes)) (model c.loop-number.work)) left
    ∙ c.close_number.ensures low (64 - (l + 1))

pub returns : goal.returns
returns c =
    let l = c.loop-number.number in
    let row = bits (iter_rest c.loop-number.bytes) in
    let end = c.loop-number-test.false in
    let none : 64 - l ≡ 0 = omega arith in
    sym (c.loop-number.invariant ∙ ap (λ k. closed_from k l row (model c.loop-number.work)) none ∙ closed_end l row (model c.loop-number.work))
