use Rattle.std.proofs.Common.{◌≡◌, ◌+◌, eqb, Some, None, sym, ap, ◌∙◌, add-one}
use Rattle.std.specs.Option.{option_eq}
use Rattle.std.specs.Slice.Iter.{iter_rest}
use Rattle.reductions.specs.Answers.{closed_from, closed_leg}
use Rattle.reductions.proofs.Closing.{closed_none, closed_some}
use Rattle.parts.specs.Tables.{open_leg, maybe_leg}
use Rattle.graphlike.specs.Diagrams.{model}
use Rattle.archive.specs.Questions.{bits}
use Rattle.archive.proofs.Rows.{came_off}
use Rattle.archive.proofs.answer.close_number.Goals as goal

pub returns-in-Some-leg : goal.returns-in-Some-leg
returns-in-Some-leg c low n =
    let m = model c.args.work.now in
    let l = c.args.number in
    let row = bits (iter_rest c.args.bytes.now) in
    let o = open_leg c.in-Some-leg.«open» in
    let at = c.in-Some.ensures.0 in
    let here : m.leg l ≡ Some o = ap m.leg (sym at) ∙ sym c.leg.ensures ∙ ap maybe_leg c.in-Some-leg.is in
    let off = came_off c.args.bytes.now c.next.new.self c.next.result c.next.ensures.steps in
    let bit = off.0 ∙ ap (λ r. option_eq eqb r (Some 1)) (sym c.copied.ensures) ∙ sym c.eq-bit.ensures in
    ap (λ k. closed_from k l row m) (add-one n)
    ∙ closed_some n l row m o here
    ∙ (λ i. closed_from n (sym (add-one l) i) (off.1 i) (closed_leg (sym at i) o (bit i) m))
    ∙ sym (ap (closed_from n (l + 1) (bits (iter_rest c.next.new.self))) c.close.ensures)

pub returns-in_default-leg : goal.returns-in_default-leg
returns-in_default-leg c low n =
    let m = model c.args.work.now in
    let l = c.args.number in
    let row = bits (iter_rest c.args.bytes.now) in
    let none : m.leg l ≡ None = ap m.leg (sym c.in-Some.ensures.0) ∙ sym c.leg.ensures ∙ ap maybe_leg c.in_default-leg.is in
    ap (λ k. closed_from k l row m) (add-one n) ∙ closed_none n l row m none ∙ ap (λ k. closed_from n k row m) (sym (add-one l))
