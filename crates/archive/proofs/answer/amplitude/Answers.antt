use Rattle.std.proofs.Common.{◌≡◌, Ok, sym, ap, ◌∙◌, subst}
use Rattle.models.specs.Models.{Model}
use Rattle.reductions.specs.Runs.{reduced}
use Rattle.reductions.specs.Answers.{Answer as Answered, answered, Right}
use Rattle.reductions.proofs.Answering.{answers_are_right}
use Rattle.parts.specs.Scales.{scale_of}
use Rattle.graphlike.specs.Diagrams.{model}
use Rattle.graphlike.proofs.Sounds.{sound}
use Rattle.archive.specs.Questions.{bits}
use Rattle.archive.proofs.Rows.{not_refused}
use Rattle.archive.proofs.answer.amplitude.Goals as goal

pub returns : goal.returns
returns c =
    let m = model c.args.diagram.now in
    let row = c.args.row.now in
    let scalar = c.scalar-scalar.ensures ∙ ap (λ (n : Model). n.scalar) (c.reduce-ran.ensures.after ∙ ap (λ (n : Model). (reduced 320 n).model) c.close_all.ensures) in
    let steps = c.reduce-ran.ensures.steps ∙ ap (λ (n : Model). (reduced 320 n).steps) c.close_all.ensures in
    let given : Answered = record { scalar = scale_of c.scalar-scalar.result; steps = c.reduce-ran.result.steps } in
    let same : answered (bits row) m ≡ given = (λ i. record { scalar = sym scalar i; steps = sym steps i }) in record {
      value = not_refused row m (sym c.judge.ensures ∙ c.in_ok-judge.was) ∙ ap (λ (a : Answered). Ok a) same;
      right = subst (λ (a : Answered). Right m (bits row) a) same (answers_are_right m (sound c.args.diagram.now) (bits row));
      after = c.new-2.ensures;
    }
