use Rattle.std.proofs.Common.{◌≡◌, ℕ, ◌<◌, List, Ok, Err, MatchResult, ◌∙◌, subst}
use Rattle.graphlike.specs.Diagrams.{model}
use Rattle.reductions.specs.Answers.{Right}
use Rattle.archive.specs.Questions.{asked, answer_is, bits}
use Rattle.replies.proofs.Rows.{cut_value, cut_right}
use Rattle.replies.proofs.question.ask.Goals as goal

pub returns : goal.returns
returns c =
    let line = c.args.line.now in
    let m = model c.args.diagram.now in
    let a = c.amplitude.result in
    let row = c.as_slice.ensures.value ∙ c.row_bytes.ensures in
    let value = subst (λ (r : List ℕ). MatchResult a (λ x. asked r m ≡ Ok (answer_is x)) (λ e. asked r m ≡ Err e)) row c.amplitude.ensures.value in
    let right = subst (λ (r : List ℕ). MatchResult a (λ x. Right m (bits r) (answer_is x)) (λ _. 0 < 1)) row c.amplitude.ensures.right in
    record { value = cut_value line m a value; right = cut_right line m a value right }
