use Rattle.std.proofs.Common.{take, ap, ◌∙◌}
use Rattle.std.proofs.lemmas.List.{take_all, take_min}
use Rattle.replies.specs.Input.{row_bytes}
use Rattle.replies.proofs.question.row_bytes.Goals as goal

pub returns : goal.returns
returns c =
    let line = c.args.line.now in
    let whole = take_all c.loop-character.character-index (take c.min.result line) c.loop-character-test.false in
    c.loop-character.invariant ∙ ap row_bytes (whole ∙ ap (λ n. take n line) c.min.ensures ∙ take_min 65 line)
