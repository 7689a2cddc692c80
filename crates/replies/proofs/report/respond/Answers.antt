use Rattle.std.proofs.Common.{ℕ, List, ap, ◌∙◌, subst}
use Rattle.diagrams.specs.Streams.{Stream}
use Rattle.circuits.specs.Circuits.{circuit}
use Rattle.loadings.specs.Laws.{KeptByLoading}
use Rattle.reductions.specs.Answers.{Right}
use Rattle.archive.specs.Questions.{answer_is, bits}
use Rattle.graphlike.specs.Diagrams.{model}
use Rattle.replies.specs.Input.{row_bytes}
use Rattle.replies.proofs.Replies.{circuit-answered}
use Rattle.replies.proofs.report.respond.Goals as goal

pub returns-clause-right : goal.returns-clause-right
returns-clause-right c =
    let m = model c.load.new.diagram in
    let a = answer_is c.in_ok-ask.field-0 in
    let stream = c.new-source.ensures.rest ∙ ap circuit c.circuit_part.ensures in
    let kept = subst (λ (s : Stream). KeptByLoading s.items m) stream c.in_ok-load.ensures.kept in
    let right = subst (λ (l : List ℕ). Right m (bits (row_bytes l)) a) c.row_part.ensures c.in_ok-ask.ensures.right in
    circuit-answered c.args.input.now m a kept right
