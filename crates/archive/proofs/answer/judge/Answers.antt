use Rattle.std.proofs.Common.{◌≡◌, Result, Ok, Err, sym, ap, ◌∙◌, rules}
use Rattle.refusals.specs.declared.AskRefusal.{AskRefusal}
use Rattle.refusals.specs.declared.AskRefusal.TheVariants.{RowByte}
use Rattle.graphlike.specs.Diagrams.{model}
use Rattle.archive.specs.Questions.{judged_byte}
use Rattle.archive.proofs.Rows.{first_bad-found, judged_bytes}
use Rattle.archive.proofs.answer.judge.Goals as goal

pub returns-in-Some : goal.returns-in-Some
returns-in-Some c =
    let row = c.args.row.now in
    let refuses : Result (Unit {0}) AskRefusal = Err (RowByte c.in-Some.place) in
    let said : refuses ≡ judged_byte c.first_bad.result = search rules in
    said ∙ ap judged_byte (c.first_bad.ensures ∙ sym (first_bad-found row)) ∙ sym (judged_bytes row (model c.args.diagram.now) (c.if-row-open_legs.false ∙ c.open_legs.ensures.value))

pub returns : goal.returns
returns c =
    let row = c.args.row.now in
    let takes : Result (Unit {0}) AskRefusal = Ok tt in
    let said : takes ≡ judged_byte c.first_bad.result = search rules in
    said ∙ ap judged_byte (c.first_bad.ensures ∙ sym (first_bad-found row)) ∙ sym (judged_bytes row (model c.args.diagram.now) (c.if-row-open_legs.false ∙ c.open_legs.ensures.value))
