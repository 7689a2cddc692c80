-- What the program says of a deposit. Assumes nothing.
use Rattle.std.specs.Prelude.{ℕ, true, false, List, length, Ok, Err, codes, Result, nat_lt}
use Rattle.refusals.specs.declared.AskRefusal.{AskRefusal}
use Rattle.refusals.specs.Lines.{load_line, ask_line}
use Rattle.circuits.specs.Circuits.{circuit}
use Rattle.loadings.specs.Loadings.{Loaded, accepted, refused, loaded}
use Rattle.reductions.specs.Answers.{Answer as Answered}
use Rattle.archive.specs.declared.answer.Answer.{Answer}
use Rattle.archive.specs.Questions.{asked, answer_is}
use Rattle.archive.specs.Lines.{answer_line}
use Rattle.deposits.specs.Input.{input_limit, line_of, circuit_of}
use Rattle.replies.specs.declared.report.Refusal.{Refusal}
use Rattle.replies.specs.declared.report.Refusal.TheVariants.{Long, Unloaded, Unasked}
use Rattle.replies.specs.Input.{row_bytes}

-- what there is to say: an answer, or why there is none
abbrev pub Reply : Type 0
Reply = Result Answered Refusal

abbrev pub question : Result Answered AskRefusal → Reply
question (Ok a) = Ok a
question (Err why) = Err (Unasked why)

abbrev pub replied : List ℕ → Loaded → Reply
replied row (refused why s) = Err (Unloaded why)
replied row (accepted m s) = question (asked row m)

-- the circuit is read first, and then the row is judged
abbrev pub reply : List ℕ → Reply
reply bs = elim (nat_lt input_limit (length bs)) [ true ↦ Err Long | false ↦ replied (row_bytes (line_of bs)) (loaded (circuit (circuit_of bs))) ]

abbrev pub reply_of : Result Answer Refusal → Reply
reply_of (Ok a) = Ok (answer_is a)
reply_of (Err why) = Err why

-- and how: one line, its end left out
abbrev pub report_line : Result Answer Refusal → List ℕ
report_line (Ok a) = answer_line a.scalar a.steps
report_line (Err Long) = codes "long"
report_line (Err (Unloaded why)) = load_line why
report_line (Err (Unasked why)) = ask_line why
