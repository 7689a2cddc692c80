-- What the program says of a deposit. Assumes nothing.
use Rattle.std.specs.Prelude.{ℕ, true, false, List, ◌++◌, length, Ok, Err, Result, codes, decimal, nat_lt}
use Rattle.refusals.specs.Lines.{fault_line}
use Rattle.diagrams.specs.Streams.{End, finish, broken}
use Rattle.diagrams.specs.declared.items.Item.{Item}
use Rattle.circuits.specs.Circuits.{circuit}
use Rattle.deposits.specs.declared.tally.Tally.{Tally}
use Rattle.deposits.specs.declared.report.Refusal.{Refusal}
use Rattle.deposits.specs.declared.report.Refusal.TheVariants.{Long, Unreadable}
use Rattle.deposits.specs.Input.{input_limit, circuit_of}
use Rattle.deposits.specs.Tallies.{tally_of}

abbrev pub judged : List Item → End → Result Tally Refusal
judged xs finish = Ok (tally_of xs)
judged xs (broken f) = Err (Unreadable f)

-- what is said of the bytes of a deposit
abbrev pub report : List ℕ → Result Tally Refusal
report bs = elim (nat_lt input_limit (length bs)) [
  | true ↦ Err Long
  | false ↦ judged (circuit (circuit_of bs)).items (circuit (circuit_of bs)).ending
]

-- and how: one line, its end left out
abbrev pub line_of : Result Tally Refusal → List ℕ
line_of (Err Long) = codes "long"
line_of (Err (Unreadable f)) = fault_line f
line_of (Ok t) =
    codes "accepted "
    ++ (decimal t.qubits
    ++ (codes " qubits, "
    ++ (decimal t.spiders
    ++ (codes " spiders, " ++ (decimal t.wires ++ (codes " wires, " ++ (decimal t.legs ++ codes " legs")))))))
