-- What a circuit text means: the items of its gates, and then the end or the fault. Assumes nothing.
use Rattle.std.specs.Prelude.{ℕ, zero, suc, if◌then◌else◌, List, [], ◌∷◌, length, Ok, Err, Result, nat_le, nat_lt}
use Rattle.refusals.specs.Refusals.{text_limit}
use Rattle.diagrams.specs.Streams.{Stream, End, finish, broken, only}
use Rattle.diagrams.specs.declared.items.Item.{Item}
use Rattle.refusals.specs.declared.Fault.{Fault}
use Rattle.refusals.specs.declared.Fault.TheVariants.{TextTooLong}
use Rattle.circuits.specs.declared.gates.Gate.{Gate}
use Rattle.circuits.specs.declared.wiring.Wiring.{Wiring}
use Rattle.circuits.specs.declared.text.Part.{Part}
use Rattle.circuits.specs.declared.text.Part.TheVariants.{Unread, Opening, Placed, Closing}
use Rattle.circuits.specs.Lines.{gate_at, head_from, head_at}
use Rattle.circuits.specs.Gates.{gate_items, opening, closing, played, circuit_items}

-- gates in order, and how they end
pub record Script : Type 0 where
  pub gates : List Gate
  pub ending : End

-- the gate of a line and then those after it, or the fault of that line
abbrev pub line_then : Result (Gate × ℕ) Fault → (ℕ → Script) → Script
line_then (Ok r) more = record { gates = r.0 ∷ (more r.1).gates; ending = (more r.1).ending }
line_then (Err f) more = record { gates = []; ending = broken f }

-- the gates of at most as many lines as the first number says, over n qubits, from byte p on
unfoldable pub lines : ℕ → ℕ → List ℕ → ℕ → Script
lines zero n bs p = record { gates = []; ending = finish }
lines (suc more) n bs p =
    if nat_le (length bs) p then record { gates = []; ending = finish } else line_then (gate_at n bs p) (lines more n bs)

-- the gates of all lines from byte p on: no text has more lines than bytes
abbrev pub gates_from : ℕ → List ℕ → ℕ → Script
gates_from n bs p = lines (length bs) n bs p

abbrev pub scripted : ℕ → Wiring → Script → Stream
scripted n w s = played n w s.gates s.ending

-- the items after the first line
abbrev pub headed : List ℕ → Result (ℕ × ℕ) Fault → Stream
headed bs (Ok r) = circuit_items r.0 (gates_from r.0 bs r.1).gates (gates_from r.0 bs r.1).ending
headed bs (Err f) = only (broken f)

-- what the text bs means: its length is tested first
abbrev pub circuit : List ℕ → Stream
circuit bs = if nat_lt text_limit (length bs) then only (broken TextTooLong) else headed bs (head_at bs)

-- the items of the part that is being given
abbrev pub part_items : ℕ → Wiring → Part → List Item
part_items n w Unread = []
part_items n w Opening = opening 0 n
part_items n w (Placed g before) = gate_items before g
part_items n w Closing = closing n w

-- what comes after that part
abbrev pub remaining : List ℕ → ℕ → ℕ → Wiring → Part → Stream
remaining bs p n w Unread = headed bs (head_from bs p)
remaining bs p n w Opening = scripted n w (gates_from n bs p)
remaining bs p n w (Placed g before) = scripted n w (gates_from n bs p)
remaining bs p n w Closing = only finish

-- how many spiders there were before the gate that is being given
abbrev pub spiders_before : Part → ℕ
spiders_before Unread = 0
spiders_before Opening = 0
spiders_before (Placed g before) = before.spiders
spiders_before Closing = 0
