-- What a circuit text that is being read still has to give. Assumes nothing.
use Rattle.std.specs.Prelude.{◌≡◌, ◌≤◌, length, drop, Some, None, Ok, Err, Option, Result}
use Rattle.refusals.specs.declared.Fault.{Fault}
use Rattle.refusals.specs.declared.Fault.TheVariants.{TextTooLong}
use Rattle.diagrams.specs.Streams.{Stream, finish, broken, only, ◌▸◌}
use Rattle.circuits.specs.Circuits.{part_items, remaining}
use Rattle.circuits.specs.declared.text.ShortText.{ShortText}
use Rattle.circuits.specs.declared.text.CircuitText.{CircuitText}

-- what is left of the part that is being given, and then what comes after it
unfoldable pub left : ShortText → Stream
left s = drop s.given (part_items s.qubits s.wiring s.part) ▸ remaining s.cursor.text.now s.cursor.at s.qubits s.wiring s.part

-- of a text that is too long, the fault
abbrev pub left_or_fault : Option ShortText → Stream
left_or_fault (Some s) = left s
left_or_fault None = only (broken TextTooLong)

abbrev pub still : CircuitText → Stream
still s = left_or_fault s.short

-- all items of its part are given
abbrev pub Spent : ShortText → Type 0
Spent s = length (part_items s.qubits s.wiring s.part) ≤ s.given

-- going on from a text before, of which the stream s is left, to a text after: a fault stays, and
-- all else leaves the same to come, with an item at hand unless that is the end
abbrev pub Went : Stream → ShortText → Result (Unit {0}) Fault → ShortText → Type 0
Went s before (Ok u) after = (left after ≡ s) × (Spent after → s ≡ only finish) × (after.cursor.text.now ≡ before.cursor.text.now)
Went s before (Err f) after = (s ≡ only (broken f)) × (after ≡ before)
