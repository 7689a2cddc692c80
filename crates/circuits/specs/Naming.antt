-- Which gate a letter names. Assumes nothing.
use Rattle.std.specs.Prelude.{◌≡◌, ℕ, Ok, Err, Result}
use Rattle.refusals.specs.declared.Fault.TheVariants.{NotALetter}
use Rattle.circuits.specs.declared.lines.Name.{Name}
use Rattle.circuits.specs.declared.lines.NoGate.{NoGate}
use Rattle.circuits.specs.Lines.{named}

-- a letter names a gate, or it is the wrong letter wherever it stands
abbrev pub Names : ℕ → Result Name NoGate → Type 0
Names b (Ok name) = (p : ℕ) → named b p ≡ Ok name
Names b (Err none) = (p : ℕ) → named b p ≡ Err (NotALetter p)
