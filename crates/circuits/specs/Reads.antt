-- What reading at a cursor does. Assumes nothing.
use Rattle.std.specs.Prelude.{◌≡◌, ℕ, List, Ok, Result}
use Rattle.refusals.specs.declared.Fault.{Fault}
use Rattle.circuits.specs.declared.cursor.Cursor.{Cursor}
use Rattle.circuits.specs.Lines.{onward}

-- what stands there, with the place behind it where the cursor is then, or the fault; the text stays
abbrev pub Reads : {X : Type 0} → (List ℕ → ℕ → Result (X × ℕ) Fault) → Cursor → Result X Fault → Cursor → Type 0
Reads there before result after =
    (onward result (λ x. Ok (x, after.at)) ≡ there before.text.now before.at) × (after.text.now ≡ before.text.now)
