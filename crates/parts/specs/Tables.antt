-- The open legs that a table holds. Assumes nothing.
use Rattle.std.specs.Prelude.{ℕ, List, length, Some, None, Option, slice_index_or}
use Rattle.models.specs.Models.{ModelLeg, legs_from, leg_limit}
use Rattle.parts.specs.declared.leg.OpenLeg.{OpenLeg}

abbrev pub open_leg : OpenLeg → ModelLeg
open_leg o = record { side = o.side; slot = o.slot.number; kind = o.kind }

abbrev pub maybe_leg : Option OpenLeg → Option ModelLeg
maybe_leg None = None
maybe_leg (Some o) = Some (open_leg o)

-- the leg of number l, if it is open
unfoldable pub leg_in : List (Option OpenLeg) → ℕ → Option ModelLeg
leg_in table l = maybe_leg (slice_index_or table l None)

-- how many are open
abbrev pub opened : List (Option OpenLeg) → ℕ
opened table = length (legs_from leg_limit 0 (leg_in table))
