-- What is known of the spiders that were given. Assumes nothing.
use Rattle.std.specs.Prelude.{ℕ, if◌then◌else◌, List, map, Some, None, slice_get, ◌==◌}
use Rattle.models.specs.Models.{Model}
use Rattle.loadings.specs.Loadings.{Loading}
use Rattle.rows.specs.Slots.{Slot}
use Rattle.loader.specs.declared.given.Given.{Given}

-- the slot of a spider; one that is yet to come will take that of its number
abbrev pub place_of : List Given → ℕ → ℕ
place_of gs n = elim (slice_get gs n) [ Some g ↦ g.slot.number | None ↦ n ]

unfoldable pub loading_of : Model → List Given → ℕ → Loading
loading_of m gs legs = record { model = m; colours = map (λ (g : Given). g.colour) gs; place = place_of gs; legs = legs }

-- a spider of slot b is in slot a
abbrev pub moved : Slot → Slot → Given → Given
moved a b g = record { colour = g.colour; slot = if g.slot.number == b.number then a else g.slot }
