-- Layers piled on layers. Assumes nothing.
use Rattle.std.specs.Prelude.{◌≡◌, Bool, true, false, if◌then◌else◌, not, List, [], ◌∷◌, length}
use Rattle.diagrams.specs.declared.items.Setting.{Setting}
use Rattle.diagrams.specs.declared.items.Item.{Item}
use Rattle.amounts.specs.Scalars.{Scaled}
use Rattle.amplitudes.specs.Items.{amplitude}
use Rattle.loadings.specs.Laws.{open_items}
use Rattle.diagrams.specs.Streams.{Stream}
use Rattle.layers.specs.Adjoints.{adjoint_items, adjoint_stream}
use Rattle.layers.specs.Holds.{over_setting, held_items, held_stream}
use Rattle.layerings.specs.Conjugates.{conjugate}
use Rattle.layerings.specs.Layerings.{full_row}

pub data LayerStep : Type 0 where
  adjoint : LayerStep
  hold : List Setting → LayerStep

-- the items that one layer gives, and those that a pile gives, whose uppermost layer stands first
abbrev pub layered : LayerStep → List Item → List Item
layered adjoint is = adjoint_items is
layered (hold ss) is = held_items ss 0 is

abbrev pub through : List LayerStep → List Item → List Item
through [] is = is
through (s ∷ steps) is = layered s (through steps is)

-- the same of what sources have to give
abbrev pub layered_stream : LayerStep → Stream → Stream
layered_stream adjoint s = adjoint_stream s
layered_stream (hold ss) s = held_stream ss 0 s

abbrev pub through_stream : List LayerStep → Stream → Stream
through_stream [] s = s
through_stream (step ∷ steps) s = layered_stream step (through_stream steps s)

-- the row for the items below one layer, and below a pile
abbrev pub row_below : LayerStep → List Item → List Bool → List Bool
row_below adjoint is row = row
row_below (hold ss) is row = full_row ss 0 is row

abbrev pub row_through : List LayerStep → List Item → List Bool → List Bool
row_through [] is row = row
row_through (s ∷ steps) is row = row_through steps is (row_below s (through steps is) row)

-- what one layer makes of an amount, and what a pile does: an adjoint conjugates it
abbrev pub conjugated_by : LayerStep → Scaled → Scaled
conjugated_by adjoint x = conjugate x
conjugated_by (hold ss) x = x

abbrev pub conjugated_through : List LayerStep → Scaled → Scaled
conjugated_through [] x = x
conjugated_through (s ∷ steps) x = conjugated_by s (conjugated_through steps x)

-- whether the number of adjoints is odd
abbrev pub parity_after : LayerStep → Bool → Bool
parity_after adjoint b = not b
parity_after (hold ss) b = b

abbrev pub odd_adjoints : List LayerStep → Bool
odd_adjoints [] = false
odd_adjoints (s ∷ steps) = parity_after s (odd_adjoints steps)

-- one hold for two, of which the first is below
abbrev pub merged : List Setting → List Setting → List Setting
merged [] ss = ss
merged (t ∷ ts) [] = t ∷ ts
merged (t ∷ ts) (s ∷ ss) = over_setting t s ∷ merged ts ss

-- the settings of all holds of a pile, in one
abbrev pub all_settings : List LayerStep → List Setting
all_settings [] = []
all_settings (adjoint ∷ steps) = all_settings steps
all_settings (hold ss ∷ steps) = merged (all_settings steps) ss

-- an adjoint, or nothing
abbrev pub adjoint_if : Bool → List Item → List Item
adjoint_if true is = adjoint_items is
adjoint_if false is = is

-- a pile of any height gives the changed items, and then the end or the fault of the source below it. Its
-- amplitude at a row is that of the items below it at the row that the holds fill, conjugated once for each
-- adjoint, so that only their parity counts; and a row that fits the pile comes down as a row that fits the
-- items below it
pub record Piles : Type 0 where
  pub of_source : (steps : List LayerStep) (s : Stream) → through_stream steps s ≡ record { items = through steps s.items; ending = s.ending }
  pub of_layer : (s : LayerStep) (is : List Item) (row : List Bool) → amplitude (layered s is) row ≡ conjugated_by s (amplitude is (row_below s is row))
  pub of_pile : (steps : List LayerStep) (is : List Item) (row : List Bool) → amplitude (through steps is) row ≡ conjugated_through steps (amplitude is (row_through steps is row))
  pub by_parity : (steps : List LayerStep) (x : Scaled) → conjugated_through steps x ≡ if odd_adjoints steps then conjugate x else x
  pub rows_fit : (steps : List LayerStep) (is : List Item) (row : List Bool) → length row ≡ open_items (through steps is) → length (row_through steps is row) ≡ open_items is

-- two adjoints give back the same items, two holds are one, and an adjoint and a hold may change places; so
-- every pile is one hold, and an adjoint over it where the number of adjoints is odd
pub record ShortPiles : Type 0 where
  pub two_adjoints : (is : List Item) → adjoint_items (adjoint_items is) ≡ is
  pub two_holds : (ss ts : List Setting) (is : List Item) → held_items ss 0 (held_items ts 0 is) ≡ held_items (merged ts ss) 0 is
  pub adjoint_and_hold : (ss : List Setting) (is : List Item) → adjoint_items (held_items ss 0 is) ≡ held_items ss 0 (adjoint_items is)
  pub shortest : (steps : List LayerStep) (is : List Item) → through steps is ≡ adjoint_if (odd_adjoints steps) (held_items (all_settings steps) 0 is)
