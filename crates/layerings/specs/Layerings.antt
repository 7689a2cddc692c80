-- What the two layers do to the amplitude of a list of items, and to its open legs. Assumes nothing.
use Rattle.std.specs.Prelude.{◌≡◌, Bool, List, [], ◌∷◌, ℕ, ◌+◌, length}
use Rattle.diagrams.specs.declared.items.Setting.{Setting}
use Rattle.diagrams.specs.declared.items.Setting.TheVariants.{Open, HeldZero, HeldOne}
use Rattle.diagrams.specs.declared.items.Item.{Item}
use Rattle.diagrams.specs.declared.items.Item.TheVariants.{Spider, Wire, Leg, Factor, Zero}
use Rattle.amplitudes.specs.Items.{leg_bit, row_after, amplitude}
use Rattle.loadings.specs.Laws.{open_items}
use Rattle.layers.specs.Adjoints.{adjoint_items}
use Rattle.layers.specs.Holds.{setting_at, held_items}
use Rattle.layerings.specs.Conjugates.{conjugate}

-- the adjoint has the conjugate amplitude at every row
abbrev pub AdjointConjugates : Type 0
AdjointConjugates = (is : List Item) (row : List Bool) → amplitude (adjoint_items is) row ≡ conjugate (amplitude is row)

-- what a leg adds to the full row: one that is open below the bit that its setting or the row gives, and one
-- that is held below nothing
abbrev pub full_leg : Setting → Setting → (List Bool → List Bool) → List Bool → List Bool
full_leg Open s more row = leg_bit s row ∷ more (row_after s row)
full_leg HeldZero s more row = more row
full_leg HeldOne s more row = more row

-- the row of all legs that are open below: the bit of each is its setting in the hold if that is 0 or 1, else
-- the next of the row; n is the number of the next leg
abbrev pub full_row : List Setting → ℕ → List Item → List Bool → List Bool
full_row ss n [] row = []
full_row ss n (Spider d ∷ is) row = full_row ss n is row
full_row ss n (Wire w ∷ is) row = full_row ss n is row
full_row ss n (Leg l ∷ is) row = full_leg l.setting (setting_at ss n) (full_row ss (n + 1) is) row
full_row ss n (Factor f ∷ is) row = full_row ss n is row
full_row ss n (Zero ∷ is) row = full_row ss n is row

-- a hold has the amplitude of the items below at the full row
abbrev pub HoldFillsTheRow : Type 0
HoldFillsTheRow = (ss : List Setting) (is : List Item) (row : List Bool) → amplitude (held_items ss 0 is) row ≡ amplitude is (full_row ss 0 is row)

-- whether a hold sets a leg, by its setting below and in the hold
abbrev pub sets : Setting → Setting → ℕ
sets Open Open = 0
sets Open HeldZero = 1
sets Open HeldOne = 1
sets HeldZero s = 0
sets HeldOne s = 0

-- how many legs a hold sets
abbrev pub set_legs : List Setting → ℕ → List Item → ℕ
set_legs ss n [] = 0
set_legs ss n (Spider d ∷ is) = set_legs ss n is
set_legs ss n (Wire w ∷ is) = set_legs ss n is
set_legs ss n (Leg l ∷ is) = sets l.setting (setting_at ss n) + set_legs ss (n + 1) is
set_legs ss n (Factor f ∷ is) = set_legs ss n is
set_legs ss n (Zero ∷ is) = set_legs ss n is

-- the adjoint keeps the open legs, a hold closes those that it sets, and a full row has a bit for each leg
-- that is open below
pub record OpenLegs : Type 0 where
  pub of_adjoint : (is : List Item) → open_items (adjoint_items is) ≡ open_items is
  pub of_hold : (ss : List Setting) (is : List Item) → open_items (held_items ss 0 is) + set_legs ss 0 is ≡ open_items is
  pub of_row : (ss : List Setting) (is : List Item) (row : List Bool) → length (full_row ss 0 is row) ≡ open_items is
