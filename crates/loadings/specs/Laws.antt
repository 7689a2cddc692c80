-- What loading keeps. Assumes nothing.
use Rattle.std.specs.Prelude.{◌≡◌, ℕ, ◌+◌, Bool, List, [], ◌∷◌}
use Rattle.amounts.specs.Scalars.{Same}
use Rattle.diagrams.specs.Streams.{Stream}
use Rattle.diagrams.specs.declared.items.Setting.{Setting}
use Rattle.diagrams.specs.declared.items.Setting.TheVariants.{Open, HeldZero, HeldOne}
use Rattle.diagrams.specs.declared.items.Item.{Item}
use Rattle.diagrams.specs.declared.items.Item.TheVariants.{Spider, Wire, Leg, Factor, Zero}
use Rattle.amplitudes.specs.Items.{amplitude}
use Rattle.models.specs.Models.{Model, Sound, amount, open_count}
use Rattle.loadings.specs.Loadings.{accepted, loaded}

-- how many legs of a list of items are open
abbrev pub opens : Setting → ℕ
opens Open = 1
opens HeldZero = 0
opens HeldOne = 0

abbrev pub open_items : List Item → ℕ
open_items [] = 0
open_items (Spider d ∷ is) = open_items is
open_items (Wire d ∷ is) = open_items is
open_items (Leg d ∷ is) = opens d.setting + open_items is
open_items (Factor f ∷ is) = open_items is
open_items (Zero ∷ is) = open_items is

-- the diagram that is loaded is sound, has as many open legs as the items, and at every row the amplitude of
-- the items
pub record KeptByLoading (is : List Item) (m : Model) : Type 0 where
  pub sound : Sound m
  pub legs : open_count m ≡ open_items is
  pub amplitude : (row : List Bool) → Same (amplitude is row) (amount m row)

abbrev pub LoadingKeeps : Type 0
LoadingKeeps = (s : Stream) (m : Model) (left : Stream) → loaded s ≡ accepted m left → KeptByLoading s.items m
