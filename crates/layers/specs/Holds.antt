-- Holding the open legs of a list of items at the settings of a row. Assumes nothing.
use Rattle.std.specs.Prelude.{ℕ, ◌+◌, List, [], ◌∷◌, slice_index_or}
use Rattle.diagrams.specs.Streams.{Stream}
use Rattle.diagrams.specs.declared.items.Setting.{Setting}
use Rattle.diagrams.specs.declared.items.Setting.TheVariants.{Open, HeldZero, HeldOne}
use Rattle.diagrams.specs.declared.items.Leg.{Leg as LegData}
use Rattle.diagrams.specs.declared.items.Item.{Item}
use Rattle.diagrams.specs.declared.items.Item.TheVariants.{Spider, Wire, Leg, Factor, Zero}

-- the setting of leg n: open past the row
abbrev pub setting_at : List Setting → ℕ → Setting
setting_at ss n = slice_index_or ss n Open

-- a leg that is open below takes the setting, and one that is held keeps its own
abbrev pub over_setting : Setting → Setting → Setting
over_setting Open s = s
over_setting HeldZero s = HeldZero
over_setting HeldOne s = HeldOne

abbrev pub held_leg : Setting → LegData → LegData
held_leg s l = record { side = l.side; spider = l.spider; kind = l.kind; setting = over_setting l.setting s }

abbrev pub held_item : Setting → Item → Item
held_item s (Spider d) = Spider d
held_item s (Wire w) = Wire w
held_item s (Leg l) = Leg (held_leg s l)
held_item s (Factor f) = Factor f
held_item s Zero = Zero

-- the number of the next leg after an item, where n is that before it
abbrev pub leg_after : ℕ → Item → ℕ
leg_after n (Spider d) = n
leg_after n (Wire w) = n
leg_after n (Leg l) = n + 1
leg_after n (Factor f) = n
leg_after n Zero = n

-- the items with their legs held; n is the number of the next leg, open or held
abbrev pub held_items : List Setting → ℕ → List Item → List Item
held_items ss n [] = []
held_items ss n (i ∷ is) = held_item (setting_at ss n) i ∷ held_items ss (leg_after n i) is

-- every item with its leg held, and the same end
abbrev pub held_stream : List Setting → ℕ → Stream → Stream
held_stream ss n s = record { items = held_items ss n s.items; ending = s.ending }
