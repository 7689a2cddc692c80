-- The adjoint of an item, and of what a source has to give. Assumes nothing.
use Rattle.std.specs.Prelude.{◌-◌, List, map}
use Rattle.angles.specs.Angles.{phase, turn}
use Rattle.diagrams.specs.Streams.{Stream}
use Rattle.diagrams.specs.declared.items.Side.{Side}
use Rattle.diagrams.specs.declared.items.Side.TheVariants.{Input, Output}
use Rattle.diagrams.specs.declared.items.Item.{Item}
use Rattle.diagrams.specs.declared.items.Item.TheVariants.{Spider, Wire, Leg, Factor, Zero}

abbrev pub other_side : Side → Side
other_side Input = Output
other_side Output = Input

-- a phase p becomes -p, mod 4, and the turns m of a factor become -m, mod 8; a leg changes its side
abbrev pub adjoint_item : Item → Item
adjoint_item (Spider s) = Spider (record { colour = s.colour; phase = phase (4 - s.phase.parts) })
adjoint_item (Wire w) = Wire w
adjoint_item (Leg l) = Leg (record { side = other_side l.side; spider = l.spider; kind = l.kind; setting = l.setting })
adjoint_item (Factor f) = Factor (record { k = f.k; m = turn (8 - f.m.parts) })
adjoint_item Zero = Zero

abbrev pub adjoint_items : List Item → List Item
adjoint_items is = map adjoint_item is

-- every item changed, and the same end
abbrev pub adjoint_stream : Stream → Stream
adjoint_stream s = record { items = adjoint_items s.items; ending = s.ending }
