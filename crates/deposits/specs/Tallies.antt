-- How many items of each sort a list has. Assumes nothing.
use Rattle.std.specs.Prelude.{ℕ, ◌+◌, ◌-◌, ◌^◌, min, List, [], ◌∷◌}
use Rattle.diagrams.specs.declared.items.Side.{Side}
use Rattle.diagrams.specs.declared.items.Side.TheVariants.{Input, Output}
use Rattle.diagrams.specs.declared.items.Item.{Item}
use Rattle.diagrams.specs.declared.items.Item.TheVariants.{Spider, Wire, Leg, Factor, Zero}
use Rattle.deposits.specs.declared.tally.Tally.{Tally}

-- one more, up to the largest number that is held
abbrev pub more : ℕ → ℕ
more n = min (n + 1) (2 ^ 64 - 1)

-- the legs of a circuit's inputs are its qubits
abbrev pub leg_counted : Tally → Side → Tally
leg_counted t Input = record t { qubits = more t.qubits; legs = more t.legs }
leg_counted t Output = record t { legs = more t.legs }

abbrev pub counted : Tally → Item → Tally
counted t (Spider s) = record t { spiders = more t.spiders }
counted t (Wire w) = record t { wires = more t.wires }
counted t (Leg l) = leg_counted t l.side
counted t (Factor f) = t
counted t Zero = t

abbrev pub tally_from : Tally → List Item → Tally
tally_from t [] = t
tally_from t (x ∷ xs) = tally_from (counted t x) xs

abbrev pub tally_of : List Item → Tally
tally_of xs = tally_from (record { qubits = 0; spiders = 0; wires = 0; legs = 0 }) xs
