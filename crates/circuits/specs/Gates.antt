-- The items that gates give, apart from any text. Assumes nothing.
use Rattle.std.specs.Prelude.{ℕ, ◌+◌, List, [], ◌∷◌, map, pos, slice_index, slice_set}
use Rattle.std.specs.List.{range_with_len, flat_map}
use Rattle.angles.specs.Angles.{phase, turn}
use Rattle.diagrams.specs.Powers.{power}
use Rattle.diagrams.specs.Streams.{Stream, End, finish, broken, only, ◌▸◌}
use Rattle.diagrams.specs.declared.items.Colour.{Colour}
use Rattle.diagrams.specs.declared.items.Colour.TheVariants.{Z, X}
use Rattle.diagrams.specs.declared.items.Kind.{Kind}
use Rattle.diagrams.specs.declared.items.Kind.TheVariants.{Plain, Hadamard as HadamardWire}
use Rattle.diagrams.specs.declared.items.Side.{Side}
use Rattle.diagrams.specs.declared.items.Side.TheVariants.{Input, Output}
use Rattle.diagrams.specs.declared.items.Setting.TheVariants.{Open}
use Rattle.diagrams.specs.declared.items.Item.{Item}
use Rattle.diagrams.specs.declared.items.Item.TheVariants.{Spider, Wire, Leg, Factor}
use Rattle.circuits.specs.declared.gates.Single.{Single}
use Rattle.circuits.specs.declared.gates.Single.TheVariants.{Hadamard, S, SInverse, PauliX, PauliZ}
use Rattle.circuits.specs.declared.gates.Double.{Double}
use Rattle.circuits.specs.declared.gates.Double.TheVariants.{ControlledX, ControlledZ}
use Rattle.circuits.specs.declared.gates.Gate.{Gate}
use Rattle.circuits.specs.declared.gates.Gate.TheVariants.{One, Two}
use Rattle.circuits.specs.declared.wiring.Wiring.{Wiring}

-- how many spiders a gate gives: one for each of its qubits
abbrev pub spiders_of : Gate → ℕ
spiders_of (One g q) = 1
spiders_of (Two g q r) = 2

-- a spider of a colour with n quarter turns
abbrev pub spider : Colour → ℕ → Item
spider colour n = Spider (record { colour = colour; phase = phase n })

abbrev pub wire : ℕ → ℕ → Kind → Item
wire first second kind = Wire (record { first = first; second = second; kind = kind })

-- an open plain leg
abbrev pub leg : Side → ℕ → Item
leg side s = Leg (record { side = side; spider = s; kind = Plain; setting = Open })

-- one root of two
abbrev pub root_two : Item
root_two = Factor (record { k = power (pos 1); m = turn 0 })

-- the spider of a gate on one qubit
abbrev pub single_spider : Single → Item
single_spider Hadamard = spider Z 0
single_spider S = spider Z 1
single_spider SInverse = spider Z 3
single_spider PauliX = spider X 2
single_spider PauliZ = spider Z 2

-- the kind of the wire to it
abbrev pub single_kind : Single → Kind
single_kind Hadamard = HadamardWire
single_kind S = Plain
single_kind SInverse = Plain
single_kind PauliX = Plain
single_kind PauliZ = Plain

-- the colour of the second spider of a gate on two qubits
abbrev pub second_colour : Double → Colour
second_colour ControlledX = X
second_colour ControlledZ = Z

-- the kind of the wire between the two
abbrev pub between_kind : Double → Kind
between_kind ControlledX = Plain
between_kind ControlledZ = HadamardWire

-- the last spider of qubit q
abbrev pub last_of : Wiring → ℕ → ℕ
last_of w q = slice_index w.last q

-- the items of a gate: a spider for each qubit, a wire to each from the last spider of its qubit,
-- and between two a wire and a root of two
abbrev pub gate_items : Wiring → Gate → List Item
gate_items w (One g q) = single_spider g ∷ wire (last_of w q) w.spiders (single_kind g) ∷ []
gate_items w (Two g q r) =
    spider Z 0
    ∷ spider (second_colour g) 0
    ∷ wire (last_of w q) w.spiders Plain
    ∷ wire (last_of w r) (w.spiders + 1) Plain
    ∷ wire w.spiders (w.spiders + 1) (between_kind g)
    ∷ root_two
    ∷ []

-- the wiring after a gate
abbrev pub wired : Wiring → Gate → Wiring
wired w (One g q) = record { last = slice_set w.last q w.spiders; spiders = w.spiders + 1 }
wired w (Two g q r) = record { last = slice_set (slice_set w.last q w.spiders) r (w.spiders + 1); spiders = w.spiders + 2 }

-- the wiring of n qubits before any gate: qubit q ends at spider q
abbrev pub fresh : ℕ → Wiring
fresh n = record { last = range_with_len 0 16; spiders = n }

-- each of n qubits from q on gives a spider and an input leg
abbrev pub opening : ℕ → ℕ → List Item
opening q n = flat_map (λ s. spider Z 0 ∷ leg Input s ∷ []) (range_with_len q n)

-- each of n qubits gives an output leg at its last spider
abbrev pub closing : ℕ → Wiring → List Item
closing n w = map (λ q. leg Output (last_of w q)) (range_with_len 0 n)

-- the gates one after the other and then the output legs, or the fault that ends them
abbrev pub played : ℕ → Wiring → List Gate → End → Stream
played n w [] finish = closing n w ▸ only finish
played n w [] (broken f) = only (broken f)
played n w (g ∷ gs) e = gate_items w g ▸ played n (wired w g) gs e

-- the items of a circuit of n qubits
abbrev pub circuit_items : ℕ → List Gate → End → Stream
circuit_items n gs e = opening 0 n ▸ played n (fresh n) gs e
