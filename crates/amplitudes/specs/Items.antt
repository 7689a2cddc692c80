-- What the amplitude of a list of items is, as literal products. Assumes nothing.
use Rattle.std.specs.Prelude.{ℕ, ◌+◌, Bool, true, false, if◌then◌else◌, ◌&&◌, List, [], ◌∷◌, length, ℤ, pos, negsuc, ◌+ℤ◌, slice_index_or}
use Rattle.amounts.specs.Amounts.{Amounts, power, turned, quarter}
use Rattle.amounts.specs.Eighths.{eighths, times}
use Rattle.amounts.specs.Scalars.{Scaled}
use Rattle.graphs.specs.Graphs.{Bits, sum}
use Rattle.graphs.specs.Rules.{xor}
use Rattle.diagrams.specs.declared.items.Colour.{Colour}
use Rattle.diagrams.specs.declared.items.Colour.TheVariants.{Z, X}
use Rattle.diagrams.specs.declared.items.Kind.{Kind}
use Rattle.diagrams.specs.declared.items.Kind.TheVariants.{Plain, Hadamard}
use Rattle.diagrams.specs.declared.items.Setting.{Setting}
use Rattle.diagrams.specs.declared.items.Setting.TheVariants.{Open, HeldZero, HeldOne}
use Rattle.diagrams.specs.declared.items.Wire.{Wire as WireData}
use Rattle.diagrams.specs.declared.items.Leg.{Leg as LegData}
use Rattle.diagrams.specs.declared.items.Item.{Item}
use Rattle.diagrams.specs.declared.items.Item.TheVariants.{Spider, Wire, Leg, Factor, Zero}

-- the colours of the spiders, in order
abbrev pub colours : List Item → List Colour
colours [] = []
colours (Spider s ∷ is) = s.colour ∷ colours is
colours (Wire w ∷ is) = colours is
colours (Leg l ∷ is) = colours is
colours (Factor f ∷ is) = colours is
colours (Zero ∷ is) = colours is

-- a kind changed over at an X end
abbrev pub at_end : Colour → Kind → Kind
at_end Z k = k
at_end X Plain = Hadamard
at_end X Hadamard = Plain

-- the effective kinds, by the colours of the spiders
abbrev pub wire_kind : List Colour → WireData → Kind
wire_kind cs w = at_end (slice_index_or cs w.first Z) (at_end (slice_index_or cs w.second Z) w.kind)

abbrev pub leg_kind : List Colour → LegData → Kind
leg_kind cs l = at_end (slice_index_or cs l.spider Z) l.kind

-- what a wire of an effective kind is between two bits: -1 for a Hadamard one between ones, zero for a
-- plain one between unequal bits
abbrev pub joint : (A : Amounts) → Kind → Bool → Bool → A.Amount
joint A Hadamard a b = if a && b then turned A 4 else A.one
joint A Plain a b = if xor a b then A.zero else A.one

-- the bit of a leg, and what of the row is left for the legs after it
abbrev pub first_bit : List Bool → Bool
first_bit [] = false
first_bit (b ∷ row) = b

abbrev pub other_bits : List Bool → List Bool
other_bits [] = []
other_bits (b ∷ row) = row

abbrev pub leg_bit : Setting → List Bool → Bool
leg_bit Open row = first_bit row
leg_bit HeldZero row = false
leg_bit HeldOne row = true

abbrev pub row_after : Setting → List Bool → List Bool
row_after Open row = other_bits row
row_after HeldZero row = row
row_after HeldOne row = row

-- the term of the bits x: i^p for each spider of phase p whose bit is 1, and the wires and legs; n is the
-- number of the next spider
abbrev pub term : (A : Amounts) → List Colour → List Item → ℕ → List Bool → Bits → A.Amount
term A cs [] n row x = A.one
term A cs (Spider s ∷ is) n row x = A.mul (if x n then power A (quarter A) s.phase.parts else A.one) (term A cs is (n + 1) row x)
term A cs (Wire w ∷ is) n row x = A.mul (joint A (wire_kind cs w) (x w.first) (x w.second)) (term A cs is n row x)
term A cs (Leg l ∷ is) n row x = A.mul (joint A (leg_kind cs l) (x l.spider) (leg_bit l.setting row)) (term A cs is n (row_after l.setting row) x)
term A cs (Factor f ∷ is) n row x = term A cs is n row x
term A cs (Zero ∷ is) n row x = A.zero

-- every spider has a bit
abbrev pub every_slot : ℕ → Bool
every_slot n = true

-- the sum of all terms, at a row
abbrev pub terms_sum : (A : Amounts) → List Item → List Bool → A.Amount
terms_sum A is row = sum A (length (colours is)) every_slot (term A (colours is) is 0 row)

-- an effective Hadamard wire or leg costs a root of two
abbrev pub cost : Kind → ℤ
cost Plain = pos 0
cost Hadamard = negsuc 0

-- the power of the root of two: that of each factor, and what Hadamard wires and legs cost
abbrev pub root_power : List Colour → List Item → ℤ
root_power cs [] = pos 0
root_power cs (Spider s ∷ is) = root_power cs is
root_power cs (Wire w ∷ is) = cost (wire_kind cs w) +ℤ root_power cs is
root_power cs (Leg l ∷ is) = cost (leg_kind cs l) +ℤ root_power cs is
root_power cs (Factor f ∷ is) = f.k.exponent +ℤ root_power cs is
root_power cs (Zero ∷ is) = root_power cs is

-- the eighth turns of the factors
abbrev pub eighth_turns : List Item → ℕ
eighth_turns [] = 0
eighth_turns (Spider s ∷ is) = eighth_turns is
eighth_turns (Wire w ∷ is) = eighth_turns is
eighth_turns (Leg l ∷ is) = eighth_turns is
eighth_turns (Factor f ∷ is) = f.m.parts + eighth_turns is
eighth_turns (Zero ∷ is) = eighth_turns is

-- the amplitude of a list of items at a row
abbrev pub amplitude : List Item → List Bool → Scaled
amplitude is row = record { k = root_power (colours is) is; z = times (turned eighths (eighth_turns is)) (terms_sum eighths is row) }
