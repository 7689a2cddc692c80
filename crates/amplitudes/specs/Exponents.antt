-- The term of a list of items as a power of i. Assumes nothing.
use Rattle.std.specs.Prelude.{◌≡◌, ℕ, ◌+◌, ◌*◌, Bool, true, false, if◌then◌else◌, not, ◌&&◌, List, [], ◌∷◌}
use Rattle.amounts.specs.Amounts.{Amounts}
use Rattle.graphs.specs.Counts.{bit}
use Rattle.graphs.specs.Graphs.{Bits, quarters}
use Rattle.graphs.specs.Rules.{xor}
use Rattle.diagrams.specs.declared.items.Colour.{Colour}
use Rattle.diagrams.specs.declared.items.Kind.{Kind}
use Rattle.diagrams.specs.declared.items.Kind.TheVariants.{Plain, Hadamard}
use Rattle.diagrams.specs.declared.items.Item.{Item}
use Rattle.diagrams.specs.declared.items.Item.TheVariants.{Spider, Wire, Leg, Factor, Zero}
use Rattle.amplitudes.specs.Items.{wire_kind, leg_kind, leg_bit, row_after, term}

-- the quarter turns between two bits, and whether a plain wire allows them
abbrev pub joint_turns : Kind → Bool → Bool → ℕ
joint_turns Plain a b = 0
joint_turns Hadamard a b = 2 * bit (a && b)

abbrev pub allows : Kind → Bool → Bool → Bool
allows Plain a b = not (xor a b)
allows Hadamard a b = true

-- the quarter turns of a term
abbrev pub exponent : List Colour → List Item → ℕ → List Bool → Bits → ℕ
exponent cs [] n row x = 0
exponent cs (Spider s ∷ is) n row x = bit (x n) * s.phase.parts + exponent cs is (n + 1) row x
exponent cs (Wire w ∷ is) n row x = joint_turns (wire_kind cs w) (x w.first) (x w.second) + exponent cs is n row x
exponent cs (Leg l ∷ is) n row x = joint_turns (leg_kind cs l) (x l.spider) (leg_bit l.setting row) + exponent cs is n (row_after l.setting row) x
exponent cs (Factor f ∷ is) n row x = exponent cs is n row x
exponent cs (Zero ∷ is) n row x = exponent cs is n row x

-- whether a term is not zero: no plain wire or leg has unequal bits, and no item makes all zero
abbrev pub allowed : List Colour → List Item → ℕ → List Bool → Bits → Bool
allowed cs [] n row x = true
allowed cs (Spider s ∷ is) n row x = allowed cs is (n + 1) row x
allowed cs (Wire w ∷ is) n row x = allows (wire_kind cs w) (x w.first) (x w.second) && allowed cs is n row x
allowed cs (Leg l ∷ is) n row x = allows (leg_kind cs l) (x l.spider) (leg_bit l.setting row) && allowed cs is n (row_after l.setting row) x
allowed cs (Factor f ∷ is) n row x = allowed cs is n row x
allowed cs (Zero ∷ is) n row x = false

-- a term is zero, or i to the power of its quarter turns
abbrev pub TermsArePowers : Amounts → Type 0
TermsArePowers A =
    (cs : List Colour) (is : List Item) (n : ℕ) (row : List Bool) (x : Bits) → term A cs is n row x ≡ if allowed cs is n row x then quarters A (exponent cs is n row x) else A.zero
