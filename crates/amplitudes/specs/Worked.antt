-- Worked amounts: small diagrams, and what their amplitudes are. Assumes nothing.
use Rattle.std.specs.Prelude.{ℕ, Bool, true, false, List, [], ◌∷◌, ℤ, pos, negsuc}
use Rattle.std.specs.List.{AllByRecursion}
use Rattle.amounts.specs.Amounts.{turned}
use Rattle.amounts.specs.Eighths.{eighths, none}
use Rattle.amounts.specs.Scalars.{Scaled, Same}
use Rattle.angles.specs.Angles.{phase, turn}
use Rattle.diagrams.specs.Powers.{power}
use Rattle.diagrams.specs.declared.items.Colour.TheVariants.{Z, X}
use Rattle.diagrams.specs.declared.items.Kind.{Kind}
use Rattle.diagrams.specs.declared.items.Kind.TheVariants.{Plain, Hadamard}
use Rattle.diagrams.specs.declared.items.Side.{Side}
use Rattle.diagrams.specs.declared.items.Side.TheVariants.{Input, Output}
use Rattle.diagrams.specs.declared.items.Setting.TheVariants.{Open}
use Rattle.diagrams.specs.declared.items.Item.{Item}
use Rattle.diagrams.specs.declared.items.Item.TheVariants.{Spider, Wire, Leg, Factor}
use Rattle.amplitudes.specs.Items.{amplitude}

-- a Z spider of phase p, an X spider of phase 0, a wire, an open plain leg, one root of two
abbrev pub z : ℕ → Item
z p = Spider (record { colour = Z; phase = phase p })

abbrev pub x_spider : Item
x_spider = Spider (record { colour = X; phase = phase 0 })

abbrev pub wire : Kind → ℕ → ℕ → Item
wire kind a b = Wire (record { first = a; second = b; kind = kind })

abbrev pub leg : Side → ℕ → Item
leg side s = Leg (record { side = side; spider = s; kind = Plain; setting = Open })

abbrev pub root_two : Item
root_two = Factor (record { k = power (pos 1); m = turn 0 })

-- what is answered: zero, or k and m for √2^k·w^m
pub data Answer : Type 0 where
  nothing : Answer
  scalar : ℤ → ℕ → Answer

abbrev pub amount : Answer → Scaled
amount nothing = record { k = pos 0; z = none }
amount (scalar k m) = record { k = k; z = turned eighths m }

pub record Example : Type 0 where
  pub items : List Item
  pub row : List Bool
  pub answer : Answer

abbrev pub Right : Example → Type 0
Right e = Same (amplitude e.items e.row) (amount e.answer)

abbrev pub closed : List Item → Answer → Example
closed is a = record { items = is; row = []; answer = a }

abbrev pub examples : List Example
examples =
    closed [] (scalar (pos 0) 0)
    ∷ closed (z 0 ∷ []) (scalar (pos 2) 0)
    ∷ closed (z 1 ∷ []) (scalar (pos 1) 1)
    ∷ closed (z 2 ∷ []) nothing
    ∷ closed (z 3 ∷ []) (scalar (pos 1) 7)
    ∷ closed (z 1 ∷ wire Hadamard 0 0 ∷ []) (scalar (pos 0) 7)
    ∷ closed (z 0 ∷ z 0 ∷ wire Hadamard 0 1 ∷ wire Hadamard 0 1 ∷ []) (scalar (pos 2) 0)
    ∷ closed (z 2 ∷ z 2 ∷ wire Hadamard 0 1 ∷ []) (scalar (pos 1) 4)
    ∷ closed (z 1 ∷ z 1 ∷ z 1 ∷ wire Hadamard 0 1 ∷ wire Hadamard 0 2 ∷ wire Hadamard 1 2 ∷ []) (scalar (pos 2) 1)
    ∷ closed (z 0 ∷ z 0 ∷ z 0 ∷ wire Hadamard 0 1 ∷ wire Hadamard 0 2 ∷ wire Hadamard 1 2 ∷ []) nothing
    ∷ record { items = z 0 ∷ leg Input 0 ∷ z 0 ∷ wire Hadamard 0 1 ∷ leg Output 1 ∷ []; row = true ∷ true ∷ []; answer = scalar (negsuc 0) 4 }
    ∷ record { items = z 0 ∷ leg Input 0 ∷ z 1 ∷ wire Plain 0 1 ∷ leg Output 1 ∷ []; row = true ∷ true ∷ []; answer = scalar (pos 0) 2 }
    ∷ record {
      items = z 0 ∷ leg Input 0 ∷ z 0 ∷ leg Input 1 ∷ z 0 ∷ wire Hadamard 0 2 ∷ z 0 ∷ x_spider ∷ wire Plain 2 3 ∷ wire Plain 1 4 ∷ wire Plain 3 4 ∷ root_two ∷ leg Output 3 ∷ leg Output 4 ∷ [];
      row = false ∷ false ∷ true ∷ true ∷ [];
      answer = scalar (negsuc 0) 0;
    }
    ∷ []

-- all of them
abbrev pub WorkedAmounts : Type 0
WorkedAmounts = AllByRecursion Right examples
