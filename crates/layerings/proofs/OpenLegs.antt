-- How many legs are open above a layer, and how long a full row is. Assumes nothing.
use mathlib.Core.Path.{◌≡◌, refl, ap}
use mathlib.Core.Bool.{Bool}
use mathlib.Core.List.{List, [], ◌∷◌}
use Prim.Native.Nat.{ℕ, ◌+◌}
use native.Mathlib.Omega.{arith}
use lib.ListN.{length}
use Rattle.diagrams.specs.declared.items.Setting.{Setting}
use Rattle.diagrams.specs.declared.items.Setting.TheVariants.{Open, HeldZero, HeldOne}
use Rattle.diagrams.specs.declared.items.Item.{Item}
use Rattle.diagrams.specs.declared.items.Item.TheVariants.{Spider, Wire, Leg, Factor, Zero}
use Rattle.amplitudes.specs.Items.{row_after}
use Rattle.loadings.specs.Laws.{opens, open_items}
use Rattle.layers.specs.Adjoints.{adjoint_items}
use Rattle.layers.specs.Holds.{setting_at, over_setting, held_items}
use Rattle.layerings.specs.Layerings.{full_leg, full_row, sets, set_legs, OpenLegs}

open_adjoint : (is : List Item) → open_items (adjoint_items is) ≡ open_items is
open_adjoint [] = refl
open_adjoint (Spider d ∷ is) = open_adjoint is
open_adjoint (Wire w ∷ is) = open_adjoint is
open_adjoint (Leg l ∷ is) = ap (λ n. opens l.setting + n) (open_adjoint is)
open_adjoint (Factor f ∷ is) = open_adjoint is
open_adjoint (Zero ∷ is) = open_adjoint is

-- a leg that is open below stays open, or is set
open_or_set : (t s : Setting) → opens (over_setting t s) + sets t s ≡ opens t
open_or_set Open Open = refl
open_or_set Open HeldZero = refl
open_or_set Open HeldOne = refl
open_or_set HeldZero s = refl
open_or_set HeldOne s = refl

module _ (ss : List Setting) where
  open_held : (n : ℕ) (is : List Item) → open_items (held_items ss n is) + set_legs ss n is ≡ open_items is
  open_held n [] = refl
  open_held n (Spider d ∷ is) = open_held n is
  open_held n (Wire w ∷ is) = open_held n is
  open_held n (Leg l ∷ is) =
      let here = open_or_set l.setting (setting_at ss n) in
      let more = open_held (n + 1) is in
      omega arith
  open_held n (Factor f ∷ is) = open_held n is
  open_held n (Zero ∷ is) = open_held n is

  full_leg_length : (s : Setting) (more : List Bool → List Bool) (k : ℕ) → ((row : List Bool) → length (more row) ≡ k) → (row : List Bool) (t : Setting) → length (full_leg t s more row) ≡ opens t + k
  full_leg_length s more k e row Open = let long = e (row_after s row) in omega arith
  full_leg_length s more k e row HeldZero = let long = e row in omega arith
  full_leg_length s more k e row HeldOne = let long = e row in omega arith

  full_length : (n : ℕ) (is : List Item) (row : List Bool) → length (full_row ss n is row) ≡ open_items is
  full_length n [] row = refl
  full_length n (Spider d ∷ is) row = full_length n is row
  full_length n (Wire w ∷ is) row = full_length n is row
  full_length n (Leg l ∷ is) row = full_leg_length (setting_at ss n) (full_row ss (n + 1) is) (open_items is) (λ r. full_length (n + 1) is r) row l.setting
  full_length n (Factor f ∷ is) row = full_length n is row
  full_length n (Zero ∷ is) row = full_length n is row

pub open_legs : OpenLegs
open_legs = record { of_adjoint = open_adjoint; of_hold = λ ss is. open_held ss 0 is; of_row = λ ss is row. full_length ss 0 is row }
