-- The amplitude of items with held legs is that of the items at the full row. Assumes nothing.
use mathlib.Core.Path.{◌≡◌, refl, ap, ap₂, ◌∙◌, fun_ext}
use mathlib.Core.Bool.{Bool}
use mathlib.Core.List.{List, [], ◌∷◌}
use Prim.Native.Nat.{ℕ, ◌+◌}
use lib.IntN.{◌+ℤ◌}
use lib.ListN.{length}
use Rattle.amounts.specs.Amounts.{turned}
use Rattle.amounts.specs.Eighths.{Eighths, times, eighths}
use Rattle.graphs.specs.Graphs.{Bits, sum}
use Rattle.diagrams.specs.declared.items.Colour.{Colour}
use Rattle.diagrams.specs.declared.items.Setting.{Setting}
use Rattle.diagrams.specs.declared.items.Setting.TheVariants.{Open, HeldZero, HeldOne}
use Rattle.diagrams.specs.declared.items.Item.{Item}
use Rattle.diagrams.specs.declared.items.Item.TheVariants.{Spider, Wire, Leg, Factor, Zero}
use Rattle.amplitudes.specs.Items.{colours, wire_kind, leg_kind, joint, leg_bit, row_after, term, every_slot, terms_sum, cost, root_power, eighth_turns}
use Rattle.layers.specs.Holds.{setting_at, over_setting, held_items}
use Rattle.layerings.specs.Layerings.{full_leg, full_row, HoldFillsTheRow}

module _ (ss : List Setting) where
  colours-held : (n : ℕ) (is : List Item) → colours (held_items ss n is) ≡ colours is
  colours-held n [] = refl
  colours-held n (Spider s ∷ is) = ap (λ cs. s.colour ∷ cs) (colours-held n is)
  colours-held n (Wire w ∷ is) = colours-held n is
  colours-held n (Leg l ∷ is) = colours-held (n + 1) is
  colours-held n (Factor f ∷ is) = colours-held n is
  colours-held n (Zero ∷ is) = colours-held n is

  root_power-held : (cs : List Colour) (n : ℕ) (is : List Item) → root_power cs (held_items ss n is) ≡ root_power cs is
  root_power-held cs n [] = refl
  root_power-held cs n (Spider s ∷ is) = root_power-held cs n is
  root_power-held cs n (Wire w ∷ is) = ap (λ k. cost (wire_kind cs w) +ℤ k) (root_power-held cs n is)
  root_power-held cs n (Leg l ∷ is) = ap (λ k. cost (leg_kind cs l) +ℤ k) (root_power-held cs (n + 1) is)
  root_power-held cs n (Factor f ∷ is) = ap (λ k. f.k.exponent +ℤ k) (root_power-held cs n is)
  root_power-held cs n (Zero ∷ is) = root_power-held cs n is

  turns-held : (n : ℕ) (is : List Item) → eighth_turns (held_items ss n is) ≡ eighth_turns is
  turns-held n [] = refl
  turns-held n (Spider s ∷ is) = turns-held n is
  turns-held n (Wire w ∷ is) = turns-held n is
  turns-held n (Leg l ∷ is) = turns-held (n + 1) is
  turns-held n (Factor f ∷ is) = ap (λ m. f.m.parts + m) (turns-held n is)
  turns-held n (Zero ∷ is) = turns-held n is

  -- a leg reads the same bit, and leaves the full row of the items after it
  leg-held : (factor : Bool → Eighths) (above below : List Bool → Eighths) (more : List Bool → List Bool) (s : Setting) (row : List Bool) → ((r : List Bool) → above r ≡ below (more r)) → (t : Setting) → times (factor (leg_bit (over_setting t s) row)) (above (row_after (over_setting t s) row)) ≡ times (factor (leg_bit t (full_leg t s more row))) (below (row_after t (full_leg t s more row)))
  leg-held factor above below more s row e Open = ap (times (factor (leg_bit s row))) (e (row_after s row))
  leg-held factor above below more s row e HeldZero = ap (times _) (e row)
  leg-held factor above below more s row e HeldOne = ap (times _) (e row)

  term-held : (cs : List Colour) (n : ℕ) (is : List Item) (m : ℕ) (row : List Bool) (x : Bits) → term eighths cs (held_items ss n is) m row x ≡ term eighths cs is m (full_row ss n is row) x
  term-held cs n [] m row x = refl
  term-held cs n (Spider s ∷ is) m row x = ap (times _) (term-held cs n is (m + 1) row x)
  term-held cs n (Wire w ∷ is) m row x = ap (times _) (term-held cs n is m row x)
  term-held cs n (Leg l ∷ is) m row x =
      leg-held (λ b. joint eighths (leg_kind cs l) (x l.spider) b) (λ r. term eighths cs (held_items ss (n + 1) is) m r x) (λ r. term eighths cs is m r x)
      (full_row ss (n + 1) is) (setting_at ss n) row (λ r. term-held cs (n + 1) is m r x) l.setting
  term-held cs n (Factor f ∷ is) m row x = term-held cs n is m row x
  term-held cs n (Zero ∷ is) m row x = refl

  terms_held : (is : List Item) (row : List Bool) → terms_sum eighths (held_items ss 0 is) row ≡ terms_sum eighths is (full_row ss 0 is row)
  terms_held is row =
      ap (λ cs. sum eighths (length cs) every_slot (term eighths cs (held_items ss 0 is) 0 row)) (colours-held 0 is)
      ∙ ap (sum eighths (length (colours is)) every_slot) (fun_ext (λ x. term-held (colours is) 0 is 0 row x))

pub hold_fills_the_row : HoldFillsTheRow
hold_fills_the_row ss is row =
    ap₂ (λ k z. record { k = k; z = z })
    (ap (λ cs. root_power cs (held_items ss 0 is)) (colours-held ss 0 is) ∙ root_power-held ss (colours is) 0 is)
    (ap₂ times (ap (turned eighths) (turns-held ss 0 is)) (terms_held ss is row))
