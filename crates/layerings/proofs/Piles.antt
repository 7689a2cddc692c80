-- Piles of layers, by induction on their height; and which piles are equal. Assumes nothing.
use mathlib.Core.Path.{◌≡◌, refl, sym, ap, ap₂, ◌∙◌}
use mathlib.Core.Bool.{Bool, true, false, cond, not}
use mathlib.Core.List.{List, [], ◌∷◌}
use Prim.Native.Nat.{ℕ, zero, suc, ◌-◌, ◌%◌}
use native.Mathlib.Omega.{arith}
use lib.ListN.{length}
use Rattle.angles.specs.Angles.{phase, turn}
use Rattle.angles.proofs.Same.{same_angle}
use Rattle.amounts.specs.Scalars.{Scaled}
use Rattle.diagrams.specs.declared.items.Side.{Side}
use Rattle.diagrams.specs.declared.items.Side.TheVariants.{Input, Output}
use Rattle.diagrams.specs.declared.items.Setting.{Setting}
use Rattle.diagrams.specs.declared.items.Setting.TheVariants.{Open, HeldZero, HeldOne}
use Rattle.diagrams.specs.declared.items.Item.{Item}
use Rattle.diagrams.specs.declared.items.Item.TheVariants.{Spider, Wire, Leg, Factor, Zero}
use Rattle.diagrams.specs.Streams.{End, Stream}
use Rattle.amplitudes.specs.Items.{amplitude}
use Rattle.loadings.specs.Laws.{open_items}
use Rattle.layers.specs.Adjoints.{other_side, adjoint_item, adjoint_items}
use Rattle.layers.specs.Holds.{setting_at, over_setting, held_item, leg_after, held_items}
use Rattle.layers.proofs.Counting.{held_past}
use Rattle.layerings.specs.Conjugates.{conjugate}
use Rattle.layerings.specs.Layerings.{full_row}
use Rattle.layerings.specs.Piles.{LayerStep, adjoint, hold, layered, through, layered_stream, through_stream, row_below, row_through, conjugated_by, conjugated_through, odd_adjoints, merged, all_settings, adjoint_if, Piles, ShortPiles}
use Rattle.layerings.proofs.Conjugates.{conjugate-twice}
use Rattle.layerings.proofs.Adjoints.{adjoint_conjugates}
use Rattle.layerings.proofs.Holds.{hold_fills_the_row}
use Rattle.layerings.proofs.OpenLegs.{open_legs}

of_source_layer : (step : LayerStep) (is : List Item) (e : End) → layered_stream step (record { items = is; ending = e }) ≡ record { items = layered step is; ending = e }
of_source_layer adjoint is e = refl
of_source_layer (hold ss) is e = refl

of_source : (steps : List LayerStep) (s : Stream) → through_stream steps s ≡ record { items = through steps s.items; ending = s.ending }
of_source [] s = refl
of_source (step ∷ steps) s = ap (layered_stream step) (of_source steps s) ∙ of_source_layer step (through steps s.items) s.ending

of_layer : (s : LayerStep) (is : List Item) (row : List Bool) → amplitude (layered s is) row ≡ conjugated_by s (amplitude is (row_below s is row))
of_layer adjoint is row = adjoint_conjugates is row
of_layer (hold ss) is row = hold_fills_the_row ss is row

of_pile : (steps : List LayerStep) (is : List Item) (row : List Bool) → amplitude (through steps is) row ≡ conjugated_through steps (amplitude is (row_through steps is row))
of_pile [] is row = refl
of_pile (s ∷ steps) is row = of_layer s (through steps is) row ∙ ap (conjugated_by s) (of_pile steps is (row_below s (through steps is) row))

conjugate_again : (b : Bool) (x : Scaled) → conjugate (cond b (conjugate x) x) ≡ cond (not b) (conjugate x) x
conjugate_again true x = conjugate-twice x
conjugate_again false x = refl

by_parity : (steps : List LayerStep) (x : Scaled) → conjugated_through steps x ≡ cond (odd_adjoints steps) (conjugate x) x
by_parity [] x = refl
by_parity (adjoint ∷ steps) x = ap conjugate (by_parity steps x) ∙ conjugate_again (odd_adjoints steps) x
by_parity (hold ss ∷ steps) x = by_parity steps x

rows_fit : (steps : List LayerStep) (is : List Item) (row : List Bool) → length row ≡ open_items (through steps is) → length (row_through steps is row) ≡ open_items is
rows_fit [] is row e = e
rows_fit (adjoint ∷ steps) is row e = rows_fit steps is row (e ∙ open_legs.of_adjoint (through steps is))
rows_fit (hold ss ∷ steps) is row e = rows_fit steps is (full_row ss 0 (through steps is) row) (open_legs.of_row ss (through steps is) row)

pub piles : Piles
piles = record { of_source = of_source; of_layer = of_layer; of_pile = of_pile; by_parity = by_parity; rows_fit = rows_fit }

side-twice : (s : Side) → other_side (other_side s) ≡ s
side-twice Input = refl
side-twice Output = refl

item_twice : (i : Item) → adjoint_item (adjoint_item i) ≡ i
item_twice (Spider s) =
    let low = s.phase.bound in
    ap (λ p. Spider (record { colour = s.colour; phase = p })) (same_angle (phase (4 - (4 - s.phase.parts) % 4)) s.phase (omega arith))
item_twice (Wire w) = refl
item_twice (Leg l) = ap (λ s. Leg (record { side = s; spider = l.spider; kind = l.kind; setting = l.setting })) (side-twice l.side)
item_twice (Factor f) =
    let low = f.m.bound in
    ap (λ m. Factor (record { k = f.k; m = m })) (same_angle (turn (8 - (8 - f.m.parts) % 8)) f.m (omega arith))
item_twice Zero = refl

two_adjoints : (is : List Item) → adjoint_items (adjoint_items is) ≡ is
two_adjoints [] = refl
two_adjoints (i ∷ is) = ap₂ (λ x xs. x ∷ xs) (item_twice i) (two_adjoints is)

over_open : (t : Setting) → over_setting t Open ≡ t
over_open Open = refl
over_open HeldZero = refl
over_open HeldOne = refl

over_over : (u t s : Setting) → over_setting (over_setting u t) s ≡ over_setting u (over_setting t s)
over_over Open t s = refl
over_over HeldZero t s = refl
over_over HeldOne t s = refl

merged_at : (ts ss : List Setting) (n : ℕ) → setting_at (merged ts ss) n ≡ over_setting (setting_at ts n) (setting_at ss n)
merged_at [] ss n = refl
merged_at (t ∷ ts) [] n = sym (over_open (setting_at (t ∷ ts) n))
merged_at (t ∷ ts) (s ∷ ss) zero = refl
merged_at (t ∷ ts) (s ∷ ss) (suc n) = merged_at ts ss n

held-held : (s t : Setting) (i : Item) → held_item s (held_item t i) ≡ held_item (over_setting t s) i
held-held s t (Spider d) = refl
held-held s t (Wire w) = refl
held-held s t (Leg l) = ap (λ u. Leg (record { side = l.side; spider = l.spider; kind = l.kind; setting = u })) (over_over l.setting t s)
held-held s t (Factor f) = refl
held-held s t Zero = refl

-- neither layer changes which items are legs
held_after : (n : ℕ) (t : Setting) (i : Item) → leg_after n (held_item t i) ≡ leg_after n i
held_after n t (Spider d) = refl
held_after n t (Wire w) = refl
held_after n t (Leg l) = refl
held_after n t (Factor f) = refl
held_after n t Zero = refl

adjoint-after : (n : ℕ) (i : Item) → leg_after n (adjoint_item i) ≡ leg_after n i
adjoint-after n (Spider d) = refl
adjoint-after n (Wire w) = refl
adjoint-after n (Leg l) = refl
adjoint-after n (Factor f) = refl
adjoint-after n Zero = refl

adjoint-held : (s : Setting) (i : Item) → adjoint_item (held_item s i) ≡ held_item s (adjoint_item i)
adjoint-held s (Spider d) = refl
adjoint-held s (Wire w) = refl
adjoint-held s (Leg l) = refl
adjoint-held s (Factor f) = refl
adjoint-held s Zero = refl

two_holds : (ss ts : List Setting) (n : ℕ) (is : List Item) → held_items ss n (held_items ts n is) ≡ held_items (merged ts ss) n is
two_holds ss ts n [] = refl
two_holds ss ts n (i ∷ is) =
    ap₂ (λ x xs. x ∷ xs)
    (held-held (setting_at ss n) (setting_at ts n) i ∙ ap (λ s. held_item s i) (sym (merged_at ts ss n)))
    (ap (λ m. held_items ss m (held_items ts (leg_after n i) is)) (held_after n (setting_at ts n) i) ∙ two_holds ss ts (leg_after n i) is)

adjoint_and_hold : (ss : List Setting) (n : ℕ) (is : List Item) → adjoint_items (held_items ss n is) ≡ held_items ss n (adjoint_items is)
adjoint_and_hold ss n [] = refl
adjoint_and_hold ss n (i ∷ is) =
    ap₂ (λ x xs. x ∷ xs)
    (adjoint-held (setting_at ss n) i)
    (adjoint_and_hold ss (leg_after n i) is ∙ ap (λ m. held_items ss m (adjoint_items is)) (sym (adjoint-after n i)))

adjoint_again : (b : Bool) (is : List Item) → adjoint_items (adjoint_if b is) ≡ adjoint_if (not b) is
adjoint_again true is = two_adjoints is
adjoint_again false is = refl

held_over : (b : Bool) (ss ts : List Setting) (is : List Item) → held_items ss 0 (adjoint_if b (held_items ts 0 is)) ≡ adjoint_if b (held_items (merged ts ss) 0 is)
held_over true ss ts is = sym (adjoint_and_hold ss 0 (held_items ts 0 is)) ∙ ap adjoint_items (two_holds ss ts 0 is)
held_over false ss ts is = two_holds ss ts 0 is

shortest : (steps : List LayerStep) (is : List Item) → through steps is ≡ adjoint_if (odd_adjoints steps) (held_items (all_settings steps) 0 is)
shortest [] is = sym (held_past [] 0 is (omega arith))
shortest (adjoint ∷ steps) is = ap adjoint_items (shortest steps is) ∙ adjoint_again (odd_adjoints steps) (held_items (all_settings steps) 0 is)
shortest (hold ss ∷ steps) is = ap (held_items ss 0) (shortest steps is) ∙ held_over (odd_adjoints steps) ss (all_settings steps) is

pub short_piles : ShortPiles
short_piles = record {
  two_adjoints = two_adjoints;
  two_holds = λ ss ts is. two_holds ss ts 0 is;
  adjoint_and_hold = λ ss is. adjoint_and_hold ss 0 is;
  shortest = shortest;
}
