-- Past all settings no leg is held, so that it does not matter by how much a number is past them. Assumes nothing.
use Rattle.std.proofs.Common.{◌≡◌, ℕ, ◌≤◌, List, [], ◌∷◌, length, refl, ap, ◌∙◌, ap₂, arith}
use Rattle.std.proofs.lemmas.List.{get_or_past}
use Rattle.diagrams.specs.declared.items.Setting.{Setting}
use Rattle.diagrams.specs.declared.items.Setting.TheVariants.{Open, HeldZero, HeldOne}
use Rattle.diagrams.specs.declared.items.Item.{Item}
use Rattle.diagrams.specs.declared.items.Item.TheVariants.{Spider, Wire, Leg, Factor, Zero}
use Rattle.layers.specs.Holds.{over_setting, held_item, leg_after, held_items}

over_open : (s : Setting) → over_setting s Open ≡ s
over_open Open = refl
over_open HeldZero = refl
over_open HeldOne = refl

-- an open setting leaves an item as it is
pub held_open : (i : Item) → held_item Open i ≡ i
held_open (Spider d) = refl
held_open (Wire w) = refl
held_open (Leg l) = ap (λ s. Leg (record { side = l.side; spider = l.spider; kind = l.kind; setting = s })) (over_open l.setting)
held_open (Factor f) = refl
held_open Zero = refl

after_more : (n : ℕ) (i : Item) → n ≤ leg_after n i
after_more n (Spider d) = omega arith
after_more n (Wire w) = omega arith
after_more n (Leg l) = omega arith
after_more n (Factor f) = omega arith
after_more n Zero = omega arith

pub held_past : (ss : List Setting) (n : ℕ) (is : List Item) → length ss ≤ n → held_items ss n is ≡ is
held_past ss n [] h = refl
held_past ss n (i ∷ is) h =
    let more = after_more n i in
    ap₂ (λ x xs. x ∷ xs) (ap (λ s. held_item s i) (get_or_past ss n Open h) ∙ held_open i) (held_past ss (leg_after n i) is (omega arith))
