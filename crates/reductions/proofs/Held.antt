-- Holding a slot of a working diagram at a bit: the amount is that of a leg at the bit, and the diagram stays sound. Assumes nothing.
use Rattle.std.proofs.Common.{◌≡◌, ℕ, ◌+◌, ◌-◌, ◌*◌, ◌<◌, ◌≤◌, Bool, true, false, cond, not, ◌&&◌, leb, List, negsuc, is_some, None, sym, refl, ap, ◌∙◌, subst, ap₂, arith, lt-ltb, eq-eqb, ne_eqb, le-leb}
use mathlib.Core.Bool.{and-false}
use borrow.Author.Tests.{both_ways}
use Rattle.amounts.specs.Eighths.{unit, times, eighths}
use Rattle.amounts.specs.Scalars.{Same}
use Rattle.amounts.proofs.Eighths.{lawful}
use Rattle.amounts.proofs.Powers.{one-mul}
use Rattle.amounts.proofs.Turns.{turned_none}
use Rattle.graphs.specs.Counts.{bit}
use Rattle.graphs.specs.Graphs.{graph_sum}
use Rattle.diagrams.specs.declared.items.Kind.{Kind}
use Rattle.diagrams.specs.declared.items.Kind.TheVariants.{Plain, Hadamard}
use Rattle.amplitudes.specs.Items.{joint}
use Rattle.models.specs.Models.{Model, Sound, slots, spider_limit, leg_limit, open_legs, legs_term, amount, scaled_by, standing, reach, reach_limit}
use Rattle.models.specs.Edits.{placed, toggled, gained, scaled, only_slot, held, held_if, can_place, can_join, can_scale, reserved}
use Rattle.models.proofs.Counts.{standing-placed}
use Rattle.models.proofs.Holding.{held_plain, held_hadamard}
use Rattle.models.proofs.Keeps.{placed-sound, scaled-sound}
use Rattle.models.proofs.Stays.{standing-gained}
use Rattle.models.proofs.Toggles.{toggled-sound, gained-sound}
use Rattle.reductions.proofs.Blinds.{Off, legs_blind}
use Rattle.reductions.proofs.Paying.{paid, rooted_none, rooted_two, product-size}

-- slot s can be held as by leg l: a spider is there, leg l is not open, and the slot for its holder is empty
pub record Holdable (m : Model) (s l : ℕ) : Type 0 where
  pub sound : Sound m
  pub stood : m.graph.stands s ≡ true
  pub few : l < leg_limit
  pub gone : m.leg l ≡ None
  pub empty : m.graph.stands (spider_limit + l) ≡ false
  pub room : reach m + 4 ≤ reach_limit

module _ (m : Model) (s l : ℕ) (h : Holdable m s l) where
  abbrev holder : ℕ
  holder = spider_limit + l

  below : s < slots
  below = h.sound.inside s h.stood

  low : holder < slots
  low = let f = h.few in omega arith

  off : Off m.leg holder
  off k o e q = both_ways (m.graph.stands holder) h.empty (ap m.graph.stands (sym q) ∙ h.sound.held k o e)

  pub held_same : (k : Kind) (b : Bool) (row : List Bool) → Same (scaled_by m.scalar (graph_sum eighths slots m.graph (λ x. times (joint eighths k (x s) b) (legs_term eighths (open_legs m) row x)))) (amount (held s k l b m) row)
  unfolding gained scaled toggled placed
  held_same Hadamard b row =
      let g = legs_term eighths (open_legs m) row in
      subst (λ z. Same (scaled_by m.scalar z) (amount (gained (only_slot s) (2 * bit b) m) row)) (held_hadamard eighths lawful slots s b m g below) refl
  held_same Plain b row =
      let g = legs_term eighths (open_legs m) row in
      let before = graph_sum eighths slots m.graph (λ x. times (joint eighths Plain (x s) b) (g x)) in
      let after = graph_sum eighths slots (toggled holder s (placed holder (2 * bit b) m)).graph g in
      paid (negsuc 1) 0 m.scalar before after
      (ap (λ r. times r before) rooted_two
      ∙ sym (held_plain eighths lawful slots holder s b m g h.sound.graph low below h.empty h.stood (legs_blind eighths leg_limit 0 holder m.leg row off))
      ∙ sym (ap (λ r. times r after) (ap₂ times rooted_none (turned_none eighths lawful) ∙ lawful.mul_one unit) ∙ one-mul eighths lawful after))

  -- a spider in the slot of the holder, the two joined, and the scalar
  module _ (p : ℕ) (small : p < 4) where
    abbrev first : Model
    first = placed holder p m

    abbrev second : Model
    second = toggled holder s first

    free : reserved m holder ≡ false
    free =
        let same : spider_limit + l - spider_limit ≡ l = omega arith in
        ap (λ o. leb spider_limit holder && is_some o) (ap m.leg same ∙ h.gone) ∙ and-false (leb spider_limit holder)

    can_first : can_place holder m ≡ true
    can_first = let r = h.room in ap₂ ◌&&◌ (lt-ltb holder slots low) (ap₂ ◌&&◌ (ap not h.empty) (ap₂ ◌&&◌ (ap not free) (le-leb (reach m + 2) reach_limit (omega arith))))

    can_second : can_join holder s first ≡ true
    unfolding placed
    can_second =
        let apart = λ (e : holder ≡ s). both_ways (m.graph.stands holder) h.empty (ap m.graph.stands e ∙ h.stood) in
        ap₂ ◌&&◌ (ap not (ne_eqb holder s apart)) (ap₂ ◌&&◌ (ap (λ b. cond b true (m.graph.stands holder)) (eq-eqb holder holder refl)) (ap (λ b. cond b true (m.graph.stands s)) (ne_eqb s holder (λ e. apart (sym e))) ∙ h.stood))

    more : standing (scaled (negsuc 1) 0 second) ≡ standing m + 1
    unfolding scaled toggled
    more = standing-placed holder p m low h.empty

    reached : reach (scaled (negsuc 1) 0 second) ≤ reach_limit
    unfolding scaled toggled placed
    reached = let one = more in let sz = product-size (negsuc 1) 0 m.scalar in let r = h.room in omega arith

    can_third : can_scale (negsuc 1) 0 second ≡ true
    can_third = le-leb (reach (scaled (negsuc 1) 0 second)) reach_limit reached

    third_sound : Sound (scaled (negsuc 1) 0 second)
    third_sound = scaled-sound (negsuc 1) 0 (toggled-sound holder s (placed-sound holder p small h.sound can_first) can_second) can_third

  half : (b : Bool) → 2 * bit b < 4
  half true = omega arith
  half false = omega arith

  pub held-sound : (k : Kind) (b : Bool) → Sound (held s k l b m)
  held-sound Hadamard b = gained-sound (only_slot s) (2 * bit b) h.sound
  held-sound Plain b = third_sound (2 * bit b) (half b)

  -- every edit of it can be made
  pub held_if_is : (k : Kind) (b : Bool) → held_if s k l b m ≡ held s k l b m
  held_if_is Hadamard b = refl
  held_if_is Plain b =
      let p = first (2 * bit b) (half b) in
      let q = second (2 * bit b) (half b) in
      ap (λ t. let x = cond t p m in let y = cond (can_join holder s x) (toggled holder s x) x in cond (can_scale (negsuc 1) 0 y) (scaled (negsuc 1) 0 y) y) (can_first (2 * bit b) (half b))
      ∙ ap (λ t. let y = cond t q p in cond (can_scale (negsuc 1) 0 y) (scaled (negsuc 1) 0 y) y) (can_second (2 * bit b) (half b))
      ∙ ap (λ t. cond t (scaled (negsuc 1) 0 q) q) (can_third (2 * bit b) (half b))

  pub held-standing : (k : Kind) (b : Bool) → standing (held s k l b m) ≤ standing m + 1
  held-standing Hadamard b = let same = standing-gained m (only_slot s) (2 * bit b) in omega arith
  held-standing Plain b = let one = more (2 * bit b) (half b) in omega arith

-- the legs stay
pub held-legs : (m : Model) (s l : ℕ) (k : Kind) (b : Bool) (j : ℕ) → (held s k l b m).leg j ≡ m.leg j
unfolding gained scaled toggled placed
held-legs m s l Hadamard b j = refl
held-legs m s l Plain b j = refl
