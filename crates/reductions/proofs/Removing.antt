-- Removing an isolated spider from a working diagram keeps what a rule has to keep. Assumes nothing.
use Rattle.std.proofs.Common.{◌≡◌, ℕ, ◌+◌, ◌-◌, ◌<◌, ◌≤◌, Bool, true, false, cond, eqb, ◌⊎◌, List, pos, sym, refl, ap, ◌∙◌, subst, ap₂, ⊎_elim, arith, ne_eqb}
use borrow.Author.Tests.{both_ways}
use Rattle.amounts.specs.Amounts.{root_two}
use Rattle.amounts.specs.Eighths.{Eighths, none, times, eighths}
use Rattle.amounts.specs.Scalars.{Same}
use Rattle.amounts.proofs.Eighths.{lawful}
use Rattle.amounts.proofs.Powers.{one-mul}
use Rattle.amounts.proofs.Turns.{turned_none}
use Rattle.graphs.specs.Graphs.{Graph, SoundGraph, graph_sum}
use Rattle.graphs.specs.Rules.{Dropped, drop_pays}
use Rattle.graphs.proofs.Drops.{drop_sound}
use Rattle.models.specs.Models.{Scalar, nothing, Model, Sound, BelowFullTurn, slots, spider_limit, leg_limit, open_legs, legs_term, amount, scaled_by, size, standing}
use Rattle.models.proofs.Counts.{total-without, without-stood, without_off}
use Rattle.models.proofs.Toggles.{other_end}
use Rattle.reductions.specs.Rules.{dropped, dropped_scalar}
use Rattle.reductions.specs.Kept.{Moved, Kept}
use Rattle.reductions.proofs.Blinds.{legs_blind}
use Rattle.reductions.proofs.Fits.{DropAt}
use Rattle.reductions.proofs.Paying.{paid, rooted_none, rooted_two, product-size, product_moved, product-turn, zero-scaled, zero_same, nothing_moved}
use Rattle.reductions.proofs.Slots.{still-stands, total-zero}

-- the scalar at phase 0, and at phase 2
scalar_cases : (p : ℕ) (a : Scalar) (P : Scalar → Type 0) → (p ≡ 0) ⊎ (p ≡ 2) → P (dropped_scalar 0 a) → P (dropped_scalar 2 a) → P (dropped_scalar p a)
scalar_cases p a P even x y = ⊎_elim (λ e. subst (λ r. P (dropped_scalar r a)) (sym e) x) (λ e. subst (λ r. P (dropped_scalar r a)) (sym e) y) even

module _ (m : Model) (u : ℕ) (good : Sound m) (at : DropAt m u) where
  abbrev G : Graph
  G = m.graph

  abbrev H : Graph
  H = (dropped u m).graph

  stood : G.stands u ≡ true
  stood = at.even.here.stood

  below : u < slots
  below = good.inside u stood

  -- no slot, inside or not, is beside u
  alone : (t : ℕ) → G.edge u t ≡ false
  alone t = go (G.edge u t) refl
    where
      go : (b : Bool) → G.edge u t ≡ b → b ≡ false
      go true e = sym e ∙ total-zero slots (G.edge u) at.alone t (good.inside t (other_end m u t good e))
      go false e = refl

  rule : Dropped slots u G H
  unfolding dropped
  rule = record {
    below = below;
    stood = stood;
    even = at.even.phase;
    alone = λ s l. alone s;
    gone = λ s. refl;
    phases = λ s l ne. ap (λ b. cond b 0 (G.phase s)) (ne_eqb s u ne);
    edges = λ s t l k a b c. refl;
  }

  kept_amplitude : (row : List Bool) → Same (amount m row) (amount (dropped u m) row)
  unfolding dropped
  kept_amplitude row = ⊎_elim
      (λ e. subst (λ p. before ≡ times (drop_pays eighths p) after → Same (scaled_by m.scalar before) (scaled_by (dropped_scalar p m.scalar) after)) (sym e) whole paying)
      (λ e. subst (λ p. before ≡ times (drop_pays eighths p) after → Same (scaled_by m.scalar before) (scaled_by (dropped_scalar p m.scalar) after)) (sym e) none_left paying)
      at.even.phase
    where
      g : (ℕ → Bool) → Eighths
      g = legs_term eighths (open_legs m) row

      before : Eighths
      before = graph_sum eighths slots G g

      after : Eighths
      after = graph_sum eighths slots H g

      paying : before ≡ times (drop_pays eighths (G.phase u)) after
      paying = drop_sound eighths lawful slots u G H g good.graph rule (legs_blind eighths leg_limit 0 u m.leg row at.even.here.off)

      whole : before ≡ times (drop_pays eighths 0) after → Same (scaled_by m.scalar before) (scaled_by (dropped_scalar 0 m.scalar) after)
      whole h = paid (pos 2) 0 m.scalar before after
          (ap (λ r. times r before) rooted_none ∙ one-mul eighths lawful before ∙ h
          ∙ ap (λ r. times r after) (sym (ap₂ times rooted_two (turned_none eighths lawful) ∙ lawful.mul_one (times (root_two eighths) (root_two eighths)))))

      none_left : before ≡ times (drop_pays eighths 2) after → Same (scaled_by m.scalar before) (scaled_by (dropped_scalar 2 m.scalar) after)
      none_left h = zero_same (scaled_by m.scalar before) (scaled_by nothing after) (zero-scaled m.scalar before (h ∙ lawful.mul_comm none after ∙ lawful.mul_zero after)) refl

  fewer : standing (dropped u m) + 1 ≡ standing m
  unfolding dropped
  fewer = total-without slots G.stands u below stood

  graph-sound : SoundGraph slots H
  unfolding dropped
  graph-sound = record {
    symmetric = good.graph.symmetric;
    loop_free = good.graph.loop_free;
    standing = λ s t e. still-stands G.stands u s (λ q. both_ways (G.edge u t) (alone t) (ap (λ k. G.edge k t) (sym q) ∙ e)) ∙ good.graph.standing s t e;
  }

  sound : Sound (dropped u m)
  unfolding dropped
  sound = record {
    graph = graph-sound;
    inside = λ s e. good.inside s (without-stood G.stands u s e);
    phases = λ s. small s (eqb s u);
    blank = λ s e. empty s (eqb s u) e;
    few = good.few;
    held = λ l o e. still-stands G.stands u o.slot (at.even.here.off l o e) ∙ good.held l o e;
    free = λ l o e. without_off G.stands u (spider_limit + l) (good.free l o e);
    turn = scalar_cases (G.phase u) m.scalar BelowFullTurn at.even.phase (product-turn (pos 2) 0 m.scalar good.turn) (omega arith);
    range =
        let one = fewer in
        let less : size (dropped_scalar (G.phase u) m.scalar) ≤ size m.scalar + 2 = scalar_cases (G.phase u) m.scalar (λ a. size a ≤ size m.scalar + 2) at.even.phase (product-size (pos 2) 0 m.scalar) (omega arith) in
        let r = good.range in
        omega arith;
  }
    where
      small : (s : ℕ) (b : Bool) → cond b 0 (G.phase s) < 4
      small s true = omega arith
      small s false = good.phases s

      empty : (s : ℕ) (b : Bool) → cond b false (G.stands s) ≡ false → cond b 0 (G.phase s) ≡ 0
      empty s true e = refl
      empty s false e = good.blank s e

  pub removal_kept : Kept m (dropped u m)
  unfolding dropped
  removal_kept = record {
    sound = sound;
    amplitude = kept_amplitude;
    fewer = let one = fewer in omega arith;
    scalar =
        let one = fewer in
        let n = standing m - standing (dropped u m) in
        scalar_cases (G.phase u) m.scalar (Moved n m.scalar) at.even.phase (product_moved n (pos 2) 0 m.scalar (omega arith)) (nothing_moved n m.scalar);
    legs = λ l. refl;
  }
