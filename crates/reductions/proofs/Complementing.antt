-- Local complementation on a working diagram keeps what a rule has to keep. Assumes nothing.
use Rattle.std.proofs.Common.{◌≡◌, ℕ, ◌+◌, ◌-◌, ◌*◌, ◌%◌, ◌<◌, Bool, true, false, cond, ◌&&◌, ◌||◌, eqb, List, pos, sym, refl, ap, ◌∙◌, ap₂, arith, ne_eqb}
use mathlib.Core.Bool.{and_comm}
use Rattle.amounts.specs.Amounts.{turned}
use Rattle.amounts.specs.Eighths.{Eighths, times, eighths}
use Rattle.amounts.specs.Scalars.{Same}
use Rattle.amounts.proofs.Eighths.{lawful}
use Rattle.amounts.proofs.Powers.{one-mul}
use Rattle.graphs.specs.Counts.{bit}
use Rattle.graphs.specs.Graphs.{Graph, SoundGraph, without, odd_turn, graph_sum}
use Rattle.graphs.specs.Rules.{xor, Complemented}
use Rattle.graphs.proofs.Complements.{complement-sound}
use Rattle.models.specs.Models.{Model, Sound, slots, spider_limit, leg_limit, open_legs, legs_term, amount, standing}
use Rattle.models.proofs.Counts.{total-without, without-stood, without_off}
use Rattle.models.proofs.Toggles.{other_end}
use Rattle.models.proofs.Truths.{both_true}
use Rattle.reductions.specs.Rules.{complemented}
use Rattle.reductions.specs.Kept.{Kept}
use Rattle.reductions.proofs.Blinds.{legs_blind}
use Rattle.reductions.proofs.Fits.{ComplementAt}
use Rattle.reductions.proofs.Paying.{paid, rooted_none, rooted-one, product-size, product_moved, product-turn}
use Rattle.reductions.proofs.Slots.{still-stands, no_edge, toggled-graph-sound}

module _ (m : Model) (u : ℕ) (good : Sound m) (at : ComplementAt m u) where
  abbrev G : Graph
  G = m.graph

  abbrev H : Graph
  H = (complemented u m).graph

  stood : G.stands u ≡ true
  stood = at.here.stood

  below : u < slots
  below = good.inside u stood

  rule : Complemented slots u G H
  unfolding complemented
  rule = record {
    below = below;
    stood = stood;
    odd = at.phase;
    gone = λ s. refl;
    phases = λ s l ne. ap (λ b. cond b 0 ((G.phase s + bit (G.edge u s) * (4 - G.phase u)) % 4)) (ne_eqb s u ne);
    edges = λ s t l k a b c. ap₂ (λ p q. cond (p || q) false (xor (G.edge s t) (G.edge u s && G.edge u t))) (ne_eqb s u a) (ap₂ ◌||◌ (ne_eqb t u b) (ne_eqb s t c));
  }

  graph-sound : SoundGraph slots H
  unfolding complemented
  graph-sound = toggled-graph-sound slots G (λ s. eqb s u) (without G.stands u) _ (λ s t. G.edge u s && G.edge u t) good.graph
      (λ s t. and_comm (G.edge u s) (G.edge u t))
      (λ s t e. other_end m u s good (both_true (G.edge u s) (G.edge u t) e).0)
      (λ s on stay. ap (λ b. cond b false (G.stands s)) stay ∙ on)

  kept_amplitude : (row : List Bool) → Same (amount m row) (amount (complemented u m) row)
  unfolding complemented
  kept_amplitude row = paid (pos 1) (odd_turn (G.phase u)) m.scalar _ _
      (ap (λ r. times r (graph_sum eighths slots G g)) rooted_none ∙ one-mul eighths lawful (graph_sum eighths slots G g)
      ∙ complement-sound eighths lawful slots u G H g good.graph rule (legs_blind eighths leg_limit 0 u m.leg row at.here.off)
      ∙ ap (λ r. times (times r (turned eighths (odd_turn (G.phase u)))) (graph_sum eighths slots H g)) (sym rooted-one))
    where
      g : (ℕ → Bool) → Eighths
      g = legs_term eighths (open_legs m) row

  fewer : standing (complemented u m) + 1 ≡ standing m
  unfolding complemented
  fewer = total-without slots G.stands u below stood

  sound : Sound (complemented u m)
  unfolding complemented
  sound = record {
    graph = graph-sound;
    inside = λ s e. good.inside s (without-stood G.stands u s e);
    phases = λ s. small s (eqb s u);
    blank = λ s e. empty s (eqb s u) e;
    few = good.few;
    held = λ l o e. still-stands G.stands u o.slot (at.here.off l o e) ∙ good.held l o e;
    free = λ l o e. without_off G.stands u (spider_limit + l) (good.free l o e);
    turn = product-turn (pos 1) (odd_turn (G.phase u)) m.scalar good.turn;
    range = let one = fewer in let size = product-size (pos 1) (odd_turn (G.phase u)) m.scalar in let r = good.range in omega arith;
  }
    where
      gain : ℕ → ℕ
      gain s = bit (G.edge u s) * (4 - G.phase u)

      small : (s : ℕ) (b : Bool) → cond b 0 ((G.phase s + gain s) % 4) < 4
      small s true = omega arith
      small s false = omega arith

      empty : (s : ℕ) (b : Bool) → cond b false (G.stands s) ≡ false → cond b 0 ((G.phase s + gain s) % 4) ≡ 0
      empty s true e = refl
      empty s false e = ap₂ (λ p b. (p + bit b * (4 - G.phase u)) % 4) (good.blank s e) (no_edge slots G good.graph s u e).1 ∙ omega arith

  pub complement_kept : Kept m (complemented u m)
  unfolding complemented
  complement_kept = record {
    sound = sound;
    amplitude = kept_amplitude;
    fewer = let one = fewer in omega arith;
    scalar = let one = fewer in product_moved (standing m - standing (complemented u m)) (pos 1) (odd_turn (G.phase u)) m.scalar (omega arith);
    legs = λ l. refl;
  }
