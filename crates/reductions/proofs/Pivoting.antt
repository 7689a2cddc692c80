-- Pivoting on a working diagram keeps what a rule has to keep. Assumes nothing.
use Rattle.std.proofs.Common.{◌≡◌, ℕ, ◌+◌, ◌-◌, ◌*◌, ◌%◌, ◌<◌, Bool, true, false, cond, ◌&&◌, ◌||◌, eqb, List, pos, sym, refl, ap, ◌∙◌, ap₂, arith, ne_eqb}
use mathlib.Core.Bool.{and_comm}
use borrow.Author.Tests.{clash}
use Rattle.amounts.specs.Amounts.{turned}
use Rattle.amounts.specs.Eighths.{Eighths, times, eighths}
use Rattle.amounts.specs.Scalars.{Same}
use Rattle.amounts.proofs.Eighths.{lawful}
use Rattle.amounts.proofs.Powers.{one-mul}
use Rattle.graphs.specs.Counts.{bit}
use Rattle.graphs.specs.Graphs.{Graph, SoundGraph, without, graph_sum}
use Rattle.graphs.specs.Rules.{xor, Pivoted}
use Rattle.graphs.proofs.Pivots.{pivot-sound}
use Rattle.models.specs.Models.{Model, Sound, slots, spider_limit, leg_limit, open_legs, legs_term, amount, standing}
use Rattle.models.proofs.Counts.{total-without, without-stood, without_off}
use Rattle.models.proofs.Toggles.{other_end}
use Rattle.models.proofs.Truths.{xor_comm}
use Rattle.reductions.specs.Rules.{pivoted, pivot_gain}
use Rattle.reductions.specs.Kept.{Kept}
use Rattle.reductions.proofs.Blinds.{legs_blind}
use Rattle.reductions.proofs.Fits.{PivotAt}
use Rattle.reductions.proofs.Paying.{paid, rooted_none, rooted_two, product-size, product_moved, product-turn}
use Rattle.reductions.proofs.Slots.{still-stands, no_edge, toggled-graph-sound}

module _ (m : Model) (u v : ℕ) (good : Sound m) (at : PivotAt m u v) where
  abbrev G : Graph
  G = m.graph

  abbrev H : Graph
  H = (pivoted u v m).graph

  u_stood : G.stands u ≡ true
  u_stood = at.first.here.stood

  v_stood : G.stands v ≡ true
  v_stood = at.second.here.stood

  u_below : u < slots
  u_below = good.inside u u_stood

  v_below : v < slots
  v_below = good.inside v v_stood

  apart : ¬ (u ≡ v)
  apart e = let l = at.order in omega arith

  neither : (s : ℕ) → ¬ (s ≡ u) → ¬ (s ≡ v) → (eqb s u || eqb s v) ≡ false
  neither s a b = ap₂ ◌||◌ (ne_eqb s u a) (ne_eqb s v b)

  abbrev flip : ℕ → ℕ → Bool
  flip s t = xor (G.edge u s && G.edge v t) (G.edge v s && G.edge u t)

  rule : Pivoted slots u v G H
  unfolding pivoted
  rule = record {
    u_below = u_below;
    v_below = v_below;
    apart = apart;
    u_stood = u_stood;
    v_stood = v_stood;
    joined = at.joined;
    u_even = at.first.phase;
    v_even = at.second.phase;
    gone = λ s. refl;
    phases = λ s l a b. ap (λ c. cond c 0 ((G.phase s + pivot_gain u v m s) % 4)) (neither s a b);
    edges = λ s t l k a b c d e. ap₂ (λ p q. cond (p || q) false (xor (G.edge s t) (flip s t))) (neither s a b) (ap₂ ◌||◌ (neither t c d) (ne_eqb s t e));
  }

  flip_swap : (s t : ℕ) → flip s t ≡ flip t s
  flip_swap s t = ap₂ xor (and_comm (G.edge u s) (G.edge v t)) (and_comm (G.edge v s) (G.edge u t)) ∙ xor_comm (G.edge v t && G.edge u s) (G.edge u t && G.edge v s)

  flip_stands : (s t : ℕ) → flip s t ≡ true → G.stands s ≡ true
  flip_stands s t e = go (G.edge u s) (G.edge v s) refl refl e
    where
      go : (a b : Bool) → G.edge u s ≡ a → G.edge v s ≡ b → xor (a && G.edge v t) (b && G.edge u t) ≡ true → G.stands s ≡ true
      go true b p q h = other_end m u s good p
      go false true p q h = other_end m v s good q
      go false false p q h = absurd (clash h)

  stays : (s : ℕ) → G.stands s ≡ true → (eqb s u || eqb s v) ≡ false → without (without G.stands u) v s ≡ true
  stays s on e = go (eqb s u) (eqb s v) e
    where
      go : (a b : Bool) → (a || b) ≡ false → cond b false (cond a false (G.stands s)) ≡ true
      go true b h = absurd (clash (sym h))
      go false true h = absurd (clash (sym h))
      go false false h = on

  graph-sound : SoundGraph slots H
  unfolding pivoted
  graph-sound = toggled-graph-sound slots G (λ s. eqb s u || eqb s v) (without (without G.stands u) v) _ flip good.graph flip_swap flip_stands stays

  kept_amplitude : (row : List Bool) → Same (amount m row) (amount (pivoted u v m) row)
  unfolding pivoted
  kept_amplitude row = paid (pos 2) (G.phase u * G.phase v) m.scalar _ _
      (ap (λ r. times r (graph_sum eighths slots G g)) rooted_none ∙ one-mul eighths lawful (graph_sum eighths slots G g)
      ∙ pivot-sound eighths lawful slots u v G H g good.graph rule (legs_blind eighths leg_limit 0 u m.leg row at.first.here.off) (legs_blind eighths leg_limit 0 v m.leg row at.second.here.off)
      ∙ ap (λ r. times (times r (turned eighths (G.phase u * G.phase v))) (graph_sum eighths slots H g)) (sym rooted_two))
    where
      g : (ℕ → Bool) → Eighths
      g = legs_term eighths (open_legs m) row

  fewer : standing (pivoted u v m) + 2 ≡ standing m
  unfolding pivoted
  fewer =
      let first = total-without slots G.stands u u_below u_stood in
      let second = total-without slots (without G.stands u) v v_below (still-stands G.stands u v (λ e. apart (sym e)) ∙ v_stood) in
      omega arith

  sound : Sound (pivoted u v m)
  unfolding pivoted
  sound = record {
    graph = graph-sound;
    inside = λ s e. good.inside s (without-stood G.stands u s (without-stood (without G.stands u) v s e));
    phases = λ s. small s (eqb s u || eqb s v);
    blank = λ s e. empty s (eqb s u) (eqb s v) e;
    few = good.few;
    held = λ l o e. still-stands (without G.stands u) v o.slot (at.second.here.off l o e) ∙ still-stands G.stands u o.slot (at.first.here.off l o e) ∙ good.held l o e;
    free = λ l o e. without_off (without G.stands u) v (spider_limit + l) (without_off G.stands u (spider_limit + l) (good.free l o e));
    turn = product-turn (pos 2) (G.phase u * G.phase v) m.scalar good.turn;
    range = let two = fewer in let size = product-size (pos 2) (G.phase u * G.phase v) m.scalar in let r = good.range in omega arith;
  }
    where
      small : (s : ℕ) (b : Bool) → cond b 0 ((G.phase s + pivot_gain u v m s) % 4) < 4
      small s true = omega arith
      small s false = omega arith

      empty : (s : ℕ) (a b : Bool) → cond b false (cond a false (G.stands s)) ≡ false → cond (a || b) 0 ((G.phase s + pivot_gain u v m s) % 4) ≡ 0
      empty s true b e = refl
      empty s false true e = refl
      empty s false false e =
          (λ i. (good.blank s e i + (bit ((no_edge slots G good.graph s u e).1 i) * G.phase v + bit ((no_edge slots G good.graph s v e).1 i) * G.phase u + 2 * (bit ((no_edge slots G good.graph s u e).1 i) * bit ((no_edge slots G good.graph s v e).1 i)))) % 4)
          ∙ omega arith

  pub pivot_kept : Kept m (pivoted u v m)
  unfolding pivoted
  pivot_kept = record {
    sound = sound;
    amplitude = kept_amplitude;
    fewer = let two = fewer in omega arith;
    scalar = let two = fewer in product_moved (standing m - standing (pivoted u v m)) (pos 2) (G.phase u * G.phase v) m.scalar (omega arith);
    legs = λ l. refl;
  }
