-- Edits that only toggle edges, or only turn phases, keep a working diagram sound. Assumes nothing.
use Rattle.std.proofs.Common.{◌≡◌, ℕ, ◌+◌, ◌%◌, ◌<◌, Bool, true, false, cond, not, ◌&&◌, ◌||◌, eqb, sym, refl, ap, ◌∙◌, ap₂, ⊎_elim, true≢false, arith, eq-eqb, eqb-true}
use mathlib.Core.Bool.{and_comm, or_comm}
use borrow.Author.Tests.{not-true}
use Rattle.graphs.specs.Rules.{xor}
use Rattle.models.proofs.Truths.{both_true, either_true, one_true, xor_comm, xor_same, eqb_comm}
use Rattle.models.specs.Models.{Model, Sound}
use Rattle.models.specs.Edits.{with_graph, gained, can_join, same_pair, toggled, complemented_around, crossed}

-- the model with the edges toggled that flip says
abbrev pub flipped : (ℕ → ℕ → Bool) → Model → Model
flipped flip m = with_graph m (record { stands = m.graph.stands; phase = m.graph.phase; edge = λ s t. xor (m.graph.edge s t) (flip s t) })

pub flipped_sound : (flip : ℕ → ℕ → Bool) (m : Model) → Sound m → ((s t : ℕ) → flip s t ≡ flip t s) → ((s : ℕ) → flip s s ≡ false) → ((s t : ℕ) → flip s t ≡ true → m.graph.stands s ≡ true) → Sound (flipped flip m)
flipped_sound flip m good both none there = record {
  graph = record {
    symmetric = λ s t. ap₂ xor (good.graph.symmetric s t) (both s t);
    loop_free = λ s. ap₂ xor (good.graph.loop_free s) (none s);
    standing = λ s t e. ⊎_elim (good.graph.standing s t) (there s t) (one_true (m.graph.edge s t) (flip s t) e);
  };
  inside = good.inside;
  phases = good.phases;
  blank = good.blank;
  few = good.few;
  held = good.held;
  free = good.free;
  turn = good.turn;
  range = good.range;
}

-- an edge ends on spiders, at both its ends
pub other_end : (m : Model) (s t : ℕ) → Sound m → m.graph.edge s t ≡ true → m.graph.stands t ≡ true
other_end m s t good e = good.graph.standing t s (sym (good.graph.symmetric s t) ∙ e)

pub toggled-sound : {m : Model} (a b : ℕ) → Sound m → can_join a b m ≡ true → Sound (toggled a b m)
unfolding toggled
toggled-sound {m} a b good can = flipped_sound (same_pair a b) m good symmetric never there
  where
    tests : (not (eqb a b) ≡ true) × (m.graph.stands a && m.graph.stands b ≡ true)
    tests = both_true (not (eqb a b)) (m.graph.stands a && m.graph.stands b) can

    stand : (m.graph.stands a ≡ true) × (m.graph.stands b ≡ true)
    stand = both_true (m.graph.stands a) (m.graph.stands b) tests.1

    symmetric : (s t : ℕ) → same_pair a b s t ≡ same_pair a b t s
    symmetric s t = or_comm (eqb s a && eqb t b) (eqb s b && eqb t a) ∙ ap₂ (λ x y. x || y) (and_comm (eqb s b) (eqb t a)) (and_comm (eqb s a) (eqb t b))

    never : (s : ℕ) → same_pair a b s s ≡ false
    never s = go (eqb s a) (eqb s b) refl refl
      where
        go : (x y : Bool) → eqb s a ≡ x → eqb s b ≡ y → (x && y) || (y && x) ≡ false
        go true true p q = absurd (true≢false (sym (eq-eqb a b (sym (eqb-true s a p) ∙ eqb-true s b q)) ∙ not-true (eqb a b) tests.0))
        go true false p q = refl
        go false true p q = refl
        go false false p q = refl

    there : (s t : ℕ) → same_pair a b s t ≡ true → m.graph.stands s ≡ true
    there s t e = ⊎_elim
        (λ h. ap m.graph.stands (eqb-true s a (both_true (eqb s a) (eqb t b) h).0) ∙ stand.0)
        (λ h. ap m.graph.stands (eqb-true s b (both_true (eqb s b) (eqb t a) h).0) ∙ stand.1)
        (either_true (eqb s a && eqb t b) (eqb s b && eqb t a) e)

pub complemented_around-sound : {m : Model} (u : ℕ) → Sound m → Sound (complemented_around u m)
unfolding complemented_around
complemented_around-sound {m} u good = flipped_sound flip m good symmetric never there
  where
    flip : ℕ → ℕ → Bool
    flip s t = not (eqb s t) && (m.graph.edge u s && m.graph.edge u t)

    symmetric : (s t : ℕ) → flip s t ≡ flip t s
    symmetric s t = ap₂ (λ x y. not x && y) (eqb_comm s t) (and_comm (m.graph.edge u s) (m.graph.edge u t))

    never : (s : ℕ) → flip s s ≡ false
    never s = ap (λ x. not x && (m.graph.edge u s && m.graph.edge u s)) (eq-eqb s s refl)

    there : (s t : ℕ) → flip s t ≡ true → m.graph.stands s ≡ true
    there s t e =
        let h = (both_true (not (eqb s t)) (m.graph.edge u s && m.graph.edge u t) e).1 in
        other_end m u s good (both_true (m.graph.edge u s) (m.graph.edge u t) h).0

pub crossed-sound : {m : Model} (u v : ℕ) → Sound m → Sound (crossed u v m)
unfolding crossed
crossed-sound {m} u v good = flipped_sound flip m good symmetric never there
  where
    flip : ℕ → ℕ → Bool
    flip s t = xor (m.graph.edge u s && m.graph.edge v t) (m.graph.edge v s && m.graph.edge u t)

    symmetric : (s t : ℕ) → flip s t ≡ flip t s
    symmetric s t = xor_comm (m.graph.edge u s && m.graph.edge v t) (m.graph.edge v s && m.graph.edge u t) ∙ ap₂ xor (and_comm (m.graph.edge v s) (m.graph.edge u t)) (and_comm (m.graph.edge u s) (m.graph.edge v t))

    never : (s : ℕ) → flip s s ≡ false
    never s = ap (λ x. xor (m.graph.edge u s && m.graph.edge v s) x) (and_comm (m.graph.edge v s) (m.graph.edge u s)) ∙ xor_same (m.graph.edge u s && m.graph.edge v s)

    there : (s t : ℕ) → flip s t ≡ true → m.graph.stands s ≡ true
    there s t e = ⊎_elim
        (λ h. other_end m u s good (both_true (m.graph.edge u s) (m.graph.edge v t) h).0)
        (λ h. other_end m v s good (both_true (m.graph.edge v s) (m.graph.edge u t) h).0)
        (one_true (m.graph.edge u s && m.graph.edge v t) (m.graph.edge v s && m.graph.edge u t) e)

-- the phases that turn stay below a full turn, and empty slots are left alone
pub gained-sound : {m : Model} (r : ℕ → Bool) (p : ℕ) → Sound m → Sound (gained r p m)
unfolding gained
gained-sound {m} r p good = record {
  graph = record { symmetric = good.graph.symmetric; loop_free = good.graph.loop_free; standing = good.graph.standing };
  inside = good.inside;
  phases = λ s. below s (r s && m.graph.stands s);
  blank = λ s e. still s (r s) (m.graph.stands s) e (good.blank s e);
  few = good.few;
  held = good.held;
  free = good.free;
  turn = good.turn;
  range = good.range;
}
  where
    below : (s : ℕ) (b : Bool) → cond b ((m.graph.phase s + p) % 4) (m.graph.phase s) < 4
    below s true = omega arith
    below s false = good.phases s

    still : (s : ℕ) (a b : Bool) → b ≡ false → m.graph.phase s ≡ 0 → cond (a && b) ((m.graph.phase s + p) % 4) (m.graph.phase s) ≡ 0
    still s true true e h = absurd (true≢false e)
    still s true false e h = h
    still s false b e h = h
