-- The calls that make a local complementation make what the rule says. Assumes nothing.
use Rattle.std.proofs.Common.{◌≡◌, ℕ, ◌+◌, ◌-◌, ◌*◌, ◌%◌, Bool, true, false, cond, not, ◌&&◌, ◌||◌, eqb, pos, sym, refl, ap, ◌∙◌, ap₂, ⊎_elim, arith, eqb-true}
use Rattle.graphs.specs.Counts.{bit}
use Rattle.graphs.specs.Graphs.{odd_turn}
use Rattle.graphs.specs.Rules.{xor}
use Rattle.models.specs.Models.{Model, Sound, carries}
use Rattle.models.specs.Edits.{product, can_remove, removed, gained, complemented_around, scaled, can_scale}
use Rattle.models.proofs.Toggles.{other_end}
use Rattle.models.proofs.Truths.{both_true}
use Rattle.reductions.specs.Rules.{interior, odd, complement_fits, complemented}
use Rattle.reductions.proofs.Complementing.{complement_kept}
use Rattle.reductions.proofs.Fits.{complement_at}
use Rattle.graphlike.proofs.Shapes.{same-model}
use Rattle.reducers.proofs.Finding.{scale_fits}

module _ (m : Model) (u : ℕ) (good : Sound m) (fits : complement_fits m u ≡ true) (r : ℕ → Bool) (q : ℕ) (near : (s : ℕ) → r s ≡ m.graph.edge u s) (back : q ≡ (4 - m.graph.phase u) % 4) where
  abbrev around : Model
  around = gained r q (complemented_around u m)

  pub complement_removes : can_remove u around ≡ true
  unfolding gained complemented_around
  complement_removes = (both_true (m.graph.stands u) (not (carries m u)) (both_true (interior m u) (odd m u) fits).0).1

  -- a neighbour turns back by the phase of u, and another spider stays
  turned_back : (s : ℕ) → cond (r s && m.graph.stands s) ((m.graph.phase s + q) % 4) (m.graph.phase s) ≡ (m.graph.phase s + bit (m.graph.edge u s) * (4 - m.graph.phase u)) % 4
  turned_back s = go (m.graph.edge u s) refl
    where
      whole : q ≡ 4 - m.graph.phase u
      whole = ⊎_elim (λ e. let b = back in omega arith) (λ e. let b = back in omega arith) (complement_at m u good fits).phase

      go : (b : Bool) → m.graph.edge u s ≡ b → cond (r s && m.graph.stands s) ((m.graph.phase s + q) % 4) (m.graph.phase s) ≡ (m.graph.phase s + bit b * (4 - m.graph.phase u)) % 4
      go true e = ap₂ (λ a b. cond (a && b) ((m.graph.phase s + q) % 4) (m.graph.phase s)) (near s ∙ e) (other_end m u s good e) ∙ (let w = whole in omega arith)
      go false e = ap (λ a. cond (a && m.graph.stands s) ((m.graph.phase s + q) % 4) (m.graph.phase s)) (near s ∙ e) ∙ (let l = good.phases s in omega arith)

  -- a slot has no edge to itself, and u none at all
  edges : (s t : ℕ) (a b c : Bool) → eqb s t ≡ c → cond (a || b) false (xor (m.graph.edge s t) (not c && (m.graph.edge u s && m.graph.edge u t))) ≡ cond (a || (b || c)) false (xor (m.graph.edge s t) (m.graph.edge u s && m.graph.edge u t))
  edges s t true b c e = refl
  edges s t false true c e = refl
  edges s t false false true e = ap (λ x. xor x false) (ap (m.graph.edge s) (sym (eqb-true s t e)) ∙ good.graph.loop_free s)
  edges s t false false false e = refl

  module _ (t : ℕ) (paid : t ≡ odd_turn (m.graph.phase u)) where
    pub complement_made : scaled (pos 1) t (removed u around) ≡ complemented u m
    unfolding scaled removed gained complemented_around complemented
    complement_made = same-model _ _ (record {
      stands = λ s. refl;
      phase = λ s. ap (cond (eqb s u) 0) (turned_back s);
      edge = λ s k. edges s k (eqb s u) (eqb k u) (eqb s k) refl;
      leg = λ l. refl;
      scalar = ap (λ k. product (pos 1) k m.scalar) paid;
    })

    pub complement_scales : can_scale (pos 1) t (removed u around) ≡ true
    complement_scales = scale_fits (pos 1) t (removed u around) (complemented u m) complement_made (complement_kept m u good (complement_at m u good fits)).sound
