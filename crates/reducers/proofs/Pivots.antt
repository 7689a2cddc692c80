-- The calls that make a pivot make what the rule says. Assumes nothing.
use Rattle.std.proofs.Common.{◌≡◌, ℕ, ◌+◌, ◌*◌, ◌%◌, ◌<◌, Bool, true, false, cond, not, ◌&&◌, ◌||◌, eqb, ltb, ◌⊎◌, pos, sym, refl, ap, ◌∙◌, ap₂, ⊎_elim, arith, eqb-true}
use mathlib.Core.Bool.{and_comm}
use borrow.Author.Tests.{clash}
use Rattle.graphs.specs.Counts.{bit}
use Rattle.graphs.specs.Rules.{xor}
use Rattle.models.specs.Models.{Model, Sound, carries}
use Rattle.models.specs.Edits.{product, can_remove, removed, gained, crossed, scaled, can_scale}
use Rattle.models.proofs.Toggles.{other_end}
use Rattle.models.proofs.Truths.{both_true, xor_same}
use Rattle.reductions.specs.Rules.{interior, odd, pivot_fits, pivoted, pivot_gain}
use Rattle.reductions.proofs.Pivoting.{pivot_kept}
use Rattle.reductions.proofs.Fits.{pivot_at}
use Rattle.graphlike.proofs.Shapes.{same-model}
use Rattle.reducers.proofs.Finding.{scale_fits}

-- two even phases
even-product : (p q : ℕ) → (p ≡ 0) ⊎ (p ≡ 2) → (q ≡ 0) ⊎ (q ≡ 2) → p * q % 8 ≡ p * q
even-product p q a b = ⊎_elim
    (λ e. ⊎_elim (λ h. ap₂ (λ x y. x * y % 8) e h ∙ sym (ap₂ ◌*◌ e h)) (λ h. ap₂ (λ x y. x * y % 8) e h ∙ sym (ap₂ ◌*◌ e h)) b)
    (λ e. ⊎_elim (λ h. ap₂ (λ x y. x * y % 8) e h ∙ sym (ap₂ ◌*◌ e h)) (λ h. ap₂ (λ x y. x * y % 8) e h ∙ sym (ap₂ ◌*◌ e h)) b)
    a

-- beside u, beside v and beside both: what becomes of a phase k where the spiders of three sets turn by q, p and 2
abbrev thrice : ℕ → ℕ → ℕ → Bool → Bool → Bool → Bool → ℕ
thrice p q k on a b c =
    let first : ℕ = cond (a && on) ((k + q) % 4) k in
    let second : ℕ = cond (b && on) ((first + p) % 4) first in
    cond (c && on) ((second + 2) % 4) second

thrice_gains : (p q k : ℕ) (on a b : Bool) → k < 4 → (a ≡ true → on ≡ true) → (b ≡ true → on ≡ true) → thrice p q k on a b (a && b) ≡ (k + (bit a * q + bit b * p + 2 * (bit a * bit b))) % 4
thrice_gains p q k true true true l h j = omega arith
thrice_gains p q k true true false l h j = omega arith
thrice_gains p q k true false true l h j = omega arith
thrice_gains p q k true false false l h j = omega arith
thrice_gains p q k false true b l h j = absurd (clash (h refl))
thrice_gains p q k false false true l h j = absurd (clash (j refl))
thrice_gains p q k false false false l h j = omega arith

-- two slots go, one after the other
both_go : (a b : Bool) (x : ℕ) → cond b 0 (cond a 0 x) ≡ cond (a || b) 0 x
both_go true true x = refl
both_go true false x = refl
both_go false true x = refl
both_go false false x = refl

both_edges_go : (a b c d e x : Bool) → (e ≡ true → x ≡ false) → cond (b || d) false (cond (a || c) false x) ≡ cond ((a || b) || ((c || d) || e)) false x
both_edges_go true true c d e x h = refl
both_edges_go true false c true e x h = refl
both_edges_go true false c false e x h = refl
both_edges_go false true c d e x h = refl
both_edges_go false false true true e x h = refl
both_edges_go false false true false e x h = refl
both_edges_go false false false true e x h = refl
both_edges_go false false false false true x h = h refl
both_edges_go false false false false false x h = refl

module _ (m : Model) (u v : ℕ) (good : Sound m) (fits : pivot_fits m u v ≡ true) (near_u near_v near-both : ℕ → Bool) (of-u : (s : ℕ) → near_u s ≡ m.graph.edge u s) (of-v : (s : ℕ) → near_v s ≡ m.graph.edge v s) (of-both : (s : ℕ) → near-both s ≡ near_u s && near_v s) where
  abbrev turned : Model
  turned = gained near-both 2 (gained near_v (m.graph.phase u) (gained near_u (m.graph.phase v) (crossed u v m)))

  inner : (interior m u ≡ true) × (interior m v ≡ true)
  inner =
      let a = (both_true (ltb u v) (m.graph.edge u v && ((interior m u && not (odd m u)) && (interior m v && not (odd m v)))) fits).1 in
      let b = (both_true (m.graph.edge u v) ((interior m u && not (odd m u)) && (interior m v && not (odd m v))) a).1 in
      let c = both_true (interior m u && not (odd m u)) (interior m v && not (odd m v)) b in
      ((both_true (interior m u) (not (odd m u)) c.0).0, (both_true (interior m v) (not (odd m v)) c.1).0)

  pub first_removes : can_remove u turned ≡ true
  unfolding gained crossed
  first_removes = (both_true (m.graph.stands u) (not (carries m u)) inner.0).1

  pub second_removes : can_remove v (removed u turned) ≡ true
  unfolding gained crossed removed
  second_removes = (both_true (m.graph.stands v) (not (carries m v)) inner.1).1

  gains : (s : ℕ) → thrice (m.graph.phase u) (m.graph.phase v) (m.graph.phase s) (m.graph.stands s) (near_u s) (near_v s) (near-both s) ≡ (m.graph.phase s + pivot_gain u v m s) % 4
  gains s =
      (λ i. thrice (m.graph.phase u) (m.graph.phase v) (m.graph.phase s) (m.graph.stands s) (of-u s i) (of-v s i) ((of-both s ∙ ap₂ ◌&&◌ (of-u s) (of-v s)) i))
      ∙ thrice_gains (m.graph.phase u) (m.graph.phase v) (m.graph.phase s) (m.graph.stands s) (m.graph.edge u s) (m.graph.edge v s) (good.phases s) (other_end m u s good) (other_end m v s good)

  abbrev crossing : ℕ → ℕ → Bool
  crossing s t = xor (m.graph.edge s t) (xor (m.graph.edge u s && m.graph.edge v t) (m.graph.edge v s && m.graph.edge u t))

  no_loop : (s t : ℕ) → eqb s t ≡ true → crossing s t ≡ false
  no_loop s t e =
      ap (crossing s) (sym (eqb-true s t e))
      ∙ ap₂ xor (good.graph.loop_free s) (ap (xor (m.graph.edge u s && m.graph.edge v s)) (and_comm (m.graph.edge v s) (m.graph.edge u s)) ∙ xor_same (m.graph.edge u s && m.graph.edge v s))

  module _ (t : ℕ) (paid : t ≡ m.graph.phase u * m.graph.phase v % 8) where
    pub pivot_made : scaled (pos 2) t (removed v (removed u turned)) ≡ pivoted u v m
    unfolding scaled removed gained crossed pivoted
    pivot_made = same-model _ _ (record {
      stands = λ s. refl;
      phase = λ s. both_go (eqb s u) (eqb s v) _ ∙ ap (cond (eqb s u || eqb s v) 0) (gains s);
      edge = λ s k. both_edges_go (eqb s u) (eqb s v) (eqb k u) (eqb k v) (eqb s k) (crossing s k) (no_loop s k);
      leg = λ l. refl;
      scalar = let at = pivot_at m u v good fits in ap (λ k. product (pos 2) k m.scalar) (paid ∙ even-product (m.graph.phase u) (m.graph.phase v) at.first.phase at.second.phase);
    })

    pub pivot_scales : can_scale (pos 2) t (removed v (removed u turned)) ≡ true
    pivot_scales = scale_fits (pos 2) t (removed v (removed u turned)) (pivoted u v m) pivot_made (pivot_kept m u v good (pivot_at m u v good fits)).sound
