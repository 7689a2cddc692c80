-- The calls that remove a spider make what the rule says. Assumes nothing.
use Rattle.std.proofs.Common.{◌≡◌, ℕ, ◌<◌, Bool, true, false, cond, not, ◌&&◌, ◌||◌, eqb, pos, ◌↔◌, IsTrue, sym, refl, ap, ◌∙◌, eq-eqb, ne_eqb, eqb-true}
use borrow.Author.Tests.{clash}
use Rattle.graphs.specs.Counts.{bit, total}
use Rattle.graphs.proofs.Counting.{total-nothing}
use Rattle.models.specs.Models.{Model, Sound, nothing, slots, carries}
use Rattle.models.specs.Edits.{product, can_remove, removed, scaled, can_scale, zeroed}
use Rattle.models.proofs.Toggles.{other_end}
use Rattle.models.proofs.Truths.{both_true}
use Rattle.reductions.specs.Rules.{interior, odd, degree, drop_fits, dropped}
use Rattle.reductions.proofs.Removing.{removal_kept}
use Rattle.reductions.proofs.Fits.{drop_at}
use Rattle.reductions.proofs.Slots.{total-zero}
use Rattle.graphlike.proofs.Shapes.{same-model}
use Rattle.reducers.proofs.Finding.{scale_fits}

-- no slot of f below n, where f has none from n on
total-none_of : (n : ℕ) (f : ℕ → Bool) → ((k : ℕ) → f k ≡ true → k < n) → total n (λ s. bit (f s)) ≡ 0 → (k : ℕ) → f k ≡ false
total-none_of n f inside none k = go (f k) refl
  where
    go : (b : Bool) → f k ≡ b → b ≡ false
    go true e = sym e ∙ total-zero n f none k (inside k e)
    go false e = refl

-- whether a set is empty says whether its size is 0
pub empty_is_zero : (n : ℕ) (f g : ℕ → Bool) (r : Bool) → ((k : ℕ) → f k ≡ true → k < n) → ((k : ℕ) → g k ≡ f k) → (IsTrue r ↔ ((k : ℕ) → g k ≡ false)) → r ≡ eqb (total n (λ s. bit (f s))) 0
empty_is_zero n f g true inside same tells = sym (eq-eqb (total n (λ s. bit (f s))) 0 (total-nothing n (λ s. bit (f s)) (λ s l. ap bit (sym (same s) ∙ tells.0 refl s))))
empty_is_zero n f g false inside same tells = sym (ne_eqb (total n (λ s. bit (f s))) 0 (λ e. clash (tells.1 (λ k. same k ∙ total-none_of n f inside e k))))

module _ (m : Model) (u : ℕ) (good : Sound m) (fits : drop_fits m u ≡ true) where
  pub drop_removes : can_remove u m ≡ true
  drop_removes =
      let a = (both_true (interior m u && not (odd m u)) (eqb (degree m u) 0) fits).0 in
      (both_true (m.graph.stands u) (not (carries m u)) (both_true (interior m u) (not (odd m u)) a).0).1

  alone : (t : ℕ) → m.graph.edge u t ≡ false
  alone = total-none_of slots (m.graph.edge u) (λ k e. good.inside k (other_end m u k good e)) (drop_at m u good fits).alone

  edges : (s t : ℕ) (a b : Bool) → eqb s u ≡ a → eqb t u ≡ b → cond (a || b) false (m.graph.edge s t) ≡ m.graph.edge s t
  edges s t true b p q = sym (ap (λ k. m.graph.edge k t) (eqb-true s u p) ∙ alone t)
  edges s t false true p q = sym (good.graph.symmetric s t ∙ ap (λ k. m.graph.edge k s) (eqb-true t u q) ∙ alone s)
  edges s t false false p q = refl

  pub drop_doubles : m.graph.phase u ≡ 0 → scaled (pos 2) 0 (removed u m) ≡ dropped u m
  unfolding scaled removed dropped
  drop_doubles e = same-model _ _ (record {
    stands = λ s. refl;
    phase = λ s. refl;
    edge = λ s t. edges s t (eqb s u) (eqb t u) refl refl;
    leg = λ l. refl;
    scalar = sym (ap (λ b. cond b (product (pos 2) 0 m.scalar) nothing) (eq-eqb (m.graph.phase u) 0 e));
  })

  pub drop_zeroes : (m.graph.phase u ≡ 0 → ⊥) → zeroed (removed u m) ≡ dropped u m
  unfolding zeroed removed dropped
  drop_zeroes ne = same-model _ _ (record {
    stands = λ s. refl;
    phase = λ s. refl;
    edge = λ s t. edges s t (eqb s u) (eqb t u) refl refl;
    leg = λ l. refl;
    scalar = sym (ap (λ b. cond b (product (pos 2) 0 m.scalar) nothing) (ne_eqb (m.graph.phase u) 0 ne));
  })

  pub drop_scales : m.graph.phase u ≡ 0 → can_scale (pos 2) 0 (removed u m) ≡ true
  drop_scales e = scale_fits (pos 2) 0 (removed u m) (dropped u m) (drop_doubles e) (removal_kept m u good (drop_at m u good fits)).sound
