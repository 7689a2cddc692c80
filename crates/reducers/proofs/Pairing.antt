-- At which slots a pivot fits, told by the even interior slots beside the first. Assumes nothing.
use Rattle.std.proofs.Common.{◌≡◌, ℕ, ◌<◌, ◌≤◌, Bool, true, false, not, ◌&&◌, ltb, Some, None, sym, refl, ap, ◌∙◌, ap₂, arith, lt-ltb}
use Rattle.models.specs.Models.{Model, slots}
use Rattle.reductions.specs.Rules.{interior, odd, pivot_fits}
use Rattle.reductions.specs.Runs.{first_from, first_pivot}
use Rattle.reductions.proofs.Runs.{first_is, first_absent, first_pair_is, first_pair_absent}

never : (a b c : Bool) → a && (b && (false && c)) ≡ false
never true true c = refl
never true false c = refl
never false b c = refl

and_false : (a : Bool) → a && false ≡ false
and_false true = refl
and_false false = refl

module _ (m : Model) (even : ℕ → Bool) (is-even : (s : ℕ) → even s ≡ interior m s && not (odd m s)) (u : ℕ) where
  -- no pair begins with a slot that is not among the even interior ones
  pub none_begin : even u ≡ false → first_from slots 0 (pivot_fits m u) ≡ None
  none_begin off = first_absent slots 0 (pivot_fits m u) (λ v a b. ap (λ e. ltb u v && (m.graph.edge u v && (e && (interior m v && not (odd m v))))) (sym (is-even u) ∙ off) ∙ never (ltb u v) (m.graph.edge u v) (interior m v && not (odd m v)))

  module _ (row : ℕ → Bool) (w : ℕ) (same : w ≡ u) (on : even u ≡ true) (beside : (v : ℕ) → row v ≡ m.graph.edge w v && even v) where
    -- and another begins those that go on with a higher slot beside it
    fits_beside : (v : ℕ) → pivot_fits m u v ≡ ltb u v && row v
    fits_beside v = ap (λ e. ltb u v && (m.graph.edge u v && (e && (interior m v && not (odd m v))))) (sym (is-even u) ∙ on) ∙ ap (λ e. ltb u v && (m.graph.edge u v && e)) (sym (is-even v)) ∙ ap (λ e. ltb u v && e) (sym (beside v ∙ ap (λ k. m.graph.edge k v && even v) same))

    pub unfit : (v : ℕ) → row v ≡ false → pivot_fits m u v ≡ false
    unfit v off = fits_beside v ∙ ap (λ e. ltb u v && e) off ∙ and_false (ltb u v)

    pub fit : (v : ℕ) → u < v → row v ≡ true → pivot_fits m u v ≡ true
    fit v order here = fits_beside v ∙ ap₂ ◌&&◌ (lt-ltb u v order) here

-- the first pair, and that there is none
pub pair_is : (m : Model) (u v : ℕ) → u < slots → v < slots → pivot_fits m u v ≡ true → ((k : ℕ) → k < v → pivot_fits m u k ≡ false) → ((k : ℕ) → k < u → first_from slots 0 (pivot_fits m k) ≡ None) → Some (record { first = u; second = v }) ≡ first_pivot m
pair_is m u v a b here before sooner = sym (first_pair_is slots 0 (λ k. first_from slots 0 (pivot_fits m k)) u v (record {
  gives = first_is slots 0 (pivot_fits m u) v (record { passes = here; low = omega arith; high = b; others = λ j l h. before j h });
  low = omega arith;
  high = a;
  others = λ j l h. sooner j h;
}))

pub no_pair : (m : Model) (n : ℕ) → slots ≤ n → ((k : ℕ) → k < n → first_from slots 0 (pivot_fits m k) ≡ None) → None ≡ first_pivot m
no_pair m n far none = sym (first_pair_absent slots 0 (λ k. first_from slots 0 (pivot_fits m k)) (λ k a b. none k (omega arith)))
