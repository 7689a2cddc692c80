-- When a scalar's power stays in reach. Assumes nothing.
use Rattle.std.proofs.Common.{◌≡◌, ℕ, ◌+◌, ◌*◌, ◌<◌, Bool, true, false, leb, ℤ, Option, sym, ap, ◌∙◌, subst, arith, MatchOption}
use Rattle.std.specs.Bool.{then_some}
use borrow.Author.Tests.{lt-leb}
use Rattle.models.specs.Models.{Model, size, standing, open_count, reach_limit}
use Rattle.models.specs.Edits.{product, scaled, can_scale}
use Rattle.parts.specs.declared.scalar.Scalar.{Scalar}
use Rattle.parts.specs.Scales.{scale_of}

pub in_reach : (k : ℤ) (t : ℕ) (m : Model) (a : Scalar) (b : Bool) (o : Option Scalar) → scale_of a ≡ product k t m.scalar → b ≡ leb (size (scale_of a) + 2 * standing m + 4 * open_count m + 0) reach_limit → o ≡ then_some b a → MatchOption o (can_scale k t m ≡ false) (λ s. (can_scale k t m ≡ true) × (scale_of s ≡ product k t m.scalar))
unfolding scaled
in_reach k t m a b o same room e =
    let none : size (product k t m.scalar) + 2 * standing m + 4 * open_count m ≡ size (scale_of a) + 2 * standing m + 4 * open_count m + 0 = let s = ap size same in omega arith in
    subst (λ (x : Option Scalar). MatchOption x (can_scale k t m ≡ false) (λ s. (can_scale k t m ≡ true) × (scale_of s ≡ product k t m.scalar))) (sym e) (go b (ap (λ n. leb n reach_limit) none ∙ sym room))
  where
    go : (b : Bool) → can_scale k t m ≡ b → MatchOption (then_some b a) (can_scale k t m ≡ false) (λ s. (can_scale k t m ≡ true) × (scale_of s ≡ product k t m.scalar))
    go true f = (f, same)
    go false f = f

pub too_far : (k : ℤ) (t : ℕ) (m : Model) → reach_limit < size (product k t m.scalar) → can_scale k t m ≡ false
unfolding scaled
too_far k t m h = lt-leb (size (product k t m.scalar) + 2 * standing m + 4 * open_count m) reach_limit (omega arith)
