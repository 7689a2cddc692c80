-- Legs that are held where they can be. Assumes nothing.
use Rattle.std.proofs.Common.{◌≡◌, ℕ, ◌+◌, ◌*◌, Bool, true, cond, leb, pos, negsuc, sym, refl, ap, ◌∙◌}
use Rattle.std.specs.Prelude.{unsigned_abs}
use Rattle.std.proofs.Math.IntN.{+ℤ_idr}
use Rattle.graphs.specs.Counts.{bit}
use Rattle.diagrams.specs.declared.items.Kind.{Kind}
use Rattle.diagrams.specs.declared.items.Kind.TheVariants.{Plain, Hadamard}
use Rattle.diagrams.specs.Limits.{limit}
use Rattle.diagrams.specs.declared.items.Side.{Side}
use Rattle.diagrams.specs.declared.items.Setting.{Setting}
use Rattle.diagrams.specs.declared.items.Setting.TheVariants.{Open, HeldZero, HeldOne}
use Rattle.models.specs.Models.{Scalar, nothing, root, ModelLeg, Model, spider_limit}
use Rattle.models.specs.Edits.{attached, gained, placed, toggled, can_join, product, scaled, can_scale, held, held_if, hold_pays, with_holder}
use Rattle.loadings.specs.Loadings.{paid, within}
use Rattle.loadings.proofs.Guards.{can_scale-judged}
use Rattle.loader.specs.Legs.{leg_put, cost_of, LegGuards}

module _ (l : ℕ) (o : ModelLeg) (m : Model) (g : LegGuards l o m) (b : Bool) where
  with_holder_is : with_holder o.slot l b m ≡ toggled (spider_limit + l) o.slot (placed (spider_limit + l) (2 * bit b) m)
  with_holder_is =
      let p = placed (spider_limit + l) (2 * bit b) m in
      ap (λ t. let q = cond t p m in cond (can_join (spider_limit + l) o.slot q) (toggled (spider_limit + l) o.slot q) q) g.place ∙ ap (λ t. cond t (toggled (spider_limit + l) o.slot p) p) (g.join b)

  pub hold_done : (k : Kind) → hold_pays o.slot k l b m ≡ true → held_if o.slot k l b m ≡ held o.slot k l b m
  hold_done Hadamard e = refl
  hold_done Plain e = ap (λ t. cond t (scaled (negsuc 1) 0 (with_holder o.slot l b m)) (with_holder o.slot l b m)) e ∙ ap (scaled (negsuc 1) 0) with_holder_is

  -- where the amount can be halved
  pub hold_paid : (k : Kind) → within (paid k (held o.slot k l b m)).scalar ≡ true → hold_pays o.slot k l b m ≡ true
  hold_paid Hadamard e = refl
  hold_paid Plain e = ap (can_scale (negsuc 1) 0) with_holder_is ∙ can_scale-judged (negsuc 1) 0 (toggled (spider_limit + l) o.slot (placed (spider_limit + l) (2 * bit b) m)) e

-- what a leg costs is what is paid
within_free : (c : Scalar) → within c ≡ within (product (pos 0) 0 c)
within_free nothing = refl
within_free (root k t) = ap (λ z. leb (unsigned_abs z) limit) (sym (+ℤ_idr k))

pub leg_paid : (l : ℕ) (d : Side) (a : ℕ) (k : Kind) (s : Setting) (m : Model) → within (leg_put l (record { side = d; slot = a; kind = k }) s m).scalar ≡ within (product (cost_of s k) 0 m.scalar)
unfolding attached scaled gained toggled placed
leg_paid l d a Plain Open m = within_free m.scalar
leg_paid l d a Plain HeldZero m = refl
leg_paid l d a Plain HeldOne m = refl
leg_paid l d a Hadamard Open m = refl
leg_paid l d a Hadamard HeldZero m = refl
leg_paid l d a Hadamard HeldOne m = refl
