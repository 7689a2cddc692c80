-- What every rule keeps, at every spot where it fits. Assumes nothing.
use Rattle.std.specs.Prelude.{◌≡◌, ℕ, ◌-◌, ◌*◌, ◌<◌, ◌≤◌, Bool, true, List, ◌-ℤ◌, Some, None, Option, unsigned_abs}
use Rattle.amounts.specs.Scalars.{Same}
use Rattle.diagrams.specs.declared.items.Side.{Side}
use Rattle.models.specs.Models.{Scalar, nothing, root, ModelLeg, Model, Sound, amount, standing}
use Rattle.reductions.specs.Rules.{complement_fits, complemented, pivot_fits, pivoted, drop_fits, dropped}

-- the power of √2 moves at most 2 for each of n spiders, or the scalar turns zero; zero it stays
abbrev pub Moved : ℕ → Scalar → Scalar → Type 0
Moved n nothing b = b ≡ nothing
Moved n (root k m) nothing = 0 < 1
Moved n (root k m) (root l t) = unsigned_abs (l -ℤ k) ≤ 2 * n

abbrev pub side_of : Option ModelLeg → Option Side
side_of None = None
side_of (Some o) = Some o.side

-- from m to n the amplitude at every row stays, fewer spiders stand, the scalar moves little, and the open
-- legs keep their numbers, and so their order, and their sides
pub record Kept (m n : Model) : Type 0 where
  pub sound : Sound n
  pub amplitude : (row : List Bool) → Same (amount m row) (amount n row)
  pub fewer : standing n < standing m
  pub scalar : Moved (standing m - standing n) m.scalar n.scalar
  pub legs : (l : ℕ) → side_of (n.leg l) ≡ side_of (m.leg l)

-- the three rules keep it
pub record ThreeRulesKeep : Type 0 where
  pub complement : (m : Model) (u : ℕ) → Sound m → complement_fits m u ≡ true → Kept m (complemented u m)
  pub pivot : (m : Model) (u v : ℕ) → Sound m → pivot_fits m u v ≡ true → Kept m (pivoted u v m)
  pub removal : (m : Model) (u : ℕ) → Sound m → drop_fits m u ≡ true → Kept m (dropped u m)
