-- A leg of an effective kind put on its slot. Assumes nothing.
use Rattle.std.specs.Prelude.{◌≡◌, ℕ, ◌+◌, ◌*◌, Bool, true, false, ℤ, pos, negsuc}
use Rattle.graphs.specs.Counts.{bit}
use Rattle.diagrams.specs.declared.items.Kind.{Kind}
use Rattle.diagrams.specs.declared.items.Kind.TheVariants.{Plain, Hadamard}
use Rattle.diagrams.specs.declared.items.Setting.{Setting}
use Rattle.diagrams.specs.declared.items.Setting.TheVariants.{Open, HeldZero, HeldOne}
use Rattle.models.specs.Models.{ModelLeg, Model, spider_limit}
use Rattle.models.specs.Edits.{attached, can_attach, held, placed, can_place, can_join}
use Rattle.loadings.specs.Loadings.{paid}

-- open, or held at a bit
abbrev pub leg_set : ℕ → ModelLeg → Setting → Model → Model
leg_set l o Open m = attached l o m
leg_set l o HeldZero m = held o.slot o.kind l false m
leg_set l o HeldOne m = held o.slot o.kind l true m

abbrev pub leg_put : ℕ → ModelLeg → Setting → Model → Model
leg_put l o s m = paid o.kind (leg_set l o s m)

-- what that comes to, as a power of the root of two
abbrev pub cost_of : Setting → Kind → ℤ
cost_of s Hadamard = negsuc 0
cost_of Open Plain = pos 0
cost_of HeldZero Plain = negsuc 1
cost_of HeldOne Plain = negsuc 1

-- when it can be
pub record LegGuards (l : ℕ) (o : ModelLeg) (m : Model) : Type 0 where
  pub attach : can_attach l o m ≡ true
  pub place : can_place (spider_limit + l) m ≡ true
  pub join : (b : Bool) → can_join (spider_limit + l) o.slot (placed (spider_limit + l) (2 * bit b) m) ≡ true
