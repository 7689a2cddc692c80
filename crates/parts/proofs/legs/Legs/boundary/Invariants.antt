use Rattle.std.proofs.Common.{◌≡◌, ℕ}
use Rattle.models.specs.Models.{carried}
use Rattle.rows.specs.Rows.{has}
use Rattle.parts.specs.Tables.{leg_in}
use Rattle.parts.proofs.legs.Legs.boundary.Given as goal

abbrev pub invariant-loop-leg : goal.invariant-loop-leg
invariant-loop-leg l = (s : ℕ) → has l.row s ≡ carried l.leg-index (leg_in l.self.table) s
