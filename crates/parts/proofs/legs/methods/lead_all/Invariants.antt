use Rattle.std.proofs.Common.{◌≡◌, ℕ, cond, ltb, length}
use Rattle.models.specs.Edits.{led}
use Rattle.parts.specs.Tables.{leg_in}
use Rattle.parts.proofs.legs.methods.lead_all.Given as goal

-- the legs before the one that is next are led
abbrev pub invariant-loop-leg : goal.invariant-loop-leg
invariant-loop-leg l = record {
  long : length l.table ≡ 64;
  led : (k : ℕ) → leg_in l.table k ≡ cond (ltb k l.leg-index) (led l.to.number l.from.number (leg_in l.initial.table k)) (leg_in l.initial.table k);
}
