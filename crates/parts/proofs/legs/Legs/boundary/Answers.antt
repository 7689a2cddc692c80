use Rattle.std.proofs.Common.{◌≡◌, ℕ, ◌+◌, ◌<◌, true, cond, length, get_or, Option, Some, None, sym, ap, ◌∙◌, ap₂, add-one, arith, rules}
use Rattle.models.specs.Models.{ModelLeg, carried, on_slot}
use Rattle.models.proofs.Counts.{none-carried}
use Rattle.models.proofs.Truths.{eqb_comm}
use Rattle.rows.specs.Rows.{has}
use Rattle.parts.specs.declared.leg.OpenLeg.{OpenLeg}
use Rattle.parts.specs.Tables.{maybe_leg, leg_in}
use Rattle.parts.proofs.Tables.{none-counted, carried-zero, carried-more, leg_read}
use Rattle.parts.proofs.legs.Legs.boundary.Goals as goal
use Rattle.parts.proofs.legs.Legs.boundary.Goals.{in-Some, in_default}

pub returns-then-self-eq0 : goal.returns-then-self-eq0
returns-then-self-eq0 c s =
    let leg = leg_in c.args.self.now.table in
    c.empty-row.ensures s ∙ sym (none-carried 64 leg s (λ l o low e. absurd (clash l o e (none-counted 64 0 leg (sym c.args.self.now.counted ∙ c.if-self-eq0.true) l (omega arith) (omega arith)))))
  where
    clash : (l : ℕ) (o : ModelLeg) → leg_in c.args.self.now.table l ≡ Some o → leg_in c.args.self.now.table l ≡ None → ⊥
    clash l o e n = let z : ◌≡◌ {A = ℕ} 0 1 = cc in omega arith

pub loop-leg-init : goal.loop-leg-init
loop-leg-init c s = c.empty-row.ensures s ∙ sym (carried-zero (leg_in c.args.self.now.table) s)

pub loop-leg-preserved : goal.loop-leg-preserved
loop-leg-preserved c s =
    let ts = c.args.self.now.table in
    let n = c.loop-leg.leg-index in
    let leg = leg_in ts in
    let low : n < length ts = search rules in
    let read : (o : Option OpenLeg) → get_or ts n c.leg-item.result ≡ o → cond (on_slot s (maybe_leg o)) true (has c.loop-leg.row s) ≡ carried (n + 1) leg s = λ o e.
    ap₂ (λ q b. cond (on_slot s q) true b) (ap maybe_leg (sym e) ∙ leg_read ts n c.leg-item.result low) (c.loop-leg.invariant s)
    ∙ sym (carried-more n leg s)
    ∙ ap (λ k. carried k leg s) (sym (add-one n)) in
    elim c.match-leg.branch [
      | in-Some w ↦ ap (λ r. has r s) w.row-is ∙ w.insert.ensures s ∙ ap (λ b. cond b true (has c.loop-leg.row s)) (eqb_comm s w.in-Some.open.slot.number) ∙ read (Some w.in-Some.open) w.in-Some.is
      | in_default w ↦ ap (λ r. has r s) w.row-is ∙ read None w.in_default.is
    ]
