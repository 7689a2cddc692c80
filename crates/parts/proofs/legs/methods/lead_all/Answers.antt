use Rattle.std.proofs.Common.{refl, arith}
use Rattle.std.proofs.lemmas.List.{length-set}
use Rattle.models.specs.Edits.{led}
use Rattle.parts.proofs.Tables.{changed-more, changed_all}
use Rattle.parts.proofs.legs.methods.lead_all.Goals as goal

pub loop-leg-preserved : goal.loop-leg-preserved
loop-leg-preserved c =
    let ts = c.loop-leg.table in
    let n = c.loop-leg.leg-index in
    let long = c.loop-leg.invariant.long in
    let test = c.loop-leg-test.true in
    record {
      long = simp length-set long;
      led = changed-more ts c.args.table.now n (led c.args.to.number c.args.from.number) c.led.result c.leg-item.result (omega arith) c.loop-leg.invariant.led c.led.ensures;
    }

pub returns : goal.returns
returns c =
    let long = c.told-table in
    changed_all c.loop-leg.table c.args.table.now c.loop-leg.leg-index (led c.args.to.number c.args.from.number) refl (omega (arith, c.loop-leg-test.false)) c.loop-leg.invariant.led
