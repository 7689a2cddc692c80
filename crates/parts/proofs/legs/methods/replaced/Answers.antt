use Rattle.std.proofs.Common.{◌<◌, cond, eqb, length, ap, ◌∙◌, rules}
use Rattle.parts.specs.Tables.{maybe_leg, leg_in}
use Rattle.parts.proofs.Tables.{leg_written}
use Rattle.parts.proofs.legs.methods.replaced.Goals as goal

pub returns : goal.returns
returns c k =
    let low : c.number.result < length c.args.table = search rules in
    leg_written c.args.table c.number.result c.args.now_open low k ∙ ap (λ n. cond (eqb k n) (maybe_leg c.args.now_open) (leg_in c.args.table k)) c.number.ensures.value
