use Rattle.std.proofs.Common.{◌<◌, length, get_or, None, ap, ◌∙◌, rules}
use Rattle.std.proofs.lemmas.List.{get_or_default}
use Rattle.parts.specs.Tables.{maybe_leg, leg_in}
use Rattle.parts.proofs.legs.Legs.get.Goals as goal

pub returns : goal.returns
unfolding leg_in
returns c =
    let ts = c.args.self.now.table in
    let low : c.number.result < length ts = search rules in
    ap maybe_leg (get_or_default ts c.number.result c.index-self-number.result None low) ∙ ap (λ n. maybe_leg (get_or ts n None)) c.number.ensures.value
