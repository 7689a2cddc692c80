use Rattle.std.proofs.Common.{ap, ◌∙◌}
use Rattle.models.specs.Edits.{held_if, detached}
use Rattle.reductions.proofs.Held.{held_if_is}
use Rattle.reductions.proofs.Closing.{leg_holdable}
use Rattle.parts.specs.Tables.{open_leg}
use Rattle.graphlike.specs.Diagrams.{model}
use Rattle.graphlike.proofs.Sounds.{sound}
use Rattle.archive.proofs.answer.close.Goals as goal

pub returns : goal.returns
returns c =
    let m = model c.args.work.now in
    let l = c.args.leg.number in
    let o = open_leg c.args.«open» in
    c.hold.ensures.after ∙ ap (held_if o.slot o.kind l c.args.bit) c.detach.ensures ∙ held_if_is (detached l m) o.slot l (leg_holdable m l o (sound c.args.work.now) c.requires) o.kind c.args.bit
