use Rattle.std.proofs.Common.{length, sym, ap, ◌∙◌}
use Rattle.models.specs.Edits.{led}
use Rattle.models.proofs.Counts.{legs-led, legs-same}
use Rattle.parts.specs.Tables.{leg_in}
use Rattle.parts.proofs.legs.Legs.lead.Goals as goal

pub invariant_of-self : goal.invariant_of-self
invariant_of-self c =
    let a = c.args.to.number in
    let b = c.args.from.number in
    let old = leg_in c.args.self.now.table in
    let new = leg_in c.lead_all.new.table in
    record { counted = c.args.self.now.counted ∙ sym (legs-led 64 0 a b old) ∙ ap length (legs-same 64 0 (λ k. led a b (old k)) new (λ k l h. sym (c.lead_all.ensures k))) }
