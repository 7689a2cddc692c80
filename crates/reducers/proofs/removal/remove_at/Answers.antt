use Rattle.std.proofs.Common.{◌≡◌, pos, sym, ap, ◌∙◌}
use Rattle.models.specs.Edits.{removed, scaled, can_scale, zeroed}
use Rattle.graphlike.specs.Diagrams.{model}
use Rattle.graphlike.proofs.Sounds.{sound}
use Rattle.reducers.proofs.Finding.{did}
use Rattle.reducers.proofs.Removals.{drop_removes, drop_doubles, drop_zeroes, drop_scales}
use Rattle.reducers.proofs.removal.remove_at.Goals as goal

pub returns-then-quarters-eq0 : goal.returns-then-quarters-eq0
returns-then-quarters-eq0 c =
    let d = c.args.diagram.now in
    let m = model d in
    let u = c.args.slot.number in
    let t = c.of.result.parts in
    let zero : m.graph.phase u ≡ 0 = sym c.phase-phase.ensures ∙ sym c.quarters.ensures ∙ c.if-quarters-eq0.true in
    let none : t ≡ 0 = ap (λ r. r.parts) c.of.ensures in
    let gone : model c.remove.new.self ≡ removed u m = did c.remove.result _ _ _ (c.remove.ensures.done ∙ drop_removes m u (sound d) c.requires) c.remove.ensures.after in
    did c.scale.result _ _ _ (c.scale.ensures.done ∙ (λ i. can_scale (pos 2) (none i) (gone i)) ∙ drop_scales m u (sound d) c.requires zero) c.scale.ensures.after
    ∙ (λ i. scaled (pos 2) (none i) (gone i)) ∙ drop_doubles m u (sound d) c.requires zero

pub returns-else-quarters-eq0 : goal.returns-else-quarters-eq0
returns-else-quarters-eq0 c =
    let d = c.args.diagram.now in
    let m = model d in
    let u = c.args.slot.number in
    let gone : model c.remove.new.self ≡ removed u m = did c.remove.result _ _ _ (c.remove.ensures.done ∙ drop_removes m u (sound d) c.requires) c.remove.ensures.after in
    c.make_zero.ensures ∙ ap zeroed gone ∙ drop_zeroes m u (sound d) c.requires (λ e. c.if-quarters-eq0.false (c.quarters.ensures ∙ c.phase-phase.ensures ∙ e))
