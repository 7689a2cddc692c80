use Rattle.std.proofs.Common.{◌≡◌, ◌-◌, ◌%◌, pos, ap, ◌∙◌}
use Rattle.graphs.specs.Graphs.{odd_turn}
use Rattle.rows.specs.Rows.{has}
use Rattle.models.specs.Models.{Model}
use Rattle.models.specs.Edits.{can_remove, removed, gained, complemented_around, scaled, can_scale}
use Rattle.graphlike.specs.Diagrams.{model}
use Rattle.graphlike.proofs.Sounds.{sound}
use Rattle.reducers.proofs.Finding.{did}
use Rattle.reducers.proofs.Complements.{complement_removes, complement_made, complement_scales}
use Rattle.reducers.proofs.complement.complement_at.Goals as goal

pub returns : goal.returns
returns c =
    let d = c.args.diagram.now in
    let m = model d in
    let u = c.args.slot.number in
    let r = has c.neighbours-neighbours.result in
    let q = c.neg.result.parts in
    let t = c.odd_turn.result.parts in
    let near = c.neighbours-neighbours.ensures in
    let back : q ≡ (4 - m.graph.phase u) % 4 = ap (λ p. p.parts) c.neg.ensures ∙ ap (λ p. (4 - p) % 4) c.phase-phase.ensures in
    let paid : t ≡ odd_turn (m.graph.phase u) = c.odd_turn.ensures ∙ ap odd_turn c.phase-phase.ensures in
    let around : Model = gained r q (complemented_around u m) in
    let turned : model c.turn.new.self ≡ around = c.turn.ensures ∙ ap (gained r q) c.complement.ensures in
    let gone : model c.remove.new.self ≡ removed u around =
    did c.remove.result _ _ _ (c.remove.ensures.done ∙ ap (can_remove u) turned ∙ complement_removes m u (sound d) c.requires r q near back) c.remove.ensures.after ∙ ap (removed u) turned in
    did c.scale.result _ _ _ (c.scale.ensures.done ∙ ap (can_scale (pos 1) t) gone ∙ complement_scales m u (sound d) c.requires r q near back t paid) c.scale.ensures.after
    ∙ ap (scaled (pos 1) t) gone ∙ complement_made m u (sound d) c.requires r q near back t paid
