use Rattle.std.proofs.Common.{◌≡◌, ◌*◌, ◌%◌, pos, ap, ◌∙◌}
use Rattle.rows.specs.Rows.{has}
use Rattle.models.specs.Models.{Model}
use Rattle.models.specs.Edits.{can_remove, removed, gained, crossed, scaled, can_scale}
use Rattle.graphlike.specs.Diagrams.{model}
use Rattle.graphlike.proofs.Sounds.{sound}
use Rattle.reducers.proofs.Finding.{did}
use Rattle.reducers.proofs.Pivots.{first_removes, second_removes, pivot_made, pivot_scales}
use Rattle.reducers.proofs.pivot.pivot_at.Goals as goal

pub returns : goal.returns
returns c =
    let d = c.args.diagram.now in
    let m = model d in
    let u = c.args.u.number in
    let v = c.args.v.number in
    let near_u = has c.neighbours-of_u.result in
    let near_v = has c.neighbours-of_v.result in
    let both = has c.intersect.new.self in
    let t = c.half_turns.result.parts in
    let phase_u = c.phase-phase_u.ensures in
    let phase_v = c.phase-phase_v.ensures in
    let paid : t ≡ m.graph.phase u * m.graph.phase v % 8 = c.half_turns.ensures ∙ (λ i. phase_u i * phase_v i % 8) in
    let turned : Model = gained both 2 (gained near_v (m.graph.phase u) (gained near_u (m.graph.phase v) (crossed u v m))) in
    let half : c.of.result.parts ≡ 2 = ap (λ p. p.parts) c.of.ensures in
    let first : model c.turn.new.self ≡ gained near_u (m.graph.phase v) (crossed u v m) = c.turn.ensures ∙ (λ i. gained near_u (phase_v i) (c.cross.ensures i)) in
    let second : model c.turn-2.new.self ≡ gained near_v (m.graph.phase u) (gained near_u (m.graph.phase v) (crossed u v m)) = c.turn-2.ensures ∙ (λ i. gained near_v (phase_u i) (first i)) in
    let third : model c.turn-3.new.self ≡ turned = c.turn-3.ensures ∙ (λ i. gained both (half i) (second i)) in
    let one : model c.remove.new.self ≡ removed u turned =
    did c.remove.result _ _ _ (c.remove.ensures.done ∙ ap (can_remove u) third ∙ first_removes m u v (sound d) c.requires near_u near_v both c.neighbours-of_u.ensures c.neighbours-of_v.ensures c.intersect.ensures) c.remove.ensures.after ∙ ap (removed u) third in
    let two : model c.remove-2.new.self ≡ removed v (removed u turned) =
    did c.remove-2.result _ _ _ (c.remove-2.ensures.done ∙ ap (can_remove v) one ∙ second_removes m u v (sound d) c.requires near_u near_v both c.neighbours-of_u.ensures c.neighbours-of_v.ensures c.intersect.ensures) c.remove-2.ensures.after ∙ ap (removed v) one in
    did c.scale.result _ _ _ (c.scale.ensures.done ∙ ap (can_scale (pos 2) t) two ∙ pivot_scales m u v (sound d) c.requires near_u near_v both c.neighbours-of_u.ensures c.neighbours-of_v.ensures c.intersect.ensures t paid) c.scale.ensures.after
    ∙ ap (scaled (pos 2) t) two ∙ pivot_made m u v (sound d) c.requires near_u near_v both c.neighbours-of_u.ensures c.neighbours-of_v.ensures c.intersect.ensures t paid
