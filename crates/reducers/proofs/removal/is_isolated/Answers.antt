use Rattle.rows.specs.Rows.{has}
use Rattle.models.specs.Models.{slots}
use Rattle.models.proofs.Toggles.{other_end}
use Rattle.graphlike.specs.Diagrams.{model}
use Rattle.graphlike.proofs.Sounds.{sound}
use Rattle.reducers.proofs.Removals.{empty_is_zero}
use Rattle.reducers.proofs.removal.is_isolated.Goals as goal

pub returns : goal.returns
returns c =
    let d = c.args.diagram.now in
    let u = c.args.slot.number in
    empty_is_zero slots ((model d).graph.edge u) (has c.neighbours.result) c.is_empty.result (λ k e. (sound d).inside k (other_end (model d) u k (sound d) e)) c.neighbours.ensures c.is_empty.ensures
