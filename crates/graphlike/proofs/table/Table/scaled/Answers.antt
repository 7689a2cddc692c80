use Rattle.std.proofs.Common.{◌≡◌, ◌<◌, ℤ, subst, w32}
use Rattle.std.proofs.lemmas.Int.{to_z-of_z}
use Rattle.models.specs.Models.{size, reach_limit}
use Rattle.models.specs.Edits.{product}
use Rattle.parts.specs.Scales.{scale_of}
use Rattle.graphlike.specs.Shapes.{shape}
use Rattle.graphlike.proofs.Scaling.{in_reach, too_far}
use Rattle.graphlike.proofs.table.Table.scaled.Goals as goal

pub returns-in_err-scalar : goal.returns-in_err-scalar
returns-in_err-scalar c =
    let far = subst (λ (k : ℤ). reach_limit < size (product k c.args.m.parts (scale_of c.args.self.now.scalar))) (to_z-of_z w32 c.args.k c.ranges.k) c.in_err-scalar.ensures in
    rw c.from_residual.ensures (too_far c.args.k c.args.m.parts (shape c.args.self.now) far)

pub returns : goal.returns
returns c =
    let same = subst (λ (k : ℤ). scale_of c.in_ok-scalar.scalar ≡ product k c.args.m.parts (scale_of c.args.self.now.scalar)) (to_z-of_z w32 c.args.k c.ranges.k) c.in_ok-scalar.ensures.0 in
    in_reach c.args.k c.args.m.parts (shape c.args.self.now) c.in_ok-scalar.scalar c.has_room.result c.then_some.result same c.has_room.ensures c.then_some.ensures
