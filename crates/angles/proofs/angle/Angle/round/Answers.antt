use Rattle.std.proofs.Common.{rules}
use Rattle.angles.proofs.Same.{same_angle}
use Rattle.angles.proofs.angle.Angle.round.Goals as goal

pub returns : goal.returns
returns g c = same_angle _ _ (search rules)
