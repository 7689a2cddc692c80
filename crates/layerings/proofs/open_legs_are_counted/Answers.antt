use Rattle.layerings.proofs.OpenLegs.{open_legs}
use Rattle.layerings.proofs.open_legs_are_counted.Goals as goal

pub returns : goal.returns
returns c = open_legs
