use Rattle.amounts.proofs.Scalars.{root_two_is, quarter_is}
use Rattle.amounts.proofs.root_and_quarter_are.Goals as goal

pub returns : goal.returns
returns c = record { root = root_two_is; quarter = quarter_is }
