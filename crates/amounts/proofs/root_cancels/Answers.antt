use Rattle.amounts.proofs.Scalars.{root_cancels}
use Rattle.amounts.proofs.root_cancels.Goals as goal

pub returns : goal.returns
returns c = root_cancels
