use Rattle.amplitudes.proofs.Worked.{worked_amounts}
use Rattle.amplitudes.proofs.worked_amounts.Goals as goal

pub returns : goal.returns
returns c = worked_amounts
