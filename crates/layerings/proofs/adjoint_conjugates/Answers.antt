use Rattle.layerings.proofs.Adjoints.{adjoint_conjugates}
use Rattle.layerings.proofs.adjoint_conjugates.Goals as goal

pub returns : goal.returns
returns c = adjoint_conjugates
