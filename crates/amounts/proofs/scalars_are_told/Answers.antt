use Rattle.amounts.proofs.Scalars.{scalar_told, scalar_not_zero}
use Rattle.amounts.proofs.scalars_are_told.Goals as goal

pub returns : goal.returns
returns c = record { told = scalar_told; never_zero = scalar_not_zero }
