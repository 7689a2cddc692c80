use Rattle.amounts.proofs.Scalars.{same_equivalence, same_at_one-power}
use Rattle.amounts.proofs.same_is_an_equivalence.Goals as goal

pub returns : goal.returns
returns c = record { equivalence = same_equivalence; exact = same_at_one-power }
