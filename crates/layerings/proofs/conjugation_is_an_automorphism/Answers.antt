use Rattle.layerings.proofs.Conjugates.{conjugation, conjugate-scalar, conjugate-none, conjugate-same}
use Rattle.layerings.proofs.conjugation_is_an_automorphism.Goals as goal

pub returns : goal.returns
returns c = record { laws = conjugation; scalar = conjugate-scalar; none = conjugate-none; same = conjugate-same }
