use Rattle.amplitudes.proofs.Exponents.{terms_are_powers}
use Rattle.amplitudes.proofs.terms_are_powers.Goals as goal

pub returns : goal.returns
returns g c = terms_are_powers _ g.S.AmountSystem.lawful
