use Rattle.graphs.proofs.Literal.{turns_are_literal}
use Rattle.graphs.proofs.terms_are_products.Goals as goal

pub returns : goal.returns
returns g c = turns_are_literal _ g.S.AmountSystem.lawful
