use Rattle.std.proofs.lemmas.Bool.{eqb-true, eq-eqb}
use Rattle.amounts.proofs.Scalars.{scalar-same, scalar_rest_told}
use Rattle.amounts.proofs.same_scalar.Goals as goal

pub returns-then-a-b : goal.returns-then-a-b
returns-then-a-b c =
    let x = c.args in
    record {
      equal = λ t. scalar-same x.a x.m x.b x.n c.if-a-b.true (eqb-true _ _ t);
      apart = λ e. eq-eqb _ _ (scalar_rest_told x.a x.m x.b x.n e).1;
    }

pub returns-else-a-b : goal.returns-else-a-b
returns-else-a-b c =
    let x = c.args in
    record {
      equal = λ t. absurd (c.if-a-b.false (eqb-true _ _ t));
      apart = λ e. absurd (c.if-a-b.false (scalar_rest_told x.a x.m x.b x.n e).0);
    }
