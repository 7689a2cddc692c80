use mathlib.Core.Path.{sym, ap, ◌∙◌}
use Rattle.amounts.specs.Scalars.{scalar}
use Rattle.layerings.proofs.Conjugates.{conjugate-scalar}
use Rattle.layerings.proofs.conjugate_turns.Goals as goal

pub returns : goal.returns
returns c = λ a. ap (λ t. scalar a t.parts) c.neg.ensures ∙ sym (conjugate-scalar a c.args.m.parts c.args.m.bound)
