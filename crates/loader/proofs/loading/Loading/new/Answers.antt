use Rattle.std.proofs.Common.{sym, subst}
use Rattle.loadings.specs.Goods.{Good}
use Rattle.loadings.proofs.Goods.{good_beginning}
use Rattle.loader.proofs.Givens.{none-given}
use Rattle.loader.proofs.loading.Loading.new.Goals as goal

pub invariant_of-result : goal.invariant_of-result
invariant_of-result c = record { good = subst Good (sym (none-given _ _ c.new.ensures c.new-2.ensures)) good_beginning }

pub returns-clause-start : goal.returns-clause-start
returns-clause-start c = none-given _ _ c.new.ensures c.new-2.ensures
