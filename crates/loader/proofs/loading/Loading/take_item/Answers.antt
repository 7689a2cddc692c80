use Rattle.std.proofs.Common.{refl, ap, ◌∙◌}
use Rattle.diagrams.specs.declared.items.Item.TheVariants.{Zero}
use Rattle.loadings.specs.Loadings.{taken}
use Rattle.loadings.proofs.Taken.{good_taken}
use Rattle.graphlike.specs.Diagrams.{model}
use Rattle.loader.specs.Givens.{loading_of}
use Rattle.loader.specs.States.{state}
use Rattle.loader.proofs.Items.{zero_on}
use Rattle.loader.proofs.Taking.{comes}
use Rattle.loader.proofs.loading.Loading.take_item.Goals as goal

pub invariant_of-self : goal.invariant_of-self
invariant_of-self c =
    let l = c.args.self.now in
    record { good = good_taken (state l) (loading_of (model c.make_zero.new.self) l.spiders.items l.legs) Zero l.good (zero_on (model l.diagram) (model c.make_zero.new.self) l.spiders.items l.legs c.make_zero.ensures) }

pub returns-in-Zero : goal.returns-in-Zero
returns-in-Zero c =
    let l = c.args.self.now in
    comes _ _ l.item l.item _ _ (ap (taken (state l)) c.in-Zero.is ∙ zero_on (model l.diagram) (model c.make_zero.new.self) l.spiders.items l.legs c.make_zero.ensures) (refl, refl, refl)
