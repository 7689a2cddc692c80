use Rattle.std.proofs.Common.{◌≡◌, false, Option, Result, sym, refl, ap, ◌∙◌, subst, MatchResult}
use Rattle.std.specs.Prelude.{slice_get, ok_or}
use Rattle.refusals.specs.declared.LoadRefusal.{LoadRefusal}
use Rattle.refusals.specs.declared.LoadRefusal.TheVariants.{UnknownSpider}
use Rattle.loadings.specs.Loadings.{given}
use Rattle.graphlike.specs.Diagrams.{model}
use Rattle.loader.specs.declared.given.Given.{Given}
use Rattle.loader.specs.States.{state, Known}
use Rattle.loader.proofs.Answers.{got, found}
use Rattle.loader.proofs.loading.Loading.given.Goals as goal

pub returns : goal.returns
returns c =
    let l = c.args.self.now in
    let k = c.args.spider in
    let n = l.item in
    let at = c.copied.ensures ∙ got c.deref.result.now c.from.result c.get.result c.get.ensures.lookup ∙ (λ i. slice_get (c.deref.ensures.0 i) (c.from.ensures i)) in
    let is : c.ok_or.result ≡ ok_or (slice_get l.spiders.items k) (UnknownSpider n) = c.ok_or.ensures.value ∙ ap (λ (o : Option Given). ok_or o (UnknownSpider n)) at in
    subst (λ (r : Result Given LoadRefusal). MatchResult r (λ g. Known (state l) k g) (λ e. (given (state l) k ≡ false) × (e ≡ UnknownSpider n))) (sym is) (found (model l.diagram) l.spiders.items l.legs k n (slice_get l.spiders.items k) refl)
