use Rattle.std.proofs.Common.{◌≡◌, ◌<◌, [], ◌∷◌, ◌++◌, length, Err, refl, ap, ◌∙◌, arith, le-ltb, rules}
use Rattle.std.proofs.lemmas.Result.{err_from_is_err_and}
use Rattle.refusals.specs.declared.LoadRefusal.TheVariants.{TooManySpiders}
use Rattle.diagrams.specs.declared.items.Item.TheVariants.{Spider}
use Rattle.models.specs.Models.{spider_limit}
use Rattle.loadings.specs.Loadings.{refuses}
use Rattle.loadings.proofs.Taken.{good_taken}
use Rattle.graphlike.specs.Diagrams.{model}
use Rattle.loader.specs.Givens.{loading_of}
use Rattle.loader.specs.States.{state}
use Rattle.loader.proofs.Items.{count-given, spider_on, spider_placed}
use Rattle.loader.proofs.Taking.{comes, spider-refused}
use Rattle.loader.proofs.loading.Loading.take_spider.Goals as goal

pub returns-in_err-map_err : goal.returns-in_err-map_err
returns-in_err-map_err c =
    let l = c.args.self.now in
    let full : length l.spiders.items ≡ 256 = search rules in
    let count = count-given (model l.diagram) l.spiders.items l.legs in
    let p = err_from_is_err_and c.from_residual.result c.from_residual.ensures.1 in
    let why : c.in_err-map_err.field-0.0 ≡ TooManySpiders l.item = search rules in
    comes _ (refuses TooManySpiders) l.item l.item c.from_residual.result _ (spider-refused (state l) c.args.spider (le-ltb (length (state l).colours) spider_limit (omega arith))) (p.1 ∙ ap (λ e. Err e) (p.2 ∙ why))

pub invariant_of-self-2 : goal.invariant_of-self-2
invariant_of-self-2 c =
    let l = c.args.self.now in
    let m = model l.diagram in
    let gs = l.spiders.items in
    let low : length gs < 256 = search rules in
    let at : c.of-slot.result.number ≡ length gs = c.of-slot.ensures ∙ omega (arith, c.len.ensures.value) in
    let more : c.try_push.new.self.items ≡ gs ++ (record { colour = c.args.spider.colour; slot = c.of-slot.result } ∷ []) = search rules in
    let new = spider_placed m (model c.place.new.self) gs l.legs c.args.spider c.of-slot.result c.place.result l.good low at c.place.ensures.done c.place.ensures.after in
    record { good = good_taken (state l) (loading_of (model c.place.new.self) c.try_push.new.self.items l.legs) (Spider c.args.spider) l.good (spider_on m (model c.place.new.self) gs c.try_push.new.self.items l.legs c.args.spider c.of-slot.result low at more new) }

pub returns : goal.returns
returns c =
    let l = c.args.self.now in
    let m = model l.diagram in
    let gs = l.spiders.items in
    let low : length gs < 256 = search rules in
    let at : c.of-slot.result.number ≡ length gs = c.of-slot.ensures ∙ omega (arith, c.len.ensures.value) in
    let more : c.try_push.new.self.items ≡ gs ++ (record { colour = c.args.spider.colour; slot = c.of-slot.result } ∷ []) = search rules in
    let new = spider_placed m (model c.place.new.self) gs l.legs c.args.spider c.of-slot.result c.place.result l.good low at c.place.ensures.done c.place.ensures.after in
    comes _ _ l.item l.item _ _ (spider_on m (model c.place.new.self) gs c.try_push.new.self.items l.legs c.args.spider c.of-slot.result low at more new) (refl, refl, refl)
