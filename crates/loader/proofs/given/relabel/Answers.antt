use Rattle.std.proofs.Common.{get_or, set, map, cond, sym, ap, ◌∙◌, arith, take_all}
use Rattle.loader.specs.Givens.{moved}
use Rattle.loader.proofs.Givens.{changed_more}
use Rattle.loader.proofs.given.relabel.Goals as goal
use Rattle.loader.proofs.given.relabel.Goals.{then-eq, else-eq}

pub loop-spider-preserved : goal.loop-spider-preserved
loop-spider-preserved c =
    let xs = c.args.spiders.now in
    let ys = c.loop-spider.spiders in
    let i = c.loop-spider.spider-index in
    let x = c.spider-item.result in
    let f = moved c.args.a c.args.b in
    let at = get_or ys i x in
    let low = c.loop-spider-test.true in
    let long = c.loop-spider.auto.spiders in
    elim c.if-eq.branch [
      | then-eq w ↦ changed_more f xs ys c.if-eq.spiders i x low long c.loop-spider.invariant.0 c.loop-spider.invariant.1 (w.spiders-is ∙ ap (λ t. set ys i (record { colour = at.colour; slot = cond t c.args.a at.slot })) (sym w.if-eq.true ∙ c.eq.ensures))
      | else-eq w ↦ changed_more f xs ys c.if-eq.spiders i x low long c.loop-spider.invariant.0 c.loop-spider.invariant.1 (w.spiders-is ∙ ap (λ t. set ys i (record { colour = at.colour; slot = cond t c.args.a at.slot })) (sym w.if-eq.false ∙ c.eq.ensures))
    ]

pub returns : goal.returns
returns c =
    let xs = c.args.spiders.now in
    let ys = c.loop-spider.spiders in
    let i = c.loop-spider.spider-index in
    let past = c.loop-spider-test.false in
    let long = c.loop-spider.auto.spiders in
    sym (take_all i ys (omega arith)) ∙ c.loop-spider.invariant.0 ∙ ap (map (moved c.args.a c.args.b)) (take_all i xs (omega arith))
