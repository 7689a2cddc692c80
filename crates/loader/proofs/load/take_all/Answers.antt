use Rattle.std.proofs.Common.{◌≡◌, None, Ok, sym, ap, ◌∙◌, rules}
use Rattle.diagrams.specs.Streams.{Stream, after}
use Rattle.loadings.specs.Loadings.{accepted, loaded_from}
use Rattle.graphlike.specs.Diagrams.{model}
use Rattle.loader.specs.States.{state}
use Rattle.loader.proofs.Items.{model-given}
use Rattle.loader.proofs.Loops.{gave_none}
use Rattle.loader.proofs.load.take_all.Goals as goal

pub returns : goal.returns
returns g c =
    let l = c.loop-item.loading in
    let none : c.next.result ≡ Ok None = search rules in
    let end = gave_none (g.S.Source.rest c.loop-item.source) (sym c.next.ensures.gives ∙ none) in
    sym c.loop-item.invariant
    ∙ ap (λ (s : Stream). loaded_from (state l) l.item s.items s.ending) end
    ∙ (λ i. accepted (model-given (model l.diagram) l.spiders.items l.legs i) (sym (c.next.ensures.leaves ∙ ap after end) i))
