use Rattle.std.proofs.Common.{◌≡◌, length}
use Rattle.loadings.specs.Loadings.{loaded, loaded_from}
use Rattle.loader.specs.States.{state}
use Rattle.loader.proofs.load.take_all.Given as goal

-- loading from here on is the whole loading
abbrev pub invariant-loop-item : goal.invariant-loop-item
invariant-loop-item g l =
    loaded_from (state l.loading) l.loading.item (g.S.Source.rest l.source).items (g.S.Source.rest l.source).ending ≡ loaded (g.S.Source.rest l.initial.source)

abbrev pub decreases-loop-item : goal.decreases-loop-item
decreases-loop-item g l = length (g.S.Source.rest l.source).items
