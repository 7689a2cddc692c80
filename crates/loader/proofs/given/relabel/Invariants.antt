use Rattle.std.proofs.Common.{◌≡◌, map, take, drop}
use Rattle.loader.specs.Givens.{moved}
use Rattle.loader.proofs.given.relabel.Given as goal

abbrev pub invariant-loop-spider : goal.invariant-loop-spider
invariant-loop-spider l =
    (take l.spider-index l.spiders ≡ map (moved l.a l.b) (take l.spider-index l.initial.spiders))
    × (drop l.spider-index l.spiders ≡ drop l.spider-index l.initial.spiders)
