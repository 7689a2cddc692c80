use Rattle.std.proofs.Common.{◌≡◌, length}
use Rattle.deposits.specs.Tallies.{tally_from, tally_of}
use Rattle.deposits.proofs.tally.tally_all.Given as goal

-- what is counted, and what is still to be counted, make the whole
abbrev pub invariant-loop-item : goal.invariant-loop-item
invariant-loop-item g l =
    (tally_from l.tally (g.S.Source.rest l.source).items ≡ tally_of (g.S.Source.rest l.initial.source).items)
    × ((g.S.Source.rest l.source).ending ≡ (g.S.Source.rest l.initial.source).ending)

abbrev pub decreases-loop-item : goal.decreases-loop-item
decreases-loop-item g l = length (g.S.Source.rest l.source).items
