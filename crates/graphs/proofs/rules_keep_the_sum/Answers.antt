use Rattle.graphs.proofs.Complements.{complement-sound}
use Rattle.graphs.proofs.Drops.{drop_sound}
use Rattle.graphs.proofs.Pivots.{pivot-sound}
use Rattle.graphs.proofs.rules_keep_the_sum.Goals as goal

pub returns : goal.returns
returns g c =
    let laws = g.S.AmountSystem.lawful in
    record { complement = complement-sound _ laws; pivot = pivot-sound _ laws; removal = drop_sound _ laws }
