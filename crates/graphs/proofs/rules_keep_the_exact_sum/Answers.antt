use Rattle.amounts.specs.Eighths.{eighths}
use Rattle.amounts.proofs.Eighths.{lawful}
use Rattle.graphs.proofs.Complements.{complement-sound}
use Rattle.graphs.proofs.Drops.{drop_sound}
use Rattle.graphs.proofs.Pivots.{pivot-sound}
use Rattle.graphs.proofs.rules_keep_the_exact_sum.Goals as goal

pub returns : goal.returns
returns c = record { complement = complement-sound eighths lawful; pivot = pivot-sound eighths lawful; removal = drop_sound eighths lawful }
