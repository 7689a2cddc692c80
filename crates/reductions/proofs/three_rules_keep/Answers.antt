use Rattle.reductions.proofs.Fits.{complement_at, pivot_at, drop_at}
use Rattle.reductions.proofs.Complementing.{complement_kept}
use Rattle.reductions.proofs.Pivoting.{pivot_kept}
use Rattle.reductions.proofs.Removing.{removal_kept}
use Rattle.reductions.proofs.three_rules_keep.Goals as goal

pub returns : goal.returns
returns c = record {
  complement = λ m u good e. complement_kept m u good (complement_at m u good e);
  pivot = λ m u v good e. pivot_kept m u v good (pivot_at m u v good e);
  removal = λ m u good e. removal_kept m u good (drop_at m u good e);
}
