use Rattle.layerings.proofs.Piles.{piles, short_piles}
use Rattle.layerings.proofs.piles_go_layer_by_layer.Goals as goal

pub returns : goal.returns
returns c = record { any = piles; short = short_piles }
