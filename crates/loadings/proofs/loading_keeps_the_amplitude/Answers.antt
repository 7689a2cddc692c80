use Rattle.loadings.proofs.Loads.{loading_keeps}
use Rattle.loadings.proofs.loading_keeps_the_amplitude.Goals as goal

pub returns : goal.returns
returns c = loading_keeps
