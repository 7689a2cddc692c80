use Rattle.amounts.proofs.Eighths.{lawful}
use Rattle.amounts.proofs.eighths_are_lawful.Goals as goal

pub returns : goal.returns
returns c = lawful
