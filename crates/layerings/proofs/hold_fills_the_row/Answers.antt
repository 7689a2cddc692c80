use Rattle.layerings.proofs.Holds.{hold_fills_the_row}
use Rattle.layerings.proofs.hold_fills_the_row.Goals as goal

pub returns : goal.returns
returns c = hold_fills_the_row
