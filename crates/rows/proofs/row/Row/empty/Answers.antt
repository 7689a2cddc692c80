use Rattle.std.proofs.Common.{◌/◌, ◌%◌}
use Rattle.rows.proofs.Words.{nothing_set}
use Rattle.rows.proofs.row.Row.empty.Goals as goal

pub returns : goal.returns
returns c i = nothing_set (i / 64) (i % 64)
