use Rattle.std.proofs.Common.{get_or, ap}
use Rattle.rows.specs.Rows.{has}
use Rattle.links.specs.Links.{no_row, linked}
use Rattle.links.proofs.links.Links.neighbours.Goals as goal

pub returns : goal.returns
unfolding linked
returns c t = ap (λ n. has (get_or c.args.self.now.rows n no_row) t) c.number.ensures.value
