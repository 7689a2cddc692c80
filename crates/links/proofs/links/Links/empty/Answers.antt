use Rattle.std.proofs.Common.{rules}
use Rattle.links.proofs.Rows.{all_empty}
use Rattle.links.proofs.links.Links.empty.Goals as goal

pub returns : goal.returns
returns c s t = search (rules, all_empty)
