use Rattle.std.proofs.Common.{◌<◌, ◌&&◌, eqb, length, ap, ◌∙◌, rules}
use Rattle.graphs.specs.Rules.{xor}
use Rattle.rows.specs.Rows.{has}
use Rattle.links.specs.Links.{linked}
use Rattle.links.proofs.Rows.{row-toggled}
use Rattle.links.proofs.links.Links.toggle_row.Goals as goal

pub returns : goal.returns
returns c s t =
    let rs = c.args.self.now.rows in
    let low : c.number-number.result < length rs = search rules in
    row-toggled rs c.number-number.result c.toggle_all.new.self (has c.args.others.now) low c.toggle_all.ensures s t
    ∙ ap (λ n. xor (linked c.args.self.now s t) (eqb s n && has c.args.others.now t)) c.number-number.ensures.value
