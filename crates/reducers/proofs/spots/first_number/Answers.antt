use Rattle.std.proofs.Common.{◌≡◌, ◌∙◌, rules}
use Rattle.std.specs.Option.{option_map}
use Rattle.rows.specs.Rows.{has}
use Rattle.reducers.proofs.Finding.{first_number_is}
use Rattle.reducers.proofs.spots.first_number.Goals as goal

pub returns : goal.returns
returns c =
    let number : c.map.result ≡ option_map (λ s. s.number) c.first.result = search rules in
    number ∙ first_number_is (has c.args.row.now) c.first.result c.first.ensures
