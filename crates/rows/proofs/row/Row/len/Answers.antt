use Rattle.std.proofs.Common.{rules, arith, ◌≡◌, ◌^◌, ◌≤◌, length, sum_by, ap, ◌∙◌, ◌*◌}
use Rattle.std.proofs.lemmas.Iterator.{YieldsList-from_slice}
use Rattle.std.proofs.lemmas.Iterator.Adapters.{fits_from_length, at_most_from_yields_List}
use Rattle.graphs.specs.Counts.{bit, total}
use Rattle.rows.specs.Rows.{has, bits_in}
use Rattle.rows.proofs.Sizes.{bits_in_words}
use Rattle.rows.proofs.row.Row.len.Goals as goal

-- each word has at most 64 slots
pub sum-requires-clause-fits : goal.sum-requires-clause-fits
sum-requires-clause-fits c =
    let few : length c.args.self.now.words ≤ 5 = search rules in
    fits_from_length _ _ 5 (2 ^ 64) (at_most_from_yields_List (YieldsList-from_slice c.args.self.now.words cc) few) c.map.ensures.closure (omega arith) (λ x r q k. search rules)

pub returns : goal.returns
returns c =
    let ws = c.args.self.now.words in
    let long : length ws ≡ 5 = search rules in
    let all : c.sum.result ≡ sum_by bits_in ws = search rules in
    let words = bits_in_words ws in
    all ∙ words ∙ ap (λ n. total (64 * n) (λ i. bit (has c.args.self.now i))) long
