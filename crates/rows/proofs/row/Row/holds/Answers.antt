use Rattle.std.proofs.Common.{◌/◌, ◌%◌, ◌^◌, eqb, get_or, ap, ◌∙◌}
use lib.Bits.{and_mask}
use Rattle.rows.specs.Rows.{bit_of}
use Rattle.rows.proofs.row.Row.holds.Goals as goal

pub returns : goal.returns
unfolding bit_of
returns c =
    let ws = c.args.self.now.words in
    ap (λ w. eqb w 1) (and_mask (get_or ws (c.number.result / 64) 0 / 2 ^ (c.number-2.result % 64)) 1)
    ∙ (λ i. bit_of (get_or ws (c.number.ensures.value i / 64) 0) (c.number-2.ensures.value i % 64))
