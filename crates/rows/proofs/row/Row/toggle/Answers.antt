use Rattle.std.proofs.Common.{◌≡◌, ◌*◌, ◌/◌, ◌%◌, ◌^◌, ◌<◌, eqb, length, get_or, set, ap, ◌∙◌, arith, rules}
use lib.Bits.{bit_xor}
use Rattle.std.proofs.lemmas.Nat.{one_shl}
use Rattle.graphs.specs.Rules.{xor}
use Rattle.rows.specs.Rows.{bit_of}
use Rattle.rows.proofs.Toggles.{toggled}
use Rattle.rows.proofs.row.Row.toggle.Goals as goal

pub returns : goal.returns
returns c i =
    let ws = c.args.self.now.words in
    let n = c.number-number.result in
    let low : n / 64 < length ws = search rules in
    let shifted : (1 * 2 ^ (n % 64)) % 2 ^ 64 ≡ 2 ^ (n % 64) = one_shl (n % 64) 64 (omega arith) in
    ap (λ w. bit_of (get_or (set ws (n / 64) (bit_xor (get_or ws (n / 64) 0) w)) (i / 64) 0) (i % 64)) shifted
    ∙ toggled ws n low i
    ∙ ap (λ k. xor (bit_of (get_or ws (i / 64) 0) (i % 64)) (eqb i k)) c.number-number.ensures.value
