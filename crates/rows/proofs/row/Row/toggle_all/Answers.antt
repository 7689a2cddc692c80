use Rattle.std.proofs.Common.{◌≡◌, ℕ, ◌/◌, ◌%◌, ◌<◌, ◌≤◌, length, get_or, refl, ap, ◌∙◌, arith, rules}
use lib.Bits.{bit_xor}
use Rattle.rows.specs.Rows.{bit_of}
use Rattle.rows.proofs.Words.{bit-xor, all_words}
use Rattle.rows.proofs.row.Row.toggle_all.Goals as goal

pub returns : goal.returns
returns c i =
    let new = c.combine.new.self.words in
    let old = c.args.self.now.words in
    let other = c.args.other.now.words in
    let long = c.combine.ensures.long in
    let a : length old ≤ 5 = search rules in
    let b : length other ≤ 5 = search rules in
    let each : (k : ℕ) → k < 5 → get_or new k 0 ≡ bit_xor (get_or old k 0) (get_or other k 0) = λ k l. let q = c.combine.ensures.each k l in search rules in
    ap (λ w. bit_of w (i % 64)) (all_words bit_xor refl new old other (omega arith) a b each (i / 64)) ∙ bit-xor (get_or old (i / 64) 0) (get_or other (i / 64) 0) (i % 64)
