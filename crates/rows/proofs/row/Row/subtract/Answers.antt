use Rattle.std.proofs.Common.{◌≡◌, ℕ, Bool, true, false, not, ◌&&◌, ◌/◌, ◌%◌, ◌<◌, ◌≤◌, length, get_or, refl, ap, ◌∙◌, arith, rules}
use lib.Bits.{bit_and, bit_xor}
use Rattle.graphs.specs.Rules.{xor}
use Rattle.rows.specs.Rows.{bit_of}
use Rattle.rows.proofs.Words.{and_bit, bit-xor, all_words}
use Rattle.rows.proofs.row.Row.subtract.Goals as goal

abbrev without : ℕ → ℕ → ℕ
without a b = bit_xor a (bit_and a b)

apart : (p q : Bool) → xor p (p && q) ≡ p && not q
apart true true = refl
apart true false = refl
apart false true = refl
apart false false = refl

without-bit : (a b k : ℕ) → bit_of (without a b) k ≡ bit_of a k && not (bit_of b k)
without-bit a b k = bit-xor a (bit_and a b) k ∙ ap (xor (bit_of a k)) (and_bit a b k) ∙ apart (bit_of a k) (bit_of b k)

pub returns : goal.returns
returns c i =
    let new = c.combine.new.self.words in
    let old = c.args.self.now.words in
    let other = c.args.other.now.words in
    let long = c.combine.ensures.long in
    let a : length old ≤ 5 = search rules in
    let b : length other ≤ 5 = search rules in
    let each : (k : ℕ) → k < 5 → get_or new k 0 ≡ without (get_or old k 0) (get_or other k 0) = λ k l. let q = c.combine.ensures.each k l in search rules in
    ap (λ w. bit_of w (i % 64)) (all_words without refl new old other (omega arith) a b each (i / 64)) ∙ without-bit (get_or old (i / 64) 0) (get_or other (i / 64) 0) (i % 64)
