use Rattle.std.proofs.Common.{◌≡◌, ℕ, ◌+◌, ◌*◌, ◌^◌, ◌<◌, ◌≤◌, false, length, get_or, Some, None, Option, sym, refl, subst, arith, rules, MatchOption}
use lib.Count.{count_trailing_zeros}
use Rattle.rows.specs.declared.row.Row.{Row}
use Rattle.rows.specs.declared.slot.Below.{Below}
use Rattle.rows.specs.Rows.{has, IsLowest}
use Rattle.rows.proofs.Words.{all_none, lowest_slot}
use Rattle.rows.proofs.row.Row.first.Goals as goal

made : (r : Row) (n : ℕ) → n < 320 → IsLowest r n → (o : Option (Below 320)) → MatchOption o (320 ≤ n) (λ s. (s.number ≡ n) × (n < 320)) → MatchOption o ((i : ℕ) → has r i ≡ false) (λ s. IsLowest r s.number)
made r n low found None e = absurd (omega arith)
made r n low found (Some s) e = subst (IsLowest r) (sym e.0) found

pub returns-then-word-ne0 : goal.returns-then-word-ne0
returns-then-word-ne0 c =
    let r = c.args.self.now in
    let n = c.loop-index.index in
    let small : get_or r.words n 0 < 2 ^ 64 = search rules in
    let s : ℕ = 64 * n + count_trailing_zeros 64 (get_or r.words n 0) in
    let found = lowest_slot r.words n small c.if-word-ne0.true c.loop-index.invariant s refl in
    made r s (omega (arith, found.0, c.loop-index-test.true)) (found.1, found.2) c.new.result c.new.ensures

pub returns : goal.returns
returns c =
    let few : length c.args.self.now.words ≤ 5 = search rules in
    all_none c.args.self.now.words few (λ k l. c.loop-index.invariant k (omega arith))
