use Rattle.std.proofs.Common.{arith, rules}
use Rattle.rows.specs.Rows.{has}
use Rattle.graphs.proofs.Sets.{total_most}
use Rattle.graphlike.proofs.table.Table.reach.Goals as goal

pub overflow_mul-result : goal.overflow_mul-result
overflow_mul-result c = let most = total_most 320 (has c.args.self.now.standing) in let is = c.len.ensures in omega arith

pub overflow_add-result : goal.overflow_add-result
overflow_add-result c = let most = total_most 320 (has c.args.self.now.standing) in let is = c.len.ensures in let s = c.size.type_inv in omega arith

pub overflow_add-result-2 : goal.overflow_add-result-2
overflow_add-result-2 c = let most = total_most 320 (has c.args.self.now.standing) in let is = c.len.ensures in let s = c.size.type_inv in let l = c.count.ensures.bound in omega arith

pub returns : goal.returns
returns c =
    let most = total_most 320 (has c.args.self.now.standing) in
    let is = c.len.ensures in
    let s = c.size.type_inv in
    let l = c.count.ensures.bound in
    record { value = search rules; bound = omega arith }
