use Rattle.std.proofs.Common.{◌^◌, ◌<◌, rules}
use lib.Count.{ones-le}
use Rattle.rows.proofs.Sizes.{ones_are_bits}
use Rattle.rows.proofs.row.ones.Goals as goal

pub returns : goal.returns
returns c =
    let small : c.args.word < 2 ^ 64 = search rules in
    let few = ones-le 64 c.args.word small in
    let bits = ones_are_bits 64 c.args.word small in
    record { value = search rules; bound = search rules }
