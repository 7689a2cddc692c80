use Rattle.std.proofs.Common.{arith}
use Rattle.models.proofs.Counts.{legs_most}
use Rattle.parts.specs.Tables.{leg_in}
use Rattle.parts.proofs.legs.Legs.count.Goals as goal

pub returns-clause-bound : goal.returns-clause-bound
returns-clause-bound c =
    let same = c.args.self.now.counted in
    let most = legs_most 64 0 (leg_in c.args.self.now.table) in
    omega arith
