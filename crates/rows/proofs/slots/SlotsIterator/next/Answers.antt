use Rattle.std.proofs.Common.{rules}
use Rattle.rows.specs.Rows.{has}
use Rattle.rows.proofs.Walks.{fewer_left}
use Rattle.rows.proofs.slots.SlotsIterator.next.Goals as goal

pub returns-clause-goes : goal.returns-clause-goes
returns-clause-goes c =
    let slot = c.in_ok-slot.slot in
    let less = fewer_left (has c.remove.new.self) (has c.args.self.now.left) slot.number slot.bound c.in_ok-slot.ensures.0 c.remove.ensures in
    search rules
