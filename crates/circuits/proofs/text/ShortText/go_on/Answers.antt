use Rattle.std.proofs.Common.{refl}
use Rattle.std.proofs.lemmas.Result.{err_from_is_err_and}
use Rattle.circuits.proofs.Readings.{also, at_fault, ended, placed, few_after}
use Rattle.circuits.proofs.text.ShortText.go_on.Goals as goal

pub returns-then-is_at_end : goal.returns-then-is_at_end
returns-then-is_at_end c = also _ c.args.self.now _ (ended _ refl refl c.if-is_at_end.ensures) refl

pub returns-in_err-gate : goal.returns-in_err-gate
returns-in_err-gate c =
    let s = c.args.self.now in
    let p = err_from_is_err_and c.from_residual.result c.from_residual.ensures.1 in
    rw (p.1, p.2) (at_fault s.qubits s.cursor.text.now s.cursor.at s.wiring c.if-is_at_end.ensures _ c.in_err-gate.ensures.0, refl)

pub invariant_of-self-2-clause-few : goal.invariant_of-self-2-clause-few
invariant_of-self-2-clause-few c = (few_after c.args.self.now c.add.new.self c.in_ok-gate.gate _ c.add.ensures c.in_ok-gate.ensures.0).0

pub invariant_of-self-2-clause-fewer : goal.invariant_of-self-2-clause-fewer
invariant_of-self-2-clause-fewer c = (few_after c.args.self.now c.add.new.self c.in_ok-gate.gate _ c.add.ensures c.in_ok-gate.ensures.0).1

pub returns : goal.returns
returns c =
    also _ c.args.self.now _ (placed c.args.self.now _ c.in_ok-gate.gate refl refl refl c.add.ensures c.in_ok-gate.ensures.1 c.if-is_at_end.ensures c.in_ok-gate.ensures.0) c.in_ok-gate.ensures.1
