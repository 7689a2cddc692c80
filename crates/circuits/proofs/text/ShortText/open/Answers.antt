use Rattle.std.proofs.Common.{sym, refl}
use Rattle.circuits.proofs.Inverses.{head_inv}
use Rattle.circuits.proofs.Readings.{also, opened}
use Rattle.circuits.proofs.text.ShortText.open.Goals as goal

pub invariant_of-self-clause-narrow : goal.invariant_of-self-clause-narrow
invariant_of-self-clause-narrow c = let s = c.args.self.now in (head_inv s.cursor.text.now s.cursor.at _ (sym c.in_ok-qubits.ensures.0)).1

pub returns : goal.returns
returns c = also _ c.args.self.now _ (opened _ _ _ refl refl c.fresh.ensures c.in_ok-qubits.ensures.1 c.in_ok-qubits.ensures.0) c.in_ok-qubits.ensures.1
