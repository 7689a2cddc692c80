use Rattle.std.proofs.Common.{◌≡◌, ℕ, true}
use Rattle.graphs.specs.Rules.{xor}
use Rattle.rows.specs.Rows.{has}
use Rattle.links.specs.Links.{linked}
use Rattle.links.proofs.Rows.{worked}
use Rattle.links.proofs.links.Links.toggle_rows.Given as goal

abbrev pub invariant-loop-slot : goal.invariant-loop-slot
invariant-loop-slot l = record {
  inside : (k : ℕ) → has l.slot-iterator.left k ≡ true → has l.set k ≡ true;
  toggled : (s t : ℕ) → linked l.self s t ≡ xor (linked l.initial.self s t) (worked (has l.set) (has l.slot-iterator.left) (λ s. has l.others) s t);
}
