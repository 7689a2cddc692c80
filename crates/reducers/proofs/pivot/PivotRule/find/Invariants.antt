use Rattle.std.proofs.Common.{◌≡◌, ℕ, true, false, None}
use Rattle.rows.specs.Rows.{has}
use Rattle.graphlike.specs.Diagrams.{model}
use Rattle.models.specs.Models.{slots}
use Rattle.reductions.specs.Rules.{pivot_fits}
use Rattle.reductions.specs.Runs.{first_from}
use Rattle.reducers.proofs.pivot.PivotRule.find.Given as goal

-- the first of a pair is none of the slots that are no longer left for u, and the second none of those that are no
-- longer left for v
abbrev pub invariant-loop-u : goal.invariant-loop-u
invariant-loop-u l = record {
  inside : (k : ℕ) → has l.u-iterator.left k ≡ true → has l.even k ≡ true;
  past : (k : ℕ) → has l.u-iterator.left k ≡ false → first_from slots 0 (pivot_fits (model l.diagram) k) ≡ None;
}

abbrev pub invariant-loop-v : goal.invariant-loop-v
invariant-loop-v l = record {
  inside : (k : ℕ) → has l.v-iterator.left k ≡ true → has l.initial.v-iterator.left k ≡ true;
  past : (k : ℕ) → has l.v-iterator.left k ≡ false → pivot_fits (model l.diagram) l.u.number k ≡ false;
}
