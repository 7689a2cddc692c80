use Rattle.std.proofs.Common.{◌≡◌, ℕ, ◌<◌, ◌≤◌, get_or}
use Rattle.rows.proofs.row.Row.combine.Given as goal

-- the words before the one that is next are worked, and the others are as they were
abbrev pub invariant-loop-place : goal.invariant-loop-place
invariant-loop-place g l = record {
  worked : (k : ℕ) → k < l.place → goal.F-post g l.work (get_or l.fn.self.words k 0) (get_or l.other.words k 0) (get_or l.word-items k 0);
  waiting : (k : ℕ) → l.place ≤ k → get_or l.word-items k 0 ≡ get_or l.fn.self.words k 0;
}
