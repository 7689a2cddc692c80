-- Runs of steps with a budget, and the order in which a diagram is reduced. Assumes nothing.
use Rattle.std.specs.Prelude.{ℕ, zero, suc, ◌+◌, Bool, true, false, not, is_some, Some, None, Option}
use Rattle.models.specs.Models.{Model, slots}
use Rattle.reductions.specs.Rules.{complement_fits, complemented, pivot_fits, pivoted, drop_fits, dropped}
use Rattle.reductions.specs.declared.Pair.{Pair}

-- the first of n numbers from l on that passes
unfoldable pub first_from : ℕ → ℕ → (ℕ → Bool) → Option ℕ
first_from zero l p = None
first_from (suc n) l p = elim (p l) [ true ↦ Some l | false ↦ first_from n (suc l) p ]

abbrev pub first_complement : Model → Option ℕ
first_complement m = first_from slots 0 (complement_fits m)

abbrev pub first_drop : Model → Option ℕ
first_drop m = first_from slots 0 (drop_fits m)

-- the lowest first spider, and then the lowest second
unfoldable pub first_pair_from : ℕ → ℕ → (ℕ → Option ℕ) → Option Pair
first_pair_from zero u f = None
first_pair_from (suc n) u f = elim (f u) [ Some v ↦ Some (record { first = u; second = v }) | None ↦ first_pair_from n (suc u) f ]

abbrev pub first_pivot : Model → Option Pair
first_pivot m = first_pair_from slots 0 (λ u. first_from slots 0 (pivot_fits m u))

-- the next step of a reduction: the first complement that fits, else the first pivot, else the first removal
abbrev pub dropped_next : Model → Option Model
dropped_next m = elim (first_drop m) [ Some u ↦ Some (dropped u m) | None ↦ None ]

abbrev pub pivoted_next : Model → Option Model
pivoted_next m = elim (first_pivot m) [ Some p ↦ Some (pivoted p.first p.second m) | None ↦ dropped_next m ]

abbrev pub reduced_next : Model → Option Model
reduced_next m = elim (first_complement m) [ Some u ↦ Some (complemented u m) | None ↦ pivoted_next m ]

-- how a run ends: where, after how many steps, and whether no step is left
pub record Run : Type 0 where
  pub model : Model
  pub steps : ℕ
  pub finished : Bool

abbrev pub one_more : Run → Run
one_more r = record { model = r.model; steps = r.steps + 1; finished = r.finished }

-- steps while there is one and the budget lasts
unfoldable pub ran : (Model → Option Model) → ℕ → Model → Run
ran next zero m = record { model = m; steps = 0; finished = not (is_some (next m)) }
ran next (suc budget) m = elim (next m) [
  | None ↦ record { model = m; steps = 0; finished = true }
  | Some n ↦ one_more (ran next budget n)
]

abbrev pub reduced : ℕ → Model → Run
reduced budget m = ran reduced_next budget m
