-- The amplitude of a working diagram at a row, as it is answered, and why the answer is right. Assumes nothing.
use Rattle.std.specs.Prelude.{◌≡◌, ℕ, zero, suc, ◌+◌, ◌≤◌, Bool, ◌↔◌, List, Some, None}
use Rattle.amounts.specs.Eighths.{none, unit}
use Rattle.amounts.specs.Scalars.{Same}
use Rattle.amplitudes.specs.Items.{first_bit, other_bits}
use Rattle.models.specs.Models.{Scalar, nothing, ModelLeg, Model, Sound, amount, scaled_by, standing, open_count, slots, leg_limit}
use Rattle.models.specs.Edits.{detached, held}
use Rattle.reductions.specs.Runs.{reduced}

-- the open leg of number l, closed at a bit
abbrev pub closed_leg : ℕ → ModelLeg → Bool → Model → Model
closed_leg l o b m = held o.slot o.kind l b (detached l m)

-- the open legs among n numbers from l on, closed at the bits of a row
unfoldable pub closed_from : ℕ → ℕ → List Bool → Model → Model
closed_from zero l row m = m
closed_from (suc n) l row m = elim (m.leg l) [
  | None ↦ closed_from n (suc l) row m
  | Some o ↦ closed_from n (suc l) (other_bits row) (closed_leg l o (first_bit row) m)
]

abbrev pub closed : List Bool → Model → Model
closed row m = closed_from leg_limit 0 row m

-- an answer: a scalar, and the steps that it took
pub record Answer : Type 0 where
  pub scalar : Scalar
  pub steps : ℕ

-- all legs closed, and reduced to the end, for which a step for each slot is enough
abbrev pub answered : List Bool → Model → Answer
answered row m = let r = reduced slots (closed row m) in record { scalar = r.model.scalar; steps = r.steps }

-- an answer is right where it is the amplitude, is zero exactly where that is, and took no more steps than
-- there were spiders and open legs
pub record Right (m : Model) (row : List Bool) (a : Answer) : Type 0 where
  pub same : Same (amount m row) (scaled_by a.scalar unit)
  pub zero : (a.scalar ≡ nothing) ↔ ((amount m row).z ≡ none)
  pub few : a.steps ≤ standing m + open_count m

abbrev pub AnswersAreRight : Type 0
AnswersAreRight = (m : Model) → Sound m → (row : List Bool) → Right m row (answered row m)

-- two diagrams of the same amplitude at a row answer it alike
abbrev pub AnswersAlike : Type 0
AnswersAlike =
    (m n : Model) (row line : List Bool) → Sound m → Sound n → Same (amount m row) (amount n line) → (answered row m).scalar ≡ (answered line n).scalar
