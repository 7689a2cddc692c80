-- What a step and a run by a rule make. Assumes nothing.
use Rattle.std.specs.Prelude.{◌≡◌, ℕ, ◌+◌, ◌≤◌, Bool, List, Some, None, Option}
use Rattle.amounts.specs.Scalars.{Same}
use Rattle.models.specs.Models.{Model, amount, standing}
use Rattle.reductions.specs.Kept.{side_of}
use Rattle.rules.specs.declared.choice.Choice.{Choice}
use Rattle.rules.specs.declared.choice.Choice.TheVariants.{First, Second}

-- the next diagram by a rule that finds spots and does steps
abbrev pub next_by : {S : Type 0} → (Model → Option S) → (Model → S → Model) → Model → Option Model
next_by finds does m = elim (finds m) [ Some s ↦ Some (does m s) | None ↦ None ]

-- a rule out of two: a spot of the first, or one of the second, and the first's are looked for first
abbrev pub either_fits : {A B : Type 0} → (A → Bool) → (B → Bool) → Choice A B → Bool
either_fits f g (First a) = f a
either_fits f g (Second b) = g b

abbrev pub either_does : {A B : Type 0} → (A → Model) → (B → Model) → Choice A B → Model
either_does f g (First a) = f a
either_does f g (Second b) = g b

abbrev pub either_finds : {A B : Type 0} → Option A → Option B → Option (Choice A B)
either_finds (Some a) q = Some (First a)
either_finds None (Some b) = Some (Second b)
either_finds None None = None

-- what a run of n steps keeps: the amplitude at every row, and the open legs with their numbers and sides; and
-- with every step a spider goes
pub record KeptByRun (m : Model) (n : ℕ) (r : Model) : Type 0 where
  pub amplitude : (row : List Bool) → Same (amount m row) (amount r row)
  pub fewer : standing r + n ≤ standing m
  pub legs : (l : ℕ) → side_of (r.leg l) ≡ side_of (m.leg l)
