-- What a rule that found no slot says of each slot. Assumes nothing.
use Rattle.std.specs.Prelude.{◌≡◌, ℕ, Bool, true, false, None}
use Rattle.std.proofs.Common.{⊎_elim, arith}
use Rattle.models.specs.Models.{Model, Sound, slots}
use Rattle.reductions.specs.Runs.{first_from}
use Rattle.reductions.proofs.Runs.{true_or_false, first_none}

-- where no slot of a sound diagram is found, none fits, since a slot where one fits stands
pub none_fits : (m : Model) → Sound m → (fits : ℕ → Bool) (u : ℕ) → (fits u ≡ true → (m.graph.stands u ≡ true) × (first_from slots 0 fits ≡ None)) → fits u ≡ false
none_fits m good fits u at = ⊎_elim (λ h. first_none slots 0 fits (at h).1 u (omega arith) (good.inside u (at h).0)) (λ h. h) (true_or_false (fits u))
