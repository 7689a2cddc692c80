-- Two angles are equal where their counts are. Assumes nothing.
use Rattle.std.proofs.Common.{◌≡◌, ◌+◌, ◌<◌, ℕ}
use mathlib.Core.HLevel.{is_prop→PathP}
use native.Mathlib.Bridge.{le_prop}
use Rattle.angles.specs.declared.angle.Angle.{Angle}

pub same_angle : {last : ℕ} (a b : Angle last) → a.parts ≡ b.parts → a ≡ b
same_angle {last = last} a b e = λ i. record { parts = e i; bound = is_prop→PathP (λ j. e j < last + 1) (λ j. le_prop) a.bound b.bound i }
