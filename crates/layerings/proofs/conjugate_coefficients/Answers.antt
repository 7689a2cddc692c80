use mathlib.Core.Path.{◌≡◌}
use mathlib.Core.List.{[], ◌∷◌}
use native.Mathlib.Omega.{arith}
use lib.IntN.{ℤ}
use borrow.Author.Differences.{ints}
use Rattle.layerings.specs.Conjugates.{conj}
use Rattle.layerings.proofs.conjugate_coefficients.Goals as goal

each : {a b c d p q r s : ℤ} → a ≡ p → b ≡ q → c ≡ r → d ≡ s → a ∷ b ∷ c ∷ d ∷ [] ≡ p ∷ q ∷ r ∷ s ∷ []
each e f g h = λ i. e i ∷ f i ∷ g i ∷ h i ∷ []

pub returns : goal.returns
unfolding conj
returns c = each (omega (arith, ints)) (omega (arith, ints)) (omega (arith, ints)) (omega (arith, ints))
