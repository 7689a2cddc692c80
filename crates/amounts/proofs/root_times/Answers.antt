use mathlib.Core.Path.{◌≡◌}
use mathlib.Core.List.{[], ◌∷◌}
use native.Mathlib.Omega.{arith}
use lib.IntN.{ℤ}
use borrow.Author.Differences.{ints}
use Rattle.amounts.specs.Eighths.{number}
use Rattle.amounts.proofs.Scalars.{root-times}
use Rattle.amounts.proofs.root_times.Goals as goal

each : {a b c d p q r s : ℤ} → a ≡ p → b ≡ q → c ≡ r → d ≡ s → a ∷ b ∷ c ∷ d ∷ [] ≡ p ∷ q ∷ r ∷ s ∷ []
each e f g h = λ i. e i ∷ f i ∷ g i ∷ h i ∷ []

pub returns : goal.returns
returns c =
    let x = c.args in
    rw (root-times (number x.a x.b x.c x.d)) (each (omega (arith, ints)) (omega (arith, ints)) (omega (arith, ints)) (omega (arith, ints)))
