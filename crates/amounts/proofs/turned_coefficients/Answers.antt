use mathlib.Core.Path.{◌≡◌, refl, sym, ap, ◌∙◌}
use mathlib.Core.List.{List, [], ◌∷◌}
use Prim.Native.Nat.{ℕ, zero, suc, ◌+◌, ◌%◌, ◌<◌}
use native.Mathlib.Omega.{arith}
use lib.IntN.{ℤ, pos, negsuc}
use lib.ListN.{set}
use Rattle.amounts.specs.Amounts.{power, turned}
use Rattle.amounts.specs.Eighths.{unit, eighth_turn, times, eighths, coefficients}
use Rattle.amounts.proofs.Scalars.{turned_rest}
use Rattle.amounts.proofs.turned_coefficients.Goals as goal
use Rattle.amounts.proofs.turned_coefficients.Goals.{then-m-lt4, else-m-lt4}

abbrev only : ℕ → ℤ → List ℤ
only k v = set (pos 0 ∷ pos 0 ∷ pos 0 ∷ pos 0 ∷ []) k v

-- w^k and w^(4+k) have one coefficient, at k
one_coefficient : (k : ℕ) → k < 4 → (only k (pos 1) ≡ coefficients (turned eighths k)) × (only k (negsuc 0) ≡ coefficients (turned eighths (4 + k)))
unfolding power times unit eighth_turn
one_coefficient zero h = (refl, refl)
one_coefficient (suc zero) h = (refl, refl)
one_coefficient (suc (suc zero)) h = (refl, refl)
one_coefficient (suc (suc (suc zero))) h = (refl, refl)
one_coefficient (suc (suc (suc (suc k)))) h = absurd (omega arith)

rest : (m k : ℕ) → m % 8 ≡ k → coefficients (turned eighths k) ≡ coefficients (turned eighths m)
rest m k e = ap (λ n. coefficients (turned eighths n)) (sym e) ∙ ap coefficients (sym (turned_rest m))

pub returns : goal.returns
returns c =
    let m = c.args.m in
    let half = one_coefficient (m % 4) (omega arith) in
    elim c.if-m-lt4.branch [
      | then-m-lt4 w ↦ let t = w.if-m-lt4.true in ap (only (m % 4)) w.r-is ∙ half.0 ∙ rest m (m % 4) (omega arith)
      | else-m-lt4 w ↦ let t = w.if-m-lt4.false in ap (only (m % 4)) w.r-is ∙ half.1 ∙ rest m (4 + m % 4) (omega arith)
    ]
