-- A scalar is told by its amount: zero by zero, and below a full turn the rest. Assumes nothing.
use Rattle.std.proofs.Common.{◌≡◌, ℕ, ◌↔◌, ℤ, pos, ◌-ℤ◌, neg_ℤ, sym, refl, ap, ◌∙◌, ap₂, arith}
use borrow.Author.Differences.{up, down}
use Rattle.amounts.specs.Amounts.{turned}
use Rattle.amounts.specs.Eighths.{none, unit, times, eighths}
use Rattle.amounts.specs.Scalars.{rooted, scalar, Scaled, excess, Same}
use Rattle.amounts.proofs.Eighths.{lawful}
use Rattle.amounts.proofs.Integers.{sums}
use Rattle.amounts.proofs.Scalars.{rooted_cancels, scalar_told, scalar_not_zero}
use Rattle.models.specs.Models.{Scalar, nothing, root, BelowFullTurn, scaled_by}
use Rattle.reductions.proofs.Paying.{up_negative}

-- √2^d·(w^t·1) is a scalar
plain : (d t : ℕ) → times (rooted d) (times (turned eighths t) unit) ≡ scalar d t
plain d t = ap (times (rooted d)) (lawful.mul_one (turned eighths t))

pub zero_told : (x : Scaled) (a : Scalar) → Same x (scaled_by a unit) → (a ≡ nothing) ↔ (x.z ≡ none)
zero_told x nothing e = (λ q. rooted_cancels (excess x.k (pos 0)) x.z none (e ∙ lawful.mul_zero (rooted (excess (pos 0) x.k)) ∙ sym (lawful.mul_zero (rooted (excess x.k (pos 0))))), λ q. refl)
zero_told x (root k t) e = (
  λ q. absurd (let z : ◌≡◌ {A = ℕ} 0 1 = cc in omega arith),
  λ q. absurd (scalar_not_zero (excess k x.k) t (sym (plain (excess k x.k) t) ∙ sym e ∙ ap (times (rooted (excess x.k k))) q ∙ lawful.mul_zero (rooted (excess x.k k)))),
)

same-excess : (k l : ℤ) → excess k l ≡ excess l k → k ≡ l
same-excess k l e =
    let back : l -ℤ k ≡ neg_ℤ (k -ℤ l) = omega (arith, sums) in
    let level : up (k -ℤ l) ≡ down (k -ℤ l) = e ∙ ap up back ∙ up_negative (k -ℤ l) in
    omega (arith, sums)

pub scalars_told : (a b : Scalar) → BelowFullTurn a → BelowFullTurn b → Same (scaled_by a unit) (scaled_by b unit) → a ≡ b
scalars_told nothing b p q e = sym ((zero_told (scaled_by nothing unit) b e).1 refl)
scalars_told (root k t) nothing p q e = (zero_told (scaled_by nothing unit) (root k t) (sym e)).1 refl
scalars_told (root k t) (root l s) p q e =
    let h = scalar_told (excess k l) (excess l k) t s p q (sym (plain (excess k l) t) ∙ e ∙ plain (excess l k) s) in
    ap₂ root (same-excess k l h.0) h.1
