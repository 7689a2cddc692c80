-- The open legs in order: the first of them, and when there are none. Assumes nothing.
use Rattle.std.proofs.Common.{◌≡◌, ℕ, zero, suc, ◌+◌, ◌<◌, ◌≤◌, [], ◌∷◌, Some, None, Option, sym, refl, ap, ◌∙◌, ap₂, ⊎_elim, arith}
use Rattle.std.proofs.lemmas.Bool.Decides.{eqb_tells}
use Rattle.models.specs.Models.{ModelLeg, onto, legs_from}
use Rattle.models.proofs.Counts.{with_at, with_at_here, with_at_other, legs_outside}

pub legs-none : (n j : ℕ) (leg : ℕ → Option ModelLeg) → ((k : ℕ) → leg k ≡ None) → legs_from n j leg ≡ []
unfolding legs_from
legs-none zero j leg h = refl
legs-none (suc n) j leg h = ap₂ onto (h j) (legs-none n (suc j) leg h)

-- the leg of number l is the first where none below it is open
pub legs_first : (n j l : ℕ) (leg : ℕ → Option ModelLeg) (o : ModelLeg) → j ≤ l → l < j + n → ((k : ℕ) → k < l → leg k ≡ None) → leg l ≡ Some o → legs_from n j leg ≡ o ∷ legs_from n j (with_at leg l None)
unfolding legs_from
legs_first zero j l leg o low high none here = absurd (omega arith)
legs_first (suc n) j l leg o low high none here = ⊎_elim
    (λ h.
    let same = h.1 in
    let first : leg j ≡ Some o = ap leg same ∙ here in
    let gone : with_at leg l None j ≡ None = ap (with_at leg l None) same ∙ with_at_here leg l None in
    ap (λ q. onto q (legs_from n (suc j) leg)) first
    ∙ ap (λ os. o ∷ os) (sym (legs_outside n (suc j) l leg None (λ r. let b = r.0 in omega arith)))
    ∙ sym (ap (λ q. o ∷ onto q (legs_from n (suc j) (with_at leg l None))) gone))
    (λ h.
    let ne = h.1 in
    let first = none j (omega arith) in
    let more = legs_first n (suc j) l leg o (omega arith) (omega arith) none here in
    ap₂ onto first more
    ∙ sym (ap (λ q. o ∷ onto q (legs_from n (suc j) (with_at leg l None))) (with_at_other leg l None j ne ∙ first)))
    (eqb_tells j l)
