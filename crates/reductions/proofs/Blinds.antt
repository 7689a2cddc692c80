-- What legs are at a row does not depend on the bit of a slot that has none. Assumes nothing.
use Rattle.std.proofs.Common.{◌≡◌, ℕ, zero, suc, Bool, true, cond, List, Some, None, Option, refl, ap, ap₂, ne_eqb}
use Rattle.amounts.specs.Amounts.{Amounts}
use Rattle.graphs.specs.Graphs.{put}
use Rattle.graphs.specs.Rules.{Blind}
use Rattle.amplitudes.specs.Items.{joint, first_bit, other_bits}
use Rattle.models.specs.Models.{ModelLeg, onto, legs_from, legs_term}

-- no leg is on slot u
abbrev pub Off : (ℕ → Option ModelLeg) → ℕ → Type 0
Off leg u = (l : ℕ) (o : ModelLeg) → leg l ≡ Some o → ¬ (o.slot ≡ u)

pub legs_blind : (A : Amounts) (n l u : ℕ) (leg : ℕ → Option ModelLeg) (row : List Bool) → Off leg u → Blind A (legs_term A (legs_from n l leg) row) u
unfolding legs_from
legs_blind A zero l u leg row off x = refl
legs_blind A (suc n) l u leg row off x = go (leg l) refl (λ line. legs_blind A n (suc l) u leg line off x)
  where
    rest : List ModelLeg
    rest = legs_from n (suc l) leg

    go : (o : Option ModelLeg) → leg l ≡ o → ((line : List Bool) → legs_term A rest line (put x u) ≡ legs_term A rest line x) → legs_term A (onto o rest) row (put x u) ≡ legs_term A (onto o rest) row x
    go None e more = more row
    go (Some o) e more = ap₂ A.mul (ap (λ b. joint A o.kind (cond b true (x o.slot)) (first_bit row)) (ne_eqb o.slot u (off l o e))) (more (other_bits row))
