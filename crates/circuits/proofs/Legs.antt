-- What stands at each place of the opening and of the closing items. Assumes nothing.
use Rattle.std.proofs.Common.{◌≡◌, ℕ, zero, suc, ◌+◌, ◌*◌, ◌/◌, ◌%◌, ◌<◌, ◌≤◌, ◌≢◌, Some, None, refl, ap, ◌∙◌, arith}
use Rattle.std.proofs.lemmas.List.{length-map}
use Rattle.std.proofs.lemmas.List.FromFn.{length-range_with_len, get_or-map-range_with_len}
use Rattle.std.proofs.lemmas.Option.{slice_get-get_or, slice_get_past}
use Rattle.std.specs.List.{slice_get}
use Rattle.diagrams.specs.declared.items.Colour.TheVariants.{Z}
use Rattle.diagrams.specs.declared.items.Side.TheVariants.{Input, Output}
use Rattle.circuits.specs.declared.wiring.Wiring.{Wiring}
use Rattle.circuits.specs.Gates.{spider, leg, opening, closing, last_of}

even_at : (q n s : ℕ) → s < n → slice_get (opening q n) (2 * s) ≡ Some (spider Z 0)
even_at q zero s h = absurd (omega arith)
even_at q (suc n) zero h = refl
even_at q (suc n) (suc s) h = ap (slice_get (opening q (suc n))) two ∙ even_at (q + 1) n s (omega arith)
  where
    two : 2 * suc s ≡ suc (suc (2 * s))
    two = omega arith

odd_at : (q n s : ℕ) → s < n → slice_get (opening q n) (2 * s + 1) ≡ Some (leg Input (q + s))
odd_at q zero s h = absurd (omega arith)
odd_at q (suc n) zero h = ap (λ k. Some (leg Input k)) (omega arith)
odd_at q (suc n) (suc s) h = ap (slice_get (opening q (suc n))) two ∙ odd_at (q + 1) n s (omega arith) ∙ ap (λ k. Some (leg Input k)) one
  where
    two : 2 * suc s + 1 ≡ suc (suc (2 * s + 1))
    two = omega arith

    one : q + 1 + s ≡ q + suc s
    one = omega arith

past : (q n s : ℕ) → 2 * n ≤ s → slice_get (opening q n) s ≡ None
past q zero s h = refl
past q (suc n) zero h = absurd (omega arith)
past q (suc n) (suc zero) h = absurd (omega arith)
past q (suc n) (suc (suc s)) h = past (q + 1) n s (omega arith)

-- at an even place a spider, at an odd one a leg, and after those of the last qubit nothing
pub opening-even : (n k : ℕ) → k / 2 < n → k % 2 ≡ 0 → slice_get (opening 0 n) k ≡ Some (spider Z 0)
opening-even n k h e = let two : k ≡ 2 * (k / 2) = omega arith in ap (slice_get (opening 0 n)) two ∙ even_at 0 n (k / 2) h

pub opening-odd : (n k : ℕ) → k / 2 < n → k % 2 ≢ 0 → slice_get (opening 0 n) k ≡ Some (leg Input (k / 2))
opening-odd n k h e =
    let two : k ≡ 2 * (k / 2) + 1 = omega arith in
    let none : 0 + k / 2 ≡ k / 2 = omega arith in
    ap (slice_get (opening 0 n)) two ∙ odd_at 0 n (k / 2) h ∙ ap (λ s. Some (leg Input s)) none

pub opening_past : (n k : ℕ) → n ≤ k / 2 → slice_get (opening 0 n) k ≡ None
opening_past n k h = past 0 n k (omega arith)

-- at each place the leg of that qubit, and after the last nothing
pub closing-at : (n : ℕ) (w : Wiring) (k : ℕ) → k < n → slice_get (closing n w) k ≡ Some (leg Output (last_of w k))
closing-at n w k h =
    slice_get-get_or (closing n w) k (leg Output 0) (simp (length-map, length-range_with_len) h)
    ∙ ap Some (get_or-map-range_with_len (λ q. leg Output (last_of w q)) 0 n k k (leg Output 0) h (omega arith))

pub closing_past : (n : ℕ) (w : Wiring) (k : ℕ) → n ≤ k → slice_get (closing n w) k ≡ None
closing_past n w k h = slice_get_past (closing n w) k (simp (length-map, length-range_with_len) h)

pub ruleset opening_legs = (opening-even, opening-odd, opening_past)

pub ruleset closing_legs = (closing-at, closing_past)
