-- What is found in a set of slots, and what a rule's scalar leaves in reach. Assumes nothing.
use Rattle.std.proofs.Common.{◌≡◌, ℕ, ◌<◌, ◌≤◌, Bool, true, false, cond, ◌&&◌, ℤ, Some, None, Option, sym, refl, ap, ◌∙◌, ap₂, subst, arith, le-leb, MatchOption}
use Rattle.std.specs.Option.{option_map}
use Rattle.rows.specs.declared.slot.Below.{Below}
use Rattle.models.specs.Models.{Model, Sound, reach, reach_limit}
use Rattle.models.specs.Edits.{scaled, can_scale}
use Rattle.reductions.specs.Runs.{first_from}
use Rattle.reductions.proofs.Runs.{first_is, first_absent}

-- the lowest of a set is the first that passes
pub lowest_is : (n : ℕ) (p : ℕ → Bool) (k : ℕ) → k < n → p k ≡ true → ((i : ℕ) → i < k → p i ≡ false) → Some k ≡ first_from n 0 p
lowest_is n p k low here before = sym (first_is n 0 p k (record { passes = here; low = omega arith; high = omega arith; others = λ j a b. before j b }))

pub absent_is : (n : ℕ) (p : ℕ → Bool) → ((i : ℕ) → i < n → p i ≡ false) → None ≡ first_from n 0 p
absent_is n p none = sym (first_absent n 0 p (λ k a b. none k (omega arith)))

-- the number of the lowest slot of a set is the first that passes
pub first_number_is : (p : ℕ → Bool) (o : Option (Below 320)) → MatchOption o ((k : ℕ) → p k ≡ false) (λ s. (p s.number ≡ true) × ((k : ℕ) → k < s.number → p k ≡ false)) → option_map (λ s. s.number) o ≡ first_from 320 0 p
first_number_is p None h = absent_is 320 p (λ k l. h k)
first_number_is p (Some s) h = lowest_is 320 p s.number s.bound h.0 h.1

off : (e a : Bool) → (e ≡ true → a ≡ false) → e && a ≡ false
off true a h = h refl
off false a h = refl

-- the same of the lowest that passes among those of a set
pub first_within_is : (p e a : ℕ → Bool) → ((k : ℕ) → p k ≡ e k && a k) → (o : Option (Below 320)) → MatchOption o ((k : ℕ) → e k ≡ true → a k ≡ false) (λ s. (a s.number ≡ true) × (e s.number ≡ true) × ((k : ℕ) → k < s.number → e k ≡ true → a k ≡ false)) → option_map (λ s. s.number) o ≡ first_from 320 0 p
first_within_is p e a same None h = first_number_is p None (λ k. same k ∙ off (e k) (a k) (h k))
first_within_is p e a same (Some s) h = first_number_is p (Some s) (same s.number ∙ ap₂ ◌&&◌ h.1 h.0, λ k l. same k ∙ off (e k) (a k) (h.2 k l))

-- a scalar can be multiplied where a sound diagram comes out
pub scale_fits : (k : ℤ) (t : ℕ) (m n : Model) → scaled k t m ≡ n → Sound n → can_scale k t m ≡ true
scale_fits k t m n same good = le-leb (reach (scaled k t m)) reach_limit (subst (λ (x : Model). reach x ≤ reach_limit) (sym same) good.range)

-- a change that is answered for was made
pub did : (r : Bool) (new old after : Model) → r ≡ true → after ≡ cond r new old → after ≡ new
did r new old after e h = h ∙ ap (λ b. cond b new old) e
