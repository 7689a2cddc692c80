-- A scalar pays for what a sum gains or loses. Assumes nothing.
use Rattle.std.proofs.Common.{◌≡◌, ℕ, ◌+◌, ◌*◌, ◌%◌, ◌≤◌, ℤ, pos, negsuc, ◌+ℤ◌, ◌-ℤ◌, neg_ℤ, nat_abs, sym, refl, ap, ◌∙◌, arith}
use borrow.Author.Differences.{up, down, ints}
use Rattle.amounts.specs.Amounts.{power, turned, root_two}
use Rattle.amounts.specs.Eighths.{Eighths, none, unit, times, eighths}
use Rattle.amounts.specs.Scalars.{rooted, Scaled, excess, Same}
use Rattle.amounts.proofs.Integers.{sums}
use Rattle.amounts.proofs.Eighths.{lawful}
use Rattle.amounts.proofs.Scalars.{turned_rest}
use Rattle.amounts.proofs.Turns.{turned-add}
use Rattle.models.specs.Models.{Scalar, nothing, root, BelowFullTurn, scaled_by, size}
use Rattle.models.specs.Edits.{product}
use Rattle.reductions.specs.Kept.{Moved}

-- two factors change places
pub swapped : (p q z : Eighths) → times p (times q z) ≡ times q (times p z)
swapped p q z = sym (lawful.mul_assoc p q z) ∙ ap (λ r. times r z) (lawful.mul_comm p q) ∙ lawful.mul_assoc q p z

pub up_negative : (e : ℤ) → up (neg_ℤ e) ≡ down e
up_negative (pos n) = omega (arith, ints)
up_negative (negsuc n) = omega (arith, ints)

-- by how much k + e exceeds k, and the other way round
excess-more : (k e : ℤ) → excess (k +ℤ e) k ≡ up e
excess-more k e = let same : (k +ℤ e) -ℤ k ≡ e = omega (arith, sums) in ap up same

excess_less : (k e : ℤ) → excess k (k +ℤ e) ≡ down e
excess_less k e = let same : k -ℤ (k +ℤ e) ≡ neg_ℤ e = omega (arith, sums) in ap up same ∙ up_negative e

-- the scalar gains √2^e·w^t, which the sum loses
pub paid : (e : ℤ) (t : ℕ) (a : Scalar) (z y : Eighths) → times (rooted (down e)) z ≡ times (times (rooted (up e)) (turned eighths t)) y → Same (scaled_by a z) (scaled_by (product e t a) y)
paid e t nothing z y h = refl
paid e t (root k b) z y h =
    ap (λ d. times (rooted d) (times w z)) (excess_less k e)
    ∙ swapped (rooted (down e)) w z
    ∙ ap (times w) (h ∙ lawful.mul_assoc (rooted (up e)) (turned eighths t) y)
    ∙ swapped w (rooted (up e)) (times (turned eighths t) y)
    ∙ ap (times (rooted (up e))) (sym (lawful.mul_assoc w (turned eighths t) y) ∙ ap (λ r. times r y) (sym (turned-add eighths lawful b t) ∙ turned_rest (b + t)))
    ∙ ap (λ d. times (rooted d) (times (turned eighths ((b + t) % 8)) y)) (sym (excess-more k e))
  where
    w : Eighths
    w = turned eighths b

-- the powers of √2 up to the second
pub rooted_none : rooted 0 ≡ unit
unfolding power
rooted_none = refl

pub rooted-one : rooted 1 ≡ root_two eighths
unfolding power
rooted-one = lawful.mul_one (root_two eighths)

pub rooted_two : rooted 2 ≡ times (root_two eighths) (root_two eighths)
unfolding power
rooted_two = ap (times (root_two eighths)) (lawful.mul_one (root_two eighths))

-- how far the power of √2 moves
pub product-size : (e : ℤ) (t : ℕ) (a : Scalar) → size (product e t a) ≤ size a + nat_abs e
product-size e t nothing = omega arith
product-size e t (root k b) = omega (arith, ints)

pub product_moved : (n : ℕ) (e : ℤ) (t : ℕ) (a : Scalar) → nat_abs e ≤ 2 * n → Moved n a (product e t a)
product_moved n e t nothing h = refl
product_moved n e t (root k b) h = let same : (k +ℤ e) -ℤ k ≡ e = omega (arith, sums) in let s = ap nat_abs same in omega arith

pub product-turn : (e : ℤ) (t : ℕ) (a : Scalar) → BelowFullTurn a → BelowFullTurn (product e t a)
product-turn e t nothing h = h
product-turn e t (root k b) h = omega arith

-- a sum of zero is the same amount under any scalar, and the scalar may turn zero
pub zero-scaled : (a : Scalar) (z : Eighths) → z ≡ none → (scaled_by a z).z ≡ none
zero-scaled nothing z e = refl
zero-scaled (root k b) z e = ap (times (turned eighths b)) e ∙ lawful.mul_zero (turned eighths b)

pub zero_same : (x y : Scaled) → x.z ≡ none → y.z ≡ none → Same x y
zero_same x y p q =
    ap (times (rooted (excess x.k y.k))) p ∙ lawful.mul_zero (rooted (excess x.k y.k))
    ∙ sym (ap (times (rooted (excess y.k x.k))) q ∙ lawful.mul_zero (rooted (excess y.k x.k)))

pub nothing_moved : (n : ℕ) (a : Scalar) → Moved n a nothing
nothing_moved n nothing = refl
nothing_moved n (root k b) = omega arith
