-- The product of integers is associative and distributes over the sum. Assumes nothing.
use mathlib.Core.Path.{◌≡◌, ap, ◌∙◌}
use Prim.Native.Nat.{◌+◌, ◌*◌}
use native.Mathlib.Nat as Nat
use native.Mathlib.Omega.{arith}
use lib.IntN.{ℤ, pos, negsuc, ◌+ℤ◌, ◌*ℤ◌, neg_ℤ, *ℤ_comm}
use borrow.Author.Differences.{up, down, same_in, sum_is_lem, neg_is, product_is}

up_product : (a b : ℤ) → up (a *ℤ b) ≡ up a * up b + down a * down b
up_product a b = (product_is a b).0

down_product : (a b : ℤ) → down (a *ℤ b) ≡ up a * down b + down a * up b
down_product a b = (product_is a b).1

up_negative : (a : ℤ) → up (neg_ℤ a) ≡ down a
up_negative a = (neg_is a).0

down_negative : (a : ℤ) → down (neg_ℤ a) ≡ up a
down_negative a = (neg_is a).1

pub product_assoc : (a b c : ℤ) → (a *ℤ b) *ℤ c ≡ a *ℤ (b *ℤ c)
product_assoc a b c = same_in _ _ (simp (up_product, down_product, Nat.mul-add, Nat.add-mul, Nat.mul_assoc) (omega arith))

pub product-sum : (a b c : ℤ) → a *ℤ (b +ℤ c) ≡ a *ℤ b +ℤ a *ℤ c
product-sum a b c =
    let more = simp Nat.mul-add at (ap (λ n. up a * n) (sum_is_lem b c)) in
    let less = simp Nat.mul-add at (ap (λ n. down a * n) (sum_is_lem b c)) in
    same_in _ _ (simp (up_product, down_product) (omega (arith, sum_is_lem (a *ℤ b) (a *ℤ c), product_is a b, product_is a c)))

pub sum-product : (a b c : ℤ) → (a +ℤ b) *ℤ c ≡ a *ℤ c +ℤ b *ℤ c
sum-product a b c = *ℤ_comm (a +ℤ b) c ∙ product-sum c a b ∙ simp (*ℤ_comm c a, *ℤ_comm c b)

pub product_negative : (a b : ℤ) → a *ℤ neg_ℤ b ≡ neg_ℤ (a *ℤ b)
product_negative a b = same_in _ _ (simp (up_product, down_product, up_negative, down_negative))

pub negative_product : (a b : ℤ) → neg_ℤ a *ℤ b ≡ neg_ℤ (a *ℤ b)
negative_product a b = *ℤ_comm (neg_ℤ a) b ∙ product_negative b a ∙ ap neg_ℤ (*ℤ_comm b a)

pub one_product : (a : ℤ) → pos 1 *ℤ a ≡ a
one_product a = same_in _ _ (simp (up_product, down_product) (omega arith))

pub minus_one-product : (a : ℤ) → negsuc 0 *ℤ a ≡ neg_ℤ a
minus_one-product a = same_in _ _ (simp (up_product, down_product, up_negative, down_negative) (omega arith))

-- sums and negatives as `omega` reads them, with products for unknowns
pub ruleset sums = (same_in, sum_is_lem, neg_is)

-- products of sums, multiplied out
pub ruleset expanded = (product-sum, sum-product, product_negative, negative_product, product_assoc)
