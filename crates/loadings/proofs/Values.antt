-- The amount that a point of a loading and the items to come make together, and how factors go from the items into the scalar. Assumes nothing.
use Rattle.std.proofs.Common.{◌≡◌, ℕ, ◌+◌, ◌%◌, Bool, List, ℤ, pos, negsuc, ◌+ℤ◌, ◌-ℤ◌, sym, refl, ap, ◌∙◌, subst, zero-add, arith}
use borrow.Author.Differences.{up, same_in, same_out}
use Rattle.amounts.specs.Amounts.{power, turned, root_two}
use Rattle.amounts.specs.Eighths.{Eighths, eighths, none, times}
use Rattle.amounts.specs.Scalars.{Scaled, Same, rooted, excess}
use Rattle.amounts.proofs.Eighths.{lawful}
use Rattle.amounts.proofs.Integers.{sums}
use Rattle.amounts.proofs.Powers.{one-mul}
use Rattle.amounts.proofs.Turns.{turned_same}
use Rattle.diagrams.specs.declared.items.Colour.{Colour}
use Rattle.diagrams.specs.declared.items.Kind.{Kind}
use Rattle.diagrams.specs.declared.items.Kind.TheVariants.{Plain, Hadamard}
use Rattle.diagrams.specs.declared.items.Item.{Item}
use Rattle.amplitudes.specs.Items.{cost, root_power, eighth_turns}
use Rattle.models.specs.Models.{Scalar, nothing, root, Model}
use Rattle.models.specs.Edits.{product, scaled}
use Rattle.loadings.specs.Loadings.{Loading, paid}
use Rattle.loadings.proofs.Wholes.{whole, mul_left}

-- a scalar times √2^k·w^t·z
abbrev pub valued : Scalar → ℤ → ℕ → Eighths → Scaled
valued nothing k t z = record { k = pos 0; z = none }
valued (root a m) k t z = record { k = a +ℤ k; z = times (turned eighths (m + t)) z }

-- the amount of a point and the items to come, where cs are the colours of all spiders
abbrev pub value : Loading → List Colour → List Item → List Bool → Scaled
value s cs is row = valued s.model.scalar (root_power cs is) (eighth_turns is) (whole eighths s cs is row)

-- what is equal is the same amount
pub same_equal : {x y : Scaled} → x ≡ y → Same x y
same_equal {x} e = subst (Same x) e refl

pub scaled_equal : (k l : ℤ) (z y : Eighths) → k ≡ l → z ≡ y → ◌≡◌ {A = Scaled} (record { k = k; z = z }) (record { k = l; z = y })
scaled_equal k l z y p q = λ i. record { k = p i; z = q i }

-- a factor goes into the scalar
pub valued_product : (l : ℤ) (u : ℕ) (c : Scalar) (k : ℤ) (t : ℕ) (z : Eighths) → valued c (l +ℤ k) (u + t) z ≡ valued (product l u c) k t z
valued_product l u nothing k t z = refl
valued_product l u (root a m) k t z = scaled_equal _ _ _ _
    (same_in _ _ (omega (arith, sums)))
    (ap (λ w. times w z) (turned_same eighths lawful (m + (u + t)) ((m + u) % 8 + t) (omega arith)))

-- what a wire or a leg costs
pub valued_paid : (kind : Kind) (m : Model) (k : ℤ) (t : ℕ) (z : Eighths) → valued m.scalar (cost kind +ℤ k) t z ≡ valued (paid kind m).scalar k t z
unfolding scaled
valued_paid Plain m k t z = ap (λ l. valued m.scalar l t z) (same_in _ _ (omega (arith, sums)))
valued_paid Hadamard m k t z = ap (λ u. valued m.scalar (negsuc 0 +ℤ k) u z) (sym (zero-add t)) ∙ valued_product (negsuc 0) 0 m.scalar k t z

-- twice as much at two powers of √2 less
abbrev two : Eighths
two = times (root_two eighths) (root_two eighths)

same_halved : (k l : ℤ) (z : Eighths) → l +ℤ pos 2 ≡ k → Same (record { k = k; z = z }) (record { k = l; z = times two z })
unfolding power
same_halved k l z e =
    let more : k -ℤ l ≡ pos 2 = same_in _ _ (omega (arith, sums, same_out _ _ e)) in
    let less : l -ℤ k ≡ negsuc 1 = same_in _ _ (omega (arith, sums, same_out _ _ e)) in
    ap (λ d. times (rooted (up d)) z) more
    ∙ ap (λ r. times (times (root_two eighths) r) z) (lawful.mul_one (root_two eighths))
    ∙ sym (one-mul eighths lawful (times two z))
    ∙ sym (ap (λ d. times (rooted (up d)) (times two z)) less)

pub valued_halved : (c : Scalar) (k : ℤ) (t : ℕ) (z : Eighths) → Same (valued c k t z) (valued (product (negsuc 1) 0 c) k t (times two z))
valued_halved nothing k t z = refl
valued_halved (root a m) k t z =
    let w = turned eighths (m + t) in
    subst (λ y. Same (record { k = a +ℤ k; z = times w z }) y)
    (scaled_equal ((a +ℤ negsuc 1) +ℤ k) ((a +ℤ negsuc 1) +ℤ k) (times two (times w z)) (times (turned eighths ((m + 0) % 8 + t)) (times two z)) refl
    (mul_left eighths lawful two w z ∙ ap (λ v. times v (times two z)) (turned_same eighths lawful (m + t) ((m + 0) % 8 + t) (omega arith))))
    (same_halved (a +ℤ k) ((a +ℤ negsuc 1) +ℤ k) (times w z) (same_in _ _ (omega (arith, sums))))

-- zero is the same amount at any power
pub valued_none : (c : Scalar) (k : ℤ) (t : ℕ) → Same (valued c k t none) (record { k = pos 0; z = none })
valued_none nothing k t = refl
valued_none (root a m) k t =
    ap (times (rooted (excess (a +ℤ k) (pos 0)))) (lawful.mul_zero (turned eighths (m + t)))
    ∙ lawful.mul_zero (rooted (excess (a +ℤ k) (pos 0)))
    ∙ sym (lawful.mul_zero (rooted (excess (pos 0) (a +ℤ k))))
