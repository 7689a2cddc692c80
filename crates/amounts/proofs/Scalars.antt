-- The scalars √2^a·w^m are told apart and are not zero, and to be the same amount is an equivalence. Assumes nothing.
use mathlib.Core.Path.{◌≡◌, refl, sym, ap, ap₂, ◌∙◌}
use Prim.Native.Nat.{ℕ, zero, suc, ◌+◌, ◌-◌, ◌*◌, ◌%◌, ◌<◌}
use native.Mathlib.Nat.{add_comm, mod-mod}
use native.Mathlib.Omega.{arith}
use lib.IntN.{ℤ, pos, negsuc, ◌+ℤ◌, ◌-ℤ◌, zero-*ℤ}
use borrow.Author.Differences.{up, down, same_out}
use Rattle.amounts.specs.Amounts.{power, turned, root_two}
use Rattle.amounts.specs.Eighths.{Eighths, none, unit, eighth_turn, plus, times, eighths}
use Rattle.amounts.specs.Scalars.{rooted, scalar, RootTwoIs, QuarterIs, RootCancels, ScalarTold, ScalarNotZero, Scaled, excess, Same, SameEquivalence, SameAtOnePower}
use Rattle.amounts.proofs.Integers.{one_product, minus_one-product, sums}
use Rattle.amounts.proofs.Eighths.{same, lawful}
use Rattle.amounts.proofs.Powers.{one-mul, power-add, powers_cancel}
use Rattle.amounts.proofs.Turns.{turned_same, whole-turn}

pub root_two_is : RootTwoIs
unfolding power plus times unit eighth_turn
root_two_is = refl

pub quarter_is : QuarterIs
unfolding power times unit eighth_turn
quarter_is = refl

-- √2·z by coefficients
pub root-times : (z : Eighths) → times (root_two eighths) z ≡ record { c0 = z.c1 -ℤ z.c3; c1 = z.c0 +ℤ z.c2; c2 = z.c1 +ℤ z.c3; c3 = z.c2 -ℤ z.c0 }
unfolding times
root-times z = ap (λ r. times r z) root_two_is ∙ same _ _ (simp (zero-*ℤ, one_product, minus_one-product) (omega (arith, sums)))

pub root_cancels : RootCancels
root_cancels z y e =
    let f = sym (root-times z) ∙ e ∙ root-times y in
    same _ _ (omega (arith, sums, same_out _ _ (ap (λ r. r.c0) f), same_out _ _ (ap (λ r. r.c1) f), same_out _ _ (ap (λ r. r.c2) f), same_out _ _ (ap (λ r. r.c3) f)))

-- √2 divides no unit: twice a coefficient is not 1
root_no_unit : (y : Eighths) → ¬ (times (root_two eighths) y ≡ unit)
unfolding unit
root_no_unit y e =
    let f = sym (root-times y) ∙ e in
    omega (arith, sums, same_out _ _ (ap (λ r. r.c0) f), same_out _ _ (ap (λ r. r.c2) f))

pub rooted_cancels : (a : ℕ) (z y : Eighths) → times (rooted a) z ≡ times (rooted a) y → z ≡ y
unfolding power
rooted_cancels zero z y e = sym (one-mul eighths lawful z) ∙ e ∙ one-mul eighths lawful y
rooted_cancels (suc a) z y e =
    let r = root_two eighths in
    rooted_cancels a z y (root_cancels _ _ (sym (lawful.mul_assoc r (rooted a) z) ∙ e ∙ lawful.mul_assoc r (rooted a) y))

-- w⁷ turns back
turns_back : (m : ℕ) → times (turned eighths m) (power eighths (turned eighths 7) m) ≡ unit
unfolding power
turns_back = powers_cancel eighths lawful eighths.w (turned eighths 7) (whole-turn eighths lawful)

pub scalar_not_zero : ScalarNotZero
unfolding unit none
scalar_not_zero a m e =
    let b = power eighths (turned eighths 7) m in
    let f = rooted_cancels a (turned eighths m) none (e ∙ sym (lawful.mul_zero (rooted a))) in
    let g : unit ≡ none = sym (turns_back m) ∙ ap (λ t. times t b) f ∙ lawful.mul_comm none b ∙ lawful.mul_zero b in
    omega (arith, ap (λ t. up t.c0) g)

-- √2^d·√2·w^n is no w^m
root_no_turn : (d m n : ℕ) → ¬ (scalar 0 m ≡ scalar (suc d) n)
unfolding power
root_no_turn d m n e =
    let r = root_two eighths in
    let t = times (rooted d) (turned eighths n) in
    let b = power eighths (turned eighths 7) m in
    let f = sym (one-mul eighths lawful (turned eighths m)) ∙ e ∙ lawful.mul_assoc r (rooted d) (turned eighths n) in
    root_no_unit (times t b) (sym (lawful.mul_assoc r t b) ∙ ap (λ x. times x b) (sym f) ∙ turns_back m)

same_roots : (a b m n : ℕ) → scalar a m ≡ scalar b n → a ≡ b
unfolding power
same_roots zero zero m n e = refl
same_roots zero (suc b) m n e = absurd (root_no_turn b m n e)
same_roots (suc a) zero m n e = absurd (root_no_turn a n m (sym e))
same_roots (suc a) (suc b) m n e =
    let r = root_two eighths in
    let f = sym (lawful.mul_assoc r (rooted a) (turned eighths m)) ∙ e ∙ lawful.mul_assoc r (rooted b) (turned eighths n) in
    ap suc (same_roots a b m n (root_cancels _ _ f))

-- below a full turn, the coefficients of w^m tell m
place : Eighths → ℕ
place z = up z.c1 + 2 * up z.c2 + 3 * up z.c3 + 4 * down z.c0 + 5 * down z.c1 + 6 * down z.c2 + 7 * down z.c3

place-turned : (m : ℕ) → m < 8 → place (turned eighths m) ≡ m
unfolding place power times unit eighth_turn
place-turned zero h = refl
place-turned (suc zero) h = refl
place-turned (suc (suc zero)) h = refl
place-turned (suc (suc (suc zero))) h = refl
place-turned (suc (suc (suc (suc zero)))) h = refl
place-turned (suc (suc (suc (suc (suc zero))))) h = refl
place-turned (suc (suc (suc (suc (suc (suc zero)))))) h = refl
place-turned (suc (suc (suc (suc (suc (suc (suc zero))))))) h = refl
place-turned (suc (suc (suc (suc (suc (suc (suc (suc m)))))))) h = absurd (omega arith)

pub scalar_told : ScalarTold
scalar_told a b m n h k e =
    let f = same_roots a b m n e in
    let g = rooted_cancels a (turned eighths m) (turned eighths n) (e ∙ ap (λ c. scalar c n) (sym f)) in
    (f, sym (place-turned m h) ∙ ap place g ∙ place-turned n k)

-- whole turns change nothing
pub turned_rest : (m : ℕ) → turned eighths m ≡ turned eighths (m % 8)
turned_rest m = turned_same eighths lawful m (m % 8) (sym (mod-mod m 8))

scalar_rest : (a m : ℕ) → scalar a m ≡ scalar a (m % 8)
scalar_rest a m = ap (times (rooted a)) (turned_rest m)

-- scalars are equal just where they have as many roots, and turns that differ by whole ones
pub scalar-same : (a m b n : ℕ) → a ≡ b → m % 8 ≡ n % 8 → scalar a m ≡ scalar b n
scalar-same a m b n e f = scalar_rest a m ∙ ap₂ scalar e f ∙ sym (scalar_rest b n)

pub scalar_rest_told : (a m b n : ℕ) → scalar a m ≡ scalar b n → (a ≡ b) × (m % 8 ≡ n % 8)
scalar_rest_told a m b n e = scalar_told a b (m % 8) (n % 8) (omega arith) (omega arith) (sym (scalar_rest a m) ∙ e ∙ scalar_rest b n)

up_alone : (z : ℤ) → up z ≡ up z - down z
up_alone (pos n) = omega arith
up_alone (negsuc n) = omega arith

excess_is : (k l : ℤ) → excess k l ≡ (up k + down l) - (up l + down k)
excess_is k l = omega (arith, sums, up_alone (k -ℤ l))

-- by way of l, the way from k to m and the way back are longer by one number g
detour : (k l m : ℤ) → (g : ℕ) × (excess l m + excess k l ≡ g + excess k m) × (excess l k + excess m l ≡ g + excess m k)
detour k l m = (
  excess l m + excess k l - excess k m,
  omega (arith, excess_is k l, excess_is l m, excess_is k m),
  omega (arith, excess_is k l, excess_is l m, excess_is k m, excess_is l k, excess_is m l, excess_is m k),
)

rooted-twice : (a b : ℕ) (z : Eighths) → times (rooted a) (times (rooted b) z) ≡ times (rooted (a + b)) z
rooted-twice a b z = sym (lawful.mul_assoc (rooted a) (rooted b) z) ∙ ap (λ r. times r z) (sym (power-add eighths lawful (root_two eighths) a b))

-- from x to t by way of y, with √2^g too much in front, which cancels
same-through : (x y t : Scaled) → Same x y → Same y t → Same x t
same-through x y t p q =
    let (g, e, f) = detour x.k y.k t.k in
    let a = excess y.k t.k in
    let b = excess y.k x.k in
    let front : ℕ → Eighths → Eighths = λ n v. times (rooted n) v in
    rooted_cancels g _ _ (
    rooted-twice g _ x.z ∙ ap (λ n. front n x.z) (sym e) ∙ sym (rooted-twice a _ x.z)
    ∙ ap (front a) p ∙ rooted-twice a b y.z ∙ ap (λ n. front n y.z) (add_comm a b) ∙ sym (rooted-twice b a y.z)
    ∙ ap (front b) q ∙ rooted-twice b _ t.z ∙ ap (λ n. front n t.z) f ∙ sym (rooted-twice g _ t.z))

pub same_equivalence : SameEquivalence
same_equivalence = record { reflexive = λ x. refl; symmetric = λ x y p. sym p; transitive = same-through }

pub same_at_one-power : SameAtOnePower
same_at_one-power k z y = (rooted_cancels (excess k k) z y, ap (times (rooted (excess k k))))
