-- Conjugation keeps the operations of exact amounts. Assumes nothing.
use mathlib.Core.Path.{◌≡◌, refl, sym, ap, ap₂, ◌∙◌}
use Prim.Native.Nat.{ℕ, zero, suc, ◌+◌, ◌*◌, ◌-◌, ◌%◌}
use native.Mathlib.Omega.{arith}
use Rattle.amounts.specs.Amounts.{power, turned, root_two}
use Rattle.amounts.specs.Eighths.{Eighths, none, unit, eighth_turn, plus, times, eighths}
use Rattle.amounts.specs.Scalars.{rooted, Scaled, excess}
use Rattle.amounts.proofs.Integers.{sums, expanded}
use Rattle.amounts.proofs.Eighths.{same, lawful}
use Rattle.amounts.proofs.Powers.{powers_cancel}
use Rattle.amounts.proofs.Turns.{turned-add, turned_same}
use Rattle.layerings.specs.Conjugates.{conj, Conjugation, ConjugateScalar, ConjugateNone, conjugate, ConjugateSame}

pub conj-plus : (a b : Eighths) → conj (plus a b) ≡ plus (conj a) (conj b)
unfolding conj plus
conj-plus a b = same _ _ (omega (arith, sums))

pub conj-times : (a b : Eighths) → conj (times a b) ≡ times (conj a) (conj b)
unfolding conj times
conj-times a b = same _ _ (simp expanded (omega (arith, sums)))

pub conj-none : conj none ≡ none
unfolding conj none
conj-none = refl

pub conj-unit : conj unit ≡ unit
unfolding conj unit
conj-unit = refl

pub conj-twice : (a : Eighths) → conj (conj a) ≡ a
unfolding conj
conj-twice a = same _ _ (omega (arith, sums))

conj-eighth_turn : conj eighth_turn ≡ turned eighths 7
unfolding conj power times unit eighth_turn
conj-eighth_turn = refl

conj-root : conj (root_two eighths) ≡ root_two eighths
unfolding conj power plus times unit eighth_turn
conj-root = refl

conj-power : (x : Eighths) (n : ℕ) → conj (power eighths x n) ≡ power eighths (conj x) n
unfolding power
conj-power x zero = conj-unit
conj-power x (suc n) = conj-times x (power eighths x n) ∙ ap (times (conj x)) (conj-power x n)

pub conj-turned : (n : ℕ) → conj (turned eighths n) ≡ turned eighths (8 * n - n)
unfolding power
conj-turned zero = conj-unit
conj-turned (suc n) =
    let far : 7 + (8 * n - n) ≡ 8 * suc n - suc n = omega arith in
    conj-times eighth_turn (turned eighths n)
    ∙ ap₂ times conj-eighth_turn (conj-turned n)
    ∙ sym (turned-add eighths lawful 7 (8 * n - n))
    ∙ ap (turned eighths) far

-- turning n back is turning by any m with which n makes whole turns
pub conj-turned_by : (m n : ℕ) → (m + n) % 8 ≡ 0 → conj (turned eighths n) ≡ turned eighths m
conj-turned_by m n e = conj-turned n ∙ turned_same eighths lawful (8 * n - n) m (omega arith)

-- w·w⁷ = 1, and so for every power
once_and_back : times eighth_turn (conj eighth_turn) ≡ unit
unfolding conj times unit eighth_turn
once_and_back = refl

turned_and_back : (n : ℕ) → times (turned eighths n) (conj (turned eighths n)) ≡ unit
turned_and_back n = ap (times (turned eighths n)) (conj-power eighth_turn n) ∙ powers_cancel eighths lawful eighth_turn (conj eighth_turn) once_and_back n

pub conjugation : Conjugation
conjugation = record {
  of_sum = conj-plus;
  of_product = conj-times;
  of_none = conj-none;
  of_unit = conj-unit;
  of_root = conj-root;
  of_turns = conj-turned;
  of_powers = conj-power eighth_turn;
  turns_back = turned_and_back;
  twice = conj-twice;
}

conj-rooted : (a : ℕ) (z : Eighths) → conj (times (rooted a) z) ≡ times (rooted a) (conj z)
conj-rooted a z = conj-times (rooted a) z ∙ ap (λ r. times r (conj z)) (conj-power (root_two eighths) a ∙ ap (λ r. power eighths r a) conj-root)

pub conjugate-scalar : ConjugateScalar
conjugate-scalar a m h = conj-rooted a (turned eighths m) ∙ ap (times (rooted a)) (conj-turned_by ((8 - m) % 8) m (omega arith))

-- two conjugates are equal just where the numbers are
conj_equal : (a b : Eighths) → conj a ≡ conj b → a ≡ b
conj_equal a b e = sym (conj-twice a) ∙ ap conj e ∙ conj-twice b

pub conjugate-none : ConjugateNone
conjugate-none z = (λ e. conj_equal z none (e ∙ sym conj-none), λ e. ap conj e ∙ conj-none)

pub conjugate-same : ConjugateSame
conjugate-same x y =
    let here : conj (times (rooted (excess x.k y.k)) x.z) ≡ times (rooted (excess x.k y.k)) (conj x.z) = conj-rooted (excess x.k y.k) x.z in
    let there : conj (times (rooted (excess y.k x.k)) y.z) ≡ times (rooted (excess y.k x.k)) (conj y.z) = conj-rooted (excess y.k x.k) y.z in
    (λ e. sym here ∙ ap conj e ∙ there, λ e. conj_equal _ _ (here ∙ e ∙ sym there))

pub conjugate-twice : (x : Scaled) → conjugate (conjugate x) ≡ x
conjugate-twice x = ap (λ z. record { k = x.k; z = z }) (conj-twice x.z)
