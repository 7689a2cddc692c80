-- The numbers with an eighth turn are a lawful system of amounts. Assumes nothing.
use mathlib.Core.Path.{◌≡◌, refl, sym, ap, ◌∙◌}
use native.Mathlib.Omega.{arith}
use lib.IntN.{ℤ, ◌*ℤ◌, neg_ℤ, *ℤ_comm, *ℤ-zero, *ℤ-one, one}
use Rattle.amounts.specs.Amounts.{power, Lawful}
use Rattle.amounts.specs.Eighths.{Eighths, none, unit, eighth_turn, plus, times, eighths}
use Rattle.amounts.proofs.Integers.{sums, expanded}

-- numbers with the same coefficients are equal
pub same : (a b : Eighths) → (a.c0 ≡ b.c0) × (a.c1 ≡ b.c1) × (a.c2 ≡ b.c2) × (a.c3 ≡ b.c3) → a ≡ b
same a b h = λ i. record { c0 = h.0 i; c1 = h.1 i; c2 = h.2 i; c3 = h.3 i }

-- times w, and times an integer
turn : Eighths → Eighths
turn a = record { c0 = neg_ℤ a.c3; c1 = a.c0; c2 = a.c1; c3 = a.c2 }

scale : ℤ → Eighths → Eighths
scale s a = record { c0 = s *ℤ a.c0; c1 = s *ℤ a.c1; c2 = s *ℤ a.c2; c3 = s *ℤ a.c3 }

times_comm : (a b : Eighths) → times a b ≡ times b a
unfolding times
times_comm a b = same _ _ (simp (*ℤ_comm b.c0, *ℤ_comm b.c1, *ℤ_comm b.c2, *ℤ_comm b.c3) (omega (arith, sums)))

-- the product is linear in its first factor
plus_times : (a b c : Eighths) → times (plus a b) c ≡ plus (times a c) (times b c)
unfolding plus times
plus_times a b c = same _ _ (simp expanded (omega (arith, sums)))

turn-times : (a b : Eighths) → times (turn a) b ≡ turn (times a b)
unfolding turn times
turn-times a b = same _ _ (simp expanded (omega (arith, sums)))

scale_times : (s : ℤ) (a b : Eighths) → times (scale s a) b ≡ scale s (times a b)
unfolding scale times
scale_times s a b = same _ _ (simp expanded (omega (arith, sums)))

-- a product is the sum of its second factor's turns, each times a coefficient of the first
by_turns : (a b : Eighths) → times a b ≡ plus (scale a.c0 b) (turn (plus (scale a.c1 b) (turn (plus (scale a.c2 b) (turn (scale a.c3 b))))))
unfolding plus times turn scale
by_turns a b = same _ _ (omega (arith, sums))

times_assoc : (a b c : Eighths) → times (times a b) c ≡ times a (times b c)
times_assoc a b c = ap (λ x. times x c) (by_turns a b) ∙ simp (plus_times, turn-times, scale_times) (sym (by_turns a (times b c)))

times-unit : (a : Eighths) → times a unit ≡ a
unfolding times one unit
times-unit a = same _ _ (simp (*ℤ-zero, *ℤ-one) (omega (arith, sums)))

times_none : (a : Eighths) → times a none ≡ none
unfolding times none
times_none a = same _ _ (simp *ℤ-zero (refl, refl, refl, refl))

times-plus : (a b c : Eighths) → times a (plus b c) ≡ plus (times a b) (times a c)
times-plus a b c = times_comm a (plus b c) ∙ plus_times b c a ∙ simp (times_comm b a, times_comm c a)

half_turned : plus (power eighths eighth_turn 4) unit ≡ none
unfolding plus times power none unit eighth_turn
half_turned = refl

pub lawful : Lawful eighths
unfolding plus none
lawful = record {
  add_comm = λ a b. same _ _ (omega (arith, sums));
  add_assoc = λ a b c. same _ _ (omega (arith, sums));
  add_zero = λ a. same _ _ (omega (arith, sums));
  mul_comm = times_comm;
  mul_assoc = times_assoc;
  mul_one = times-unit;
  mul_zero = times_none;
  mul_add = times-plus;
  half_turn = half_turned;
}
