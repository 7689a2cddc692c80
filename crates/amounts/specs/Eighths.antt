-- The numbers c0 + c1·w + c2·w² + c3·w³ with integer coefficients, where w is the eighth turn, w⁴ = -1. Assumes nothing.
use Rattle.std.specs.Prelude.{List, [], ◌∷◌, ℤ, pos, ◌+ℤ◌, ◌-ℤ◌, ◌*ℤ◌}
use Rattle.amounts.specs.Amounts.{Amounts}

pub record Eighths : Type 0 where
  pub c0 : ℤ
  pub c1 : ℤ
  pub c2 : ℤ
  pub c3 : ℤ

-- the amounts 0, 1 and w
unfoldable pub none : Eighths
none = record { c0 = pos 0; c1 = pos 0; c2 = pos 0; c3 = pos 0 }

unfoldable pub unit : Eighths
unit = record { c0 = pos 1; c1 = pos 0; c2 = pos 0; c3 = pos 0 }

unfoldable pub eighth_turn : Eighths
eighth_turn = record { c0 = pos 0; c1 = pos 1; c2 = pos 0; c3 = pos 0 }

unfoldable pub plus : Eighths → Eighths → Eighths
plus a b = record {
  c0 = a.c0 +ℤ b.c0;
  c1 = a.c1 +ℤ b.c1;
  c2 = a.c2 +ℤ b.c2;
  c3 = a.c3 +ℤ b.c3;
}

-- w⁴ = -1, so the coefficients that meet at w⁴, w⁵ and w⁶ count negatively at 1, w and w²
unfoldable pub times : Eighths → Eighths → Eighths
times a b = record {
  c0 = a.c0 *ℤ b.c0 -ℤ a.c1 *ℤ b.c3 -ℤ a.c2 *ℤ b.c2 -ℤ a.c3 *ℤ b.c1;
  c1 = a.c0 *ℤ b.c1 +ℤ a.c1 *ℤ b.c0 -ℤ a.c2 *ℤ b.c3 -ℤ a.c3 *ℤ b.c2;
  c2 = a.c0 *ℤ b.c2 +ℤ a.c1 *ℤ b.c1 +ℤ a.c2 *ℤ b.c0 -ℤ a.c3 *ℤ b.c3;
  c3 = a.c0 *ℤ b.c3 +ℤ a.c1 *ℤ b.c2 +ℤ a.c2 *ℤ b.c1 +ℤ a.c3 *ℤ b.c0;
}

-- the system
abbrev pub eighths : Amounts
eighths = record { Amount = Eighths; zero = none; one = unit; w = eighth_turn; add = plus; mul = times }

-- a number from its coefficients, and back
abbrev pub number : ℤ → ℤ → ℤ → ℤ → Eighths
number a b c d = record { c0 = a; c1 = b; c2 = c; c3 = d }

abbrev pub coefficients : Eighths → List ℤ
coefficients a = a.c0 ∷ a.c1 ∷ a.c2 ∷ a.c3 ∷ []
