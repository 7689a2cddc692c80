-- The worked amounts, by one computed test over all of them. Assumes nothing.
use Rattle.std.proofs.Common.{◌≡◌, Bool, true, false, ◌&&◌, T, eqb, List, [], ◌∷◌, ℤ, pos, negsuc, ap, eqb→eq}
use Rattle.std.specs.List.{AllByRecursion}
use Rattle.amounts.specs.Amounts.{power}
use Rattle.amounts.specs.Eighths.{Eighths, none, unit, eighth_turn, plus, times}
use Rattle.amounts.specs.Scalars.{Scaled, rooted, excess}
use Rattle.amounts.proofs.Eighths.{same}
use Rattle.graphs.specs.Graphs.{sum}
use Rattle.amplitudes.specs.Items.{amplitude}
use Rattle.amplitudes.specs.Worked.{Example, Right, amount, examples, WorkedAmounts}

abbrev equal-ℤ : ℤ → ℤ → Bool
equal-ℤ (pos a) (pos b) = eqb a b
equal-ℤ (pos a) (negsuc b) = false
equal-ℤ (negsuc a) (pos b) = false
equal-ℤ (negsuc a) (negsuc b) = eqb a b

from-ℤ : (a b : ℤ) → T (equal-ℤ a b) → a ≡ b
from-ℤ (pos a) (pos b) h = ap pos (eqb→eq a b h)
from-ℤ (pos a) (negsuc b) h = absurd h
from-ℤ (negsuc a) (pos b) h = absurd h
from-ℤ (negsuc a) (negsuc b) h = ap negsuc (eqb→eq a b h)

both : (a b : Bool) → T (a && b) → T a × T b
both true b h = (tt, h)
both false b h = absurd h

abbrev equal : Eighths → Eighths → Bool
equal a b = equal-ℤ a.c0 b.c0 && (equal-ℤ a.c1 b.c1 && (equal-ℤ a.c2 b.c2 && equal-ℤ a.c3 b.c3))

from_equal : (a b : Eighths) → T (equal a b) → a ≡ b
from_equal a b h =
    let p = both (equal-ℤ a.c0 b.c0) _ h in
    let q = both (equal-ℤ a.c1 b.c1) _ p.1 in
    let r = both (equal-ℤ a.c2 b.c2) _ q.1 in
    same a b (from-ℤ _ _ p.0, from-ℤ _ _ q.0, from-ℤ _ _ r.0, from-ℤ _ _ r.1)

abbrev same-amount : Scaled → Scaled → Bool
same-amount x y = equal (times (rooted (excess x.k y.k)) x.z) (times (rooted (excess y.k x.k)) y.z)

abbrev all_right : List Example → Bool
all_right [] = true
all_right (e ∷ es) = same-amount (amplitude e.items e.row) (amount e.answer) && all_right es

from_all : (es : List Example) → T (all_right es) → AllByRecursion Right es
from_all [] h = tt
from_all (e ∷ es) h = let p = both (same-amount (amplitude e.items e.row) (amount e.answer)) (all_right es) h in (from_equal _ _ p.0, from_all es p.1)

pub worked_amounts : WorkedAmounts
unfolding power none unit eighth_turn plus times sum
worked_amounts = from_all examples tt
