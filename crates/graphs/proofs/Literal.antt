-- The term of a graph as a product and as a power of i are equal. Assumes nothing.
use Rattle.std.proofs.Common.{◌≡◌, ℕ, zero, suc, ◌+◌, ◌*◌, Bool, true, false, cond, ◌&&◌, sym, refl, ap, ◌∙◌, ap₂, arith}
use mathlib.Core.Path.{fun_ext}
use Rattle.amounts.specs.Amounts.{Amounts, Lawful, power, turned, quarter}
use Rattle.graphs.specs.Counts.{bit, total, pairs}
use Rattle.graphs.specs.Graphs.{turns, quarters}
use Rattle.graphs.specs.Literal.{product, pair_product, TurnsAreLiteral}
use Rattle.amounts.proofs.Turns.{turned-add, turned_none}
use Rattle.graphs.proofs.Turns.{quarters-add}

module _ (A : Amounts) (laws : Lawful A) where
  -- i^p
  pub quarter-power : (p : ℕ) → power A (quarter A) p ≡ quarters A p
  unfolding power
  quarter-power zero = sym (turned_none A laws)
  quarter-power (suc p) = let e : 2 + 2 * p ≡ 2 * suc p = omega arith in ap (A.mul (quarter A)) (quarter-power p) ∙ sym (turned-add A laws 2 (2 * p)) ∙ ap (turned A) e

  none : (k : ℕ) → k ≡ 0 → A.one ≡ quarters A k
  none k e = sym (turned_none A laws) ∙ ap (quarters A) (sym e)

  -- a factor that is there or not
  pub if_set : (b : Bool) (p : ℕ) → cond b (quarters A p) A.one ≡ quarters A (bit b * p)
  if_set true p = ap (quarters A) (omega arith)
  if_set false p = none (0 * p) (omega arith)

  product-quarters : (n : ℕ) (f : ℕ → ℕ) → product A n (λ s. quarters A (f s)) ≡ quarters A (total n f)
  unfolding product total
  product-quarters zero f = sym (turned_none A laws)
  product-quarters (suc n) f = ap (λ t. A.mul t (quarters A (f n))) (product-quarters n f) ∙ sym (quarters-add A laws (total n f) (f n))

  pair_product-quarters : (n : ℕ) (h : ℕ → ℕ → ℕ) → pair_product A n (λ s t. quarters A (2 * h s t)) ≡ quarters A (2 * pairs n h)
  unfolding pair_product pairs total
  pair_product-quarters zero h = sym (turned_none A laws)
  pair_product-quarters (suc n) h =
      let e : 2 * pairs n h + total n (λ s. 2 * h s n) ≡ 2 * (pairs n h + total n (λ s. h s n)) = let d = total-double n (λ s. h s n) in omega arith in
      ap₂ A.mul (pair_product-quarters n h) (product-quarters n (λ s. 2 * h s n)) ∙ sym (quarters-add A laws (2 * pairs n h) (total n (λ s. 2 * h s n))) ∙ ap (quarters A) e
    where
      total-double : (n : ℕ) (f : ℕ → ℕ) → total n (λ s. 2 * f s) ≡ 2 * total n f
      total-double zero f = refl
      total-double (suc n) f = let more = total-double n f in omega arith

  pub turns_are_literal : TurnsAreLiteral A
  unfolding turns
  turns_are_literal n G x =
      ap₂ A.mul
      (ap (product A n) (fun_ext (λ s. ap (λ t. cond (x s) t A.one) (quarter-power (G.phase s)) ∙ if_set (x s) (G.phase s))) ∙ product-quarters n (λ s. bit (x s) * G.phase s))
      (ap (pair_product A n) (fun_ext (λ s. fun_ext (λ t. edge (x s) (x t) (G.edge s t)))) ∙ pair_product-quarters n (λ s t. bit (x s) * bit (x t) * bit (G.edge s t)))
      ∙ sym (quarters-add A laws (total n (λ s. bit (x s) * G.phase s)) (2 * pairs n (λ s t. bit (x s) * bit (x t) * bit (G.edge s t))))
    where
      edge : (a b c : Bool) → cond (a && b && c) (turned A 4) A.one ≡ quarters A (2 * (bit a * bit b * bit c))
      edge true true true = refl
      edge true true false = sym (turned_none A laws)
      edge true false c = none (2 * (1 * 0 * bit c)) (omega arith)
      edge false true c = none (2 * (0 * 1 * bit c)) (omega arith)
      edge false false c = none (2 * (0 * 0 * bit c)) (omega arith)
