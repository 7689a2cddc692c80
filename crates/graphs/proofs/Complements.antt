-- Local complementation keeps the sum, but for √2·w or √2·w⁷. Assumes nothing.
use Rattle.std.proofs.Common.{◌≡◌, ℕ, ◌+◌, ◌-◌, ◌*◌, ◌%◌, false, ◌&&◌, sym, refl, ap, ◌∙◌, ap₂, mul_assoc, mul_comm, arith}
use native.Mathlib.Nat.{mod-mod}
use Rattle.amounts.specs.Amounts.{Amounts, Lawful}
use Rattle.graphs.specs.Counts.{bit, total, pairs}
use Rattle.graphs.specs.Graphs.{Graph, Bits, turns}
use Rattle.graphs.specs.Rules.{Complemented, ComplementSound}
use Rattle.graphs.proofs.Bitwise.{and_bit, bit_square, beside}
use Rattle.graphs.proofs.Counting.{total-same, total-times, pairs-same, pairs-add, counting}
use Rattle.graphs.proofs.Shifts.{Shifted, turns_shifted}
use Rattle.graphs.proofs.Slots.{other_than, one_out}
use Rattle.graphs.proofs.Turns.{odd_terms, square_le}

module _ (n u : ℕ) (G H : Graph) (rule : Complemented n u G H) (x : Bits) (off : x u ≡ false) where
  -- how many neighbours of u are set
  abbrev k : ℕ
  k = beside n G u x

  shifted : Shifted n G H x (λ s. bit (G.edge u s) * (4 - G.phase u)) (λ s t. G.edge u s && G.edge u t)
  shifted = record {
    phases = λ s l on. ap (λ t. t % 4) (rule.phases s l (other_than x u off s on)) ∙ mod-mod (G.phase s + bit (G.edge u s) * (4 - G.phase u)) 4;
    edges = λ s t l m a b. rule.edges s t (omega arith) m (other_than x u off s a) (other_than x u off t b) (λ e. omega arith);
  }

  gained : total n (λ s. bit (x s) * (bit (G.edge u s) * (4 - G.phase u))) ≡ (4 - G.phase u) * k
  gained =
      total-same n (λ s. bit (x s) * (bit (G.edge u s) * (4 - G.phase u))) (λ s. bit (x s) * bit (G.edge u s) * (4 - G.phase u)) (λ s l. sym (mul_assoc (bit (x s)) (bit (G.edge u s)) (4 - G.phase u)))
      ∙ total-times n (4 - G.phase u) (λ s. bit (x s) * bit (G.edge u s))
      ∙ mul_comm k (4 - G.phase u)

  -- any two of k, twice over
  flipped : 2 * pairs n (λ s t. bit (x s) * bit (x t) * bit (G.edge u s && G.edge u t)) ≡ k * k - k
  flipped =
      let f = λ (s : ℕ). bit (x s) * bit (G.edge u s) in
      let same = pairs-same n (λ s t. bit (x s) * bit (x t) * bit (G.edge u s && G.edge u t)) (λ s t. f s * f t) (λ s t l m. rw (and_bit (G.edge u s) (G.edge u t)) (omega arith)) in
      let both = pairs-add n (λ s t. f s * f t) (λ s t. f s * f t) in
      let self = total-same n (λ s. f s * f s) f (λ s l. let a = bit_square (x s && G.edge u s) in let b = and_bit (x s) (G.edge u s) in rw (← b) a) in
      let l = square_le k in
      omega (arith, counting n f f)

  turns-complemented : turns n H x % 4 ≡ (turns n G x + ((4 - G.phase u) * k + (k * k - k))) % 4
  turns-complemented = turns_shifted n G H x _ _ shifted ∙ ap₂ (λ a b. (turns n G x + (a + b)) % 4) gained flipped

pub complement-sound : (A : Amounts) → Lawful A → ComplementSound A
complement-sound A laws n u G H g good rule blind =
    one_out A laws n u G H g good blind rule.below rule.stood rule.gone _ (λ x. (4 - G.phase u) * beside n G u x + (beside n G u x * beside n G u x - beside n G u x))
    (turns-complemented n u G H rule)
    (λ x off. odd_terms A laws (G.phase u) (beside n G u x) _ rule.odd refl)
