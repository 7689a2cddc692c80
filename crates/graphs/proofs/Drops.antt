-- Removal of an isolated spider keeps the sum, but for √2², or makes it zero. Assumes nothing.
use Rattle.std.proofs.Common.{◌≡◌, ℕ, ◌+◌, ◌*◌, ◌%◌, Bool, true, false, ◌⊎◌, sym, refl, ap, ◌∙◌, subst, ⊎_elim, arith}
use Rattle.amounts.specs.Amounts.{Amounts, Lawful, turned, root_two}
use Rattle.graphs.specs.Counts.{bit, total, pairs}
use Rattle.graphs.specs.Graphs.{Graph, Bits, turns, quarters}
use Rattle.graphs.specs.Rules.{xor, Dropped, DropSound, drop_pays}
use Rattle.graphs.proofs.Bitwise.{beside}
use Rattle.graphs.proofs.Counting.{total-nothing, pairs-nothing}
use Rattle.graphs.proofs.Shifts.{turns_shifted}
use Rattle.graphs.proofs.Slots.{other_than, one_out}
use Rattle.amounts.proofs.Turns.{turned_none}
use Rattle.graphs.proofs.Turns.{one_and_one}

module _ (n u : ℕ) (G H : Graph) (rule : Dropped n u G H) (x : Bits) (off : x u ≡ false) where
  beside_none : beside n G u x ≡ 0
  beside_none = total-nothing n _ (λ s l. let z = ap bit (rule.alone s l) in rw z (omega arith))

  turns-dropped : turns n H x % 4 ≡ turns n G x % 4
  turns-dropped =
      turns_shifted n G H x (λ s. 0) (λ s t. false) (record {
        phases = λ s l on. ap (λ t. t % 4) (rule.phases s l (other_than x u off s on) ∙ omega arith);
        edges = λ s t l m a b. rule.edges s t (omega arith) m (other_than x u off s a) (other_than x u off t b) (λ e. omega arith) ∙ xor_false (G.edge s t);
      })
      ∙ ap (λ t. t % 4) none
    where
      xor_false : (e : Bool) → e ≡ xor e false
      xor_false true = refl
      xor_false false = refl

      none : turns n G x + (total n (λ s. bit (x s) * 0) + 2 * pairs n (λ s t. bit (x s) * bit (x t) * bit false)) ≡ turns n G x
      none = let a = total-nothing n (λ s. bit (x s) * 0) (λ s l. omega arith) in let b = pairs-nothing n (λ s t. bit (x s) * bit (x t) * bit false) (λ s t l m. omega arith) in omega arith

module _ (A : Amounts) (laws : Lawful A) where
  -- 1 + 1, or 1 - 1
  even_terms : (p : ℕ) → (p ≡ 0) ⊎ (p ≡ 2) → A.add A.one (quarters A (p + 2 * 0)) ≡ A.mul (drop_pays A p) (quarters A 0)
  even_terms p even = ⊎_elim
      (λ e. subst (λ r. A.add A.one (quarters A (r + 2 * 0)) ≡ A.mul (drop_pays A r) (quarters A 0)) (sym e)
      (ap (A.add A.one) (turned_none A laws) ∙ sym (one_and_one A laws) ∙ sym (ap (A.mul (A.mul (root_two A) (root_two A))) (turned_none A laws) ∙ laws.mul_one (A.mul (root_two A) (root_two A)))))
      (λ e. subst (λ r. A.add A.one (quarters A (r + 2 * 0)) ≡ A.mul (drop_pays A r) (quarters A 0)) (sym e)
      (laws.add_comm A.one (turned A 4) ∙ laws.half_turn ∙ sym (laws.mul_comm A.zero (quarters A 0) ∙ laws.mul_zero (quarters A 0))))
      even

  pub drop_sound : DropSound A
  drop_sound n u G H g good rule blind =
      one_out A laws n u G H g good blind rule.below rule.stood rule.gone _ (λ x. 0)
      (λ x off. let same : turns n G x ≡ turns n G x + 0 = omega arith in turns-dropped n u G H rule x off ∙ ap (λ t. t % 4) same)
      (λ x off. ap (λ k. A.add A.one (quarters A (G.phase u + 2 * k))) (beside_none n u G H rule x off) ∙ even_terms (G.phase u) rule.even)
