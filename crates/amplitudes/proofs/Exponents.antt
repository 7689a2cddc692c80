-- Literal products and powers of i are equal, term by term. Assumes nothing.
use Rattle.std.proofs.Common.{◌≡◌, ℕ, ◌+◌, Bool, true, false, cond, ◌&&◌, [], ◌∷◌, sym, refl, ap, ◌∙◌, ap₂}
use Rattle.amounts.specs.Amounts.{Amounts, Lawful}
use Rattle.graphs.specs.Graphs.{quarters}
use Rattle.graphs.proofs.Literal.{quarter-power, if_set}
use Rattle.amounts.proofs.Turns.{turned_none}
use Rattle.graphs.proofs.Turns.{quarters-add}
use Rattle.diagrams.specs.declared.items.Kind.{Kind}
use Rattle.diagrams.specs.declared.items.Kind.TheVariants.{Plain, Hadamard}
use Rattle.diagrams.specs.declared.items.Item.TheVariants.{Spider, Wire, Leg, Factor, Zero}
use Rattle.amplitudes.specs.Items.{wire_kind, leg_kind, leg_bit, row_after, joint}
use Rattle.amplitudes.specs.Exponents.{joint_turns, allows, allowed, TermsArePowers}

module _ (A : Amounts) (laws : Lawful A) where
  abbrev weighed : Bool → ℕ → A.Amount
  weighed b n = cond b (quarters A n) A.zero

  joint_is : (k : Kind) (a b : Bool) → joint A k a b ≡ weighed (allows k a b) (joint_turns k a b)
  joint_is Hadamard true true = refl
  joint_is Hadamard true false = sym (turned_none A laws)
  joint_is Hadamard false b = sym (turned_none A laws)
  joint_is Plain true true = sym (turned_none A laws)
  joint_is Plain true false = refl
  joint_is Plain false true = refl
  joint_is Plain false false = sym (turned_none A laws)

  zero-mul : (y : A.Amount) → A.mul A.zero y ≡ A.zero
  zero-mul y = laws.mul_comm A.zero y ∙ laws.mul_zero y

  -- a product is zero where a factor is, and else the turns add
  weighed_mul : (a b : Bool) (m n : ℕ) → A.mul (weighed a m) (weighed b n) ≡ weighed (a && b) (m + n)
  weighed_mul true true m n = sym (quarters-add A laws m n)
  weighed_mul true false m n = laws.mul_zero (quarters A m)
  weighed_mul false b m n = zero-mul (weighed b n)

  pub terms_are_powers : TermsArePowers A
  terms_are_powers cs [] n row x = sym (turned_none A laws)
  terms_are_powers cs (Spider s ∷ is) n row x =
      ap₂ A.mul (ap (λ t. cond (x n) t A.one) (quarter-power A laws s.phase.parts) ∙ if_set A laws (x n) s.phase.parts) (terms_are_powers cs is (n + 1) row x)
      ∙ weighed_mul true (allowed cs is (n + 1) row x) _ _
  terms_are_powers cs (Wire w ∷ is) n row x = ap₂ A.mul (joint_is (wire_kind cs w) (x w.first) (x w.second)) (terms_are_powers cs is n row x) ∙ weighed_mul (allows (wire_kind cs w) (x w.first) (x w.second)) (allowed cs is n row x) _ _
  terms_are_powers cs (Leg l ∷ is) n row x = ap₂ A.mul (joint_is (leg_kind cs l) (x l.spider) (leg_bit l.setting row)) (terms_are_powers cs is n (row_after l.setting row) x) ∙ weighed_mul (allows (leg_kind cs l) (x l.spider) (leg_bit l.setting row)) (allowed cs is n (row_after l.setting row) x) _ _
  terms_are_powers cs (Factor f ∷ is) n row x = terms_are_powers cs is n row x
  terms_are_powers cs (Zero ∷ is) n row x = refl
