-- The amplitude of the adjoint is the conjugate. Assumes nothing.
use mathlib.Core.Path.{◌≡◌, refl, sym, ap, ap₂, ◌∙◌, fun_ext}
use mathlib.Core.Bool.{Bool, true, false, cond}
use mathlib.Core.List.{List, [], ◌∷◌}
use Prim.Native.Nat.{ℕ, zero, suc, ◌+◌, ◌*◌, ◌-◌, ◌%◌, ◌<◌}
use native.Mathlib.Omega.{arith}
use lib.IntN.{◌+ℤ◌}
use lib.ListN.{length}
use Rattle.amounts.specs.Amounts.{power, quarter}
use Rattle.amounts.specs.Eighths.{Eighths, unit, plus, times, eighths}
use Rattle.amounts.proofs.Eighths.{lawful}
use Rattle.graphs.specs.Graphs.{Bits, put, sum}
use Rattle.graphs.proofs.Literal.{quarter-power}
use Rattle.diagrams.specs.declared.items.Colour.{Colour}
use Rattle.diagrams.specs.declared.items.Kind.{Kind}
use Rattle.diagrams.specs.declared.items.Kind.TheVariants.{Plain, Hadamard}
use Rattle.diagrams.specs.declared.items.Item.{Item}
use Rattle.diagrams.specs.declared.items.Item.TheVariants.{Spider, Wire, Leg, Factor, Zero}
use Rattle.amplitudes.specs.Items.{colours, wire_kind, leg_kind, joint, leg_bit, row_after, term, every_slot, terms_sum, cost, root_power, eighth_turns}
use Rattle.layers.specs.Adjoints.{adjoint_items}
use Rattle.layerings.specs.Conjugates.{conj}
use Rattle.layerings.specs.Layerings.{AdjointConjugates}
use Rattle.layerings.proofs.Conjugates.{conj-plus, conj-times, conj-none, conj-unit, conj-turned_by}

colours-adjoint : (is : List Item) → colours (adjoint_items is) ≡ colours is
colours-adjoint [] = refl
colours-adjoint (Spider s ∷ is) = ap (λ cs. s.colour ∷ cs) (colours-adjoint is)
colours-adjoint (Wire w ∷ is) = colours-adjoint is
colours-adjoint (Leg l ∷ is) = colours-adjoint is
colours-adjoint (Factor f ∷ is) = colours-adjoint is
colours-adjoint (Zero ∷ is) = colours-adjoint is

root_power-adjoint : (cs : List Colour) (is : List Item) → root_power cs (adjoint_items is) ≡ root_power cs is
root_power-adjoint cs [] = refl
root_power-adjoint cs (Spider s ∷ is) = root_power-adjoint cs is
root_power-adjoint cs (Wire w ∷ is) = ap (λ k. cost (wire_kind cs w) +ℤ k) (root_power-adjoint cs is)
root_power-adjoint cs (Leg l ∷ is) = ap (λ k. cost (leg_kind cs l) +ℤ k) (root_power-adjoint cs is)
root_power-adjoint cs (Factor f ∷ is) = ap (λ k. f.k.exponent +ℤ k) (root_power-adjoint cs is)
root_power-adjoint cs (Zero ∷ is) = root_power-adjoint cs is

-- the factors of both make whole turns
turns-adjoint : (is : List Item) → (eighth_turns (adjoint_items is) + eighth_turns is) % 8 ≡ 0
turns-adjoint [] = refl
turns-adjoint (Spider s ∷ is) = turns-adjoint is
turns-adjoint (Wire w ∷ is) = turns-adjoint is
turns-adjoint (Leg l ∷ is) = turns-adjoint is
turns-adjoint (Factor f ∷ is) =
    let whole = turns-adjoint is in
    let low = f.m.bound in
    omega arith
turns-adjoint (Zero ∷ is) = turns-adjoint is

conj-joint : (k : Kind) (a b : Bool) → conj (joint eighths k a b) ≡ joint eighths k a b
conj-joint Hadamard true true = conj-turned_by 4 4 refl
conj-joint Hadamard true false = conj-unit
conj-joint Hadamard false b = conj-unit
conj-joint Plain true true = conj-unit
conj-joint Plain true false = conj-none
conj-joint Plain false true = conj-none
conj-joint Plain false false = conj-unit

conj-spider : (b : Bool) (p : ℕ) → p < 4 → conj (cond b (power eighths (quarter eighths) p) unit) ≡ cond b (power eighths (quarter eighths) ((4 - p) % 4)) unit
conj-spider true p h = ap conj (quarter-power eighths lawful p) ∙ conj-turned_by (2 * ((4 - p) % 4)) (2 * p) (omega arith) ∙ sym (quarter-power eighths lawful ((4 - p) % 4))
conj-spider false p h = conj-unit

term-adjoint : (cs : List Colour) (is : List Item) (n : ℕ) (row : List Bool) (x : Bits) → term eighths cs (adjoint_items is) n row x ≡ conj (term eighths cs is n row x)
term-adjoint cs [] n row x = sym conj-unit
term-adjoint cs (Spider s ∷ is) n row x = ap₂ times (sym (conj-spider (x n) s.phase.parts s.phase.bound)) (term-adjoint cs is (n + 1) row x) ∙ sym (conj-times _ _)
term-adjoint cs (Wire w ∷ is) n row x = ap₂ times (sym (conj-joint (wire_kind cs w) (x w.first) (x w.second))) (term-adjoint cs is n row x) ∙ sym (conj-times _ _)
term-adjoint cs (Leg l ∷ is) n row x = ap₂ times (sym (conj-joint (leg_kind cs l) (x l.spider) (leg_bit l.setting row))) (term-adjoint cs is n (row_after l.setting row) x) ∙ sym (conj-times _ _)
term-adjoint cs (Factor f ∷ is) n row x = term-adjoint cs is n row x
term-adjoint cs (Zero ∷ is) n row x = sym conj-none

conj-sum : (n : ℕ) (stands : ℕ → Bool) (F : Bits → Eighths) → conj (sum eighths n stands F) ≡ sum eighths n stands (λ x. conj (F x))
unfolding sum
conj-sum zero stands F = refl
conj-sum (suc n) stands F = go (stands n) (conj-sum n stands F) (conj-sum n stands (λ x. F (put x n)))
  where
    go : (b : Bool) → conj (sum eighths n stands F) ≡ sum eighths n stands (λ x. conj (F x)) → conj (sum eighths n stands (λ x. F (put x n))) ≡ sum eighths n stands (λ x. conj (F (put x n))) → conj (cond b (plus (sum eighths n stands F) (sum eighths n stands (λ x. F (put x n)))) (sum eighths n stands F)) ≡ cond b (plus (sum eighths n stands (λ x. conj (F x))) (sum eighths n stands (λ x. conj (F (put x n))))) (sum eighths n stands (λ x. conj (F x)))
    go true low high = conj-plus _ _ ∙ ap₂ plus low high
    go false low high = low

terms_adjoint : (is : List Item) (row : List Bool) → terms_sum eighths (adjoint_items is) row ≡ conj (terms_sum eighths is row)
terms_adjoint is row =
    ap (λ cs. sum eighths (length cs) every_slot (term eighths cs (adjoint_items is) 0 row)) (colours-adjoint is)
    ∙ ap (sum eighths (length (colours is)) every_slot) (fun_ext (λ x. term-adjoint (colours is) is 0 row x))
    ∙ sym (conj-sum (length (colours is)) every_slot (term eighths (colours is) is 0 row))

pub adjoint_conjugates : AdjointConjugates
adjoint_conjugates is row =
    ap₂ (λ k z. record { k = k; z = z })
    (ap (λ cs. root_power cs (adjoint_items is)) (colours-adjoint is) ∙ root_power-adjoint (colours is) is)
    (ap₂ times (sym (conj-turned_by (eighth_turns (adjoint_items is)) (eighth_turns is) (turns-adjoint is))) (terms_adjoint is row) ∙ sym (conj-times _ _))
