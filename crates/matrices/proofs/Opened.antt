-- The items that open a circuit make the state that is one at the input row. Assumes nothing.
use Rattle.std.proofs.Common.{◌≡◌, ℕ, zero, suc, ◌+◌, ◌<◌, Bool, true, false, cond, eqb, List, ◌++◌, map, length, ◌+ℤ◌, sym, refl, ap, ◌∙◌, ap₂, suc-add, zero-add, arith}
use lib.IntN.{+ℤ_idl}
use borrow.Author.Tests.{eqb-false}
use Rattle.std.specs.List.{range_with_len}
use Rattle.amounts.specs.Amounts.{Amounts, Lawful}
use Rattle.graphs.specs.Graphs.{Bits, put, sum}
use Rattle.graphs.specs.Rules.{xor}
use Rattle.graphs.proofs.Sums.{Within, sum_same, sum-add}
use Rattle.amounts.proofs.Turns.{zero-plus}
use Rattle.amounts.proofs.Powers.{one-mul}
use Rattle.diagrams.specs.declared.items.Colour.{Colour}
use Rattle.diagrams.specs.declared.items.Colour.TheVariants.{Z}
use Rattle.diagrams.specs.declared.items.Kind.TheVariants.{Plain}
use Rattle.diagrams.specs.declared.items.Item.{Item}
use Rattle.amplitudes.specs.Items.{colours, at_end, joint, term, every_slot, cost, root_power, eighth_turns}
use Rattle.circuits.specs.Gates.{opening}
use Rattle.matrices.specs.Matrices.{changed, agree, indicator}
use Rattle.matrices.proofs.Folds.{fold, fold_same, fold_from, changed_here, changed-apart, changed-same}
use Rattle.matrices.proofs.States.{over, product, Local, unset}
use Rattle.matrices.proofs.Steps.{spun_none, zero-mul}
use Rattle.matrices.proofs.Played.{colour_at}

-- the opening of n qubits from s on, before other items
module _ (is : List Item) where
  pub opening-low : (n s j : ℕ) → j < n → colour_at (colours (opening s n ++ is)) j ≡ Z
  opening-low zero s j h = absurd (omega arith)
  opening-low (suc n) s zero h = refl
  opening-low (suc n) s (suc j) h = opening-low n (s + 1) j (omega arith)

  pub opening_high : (n s j : ℕ) → colour_at (colours (opening s n ++ is)) (n + j) ≡ colour_at (colours is) j
  opening_high zero s j = ap (colour_at (colours is)) (zero-add j)
  opening_high (suc n) s j = ap (colour_at (colours (opening s (suc n) ++ is))) (suc-add n j) ∙ opening_high n (s + 1) j

  pub opening_length : (n s : ℕ) → length (colours (opening s n ++ is)) ≡ n + length (colours is)
  opening_length zero s = sym (zero-add _)
  opening_length (suc n) s = ap suc (opening_length n (s + 1)) ∙ sym (suc-add n _)

  pub opening-turns : (n s : ℕ) → eighth_turns (opening s n ++ is) ≡ eighth_turns is
  opening-turns zero s = refl
  opening-turns (suc n) s = opening-turns n (s + 1)

  pub opening-root : (cs : List Colour) (n s : ℕ) → ((j : ℕ) → j < n → colour_at cs (s + j) ≡ Z) → root_power cs (opening s n ++ is) ≡ root_power cs is
  opening-root cs zero s plain = refl
  opening-root cs (suc n) s plain =
      let here : s ≡ s + 0 = omega arith in
      ap (λ c. cost (at_end c Plain) +ℤ root_power cs (opening (s + 1) n ++ is)) (ap (colour_at cs) here ∙ plain 0 (omega arith))
      ∙ +ℤ_idl _
      ∙ opening-root cs n (s + 1) (λ j h. let far : s + 1 + j ≡ s + suc j = omega arith in ap (colour_at cs) far ∙ plain (suc j) (omega arith))

  module _ (A : Amounts) (laws : Lawful A) where
    pub opening-term : (cs : List Colour) (a x : Bits) (row : List Bool) (n s : ℕ) → term A cs (opening s n ++ is) s (map a (range_with_len s n) ++ row) x ≡ A.mul (product A n (λ j. joint A (at_end (colour_at cs (s + j)) Plain) (x (s + j)) (a (s + j)))) (term A cs is (s + n) row x)
    unfolding fold
    opening-term cs a x row zero s = let here : s ≡ s + 0 = omega arith in ap (λ j. term A cs is j row x) here ∙ sym (one-mul A laws _)
    opening-term cs a x row (suc n) s =
        let here : s + 1 + n ≡ s + suc n = omega arith in
        ap₂ A.mul (spun_none A laws (x s)) refl ∙ one-mul A laws _
        ∙ ap (A.mul (joint A (at_end (colour_at cs s) Plain) (x s) (a s))) (opening-term cs a x row n (s + 1))
        ∙ sym (laws.mul_assoc _ _ _)
        ∙ ap₂ A.mul (sym (fold_from A.mul A.one laws.mul_comm laws.mul_assoc laws.mul_one n s (λ j. joint A (at_end (colour_at cs j) Plain) (x j) (a j)))) (ap (λ j. term A cs is j row x) here)

-- the bits of a row, as a product of plain legs
abbrev pub taken : (A : Amounts) → ℕ → Bits → Bits → A.Amount
taken A n a x = product A n (λ j. joint A Plain (x j) (a j))

module _ (A : Amounts) (laws : Lawful A) where
  open A use {Amount, zero as none, one, add, mul}

  pub taken_local : (n : ℕ) (a : Bits) → Local A n (taken A n a)
  taken_local n a x z e = fold_same mul one n _ _ (λ j h. ap (λ c. joint A Plain c (a j)) (e j h))

  -- a sum with a plain leg at every spider is its term at the bits of the legs
  pub select : (n : ℕ) (a : Bits) (F : Bits → Amount) → Local A n F → over A n (λ x. mul (taken A n a x) (F x)) ≡ F a
  unfolding sum fold
  select zero a F local = one-mul A laws _ ∙ local _ a (λ j h. absurd (omega arith))
  select (suc n) a F local =
      sym (sum-add A laws n every_slot _ _)
      ∙ sum_same A n every_slot _ _ (λ x h. either x h (a n))
      ∙ select n a (λ x. F (changed x n (a n))) (λ x z e. local _ _ (λ j h. same x z e j (eqb j n) refl h))
      ∙ ap F (changed-same a n)
    where
      same : (x z : Bits) → ((j : ℕ) → j < n → x j ≡ z j) → (j : ℕ) (c : Bool) → eqb j n ≡ c → j < suc n → cond c (a n) (x j) ≡ cond c (a n) (z j)
      same x z e j true q h = refl
      same x z e j false q h = e j (let ne = eqb-false j n q in omega arith)

      either : (x : Bits) → Within n every_slot x → (c : Bool) → add (mul (mul (taken A n a x) (joint A Plain (x n) c)) (F x)) (mul (mul (taken A n a (put x n)) (joint A Plain (put x n n) c)) (F (put x n))) ≡ mul (taken A n a x) (F (changed x n c))
      either x h c =
          let low = unset n x h in
          let high = changed_here x n true in
          let before = taken_local n a (put x n) x (λ j l. changed-apart x n j true (λ e. omega arith)) in
          (λ i. add (mul (mul (taken A n a x) (joint A Plain (low i) c)) (F x)) (mul (mul (before i) (joint A Plain (high i) c)) (F (put x n))))
          ∙ go c
        where
          go : (d : Bool) → add (mul (mul (taken A n a x) (joint A Plain false d)) (F x)) (mul (mul (taken A n a x) (joint A Plain true d)) (F (put x n))) ≡ mul (taken A n a x) (F (changed x n d))
          go true = ap₂ add (ap (λ t. mul t (F x)) (laws.mul_zero _) ∙ zero-mul A laws _) (ap (λ t. mul t (F (put x n))) (laws.mul_one _)) ∙ zero-plus A laws _
          go false =
              ap₂ add (ap (λ t. mul t (F x)) (laws.mul_one _)) (ap (λ t. mul t (F (put x n))) (laws.mul_zero _) ∙ zero-mul A laws _)
              ∙ laws.add_zero _
              ∙ ap (λ z. mul (taken A n a x) (F z)) (sym (ap (changed x n) (sym (unset n x h)) ∙ changed-same x n))

  -- plain legs at one row, read at another
  pub taken_is : (n : ℕ) (a y : Bits) → taken A n y a ≡ indicator A n a y
  unfolding fold
  taken_is zero a y = refl
  taken_is (suc n) a y = either (xor (a n) (y n)) (taken_is n a y)
    where
      either : (c : Bool) → taken A n y a ≡ indicator A n a y → mul (taken A n y a) (cond c none one) ≡ cond (cond c false (agree n a y)) one none
      either true e = laws.mul_zero _
      either false e = laws.mul_one _ ∙ e
