-- Sums of the terms of a graph times a factor, over slots of which some may be yet to come. Assumes nothing.
use Rattle.std.proofs.Common.{◌≡◌, ℕ, zero, suc, ◌+◌, ◌%◌, ◌<◌, ◌≤◌, Bool, true, false, cond, sym, refl, ap, ◌∙◌, ⊎_elim, arith, eq-eqb}
use Rattle.std.proofs.lemmas.Bool.Decides.{leb_tells}
use Rattle.amounts.specs.Amounts.{Amounts, Lawful}
use Rattle.graphs.specs.Counts.{bit}
use Rattle.graphs.specs.Graphs.{Graph, Bits, put, without, sum, turns, quarters}
use Rattle.graphs.proofs.Sums.{Within, sum_same, sum_split}
use Rattle.graphs.proofs.Turns.{quarters-add, quarters-same}

-- the sum over the bits of the slots of p, of the terms of G times g
abbrev pub weighed : (A : Amounts) → ℕ → (ℕ → Bool) → Graph → (Bits → A.Amount) → A.Amount
weighed A n p G g = sum A n p (λ y. A.mul (quarters A (turns n G y)) (g y))

-- bits that set only slots of p without u do not set u
off_without : (n u : ℕ) (p : ℕ → Bool) (y : Bits) → Within n (without p u) y → y u ≡ false
off_without n u p y h = here (y u) refl
  where
    here : (e : Bool) → y u ≡ e → e ≡ false
    here true e =
        let gone : without p u u ≡ false = ap (λ b. cond b false (p u)) (eq-eqb u u refl) in
        let z : ◌≡◌ {A = ℕ} 0 1 = ap bit (sym gone ∙ h.on u e) in
        absurd (omega arith)
    here false e = refl

module _ (A : Amounts) (laws : Lawful A) where
  pub zero-mul : (x : A.Amount) → A.mul A.zero x ≡ A.zero
  zero-mul x = laws.mul_comm A.zero x ∙ laws.mul_zero x

  -- what a graph has more quarter turns, the factor has less
  pub turns_move : (n : ℕ) (p : ℕ → Bool) (G H : Graph) (e : Bits → ℕ) (g : Bits → A.Amount) → ((y : Bits) → turns n H y % 4 ≡ (turns n G y + e y) % 4) → weighed A n p G (λ y. A.mul (quarters A (e y)) (g y)) ≡ weighed A n p H g
  turns_move n p G H e g more = sum_same A n p _ _ (λ y h.
      sym (laws.mul_assoc (quarters A (turns n G y)) (quarters A (e y)) (g y))
      ∙ ap (λ q. A.mul q (g y)) (sym (quarters-add A laws (turns n G y) (e y)) ∙ sym (quarters-same A laws (turns n H y) (turns n G y + e y) (more y))))

  -- a slot of p is summed out
  pub summed_out : (n u : ℕ) (p : ℕ → Bool) (F H : Bits → A.Amount) → u < n → p u ≡ true → ((y : Bits) → y u ≡ false → A.add (F y) (F (put y u)) ≡ H y) → sum A n p F ≡ sum A n (without p u) H
  summed_out n u p F H low on both = sum_split A laws n p u F low on ∙ sum_same A n (without p u) _ H (λ y h. both y (off_without n u p y h))

-- slots of which none is in p from c on can be left out
pub summed_below : (A : Amounts) (n c : ℕ) (p : ℕ → Bool) (F : Bits → A.Amount) → c ≤ n → ((k : ℕ) → c ≤ k → p k ≡ false) → sum A n p F ≡ sum A c p F
unfolding sum
summed_below A zero c p F low off = let e : 0 ≡ c = omega arith in ap (λ j. sum A j p F) e
summed_below A (suc n) c p F low off = ⊎_elim
    (λ h. ap (λ e. cond e (A.add (sum A n p F) (sum A n p (λ x. F (put x n)))) (sum A n p F)) (off n h.1) ∙ summed_below A n c p F h.1 off)
    (λ h. let l = h.1 in let e : suc n ≡ c = omega arith in ap (λ j. sum A j p F) e)
    (leb_tells c n)
