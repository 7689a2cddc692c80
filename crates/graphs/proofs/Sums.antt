-- Sums over assignments: they are linear, and split at each slot. Assumes nothing.
use Rattle.std.proofs.Common.{◌≡◌, ℕ, zero, suc, ◌<◌, Bool, true, false, cond, eqb, sym, refl, ap, ◌∙◌, ap₂, ⊎_elim, arith, ne_eqb, eqb-true}
use mathlib.Core.Path.{fun_ext}
use Rattle.std.proofs.lemmas.Bool.Decides.{eqb_tells}
use Rattle.amounts.specs.Amounts.{Amounts, Lawful}
use Rattle.graphs.specs.Graphs.{Bits, none_set, put, sum, without}

-- the bits x set only slots below n that stand
pub record Within (n : ℕ) (stands : ℕ → Bool) (x : Bits) : Type 0 where
  pub low : (k : ℕ) → x k ≡ true → k < n
  pub on : (k : ℕ) → x k ≡ true → stands k ≡ true

none_within : (n : ℕ) (stands : ℕ → Bool) → Within n stands none_set
none_within n stands = record { low = λ k e. absurd (clash e); on = λ k e. absurd (clash e) }
  where
    clash : false ≡ true → ⊥
    clash e = let z : ◌≡◌ {A = ℕ} 0 1 = ap (λ b. cond b 1 0) e in omega arith

more_within : (n : ℕ) (stands : ℕ → Bool) (x : Bits) → Within n stands x → Within (suc n) stands x
more_within n stands x h = record { low = λ k e. let l = h.low k e in omega arith; on = h.on }

put-within : (n : ℕ) (stands : ℕ → Bool) (x : Bits) → stands n ≡ true → Within n stands x → Within (suc n) stands (put x n)
put-within n stands x here h = record { low = λ k e. low k (eqb k n) refl e; on = λ k e. on k (eqb k n) refl e }
  where
    low : (k : ℕ) (b : Bool) → eqb k n ≡ b → cond b true (x k) ≡ true → k < suc n
    low k true q e = let same = eqb-true k n q in omega arith
    low k false q e = let l = h.low k e in omega arith

    on : (k : ℕ) (b : Bool) → eqb k n ≡ b → cond b true (x k) ≡ true → stands k ≡ true
    on k true q e = ap stands (eqb-true k n q) ∙ here
    on k false q e = h.on k e

-- puts at two slots commute
pub put-put : (x : Bits) (u v : ℕ) → put (put x u) v ≡ put (put x v) u
put-put x u v = fun_ext (λ k. either (eqb k u) (eqb k v) (x k))
  where
    either : (a b c : Bool) → cond b true (cond a true c) ≡ cond a true (cond b true c)
    either true true c = refl
    either true false c = refl
    either false true c = refl
    either false false c = refl

module _ (A : Amounts) where
  pub sum_same : (n : ℕ) (stands : ℕ → Bool) (F G : Bits → A.Amount) → ((x : Bits) → Within n stands x → F x ≡ G x) → sum A n stands F ≡ sum A n stands G
  unfolding sum
  sum_same zero stands F G e = e none_set (none_within 0 stands)
  sum_same (suc n) stands F G e = go (stands n) refl
      (sum_same n stands F G (λ x h. e x (more_within n stands x h)))
      (λ here. sum_same n stands (λ x. F (put x n)) (λ x. G (put x n)) (λ x h. e (put x n) (put-within n stands x here h)))
    where
      go : (b : Bool) → stands n ≡ b → sum A n stands F ≡ sum A n stands G → (stands n ≡ true → sum A n stands (λ x. F (put x n)) ≡ sum A n stands (λ x. G (put x n))) → cond b (A.add (sum A n stands F) (sum A n stands (λ x. F (put x n)))) (sum A n stands F) ≡ cond b (A.add (sum A n stands G) (sum A n stands (λ x. G (put x n)))) (sum A n stands G)
      go true q low high = ap₂ A.add low (high q)
      go false q low high = low

  -- only the slots below n count
  pub sum-stands : (n : ℕ) (p q : ℕ → Bool) (F : Bits → A.Amount) → ((k : ℕ) → k < n → p k ≡ q k) → sum A n p F ≡ sum A n q F
  unfolding sum
  sum-stands zero p q F e = refl
  sum-stands (suc n) p q F e =
      let low = sum-stands n p q F (λ k l. e k (omega arith)) in
      let high = sum-stands n p q (λ x. F (put x n)) (λ k l. e k (omega arith)) in
      (λ i. cond (e n (omega arith) i) (A.add (low i) (high i)) (low i))

module _ (A : Amounts) (laws : Lawful A) where
  -- four summands, the inner two exchanged
  pub add_swap : (a b c d : A.Amount) → A.add (A.add a b) (A.add c d) ≡ A.add (A.add a c) (A.add b d)
  add_swap a b c d =
      laws.add_assoc a b (A.add c d)
      ∙ ap (A.add a) (sym (laws.add_assoc b c d) ∙ ap (λ t. A.add t d) (laws.add_comm b c) ∙ laws.add_assoc c b d)
      ∙ sym (laws.add_assoc a c (A.add b d))

  pub sum-add : (n : ℕ) (stands : ℕ → Bool) (F G : Bits → A.Amount) → sum A n stands (λ x. A.add (F x) (G x)) ≡ A.add (sum A n stands F) (sum A n stands G)
  unfolding sum
  sum-add zero stands F G = refl
  sum-add (suc n) stands F G = go (stands n) (sum-add n stands F G) (sum-add n stands (λ x. F (put x n)) (λ x. G (put x n)))
    where
      go : (b : Bool) → sum A n stands (λ x. A.add (F x) (G x)) ≡ A.add (sum A n stands F) (sum A n stands G) → sum A n stands (λ x. A.add (F (put x n)) (G (put x n))) ≡ A.add (sum A n stands (λ x. F (put x n))) (sum A n stands (λ x. G (put x n))) → cond b (A.add (sum A n stands (λ x. A.add (F x) (G x))) (sum A n stands (λ x. A.add (F (put x n)) (G (put x n))))) (sum A n stands (λ x. A.add (F x) (G x))) ≡ A.add (cond b (A.add (sum A n stands F) (sum A n stands (λ x. F (put x n)))) (sum A n stands F)) (cond b (A.add (sum A n stands G) (sum A n stands (λ x. G (put x n)))) (sum A n stands G))
      go true low high = ap₂ A.add low high ∙ add_swap _ _ _ _
      go false low high = low

  pub sum_scale : (n : ℕ) (stands : ℕ → Bool) (c : A.Amount) (F : Bits → A.Amount) → sum A n stands (λ x. A.mul c (F x)) ≡ A.mul c (sum A n stands F)
  unfolding sum
  sum_scale zero stands c F = refl
  sum_scale (suc n) stands c F = go (stands n) (sum_scale n stands c F) (sum_scale n stands c (λ x. F (put x n)))
    where
      go : (b : Bool) → sum A n stands (λ x. A.mul c (F x)) ≡ A.mul c (sum A n stands F) → sum A n stands (λ x. A.mul c (F (put x n))) ≡ A.mul c (sum A n stands (λ x. F (put x n))) → cond b (A.add (sum A n stands (λ x. A.mul c (F x))) (sum A n stands (λ x. A.mul c (F (put x n))))) (sum A n stands (λ x. A.mul c (F x))) ≡ A.mul c (cond b (A.add (sum A n stands F) (sum A n stands (λ x. F (put x n)))) (sum A n stands F))
      go true low high = ap₂ A.add low high ∙ sym (laws.mul_add c _ _)
      go false low high = low

  -- a slot that stands splits off: its bit is 0, or it is 1
  pub sum_split : (n : ℕ) (stands : ℕ → Bool) (u : ℕ) (F : Bits → A.Amount) → u < n → stands u ≡ true → sum A n stands F ≡ sum A n (without stands u) (λ x. A.add (F x) (F (put x u)))
  unfolding sum
  sum_split zero stands u F h on = absurd (omega arith)
  sum_split (suc n) stands u F h on = ⊎_elim here (before (λ l. sum_split n stands u F l on) (λ l. sum_split n stands u (λ x. F (put x n)) l on)) (eqb_tells n u)
    where
      S : (ℕ → Bool) → (Bits → A.Amount) → A.Amount
      S = sum A n

      Both : Bits → A.Amount
      Both x = A.add (F x) (F (put x u))

      here : (eqb n u ≡ true) × (n ≡ u) → cond (stands n) (A.add (S stands F) (S stands (λ x. F (put x n)))) (S stands F) ≡ cond (without stands u n) (A.add (S (without stands u) Both) (S (without stands u) (λ x. Both (put x n)))) (S (without stands u) Both)
      here e =
          let mine : stands n ≡ true = ap stands e.1 ∙ on in
          let gone : without stands u n ≡ false = ap (λ b. cond b false (stands n)) e.0 in
          let agree : (k : ℕ) → k < n → stands k ≡ without stands u k = λ k l. let same = e.1 in sym (ap (λ b. cond b false (stands k)) (ne_eqb k u (λ q. omega arith))) in
          ap (λ b. cond b (A.add (S stands F) (S stands (λ x. F (put x n)))) (S stands F)) mine
          ∙ ap (λ k. A.add (S stands F) (S stands (λ x. F (put x k)))) e.1
          ∙ sym (sum-add n stands F (λ x. F (put x u)))
          ∙ sum-stands A n stands (without stands u) Both agree
          ∙ sym (ap (λ b. cond b (A.add (S (without stands u) Both) (S (without stands u) (λ x. Both (put x n)))) (S (without stands u) Both)) gone)

      before : (u < n → S stands F ≡ S (without stands u) Both) → (u < n → S stands (λ x. F (put x n)) ≡ S (without stands u) (λ x. A.add (F (put x n)) (F (put (put x u) n)))) → (eqb n u ≡ false) × (n ≡ u → ⊥) → cond (stands n) (A.add (S stands F) (S stands (λ x. F (put x n)))) (S stands F) ≡ cond (without stands u n) (A.add (S (without stands u) Both) (S (without stands u) (λ x. Both (put x n)))) (S (without stands u) Both)
      before low high e =
          let ne = e.1 in
          let stay : stands n ≡ without stands u n = sym (ap (λ b. cond b false (stands n)) e.0) in
          let l = low (omega arith) in
          let k = high (omega arith) ∙ ap (S (without stands u)) (fun_ext (λ x. ap (λ y. A.add (F (put x n)) (F y)) (put-put x u n))) in
          λ i. cond (stay i) (A.add (l i) (k i)) (l i)
