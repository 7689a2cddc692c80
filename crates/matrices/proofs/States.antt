-- The state at plain output legs, and what one more spider on a qubit makes of it. Assumes nothing.
use Rattle.std.proofs.Common.{◌≡◌, ℕ, suc, ◌<◌, Bool, true, false, cond, eqb, sym, refl, ap, ◌∙◌, ap₂, arith}
use mathlib.Core.Path.{fun_ext}
use Rattle.amounts.specs.Amounts.{Amounts, Lawful}
use Rattle.amounts.proofs.Powers.{mul-mul}
use Rattle.graphs.specs.Graphs.{Bits, put, sum}
use Rattle.graphs.proofs.Sums.{Within, sum_same, sum-add, sum_scale}
use Rattle.diagrams.specs.declared.items.Kind.{Kind}
use Rattle.amplitudes.specs.Items.{joint, every_slot}
use Rattle.matrices.specs.Matrices.{changed}
use Rattle.matrices.proofs.Folds.{fold, fold_same, fold_pick, changed_here, changed-apart, changed-same}

-- the sum over the bits of k spiders
abbrev pub over : (A : Amounts) → ℕ → (Bits → A.Amount) → A.Amount
over A k F = sum A k every_slot F

-- the leg of qubit q, of kind K q at spider L q, read at y
abbrev pub legs : (A : Amounts) → (ℕ → Kind) → (ℕ → ℕ) → Bits → Bits → ℕ → A.Amount
legs A K L x y q = joint A (K q) (x (L q)) (y q)

-- the product over n numbers
abbrev pub product : (A : Amounts) → ℕ → (ℕ → A.Amount) → A.Amount
product A n f = fold A.mul A.one n f

-- the state of n qubits: the terms f of k spiders, with a leg of each qubit
abbrev pub state : (A : Amounts) → ℕ → ℕ → (Bits → A.Amount) → (ℕ → Kind) → (ℕ → ℕ) → Bits → A.Amount
state A n k f K L y = over A k (λ x. A.mul (f x) (product A n (legs A K L x y)))

-- f looks at spiders below k alone
abbrev pub Local : (A : Amounts) → ℕ → (Bits → A.Amount) → Type 0
Local A k f = (x z : Bits) → ((j : ℕ) → j < k → x j ≡ z j) → f x ≡ f z

-- sums with factors go through O
abbrev pub Linear : (A : Amounts) → ((Bool → A.Amount) → A.Amount) → Type 0
Linear A O = (k : ℕ) (c : Bits → A.Amount) (f : Bits → Bool → A.Amount) → O (λ v. over A k (λ x. A.mul (c x) (f x v))) ≡ over A k (λ x. A.mul (c x) (O (f x)))

abbrev pub LinearTwice : (A : Amounts) → ((Bool → Bool → A.Amount) → A.Amount) → Type 0
LinearTwice A O = (k : ℕ) (c : Bits → A.Amount) (f : Bits → Bool → Bool → A.Amount) → O (λ u v. over A k (λ x. A.mul (c x) (f x u v))) ≡ over A k (λ x. A.mul (c x) (O (f x)))

-- a spider of bit c with a turn, a wire of kind T to it from the bit a, and a leg of kind K read at b
abbrev pub passed : (A : Amounts) → (Bool → A.Amount) → Kind → Kind → Bool → Bool → Bool → A.Amount
passed A turn T K a b c = A.mul (A.mul (turn c) (joint A T a c)) (joint A K c b)

-- both bits of that spider
abbrev pub both : (A : Amounts) → (Bool → A.Amount) → Kind → Kind → Bool → Bool → A.Amount
both A turn T K a b = A.add (passed A turn T K a b false) (passed A turn T K a b true)

-- bits within k are not set at k
pub unset : (k : ℕ) (x : Bits) → Within k every_slot x → x k ≡ false
unset k x h = go (x k) refl
  where
    go : (b : Bool) → x k ≡ b → b ≡ false
    go true e = absurd (let l = h.low k e in omega arith)
    go false e = refl

module _ (A : Amounts) (laws : Lawful A) where
  open A use {Amount, one, add, mul}

  pub mul_front : (a b c : Amount) → mul a (mul b c) ≡ mul b (mul a c)
  mul_front a b c = sym (laws.mul_assoc a b c) ∙ ap (λ t. mul t c) (laws.mul_comm a b) ∙ laws.mul_assoc b a c

  product_pick : (n : ℕ) (f : ℕ → Amount) (q : ℕ) → q < n → product A n f ≡ mul (f q) (product A n (changed f q one))
  product_pick = fold_pick mul one laws.mul_comm laws.mul_assoc laws.mul_one

  over_same : (k : ℕ) (F G : Bits → Amount) → ((x : Bits) → F x ≡ G x) → over A k F ≡ over A k G
  over_same k F G e = sum_same A k every_slot F G (λ x h. e x)

  module _ (n k : ℕ) (f : Bits → Amount) (K : ℕ → Kind) (L : ℕ → ℕ) (q : ℕ) (below : q < n) where
    -- the legs of all other qubits
    others : Bits → Bits → Amount
    others x y = product A n (changed (legs A K L x y) q one)

    -- the leg of q apart
    leg-apart : (y : Bits) (v : Bool) → state A n k f K L (changed y q v) ≡ over A k (λ x. mul (mul (f x) (others x y)) (joint A (K q) (x (L q)) v))
    unfolding others
    leg-apart y v = over_same k _ _ (λ x.
        ap (mul (f x)) (product_pick n (legs A K L x (changed y q v)) q below
        ∙ ap₂ mul (ap (joint A (K q) (x (L q))) (changed_here y q v)) (fold_same mul one n _ _ (λ j h. either x j (eqb j q)))
        ∙ laws.mul_comm _ _)
        ∙ sym (laws.mul_assoc _ _ _))
      where
        either : (x : Bits) (j : ℕ) (b : Bool) → cond b one (joint A (K j) (x (L j)) (cond b v (y j))) ≡ cond b one (legs A K L x y j)
        either x j true = refl
        either x j false = refl

    module _ (local : Local A k f) (lasts : (r : ℕ) → r < n → L r < k) (turn : Bool → Amount) (T K2 : Kind) where
      -- the new spider on q: its turn, a wire of kind T to it and a leg of kind K2 at it
      abbrev pub grown : Bits → Amount
      grown x = mul (f x) (mul (turn (x k)) (joint A T (x (L q)) (x k)))

      term_grown : (x y : Bits) → mul (grown x) (product A n (legs A (changed K q K2) (changed L q k) x y)) ≡ mul (mul (f x) (others x y)) (passed A turn T K2 (x (L q)) (y q) (x k))
      unfolding others
      term_grown x y =
          ap (mul (grown x)) (product_pick n (legs A (changed K q K2) (changed L q k) x y) q below
          ∙ ap₂ mul (λ i. joint A (changed_here K q K2 i) (x (changed_here L q k i)) (y q)) (fold_same mul one n _ _ (λ j h. either j (eqb j q)))
          ∙ laws.mul_comm _ _)
          ∙ mul-mul A laws _ _ _ _
        where
          either : (j : ℕ) (b : Bool) → cond b one (joint A (cond b K2 (K j)) (x (cond b k (L j))) (y j)) ≡ cond b one (legs A K L x y j)
          either j true = refl
          either j false = refl

      state_grown : (y : Bits) → state A n (suc k) grown (changed K q K2) (changed L q k) y ≡ over A k (λ x. mul (mul (f x) (others x y)) (both A turn T K2 (x (L q)) (y q)))
      unfolding sum others
      state_grown y =
          sym (sum-add A laws k every_slot G (λ x. G (put x k)))
          ∙ sum_same A k every_slot _ _ (λ x h.
          ap₂ add (term_grown x y ∙ ap (λ c. B x c) (unset k x h)) (term_grown (put x k) y ∙ moved x)
          ∙ sym (laws.mul_add _ _ _))
        where
          G : Bits → Amount
          G x = mul (grown x) (product A n (legs A (changed K q K2) (changed L q k) x y))

          B : Bits → Bool → Amount
          B x c = mul (mul (f x) (others x y)) (passed A turn T K2 (x (L q)) (y q) c)

          stays : (x : Bits) (j : ℕ) → j < k → put x k j ≡ x j
          stays x j h = changed-apart x k j true (λ e. omega arith)

          same : (x : Bits) (r : ℕ) (b : Bool) → r < n → cond b one (legs A K L (put x k) y r) ≡ cond b one (legs A K L x y r)
          same x r true h = refl
          same x r false h = ap (λ c. joint A (K r) c (y r)) (stays x (L r) (lasts r h))

          moved : (x : Bits) → B (put x k) (put x k k) ≡ B x true
          moved x =
              let here = local (put x k) x (stays x) in
              let apart : others (put x k) y ≡ others x y = fold_same mul one n _ _ (λ r h. same x r (eqb r q) h) in
              let before = stays x (L q) (lasts q below) in
              λ i. mul (mul (here i) (apart i)) (passed A turn T K2 (before i) (y q) (changed_here x k true i))

      -- where both bits of the new spider together are O of the leg before, up to a factor on each side,
      -- the state is O of the state before
      pub state_steps : (c d : Amount) (O : (Bool → Amount) → Bool → Amount) → ((b : Bool) → Linear A (λ g. O g b)) → ((a b : Bool) → mul c (both A turn T K2 a b) ≡ mul d (O (joint A (K q) a) b)) → (y : Bits) → mul c (state A n (suc k) grown (changed K q K2) (changed L q k) y) ≡ mul d (O (λ v. state A n k f K L (changed y q v)) (y q))
      state_steps c d O linear bits y =
          ap (mul c) (state_grown y)
          ∙ sym (sum_scale A laws k every_slot c _)
          ∙ over_same k _ _ (λ x. mul_front c _ _ ∙ ap (mul (mul (f x) (others x y))) (bits (x (L q)) (y q)) ∙ mul_front _ d _)
          ∙ sum_scale A laws k every_slot d _
          ∙ ap (mul d) (sym (linear (y q) k (λ x. mul (f x) (others x y)) (λ x v. joint A (K q) (x (L q)) v)) ∙ ap (λ g. O g (y q)) (fun_ext (λ v. sym (leg-apart y v))))

  module _ (n k : ℕ) (f : Bits → Amount) (K : ℕ → Kind) (L : ℕ → ℕ) (q r : ℕ) (below : q < n) (below-too : r < n) (apart : r ≡ q → ⊥) where
    -- the legs of all but two qubits
    rest : Bits → Bits → Amount
    rest x y = product A n (changed (changed (legs A K L x y) q one) r one)

    picked : (x y : Bits) (u v : Bool) → product A n (legs A K L x (changed (changed y q u) r v)) ≡ mul (mul (joint A (K q) (x (L q)) u) (joint A (K r) (x (L r)) v)) (rest x y)
    unfolding rest
    picked x y u v =
        let at_q : z q ≡ u = changed-apart (changed y q u) r q v (λ e. apart (sym e)) ∙ changed_here y q u in
        product_pick n (legs A K L x z) q below
        ∙ ap₂ mul (ap (joint A (K q) (x (L q))) at_q)
        (product_pick n (changed (legs A K L x z) q one) r below-too
        ∙ ap₂ mul (changed-apart (legs A K L x z) q r one apart ∙ ap (joint A (K r) (x (L r))) (changed_here (changed y q u) r v)) (fold_same mul one n _ _ (λ j h. either j (eqb j r) (eqb j q))))
        ∙ sym (laws.mul_assoc _ _ _)
      where
        z : Bits
        z = changed (changed y q u) r v

        either : (j : ℕ) (a b : Bool) → cond a one (cond b one (joint A (K j) (x (L j)) (cond a v (cond b u (y j))))) ≡ cond a one (cond b one (legs A K L x y j))
        either j true b = refl
        either j false true = refl
        either j false false = refl

    -- a factor J of the spiders of two qubits that is O of their two legs makes O of the state
    pub state_joins : (J : Bool → Bool → Amount) (O : (Bool → Bool → Amount) → Bool → Bool → Amount) → ((a b : Bool) → LinearTwice A (λ g. O g a b)) → ((c d a b : Bool) → mul (J c d) (mul (joint A (K q) c a) (joint A (K r) d b)) ≡ O (λ u v. mul (joint A (K q) c u) (joint A (K r) d v)) a b) → (y : Bits) → state A n k (λ x. mul (f x) (J (x (L q)) (x (L r)))) K L y ≡ O (λ u v. state A n k f K L (changed (changed y q u) r v)) (y q) (y r)
    state_joins J O linear bits y =
        over_same k _ _ (λ x.
        ap (mul (mul (f x) (J (x (L q)) (x (L r))))) (ap (λ t. product A n (legs A K L x t)) (sym unchanged) ∙ picked x y (y q) (y r) ∙ laws.mul_comm _ _)
        ∙ mul-mul A laws _ _ _ _
        ∙ ap (mul (mul (f x) (rest x y))) (bits (x (L q)) (x (L r)) (y q) (y r)))
        ∙ sym (linear (y q) (y r) k (λ x. mul (f x) (rest x y)) (λ x u v. mul (joint A (K q) (x (L q)) u) (joint A (K r) (x (L r)) v)))
        ∙ ap (λ g. O g (y q) (y r)) (fun_ext (λ u. fun_ext (λ v. sym (apart-legs u v))))
      where
        unchanged : changed (changed y q (y q)) r (y r) ≡ y
        unchanged = ap (λ t. changed t r (y r)) (changed-same y q) ∙ changed-same y r

        apart-legs : (u v : Bool) → state A n k f K L (changed (changed y q u) r v) ≡ over A k (λ x. mul (mul (f x) (rest x y)) (mul (joint A (K q) (x (L q)) u) (joint A (K r) (x (L r)) v)))
        apart-legs u v = over_same k _ _ (λ x. ap (mul (f x)) (picked x y u v ∙ laws.mul_comm _ _) ∙ sym (laws.mul_assoc _ _ _))
