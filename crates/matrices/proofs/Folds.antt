-- Products over a range of numbers, from which one factor can be taken out. Assumes nothing.
use Rattle.std.proofs.Common.{◌≡◌, ℕ, zero, suc, ◌+◌, ◌<◌, Bool, true, false, cond, eqb, sym, refl, ap, ◌∙◌, ap₂, ⊎_elim, arith, eq-eqb, ne_eqb, eqb-true}
use mathlib.Core.Path.{fun_ext}
use Rattle.std.proofs.lemmas.Bool.Decides.{eqb_tells}
use Rattle.matrices.specs.Matrices.{changed}

module _ {T : Type 0} where
  pub changed_here : (f : ℕ → T) (q : ℕ) (v : T) → changed f q v q ≡ v
  changed_here f q v = ap (λ b. cond b v (f q)) (eq-eqb q q refl)

  pub changed-apart : (f : ℕ → T) (q r : ℕ) (v : T) → (r ≡ q → ⊥) → changed f q v r ≡ f r
  changed-apart f q r v ne = ap (λ b. cond b v (f r)) (ne_eqb r q ne)

  -- a change to what is there changes nothing
  pub changed-same : (f : ℕ → T) (q : ℕ) → changed f q (f q) ≡ f
  changed-same f q = fun_ext (λ r. either r (eqb r q) refl)
    where
      either : (r : ℕ) (b : Bool) → eqb r q ≡ b → cond b (f q) (f r) ≡ f r
      either r true e = ap f (sym (eqb-true r q e))
      either r false e = refl

  -- the product of f 0 to f (n - 1)
  unfoldable pub fold : (T → T → T) → T → ℕ → (ℕ → T) → T
  fold op unit zero f = unit
  fold op unit (suc n) f = op (fold op unit n f) (f n)

module _ {T : Type 0} (op : T → T → T) (unit : T) where
  pub fold_same : (n : ℕ) (f g : ℕ → T) → ((j : ℕ) → j < n → f j ≡ g j) → fold op unit n f ≡ fold op unit n g
  unfolding fold
  fold_same zero f g e = refl
  fold_same (suc n) f g e = ap₂ op (fold_same n f g (λ j h. e j (omega arith))) (e n (omega arith))

module _ {T : Type 0} (op : T → T → T) (unit : T) (comm : (a b : T) → op a b ≡ op b a) (assoc : (a b c : T) → op (op a b) c ≡ op a (op b c)) (alone : (a : T) → op a unit ≡ a) where
  -- the first factor in front
  pub fold_front : (n : ℕ) (f : ℕ → T) → fold op unit (suc n) f ≡ op (f 0) (fold op unit n (λ j. f (suc j)))
  unfolding fold
  fold_front zero f = comm unit (f 0)
  fold_front (suc n) f = ap (λ t. op t (f (suc n))) (fold_front n f) ∙ assoc (f 0) _ (f (suc n))

  -- the same of the factors from s on
  pub fold_from : (n s : ℕ) (f : ℕ → T) → fold op unit (suc n) (λ j. f (s + j)) ≡ op (f s) (fold op unit n (λ j. f (s + 1 + j)))
  fold_from n s f = fold_front n (λ j. f (s + j)) ∙ ap₂ op (ap f (omega arith)) (fold_same op unit n _ _ (λ j h. ap f (omega arith)))

  -- the factor of q in front
  pub fold_pick : (n : ℕ) (f : ℕ → T) (q : ℕ) → q < n → fold op unit n f ≡ op (f q) (fold op unit n (changed f q unit))
  unfolding fold
  fold_pick zero f q h = absurd (omega arith)
  fold_pick (suc n) f q h = ⊎_elim here (λ e. apart e.1 (fold_pick n f q (let ne = e.1 in omega arith))) (eqb_tells n q)
    where
      here : (eqb n q ≡ true) × (n ≡ q) → op (fold op unit n f) (f n) ≡ op (f q) (op (fold op unit n (changed f q unit)) (changed f q unit n))
      here e =
          let others = fold_same op unit n f (changed f q unit) (λ j l. sym (changed-apart f q j unit (λ s. let same = e.1 in omega arith))) in
          let last : changed f q unit n ≡ unit = ap (changed f q unit) e.1 ∙ changed_here f q unit in
          comm (fold op unit n f) (f n) ∙ ap₂ op (ap f e.1) (others ∙ sym (alone _) ∙ ap (op (fold op unit n (changed f q unit))) (sym last))

      apart : (n ≡ q → ⊥) → fold op unit n f ≡ op (f q) (fold op unit n (changed f q unit)) → op (fold op unit n f) (f n) ≡ op (f q) (op (fold op unit n (changed f q unit)) (changed f q unit n))
      apart ne e = ap₂ op e (sym (changed-apart f q n unit ne)) ∙ assoc (f q) _ _

  -- a change at q changes the factor of q
  pub fold_change : (n : ℕ) (f : ℕ → T) (q : ℕ) (v : T) → q < n → op v (fold op unit n f) ≡ op (f q) (fold op unit n (changed f q v))
  fold_change n f q v h =
      ap (op v) (fold_pick n f q h)
      ∙ sym (assoc v (f q) _) ∙ ap (λ t. op t (fold op unit n (changed f q unit))) (comm v (f q)) ∙ assoc (f q) v _
      ∙ ap (op (f q)) (sym (fold_pick n (changed f q v) q h ∙ ap₂ op (changed_here f q v) (fold_same op unit n _ _ (λ j l. either j (eqb j q)))))
    where
      either : (j : ℕ) (b : Bool) → cond b unit (cond b v (f j)) ≡ cond b unit (f j)
      either j true = refl
      either j false = refl
