-- What searches find and how runs unfold. Assumes nothing.
use Rattle.std.proofs.Common.{◌≡◌, ℕ, zero, suc, ◌+◌, ◌<◌, ◌≤◌, Bool, true, false, not, ◌⊎◌, is_some, Some, None, Option, sym, refl, ap, ◌∙◌, inl, inr, ⊎_elim, arith}
use Rattle.std.proofs.lemmas.Bool.Decides.{eqb_tells}
use Rattle.models.specs.Models.{Model}
use Rattle.reductions.specs.Runs.{first_from, first_pair_from, one_more, ran}
use Rattle.reductions.specs.declared.Pair.{Pair}

pub true_or_false : (b : Bool) → (b ≡ true) ⊎ (b ≡ false)
true_or_false true = inl refl
true_or_false false = inr refl

-- k is the first of n numbers from l on that passes
pub record First (n l : ℕ) (p : ℕ → Bool) (k : ℕ) : Type 0 where
  pub passes : p k ≡ true
  pub low : l ≤ k
  pub high : k < l + n
  pub others : (j : ℕ) → l ≤ j → j < k → p j ≡ false

-- a search looks at the first number, and then goes on
pub first_from_here : (n l : ℕ) (p : ℕ → Bool) → p l ≡ true → first_from (suc n) l p ≡ Some l
unfolding first_from
first_from_here n l p e = ap (λ b. elim b [ true ↦ Some l | false ↦ first_from n (suc l) p ]) e

pub first_from_later : (n l : ℕ) (p : ℕ → Bool) → p l ≡ false → first_from (suc n) l p ≡ first_from n (suc l) p
unfolding first_from
first_from_later n l p e = ap (λ b. elim b [ true ↦ Some l | false ↦ first_from n (suc l) p ]) e

-- where it finds none, none passes
pub first_none : (n l : ℕ) (p : ℕ → Bool) → first_from n l p ≡ None → (k : ℕ) → l ≤ k → k < l + n → p k ≡ false
first_none zero l p e k low high = absurd (omega arith)
first_none (suc n) l p e k low high = ⊎_elim
    (λ q. let z : ◌≡◌ {A = ℕ} 0 1 = cc (first_from_here n l p q) in absurd (omega arith))
    (λ q. ⊎_elim (λ h. ap p (sym h.1) ∙ q) (λ h. let ne = h.1 in first_none n (suc l) p (sym (first_from_later n l p q) ∙ e) k (omega arith) (omega arith)) (eqb_tells l k))
    (true_or_false (p l))

-- what it finds passes, and nothing before it does
pub first_found : (n l : ℕ) (p : ℕ → Bool) (k : ℕ) → first_from n l p ≡ Some k → First n l p k
unfolding first_from
first_found zero l p k e = let z : ◌≡◌ {A = ℕ} 0 1 = cc in absurd (omega arith)
first_found (suc n) l p k e = ⊎_elim
    (λ q. let same : l ≡ k = cc (first_from_here n l p q) in record { passes = ap p (sym same) ∙ q; low = omega arith; high = omega arith; others = λ j a b. absurd (omega arith) })
    (λ q. let h = first_found n (suc l) p k (sym (first_from_later n l p q) ∙ e) in record { passes = h.passes; low = omega arith; high = omega arith; others = λ j a b. ⊎_elim (λ r. ap p (sym r.1) ∙ q) (λ r. let ne = r.1 in h.others j (omega arith) b) (eqb_tells l j) })
    (true_or_false (p l))

pub first_is : (n l : ℕ) (p : ℕ → Bool) (k : ℕ) → First n l p k → first_from n l p ≡ Some k
first_is zero l p k h = absurd (omega arith)
first_is (suc n) l p k h = ⊎_elim
    (λ q. let same = q.1 in first_from_here n l p (ap p same ∙ h.passes) ∙ ap Some same)
    (λ q. let ne = q.1 in first_from_later n l p (h.others l (omega arith) (omega arith)) ∙ first_is n (suc l) p k (record { passes = h.passes; low = omega arith; high = omega arith; others = λ j a b. h.others j (omega arith) b }))
    (eqb_tells l k)

pub first_absent : (n l : ℕ) (p : ℕ → Bool) → ((k : ℕ) → l ≤ k → k < l + n → p k ≡ false) → first_from n l p ≡ None
unfolding first_from
first_absent zero l p h = refl
first_absent (suc n) l p h = first_from_later n l p (h l (omega arith) (omega arith)) ∙ first_absent n (suc l) p (λ k a b. h k (omega arith) (omega arith))

-- the same of a search for a pair
pub some_or_none : {X : Type 0} (o : Option X) → ((x : X) × (o ≡ Some x)) ⊎ (o ≡ None)
some_or_none (Some x) = inl (x, refl)
some_or_none None = inr refl

-- u is the first of n numbers from l on to which f gives something, and that is v
pub record FirstPair (n l : ℕ) (f : ℕ → Option ℕ) (u v : ℕ) : Type 0 where
  pub gives : f u ≡ Some v
  pub low : l ≤ u
  pub high : u < l + n
  pub others : (j : ℕ) → l ≤ j → j < u → f j ≡ None

pub first_pair_here : (n l : ℕ) (f : ℕ → Option ℕ) (v : ℕ) → f l ≡ Some v → first_pair_from (suc n) l f ≡ Some (record { first = l; second = v })
unfolding first_pair_from
first_pair_here n l f v e = ap (λ o. elim o [ Some w ↦ Some (record { first = l; second = w }) | None ↦ first_pair_from n (suc l) f ]) e

pub first_pair_later : (n l : ℕ) (f : ℕ → Option ℕ) → f l ≡ None → first_pair_from (suc n) l f ≡ first_pair_from n (suc l) f
unfolding first_pair_from
first_pair_later n l f e = ap (λ o. elim o [ Some w ↦ Some (record { first = l; second = w }) | None ↦ first_pair_from n (suc l) f ]) e

pub first_pair_none : (n l : ℕ) (f : ℕ → Option ℕ) → first_pair_from n l f ≡ None → (k : ℕ) → l ≤ k → k < l + n → f k ≡ None
first_pair_none zero l f e k low high = absurd (omega arith)
first_pair_none (suc n) l f e k low high = ⊎_elim
    (λ q. let z : ◌≡◌ {A = ℕ} 0 1 = cc (first_pair_here n l f q.0 q.1) in absurd (omega arith))
    (λ q. ⊎_elim (λ h. ap f (sym h.1) ∙ q) (λ h. let ne = h.1 in first_pair_none n (suc l) f (sym (first_pair_later n l f q) ∙ e) k (omega arith) (omega arith)) (eqb_tells l k))
    (some_or_none (f l))

pub first_pair_found : (n l : ℕ) (f : ℕ → Option ℕ) (p : Pair) → first_pair_from n l f ≡ Some p → FirstPair n l f p.first p.second
unfolding first_pair_from
first_pair_found zero l f p e = let z : ◌≡◌ {A = ℕ} 0 1 = cc in absurd (omega arith)
first_pair_found (suc n) l f p e = ⊎_elim
    (λ q.
    let same : record { first = l; second = q.0 } ≡ p = cc (first_pair_here n l f q.0 q.1) in
    let one : l ≡ p.first = ap (λ r. r.first) same in
    let two : q.0 ≡ p.second = ap (λ r. r.second) same in
    record { gives = ap f (sym one) ∙ q.1 ∙ ap Some two; low = omega arith; high = omega arith; others = λ j a b. absurd (omega arith) })
    (λ q. let h = first_pair_found n (suc l) f p (sym (first_pair_later n l f q) ∙ e) in record { gives = h.gives; low = omega arith; high = omega arith; others = λ j a b. ⊎_elim (λ r. ap f (sym r.1) ∙ q) (λ r. let ne = r.1 in h.others j (omega arith) b) (eqb_tells l j) })
    (some_or_none (f l))

pub first_pair_is : (n l : ℕ) (f : ℕ → Option ℕ) (u v : ℕ) → FirstPair n l f u v → first_pair_from n l f ≡ Some (record { first = u; second = v })
first_pair_is zero l f u v h = absurd (omega arith)
first_pair_is (suc n) l f u v h = ⊎_elim
    (λ q. let same = q.1 in first_pair_here n l f v (ap f same ∙ h.gives) ∙ ap (λ k. Some (record { first = k; second = v })) same)
    (λ q. let ne = q.1 in first_pair_later n l f (h.others l (omega arith) (omega arith)) ∙ first_pair_is n (suc l) f u v (record { gives = h.gives; low = omega arith; high = omega arith; others = λ j a b. h.others j (omega arith) b }))
    (eqb_tells l u)

pub first_pair_absent : (n l : ℕ) (f : ℕ → Option ℕ) → ((k : ℕ) → l ≤ k → k < l + n → f k ≡ None) → first_pair_from n l f ≡ None
unfolding first_pair_from
first_pair_absent zero l f h = refl
first_pair_absent (suc n) l f h = first_pair_later n l f (h l (omega arith) (omega arith)) ∙ first_pair_absent n (suc l) f (λ k a b. h k (omega arith) (omega arith))

-- a run ends where there is no step, goes on by the step that there is, and stops where the budget is spent
pub ran-none : (next : Model → Option Model) (budget : ℕ) (m : Model) → next m ≡ None → ran next budget m ≡ record { model = m; steps = 0; finished = true }
unfolding ran
ran-none next zero m e = ap (λ o. record { model = m; steps = 0; finished = not (is_some o) }) e
ran-none next (suc budget) m e = ap (λ o. elim o [ None ↦ record { model = m; steps = 0; finished = true } | Some n ↦ one_more (ran next budget n) ]) e

pub ran-more : (next : Model → Option Model) (budget : ℕ) (m n : Model) → next m ≡ Some n → ran next (suc budget) m ≡ one_more (ran next budget n)
unfolding ran
ran-more next budget m n e = ap (λ o. elim o [ None ↦ record { model = m; steps = 0; finished = true } | Some k ↦ one_more (ran next budget k) ]) e

pub ran_spent : (next : Model → Option Model) (m : Model) → ran next zero m ≡ record { model = m; steps = 0; finished = not (is_some (next m)) }
unfolding ran
ran_spent next m = refl
