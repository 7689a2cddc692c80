-- Walks over the slots of a row, the lowest first: each is shorter than the one before, and a search finds the lowest
-- slot that passes. Assumes nothing.
use Rattle.std.proofs.Common.{◌≡◌, ℕ, ◌<◌, Bool, true, false, cond, eqb, List, [], ◌∷◌, Some, None, Option, sym, refl, ap, ◌∙◌, subst, ⊎_elim, arith, MatchOption, IfSome, Bor}
use denote.Param.Members.{Mut}
use borrow.Author.Tests.{clash}
use Rattle.std.proofs.lemmas.Bool.Decides.{eqb_tells}
use Rattle.std.specs.Fn.{CalledAt}
use Rattle.std.specs.Iterator.{Yields, FindsItem}
use Rattle.std.specs.List.{FoldsTo}
use Rattle.graphs.specs.Counts.{bit, total}
use Rattle.graphs.specs.Graphs.{without}
use Rattle.graphs.proofs.Sets.{total-without}
use Rattle.graphs.proofs.Counting.{total-same}
use Rattle.rows.specs.declared.row.Row.{Row}
use Rattle.rows.specs.Rows.{has, IsBare, TakesLowest}

-- one slot fewer is left
pub fewer_left : (left more : ℕ → Bool) (w : ℕ) → w < 320 → more w ≡ true → ((k : ℕ) → left k ≡ without more w k) → total 320 (λ k. bit (left k)) < total 320 (λ k. bit (more k))
fewer_left left more w low on e =
    let same = total-same 320 (λ k. bit (left k)) (λ k. bit (without more w k)) (λ k l. ap bit (e k)) in
    let less = total-without 320 more w low on in
    omega arith

-- what was left after a slot was taken was left before
pub kept : (left more : ℕ → Bool) (n k : ℕ) → ((i : ℕ) → left i ≡ without more n i) → left k ≡ true → more k ≡ true
kept left more n k e on = go (eqb k n) (sym (e k) ∙ on)
  where
    go : (b : Bool) → cond b false (more k) ≡ true → more k ≡ true
    go true z = absurd (clash z)
    go false z = z

-- what holds of the slot that was taken, and of those that are left, holds of those that were
still : (left more : ℕ → Bool) (n k : ℕ) (P : ℕ → Type 0) → ((i : ℕ) → left i ≡ without more n i) → P n → (left k ≡ true → P k) → more k ≡ true → P k
still left more n k P e here later on = ⊎_elim (λ q. subst P (sym q.1) here) (λ q. later (e k ∙ ap (λ b. cond b false (more k)) q.0 ∙ on)) (eqb_tells k n)

-- what holds of the slot that was taken, and of those that were no longer left, holds of those that are no longer left
pub gone : (left more : ℕ → Bool) (n k : ℕ) (P : ℕ → Type 0) → ((i : ℕ) → left i ≡ without more n i) → P n → (more k ≡ false → P k) → left k ≡ false → P k
gone left more n k P e here before off = ⊎_elim (λ q. subst P (sym q.1) here) (λ q. before (sym (e k ∙ ap (λ b. cond b false (more k)) q.0) ∙ off)) (eqb_tells k n)

-- a walk whose state shows the row that is left, and whose items show their numbers
abbrev pub takes : {S A : Type 0} → (S → Row) → (A → ℕ) → S → Option A → S → Type 0
takes left number s r t = MatchOption r (IsBare (left s) × IsBare (left t)) (λ x. TakesLowest (left s) (number x) (left t))

-- `find` gives the lowest slot at which the closure answers true
pub first_taken : {S A F : Type 0} (left : S → Row) (number : A → ℕ) {g : Mut F (Bor A × Unit {0}) Bool} (s u : S) (f : F) (r : Option A) (Yes No : ℕ → Type 0) → FindsItem (takes left number) g s f r u → ((x : A) (q : F) → CalledAt g f x true q → Yes (number x)) → ((x : A) (q : F) → CalledAt g f x false q → (q ≡ f) × No (number x)) → MatchOption r ((k : ℕ) → has (left s) k ≡ true → No k) (λ x. Yes (number x) × (has (left s) (number x) ≡ true) × ((k : ℕ) → k < number x → has (left s) k ≡ true → No k))
first_taken {S} {A} {F} left number {g} s u f r Yes No found pass fail = go found.0 s f found.1 r refl found.2.0 found.2.1 found.2.2 found.3 found.4
  where
    Found : S → Option A → Type 0
    Found s r = MatchOption r ((k : ℕ) → has (left s) k ≡ true → No k) (λ x. Yes (number x) × (has (left s) (number x) ≡ true) × ((k : ℕ) → k < number x → has (left s) k ≡ true → No k))

    step : (r : Option A) (s j : S) (n : ℕ) → has (left s) n ≡ true → ((i : ℕ) → has (left j) i ≡ without (has (left s)) n i) → No n → Found j r → Found s r
    step None s j n on e here none = λ k. still (has (left j)) (has (left s)) n k No e here (none k)
    step (Some x) s j n on e here some = (some.0, kept (has (left j)) (has (left s)) n (number x) e some.1, λ k l. still (has (left j)) (has (left s)) n k No e here (some.2 k l))

    last : (r : Option A) (s t : S) (f' : F) → f' ≡ f → s ≡ t → takes left number t r u → IfSome r (λ x. (h : F) × CalledAt g f' x true h) → Found s r
    last None s t f' e q gone so = λ k on. absurd (clash (sym (gone.0 k) ∙ ap (λ j. has (left j) k) (sym q) ∙ on))
    last (Some x) s t f' e q gone so = (
      pass x so.0 (subst (λ p. CalledAt g p x true so.0) e so.1),
      ap (λ j. has (left j) (number x)) q ∙ gone.0.0,
      λ k l on. absurd (clash (sym (gone.0.1 k l) ∙ ap (λ j. has (left j) k) (sym q) ∙ on)),
    )

    go : (xs : List A) (s : S) (p f' : F) (r : Option A) → p ≡ f → (t : S) → Yields (takes left number) s xs t → takes left number t r u → FoldsTo (λ p x q. CalledAt g p x false q) p xs f' → IfSome r (λ x. (h : F) × CalledAt g f' x true h) → Found s r
    go [] s p f' r e t ys gone fo so = last r s t f' (sym fo ∙ e) ys gone so
    go (x ∷ xs) s p f' r e t ys gone fo so =
        let no = fail x fo.0 (subst (λ q. CalledAt g q x false fo.0) e fo.1) in
        step r s ys.0 (number x) ys.1.0.0 ys.1.1 no.1 (go xs ys.0 fo.0 f' r no.0 t ys.2 gone fo.2 so)
