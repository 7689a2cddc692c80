-- What sums of powers of the eighth turn are, in any lawful system. Assumes nothing.
use Rattle.std.proofs.Common.{◌≡◌, ℕ, zero, suc, ◌+◌, ◌-◌, ◌*◌, ◌/◌, ◌%◌, ◌≤◌, ◌⊎◌, sym, refl, ap, ◌∙◌, subst, ap₂, inl, inr, ⊎_elim, arith}
use Rattle.amounts.specs.Amounts.{Amounts, Lawful, turned, root_two}
use Rattle.amounts.proofs.Turns.{add-mul, turned-add, turned_none, opposite, whole-turn, turned_same}
use Rattle.graphs.specs.Graphs.{quarters, odd_turn}
use Rattle.graphs.proofs.Sums.{add_swap}

-- a number is even or odd, and what its square then is
pub parity : (k : ℕ) → ((j : ℕ) × (k ≡ 2 * j)) ⊎ ((j : ℕ) × (k ≡ 2 * j + 1))
parity k = go (k % 2) refl
  where
    go : (r : ℕ) → k % 2 ≡ r → ((j : ℕ) × (k ≡ 2 * j)) ⊎ ((j : ℕ) × (k ≡ 2 * j + 1))
    go zero e = inl (k / 2, omega arith)
    go (suc zero) e = inr (k / 2, omega arith)
    go (suc (suc r)) e = absurd (omega arith)

pub square_le : (k : ℕ) → k ≤ k * k
square_le zero = omega arith
square_le (suc n) = omega arith

even_square : (k j : ℕ) → k ≡ 2 * j → k * k ≡ 4 * (j * j)
even_square k j e = rw e (omega arith)

odd_square : (k j : ℕ) → k ≡ 2 * j + 1 → k * k ≡ 4 * (j * j) + 4 * j + 1
odd_square k j e = rw e (omega arith)

module _ (A : Amounts) (laws : Lawful A) where
  pub quarters-same : (m n : ℕ) → m % 4 ≡ n % 4 → quarters A m ≡ quarters A n
  quarters-same m n e = turned_same A laws (2 * m) (2 * n) (omega arith)

  pub quarters-add : (m n : ℕ) → quarters A (m + n) ≡ A.mul (quarters A m) (quarters A n)
  quarters-add m n = let e : 2 * (m + n) ≡ 2 * m + 2 * n = omega arith in ap (turned A) e ∙ turned-add A laws (2 * m) (2 * n)

  -- √2·w^n
  root-turned : (n : ℕ) → A.mul (root_two A) (turned A n) ≡ A.add (turned A (1 + n)) (turned A (7 + n))
  root-turned n = add-mul A laws (turned A 1) (turned A 7) (turned A n) ∙ ap₂ A.add (sym (turned-add A laws 1 n)) (sym (turned-add A laws 7 n))

  -- 1 + i = √2·w and 1 - i = √2·w⁷, and any power of w times these
  pub one-plus : (n : ℕ) → A.add (turned A n) (turned A (n + 2)) ≡ A.mul (root_two A) (turned A (n + 1))
  one-plus n =
      laws.add_comm (turned A n) (turned A (n + 2))
      ∙ ap₂ A.add (turned_same A laws (n + 2) (1 + (n + 1)) (omega arith)) (turned_same A laws n (7 + (n + 1)) (omega arith))
      ∙ sym (root-turned (n + 1))

  -- 1 + 1 = √2²
  pub one_and_one : A.mul (root_two A) (root_two A) ≡ A.add A.one A.one
  one_and_one =
      laws.mul_add (root_two A) (turned A 1) (turned A 7)
      ∙ ap₂ A.add (root-turned 1) (root-turned 7)
      ∙ ap₂ A.add (laws.add_comm (turned A 2) (turned A 8) ∙ ap (λ t. A.add t (turned A 2)) (whole-turn A laws)) (ap₂ A.add (whole-turn A laws) (turned_same A laws 14 6 refl))
      ∙ add_swap A laws A.one (turned A 2) A.one (turned A 6)
      ∙ ap (A.add (A.add A.one A.one)) (laws.add_comm (turned A 2) (turned A 6) ∙ opposite A laws 2)
      ∙ laws.add_zero (A.add A.one A.one)

  -- 1 + i = √2·w, and 1 + i³ = √2·w⁷
  plus : (m : ℕ) → m % 8 ≡ 2 → A.add A.one (turned A m) ≡ A.mul (root_two A) (turned A 1)
  plus m e = ap₂ A.add (sym (turned_none A laws)) (turned_same A laws m (0 + 2) e) ∙ one-plus 0

  minus : (m : ℕ) → m % 8 ≡ 6 → A.add A.one (turned A m) ≡ A.mul (root_two A) (turned A 7)
  minus m e = laws.add_comm A.one (turned A m) ∙ ap₂ A.add (turned_same A laws m 6 e) (sym (whole-turn A laws)) ∙ one-plus 6

  -- the same with c eighth turns apart
  apart : (c e : ℕ) (x : A.Amount) → x ≡ A.mul (root_two A) (turned A (c + 2 * e)) → x ≡ A.mul (A.mul (root_two A) (turned A c)) (quarters A e)
  apart c e x h = h ∙ ap (A.mul (root_two A)) (turned-add A laws c (2 * e)) ∙ sym (laws.mul_assoc (root_two A) (turned A c) (turned A (2 * e)))

  first_terms : (k e : ℕ) → e % 4 ≡ (3 * k + (k * k - k)) % 4 → A.add A.one (quarters A (1 + 2 * k)) ≡ A.mul (A.mul (root_two A) (turned A 1)) (quarters A e)
  first_terms k e same = apart 1 e _ (⊎_elim
      (λ h. plus (2 * (1 + 2 * k)) (omega arith) ∙ ap (A.mul (root_two A)) (turned_same A laws 1 (1 + 2 * e)
      (let s = even_square k h.0 h.1 in
      let l = square_le k in
      let z : 3 * k + (k * k - k) ≡ 4 * (h.0 + h.0 * h.0) = omega (arith, h.1) in
      omega (arith, same ∙ ap (λ t. t % 4) z))))
      (λ h. minus (2 * (1 + 2 * k)) (omega arith) ∙ ap (A.mul (root_two A)) (turned_same A laws 7 (1 + 2 * e)
      (let s = odd_square k h.0 h.1 in
      let z : 3 * k + (k * k - k) ≡ 4 * (h.0 * h.0 + 2 * h.0) + 3 = omega (arith, h.1) in
      omega (arith, same ∙ ap (λ t. t % 4) z))))
      (parity k))

  third_terms : (k e : ℕ) → e % 4 ≡ (k + (k * k - k)) % 4 → A.add A.one (quarters A (3 + 2 * k)) ≡ A.mul (A.mul (root_two A) (turned A 7)) (quarters A e)
  third_terms k e same = apart 7 e _ (⊎_elim
      (λ h. minus (2 * (3 + 2 * k)) (omega arith) ∙ ap (A.mul (root_two A)) (turned_same A laws 7 (7 + 2 * e) (let s = even_square k h.0 h.1 in let l = square_le k in omega arith)))
      (λ h. plus (2 * (3 + 2 * k)) (omega arith) ∙ ap (A.mul (root_two A)) (turned_same A laws 1 (7 + 2 * e) (let s = odd_square k h.0 h.1 in omega arith)))
      (parity k))

  -- the two terms of a slot of odd phase p, of whose neighbours k are set: 1 + i^p·(-1)^k
  pub odd_terms : (p k e : ℕ) → (p ≡ 1) ⊎ (p ≡ 3) → e % 4 ≡ ((4 - p) * k + (k * k - k)) % 4 → A.add A.one (quarters A (p + 2 * k)) ≡ A.mul (A.mul (root_two A) (turned A (odd_turn p))) (quarters A e)
  odd_terms p k e odd same = ⊎_elim
      (λ h. subst (λ r. e % 4 ≡ ((4 - r) * k + (k * k - k)) % 4 → A.add A.one (quarters A (r + 2 * k)) ≡ A.mul (A.mul (root_two A) (turned A (odd_turn r))) (quarters A e)) (sym h) (λ q. first_terms k e q) same)
      (λ h. subst (λ r. e % 4 ≡ ((4 - r) * k + (k * k - k)) % 4 → A.add A.one (quarters A (r + 2 * k)) ≡ A.mul (A.mul (root_two A) (turned A (odd_turn r))) (quarters A e)) (sym h) (λ q. third_terms k e (let z : (1 * k + (k * k - k)) % 4 ≡ (k + (k * k - k)) % 4 = ap (λ t. (t + (k * k - k)) % 4) (omega arith) in q ∙ z)) same)
      odd
