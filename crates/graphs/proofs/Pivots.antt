-- Pivoting keeps the sum, but for √2²·w^(4ab). Assumes nothing.
use Rattle.std.proofs.Common.{◌≡◌, ℕ, ◌+◌, ◌*◌, ◌/◌, ◌%◌, Bool, false, ◌&&◌, ◌⊎◌, sym, ap, ◌∙◌, ap₂, ⊎_elim, mul_assoc, mul_comm, arith}
use native.Mathlib.Nat.{mod-mod}
use Rattle.amounts.specs.Amounts.{Amounts, Lawful, turned, root_two}
use Rattle.amounts.proofs.Powers.{one-mul}
use Rattle.graphs.specs.Counts.{bit, total, pairs}
use Rattle.graphs.specs.Graphs.{Graph, Bits, turns, quarters}
use Rattle.graphs.specs.Rules.{xor, Pivoted, PivotSound}
use Rattle.graphs.proofs.Bitwise.{bit-xor, and_bit, bit_square, beside}
use Rattle.graphs.proofs.Counting.{total-same, total-add, total-times, pairs_mod, counting}
use Rattle.graphs.proofs.Shifts.{shift, Shifted, turns_shifted}
use Rattle.graphs.proofs.Slots.{other_than, two_out}
use Rattle.amounts.proofs.Turns.{turned-add, turned_none, turned_round, turned_same, opposite, zero-plus, add-mul}
use Rattle.graphs.proofs.Turns.{parity, quarters-same, one_and_one}

-- of two products of bits one alone counts, but for an even number
exclusive : (p q e a b c d i j : ℕ) → e + 2 * (a * b) ≡ a + b → a ≡ c * d → b ≡ i * j → (p * q * e) % 2 ≡ (p * c * (q * d) + p * i * (q * j)) % 2
exclusive p q e a b c d i j two l r =
    let h = ap (λ t. p * q * t) two in
    let hl = ap (λ t. p * q * t) l in
    let hr = ap (λ t. p * q * t) r in
    let all : p * q * e + 2 * (p * q * (a * b)) ≡ p * c * (q * d) + p * i * (q * j) = omega arith in
    even-apart (p * q * e) (p * c * (q * d) + p * i * (q * j)) (p * q * (a * b)) all
  where
    even-apart : (n m z : ℕ) → n + 2 * z ≡ m → n % 2 ≡ m % 2
    even-apart n m z e = omega arith

-- toggled pairs and common neighbours make the product
settle : (t w f d c m : ℕ) → f % 2 ≡ d % 2 → d + c ≡ m → (t + (w + c * 2 + 2 * f)) % 4 ≡ (t + (w + 2 * m)) % 4
settle t w f d c m e h =
    let g : f + 2 * (d / 2) ≡ d + 2 * (f / 2) = omega arith in
    shift (t + (w + c * 2 + 2 * f)) (t + (w + 2 * m)) (d / 2) (f / 2) (omega arith)

module _ (n u v : ℕ) (G H : Graph) (rule : Pivoted n u v G H) (x : Bits) (off_u : x u ≡ false) (off_v : x v ≡ false) where
  abbrev pu : ℕ
  pu = G.phase u

  abbrev pv : ℕ
  pv = G.phase v

  -- the neighbours of u that are set, and those of v
  abbrev f : ℕ → ℕ
  f s = bit (x s) * bit (G.edge u s)

  abbrev g : ℕ → ℕ
  g s = bit (x s) * bit (G.edge v s)

  abbrev gain : ℕ → ℕ
  gain s = bit (G.edge u s) * G.phase v + bit (G.edge v s) * G.phase u + 2 * (bit (G.edge u s) * bit (G.edge v s))

  abbrev flip : ℕ → ℕ → Bool
  flip s t = xor (G.edge u s && G.edge v t) (G.edge v s && G.edge u t)

  shifted : Shifted n G H x gain flip
  shifted = record {
    phases = λ s l on. ap (λ t. t % 4) (rule.phases s l (other_than x u off_u s on) (other_than x v off_v s on)) ∙ mod-mod (G.phase s + gain s) 4;
    edges = λ s t l m a b. rule.edges s t (omega arith) m (other_than x u off_u s a) (other_than x v off_v s a) (other_than x u off_u t b) (other_than x v off_v t b) (λ e. omega arith);
  }

  -- the phases gained: that of v for each neighbour of u, that of u for each of v, two for each of both
  gained : total n (λ s. bit (x s) * gain s) ≡ beside n G u x * pv + beside n G v x * pu + total n (λ s. f s * g s) * 2
  gained =
      let apart = total-same n (λ s. bit (x s) * gain s) (λ s. f s * pv + g s * pu + f s * g s * 2) (λ s l. once s) in
      let a = total-add n (λ s. f s * pv + g s * pu) (λ s. f s * g s * 2) in
      let b = total-add n (λ s. f s * pv) (λ s. g s * pu) in
      let c = total-times n pv f in
      let d = total-times n pu g in
      let e = total-times n 2 (λ s. f s * g s) in
      omega arith
    where
      once : (s : ℕ) → bit (x s) * gain s ≡ f s * pv + g s * pu + f s * g s * 2
      once s = let q = ap (λ t. t * (bit (G.edge u s) * bit (G.edge v s))) (bit_square (x s)) in omega arith

  flipped : pairs n (λ s t. bit (x s) * bit (x t) * bit (flip s t)) % 2 ≡ pairs n (λ s t. f s * g t + g s * f t) % 2
  flipped = pairs_mod 2 n _ _ (λ s t l m. here s t)
    where
      here : (s t : ℕ) → (bit (x s) * bit (x t) * bit (flip s t)) % 2 ≡ (f s * g t + g s * f t) % 2
      here s t =
          let two = bit-xor (G.edge u s && G.edge v t) (G.edge v s && G.edge u t) in
          exclusive (bit (x s)) (bit (x t)) _ _ _ _ _ _ _ two (and_bit (G.edge u s) (G.edge v t)) (and_bit (G.edge v s) (G.edge u t))

  turns-pivoted : turns n H x % 4 ≡ (turns n G x + (pv * beside n G u x + pu * beside n G v x + 2 * (beside n G u x * beside n G v x))) % 4
  turns-pivoted =
      let product = counting n f g in
      turns_shifted n G H x gain flip shifted
      ∙ ap (λ w. (turns n G x + (w + 2 * pairs n (λ s t. bit (x s) * bit (x t) * bit (flip s t)))) % 4) gained
      ∙ settle (turns n G x) (beside n G u x * pv + beside n G v x * pu) (pairs n (λ s t. bit (x s) * bit (x t) * bit (flip s t))) (pairs n (λ s t. f s * g t + g s * f t)) (total n (λ s. f s * g s)) (beside n G u x * beside n G v x) flipped product
      ∙ ap₂ (λ a b. (turns n G x + (a + b + 2 * (beside n G u x * beside n G v x))) % 4) (mul_comm (beside n G u x) pv) (mul_comm (beside n G v x) pu)

module _ (A : Amounts) (laws : Lawful A) where
  abbrev two : A.Amount
  two = A.mul (root_two A) (root_two A)

  -- 1 + (-1)^m + (-1)^r - (-1)^(m + r) = 2·(-1)^(m·r)
  even_terms : (m r : ℕ) → A.add (A.add A.one (quarters A (2 * m))) (A.add (quarters A (2 * r)) (quarters A (2 * r + (2 * m + 2)))) ≡ A.mul two (quarters A (2 * (m * r)))
  even_terms m r = ⊎_elim even odd (parity m)
    where
      double : (y : A.Amount) → A.add y y ≡ A.mul two y
      double y = ap₂ A.add (sym (one-mul A laws y)) (sym (one-mul A laws y)) ∙ sym (add-mul A laws A.one A.one y) ∙ ap (λ t. A.mul t y) (sym (one_and_one A laws))

      even : ((j : ℕ) × (m ≡ 2 * j)) → A.add (A.add A.one (quarters A (2 * m))) (A.add (quarters A (2 * r)) (quarters A (2 * r + (2 * m + 2)))) ≡ A.mul two (quarters A (2 * (m * r)))
      even h =
          let product : m * r ≡ 2 * (h.0 * r) = ap (λ t. t * r) h.1 ∙ mul_assoc 2 h.0 r in
          let first : quarters A (2 * m) ≡ A.one = quarters-same A laws (2 * m) 0 (omega (arith, h.1)) ∙ turned_none A laws in
          let far : 2 * (2 * r + (2 * m + 2)) ≡ 2 * (2 * r) + 4 + 8 * h.0 = omega (arith, h.1) in
          let last : A.add (quarters A (2 * r)) (quarters A (2 * r + (2 * m + 2))) ≡ A.zero =
          laws.add_comm (quarters A (2 * r)) (quarters A (2 * r + (2 * m + 2)))
          ∙ ap (λ t. A.add t (quarters A (2 * r))) (ap (turned A) far ∙ turned_round A laws (2 * (2 * r) + 4) h.0)
          ∙ opposite A laws (2 * (2 * r)) in
          let none : quarters A (2 * (m * r)) ≡ A.one = quarters-same A laws (2 * (m * r)) 0 (omega arith) ∙ turned_none A laws in
          ap₂ A.add (ap (A.add A.one) first) last
          ∙ laws.add_zero (A.add A.one A.one)
          ∙ double A.one
          ∙ ap (A.mul two) (sym none)

      odd : ((j : ℕ) × (m ≡ 2 * j + 1)) → A.add (A.add A.one (quarters A (2 * m))) (A.add (quarters A (2 * r)) (quarters A (2 * r + (2 * m + 2)))) ≡ A.mul two (quarters A (2 * (m * r)))
      odd h =
          let product : m * r ≡ 2 * (h.0 * r) + r = ap (λ t. t * r) h.1 ∙ omega arith in
          let first : A.add A.one (quarters A (2 * m)) ≡ A.zero = laws.add_comm A.one (quarters A (2 * m)) ∙ ap (λ t. A.add t A.one) (turned_same A laws (2 * (2 * m)) 4 (omega (arith, h.1))) ∙ laws.half_turn in
          let far : 2 * (2 * r + (2 * m + 2)) ≡ 2 * (2 * r) + 8 * (h.0 + 1) = omega (arith, h.1) in
          let last : quarters A (2 * r + (2 * m + 2)) ≡ quarters A (2 * r) = ap (turned A) far ∙ turned_round A laws (2 * (2 * r)) (h.0 + 1) in
          let round : 2 * (2 * (m * r)) ≡ 2 * (2 * r) + 8 * (h.0 * r) = omega arith in
          let same : quarters A (2 * r) ≡ quarters A (2 * (m * r)) = sym (ap (turned A) round ∙ turned_round A laws (2 * (2 * r)) (h.0 * r)) in
          ap₂ A.add first (ap (A.add (quarters A (2 * r))) last)
          ∙ zero-plus A laws (A.add (quarters A (2 * r)) (quarters A (2 * r)))
          ∙ double (quarters A (2 * r))
          ∙ ap (A.mul two) same

  -- the same with the phases of u and v, and with s and t of their neighbours set
  paid : (p q s t : ℕ) → (p ≡ 0) ⊎ (p ≡ 2) → (q ≡ 0) ⊎ (q ≡ 2) → A.add (A.add A.one (quarters A (p + 2 * s))) (A.add (quarters A (q + 2 * t)) (quarters A (q + 2 * t + (p + 2 * (s + 1))))) ≡ A.mul (A.mul two (turned A (p * q))) (quarters A (q * s + p * t + 2 * (s * t)))
  paid p q s t ep eq =
      let hp : p ≡ 2 * (p / 2) = ⊎_elim (λ e. omega arith) (λ e. omega arith) ep in
      let hq : q ≡ 2 * (q / 2) = ⊎_elim (λ e. omega arith) (λ e. omega arith) eq in
      let m = p / 2 + s in
      let r = q / 2 + t in
      let a : p + 2 * s ≡ 2 * m = omega arith in
      let b : q + 2 * t ≡ 2 * r = omega arith in
      let c : q + 2 * t + (p + 2 * (s + 1)) ≡ 2 * r + (2 * m + 2) = omega arith in
      let pq = ap₂ ◌*◌ hp hq in
      let qs = ap (λ y. y * s) hq in
      let pt = ap (λ y. y * t) hp in
      let e : 2 * (2 * (m * r)) ≡ p * q + 2 * (q * s + p * t + 2 * (s * t)) = omega arith in
      (λ i. A.add (A.add A.one (quarters A (a i))) (A.add (quarters A (b i)) (quarters A (c i))))
      ∙ even_terms m r
      ∙ ap (A.mul two) (ap (turned A) e ∙ turned-add A laws (p * q) (2 * (q * s + p * t + 2 * (s * t))))
      ∙ sym (laws.mul_assoc two (turned A (p * q)) (quarters A (q * s + p * t + 2 * (s * t))))

  pub pivot-sound : PivotSound A
  pivot-sound n u v G H g good rule blind-u blind-v =
      two_out A laws n u v G H g good blind-u blind-v rule.u_below rule.v_below rule.apart rule.joined rule.u_stood rule.v_stood rule.gone _
      (λ x. G.phase v * beside n G u x + G.phase u * beside n G v x + 2 * (beside n G u x * beside n G v x))
      (turns-pivoted n u v G H rule)
      (λ x. paid (G.phase u) (G.phase v) (beside n G u x) (beside n G v x) rule.u_even rule.v_even)
