-- How the quarter turns of a term change with the phases and edges of a graph. Assumes nothing.
use Rattle.std.proofs.Common.{◌≡◌, ℕ, ◌+◌, ◌*◌, ◌/◌, ◌%◌, ◌<◌, Bool, true, false, sym, refl, ap, ◌∙◌, arith}
use Rattle.graphs.specs.Counts.{bit, total, pairs}
use Rattle.graphs.specs.Graphs.{Graph, Bits, turns}
use Rattle.graphs.specs.Rules.{xor}
use Rattle.graphs.proofs.Bitwise.{bit-xor}
use Rattle.graphs.proofs.Counting.{total-add, total_mod, pairs-add, pairs_mod}

-- numbers that differ by multiples of 4
pub shift : (a b x y : ℕ) → a + 4 * x ≡ b + 4 * y → a % 4 ≡ b % 4
shift a b x y e = omega arith

-- phases are told but for whole turns, and edges, each of half a turn, but for two of them
assemble : (P P' E E' c d : ℕ) → P' % 4 ≡ (P + c) % 4 → E' % 2 ≡ (E + d) % 2 → (P' + 2 * E') % 4 ≡ (P + 2 * E + (c + 2 * d)) % 4
assemble P P' E E' c d p e =
    let a : P' + 4 * ((P + c) / 4) ≡ P + c + 4 * (P' / 4) = omega arith in
    let b : E' + 2 * ((E + d) / 2) ≡ E + d + 2 * (E' / 2) = omega arith in
    shift (P' + 2 * E') (P + 2 * E + (c + 2 * d)) ((P + c) / 4 + (E + d) / 2) (P' / 4 + E' / 2) (omega arith)

-- H is G with phases that gain gain, and with the edges toggled that flip says, as far as x sees it
pub record Shifted (n : ℕ) (G H : Graph) (x : Bits) (gain : ℕ → ℕ) (flip : ℕ → ℕ → Bool) : Type 0 where
  pub phases : (s : ℕ) → s < n → x s ≡ true → H.phase s % 4 ≡ (G.phase s + gain s) % 4
  pub edges : (s t : ℕ) → s < t → t < n → x s ≡ true → x t ≡ true → H.edge s t ≡ xor (G.edge s t) (flip s t)

module _ (n : ℕ) (G H : Graph) (x : Bits) (gain : ℕ → ℕ) (flip : ℕ → ℕ → Bool) (h : Shifted n G H x gain flip) where
  phases_shifted : total n (λ s. bit (x s) * H.phase s) % 4 ≡ (total n (λ s. bit (x s) * G.phase s) + total n (λ s. bit (x s) * gain s)) % 4
  phases_shifted =
      total_mod 4 n (λ s. bit (x s) * H.phase s) (λ s. bit (x s) * G.phase s + bit (x s) * gain s) (λ s l. here s l (x s) refl)
      ∙ ap (λ t. t % 4) (total-add n (λ s. bit (x s) * G.phase s) (λ s. bit (x s) * gain s))
    where
      here : (s : ℕ) → s < n → (b : Bool) → x s ≡ b → (bit b * H.phase s) % 4 ≡ (bit b * G.phase s + bit b * gain s) % 4
      here s l true on =
          let one : 1 * H.phase s ≡ H.phase s = omega arith in
          let all : 1 * G.phase s + 1 * gain s ≡ G.phase s + gain s = omega arith in
          ap (λ t. t % 4) one ∙ h.phases s l on ∙ sym (ap (λ t. t % 4) all)
      here s l false on = ap (λ t. t % 4) (omega arith)

  edges_shifted : pairs n (λ s t. bit (x s) * bit (x t) * bit (H.edge s t)) % 2 ≡ (pairs n (λ s t. bit (x s) * bit (x t) * bit (G.edge s t)) + pairs n (λ s t. bit (x s) * bit (x t) * bit (flip s t))) % 2
  edges_shifted =
      pairs_mod 2 n (λ s t. bit (x s) * bit (x t) * bit (H.edge s t)) (λ s t. bit (x s) * bit (x t) * bit (G.edge s t) + bit (x s) * bit (x t) * bit (flip s t)) (λ s t l m. here s t l m (x s) (x t) refl refl)
      ∙ ap (λ t. t % 2) (pairs-add n (λ s t. bit (x s) * bit (x t) * bit (G.edge s t)) (λ s t. bit (x s) * bit (x t) * bit (flip s t)))
    where
      here : (s t : ℕ) → s < t → t < n → (a b : Bool) → x s ≡ a → x t ≡ b → (bit a * bit b * bit (H.edge s t)) % 2 ≡ (bit a * bit b * bit (G.edge s t) + bit a * bit b * bit (flip s t)) % 2
      here s t l m true true p q = let edge = ap bit (h.edges s t l m p q) in let two = bit-xor (G.edge s t) (flip s t) in omega arith
      here s t l m true false p q = ap (λ r. r % 2) (omega arith)
      here s t l m false b p q = ap (λ r. r % 2) (omega arith)

  pub turns_shifted : turns n H x % 4 ≡ (turns n G x + (total n (λ s. bit (x s) * gain s) + 2 * pairs n (λ s t. bit (x s) * bit (x t) * bit (flip s t)))) % 4
  unfolding turns
  turns_shifted = assemble _ _ _ _ _ _ phases_shifted edges_shifted
