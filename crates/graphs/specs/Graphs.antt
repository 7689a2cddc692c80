-- Graphs of Z spiders and Hadamard edges, and the sum over their bits. Assumes nothing.
use Rattle.std.specs.Prelude.{◌≡◌, ℕ, zero, suc, ◌+◌, ◌*◌, Bool, true, false, if◌then◌else◌, ◌==◌}
use Rattle.amounts.specs.Amounts.{Amounts, turned}
use Rattle.graphs.specs.Counts.{bit, total, pairs}

-- slots, of which some hold a spider, with their phases in quarter turns and their edges
pub record Graph : Type 0 where
  pub stands : ℕ → Bool
  pub phase : ℕ → ℕ
  pub edge : ℕ → ℕ → Bool

-- an assignment of a bit to each slot
abbrev pub Bits : Type 0
Bits = ℕ → Bool

abbrev pub none_set : Bits
none_set k = false

-- the bits x with the bit of slot u set
abbrev pub put : Bits → ℕ → Bits
put x u k = if k == u then true else x k

-- the slots that stand without u
abbrev pub without : (ℕ → Bool) → ℕ → ℕ → Bool
without stands u k = if k == u then false else stands k

-- the sum of F over the assignments that set no slot from n on and none where nothing stands
unfoldable pub sum : (A : Amounts) → ℕ → (ℕ → Bool) → (Bits → A.Amount) → A.Amount
sum A zero stands F = F none_set
sum A (suc n) stands F = if stands n then A.add (sum A n stands F) (sum A n stands (λ x. F (put x n))) else sum A n stands F

-- the quarter turns of a term: the phase of each slot that is set, and two for each edge between two
unfoldable pub turns : ℕ → Graph → Bits → ℕ
turns n G x = total n (λ s. bit (x s) * G.phase s) + 2 * pairs n (λ s t. bit (x s) * bit (x t) * bit (G.edge s t))

-- i to the power n, for i = w²
abbrev pub quarters : (A : Amounts) → ℕ → A.Amount
quarters A n = turned A (2 * n)

-- the sum over a graph, of its terms times a factor of the bits
abbrev pub graph_sum : (A : Amounts) → ℕ → Graph → (Bits → A.Amount) → A.Amount
graph_sum A n G g = sum A n G.stands (λ x. A.mul (quarters A (turns n G x)) (g x))

-- a graph over the slots below n: edges go both ways, never from a slot to itself, and only between
-- slots that stand
pub record SoundGraph (n : ℕ) (G : Graph) : Type 0 where
  pub symmetric : (s t : ℕ) → G.edge s t ≡ G.edge t s
  pub loop_free : (s : ℕ) → G.edge s s ≡ false
  pub standing : (s t : ℕ) → G.edge s t ≡ true → G.stands s ≡ true

-- the eighth turns that complementing at phase p leaves: one at phase 1, and seven at phase 3
abbrev pub odd_turn : ℕ → ℕ
odd_turn p = if p == 1 then 1 else 7
