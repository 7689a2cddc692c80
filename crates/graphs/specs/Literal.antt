-- The term of a graph as a product, factor by factor. Assumes nothing.
use Rattle.std.specs.Prelude.{◌≡◌, ℕ, zero, suc, if◌then◌else◌, ◌&&◌}
use Rattle.amounts.specs.Amounts.{Amounts, power, turned, quarter}
use Rattle.graphs.specs.Graphs.{Graph, Bits, turns, quarters}

-- the product of f over the slots below n
unfoldable pub product : (A : Amounts) → ℕ → (ℕ → A.Amount) → A.Amount
product A zero f = A.one
product A (suc n) f = A.mul (product A n f) (f n)

-- the product of h over the pairs s < t of slots below n
unfoldable pub pair_product : (A : Amounts) → ℕ → (ℕ → ℕ → A.Amount) → A.Amount
pair_product A zero h = A.one
pair_product A (suc n) h = A.mul (pair_product A n h) (product A n (λ s. h s n))

-- i^p for each slot of phase p that is set, and -1 for each edge between two that are
abbrev pub literal : (A : Amounts) → ℕ → Graph → Bits → A.Amount
literal A n G x =
    A.mul (product A n (λ s. if x s then power A (quarter A) (G.phase s) else A.one))
    (pair_product A n (λ s t. if x s && x t && G.edge s t then turned A 4 else A.one))

-- the product is i to the power of the quarter turns
abbrev pub TurnsAreLiteral : Amounts → Type 0
TurnsAreLiteral A = (n : ℕ) (G : Graph) (x : Bits) → literal A n G x ≡ quarters A (turns n G x)
