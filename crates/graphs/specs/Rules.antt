-- The three rules as relations between a graph before and after. Assumes nothing.
use Rattle.std.specs.Prelude.{◌≡◌, ℕ, ◌+◌, ◌-◌, ◌*◌, ◌%◌, ◌<◌, Bool, true, false, if◌then◌else◌, ◌&&◌, ◌⊎◌, ◌==◌, ◌≢◌}
use Rattle.amounts.specs.Amounts.{Amounts, turned, root_two}
use Rattle.graphs.specs.Counts.{bit}
use Rattle.graphs.specs.Graphs.{Graph, Bits, SoundGraph, put, without, graph_sum, odd_turn}

abbrev pub xor : Bool → Bool → Bool
xor false b = b
xor true false = true
xor true true = false

-- local complementation at u, of odd phase p: u goes, each neighbour gains 4 - p quarter turns, and
-- every two neighbours toggle their edge
pub record Complemented (n u : ℕ) (G H : Graph) : Type 0 where
  pub below : u < n
  pub stood : G.stands u ≡ true
  pub odd : (G.phase u ≡ 1) ⊎ (G.phase u ≡ 3)
  pub gone : (s : ℕ) → H.stands s ≡ without G.stands u s
  pub phases : (s : ℕ) → s < n → (s ≢ u) → H.phase s ≡ (G.phase s + bit (G.edge u s) * (4 - G.phase u)) % 4
  pub edges : (s t : ℕ) → s < n → t < n → (s ≢ u) → (t ≢ u) → (s ≢ t) → H.edge s t ≡ xor (G.edge s t) (G.edge u s && G.edge u t)

-- a factor that does not look at the bit of u
abbrev pub Blind : (A : Amounts) → (Bits → A.Amount) → ℕ → Type 0
Blind A g u = (x : Bits) → g (put x u) ≡ g x

-- local complementation pays √2·w at phase 1, and √2·w⁷ at phase 3
abbrev pub ComplementSound : Amounts → Type 0
ComplementSound A =
    (n u : ℕ) (G H : Graph) (g : Bits → A.Amount) → SoundGraph n G → Complemented n u G H → Blind A g u → graph_sum A n G g ≡ A.mul (A.mul (root_two A) (turned A (odd_turn (G.phase u)))) (graph_sum A n H g)

-- removal of an isolated u of phase 0 or 2
pub record Dropped (n u : ℕ) (G H : Graph) : Type 0 where
  pub below : u < n
  pub stood : G.stands u ≡ true
  pub even : (G.phase u ≡ 0) ⊎ (G.phase u ≡ 2)
  pub alone : (s : ℕ) → s < n → G.edge u s ≡ false
  pub gone : (s : ℕ) → H.stands s ≡ without G.stands u s
  pub phases : (s : ℕ) → s < n → (s ≢ u) → H.phase s ≡ G.phase s
  pub edges : (s t : ℕ) → s < n → t < n → (s ≢ u) → (t ≢ u) → (s ≢ t) → H.edge s t ≡ G.edge s t

-- removal pays √2² at phase 0, and makes all zero at phase 2
abbrev pub drop_pays : (A : Amounts) → ℕ → A.Amount
drop_pays A p = if p == 0 then A.mul (root_two A) (root_two A) else A.zero

abbrev pub DropSound : Amounts → Type 0
DropSound A =
    (n u : ℕ) (G H : Graph) (g : Bits → A.Amount) → SoundGraph n G → Dropped n u G H → Blind A g u → graph_sum A n G g ≡ A.mul (drop_pays A (G.phase u)) (graph_sum A n H g)

-- pivoting at u and v, joined, of even phases: both go; each neighbour of u gains the phase of v, each
-- of v that of u, and each of both two more; and the edge of s and t toggles where s is beside u and t
-- beside v, or the other way round, but not both
pub record Pivoted (n u v : ℕ) (G H : Graph) : Type 0 where
  pub u_below : u < n
  pub v_below : v < n
  pub apart : u ≡ v → ⊥
  pub u_stood : G.stands u ≡ true
  pub v_stood : G.stands v ≡ true
  pub joined : G.edge u v ≡ true
  pub u_even : (G.phase u ≡ 0) ⊎ (G.phase u ≡ 2)
  pub v_even : (G.phase v ≡ 0) ⊎ (G.phase v ≡ 2)
  pub gone : (s : ℕ) → H.stands s ≡ without (without G.stands u) v s
  pub phases : (s : ℕ) → s < n → (s ≢ u) → (s ≢ v) → H.phase s ≡ (G.phase s + (bit (G.edge u s) * G.phase v + bit (G.edge v s) * G.phase u + 2 * (bit (G.edge u s) * bit (G.edge v s)))) % 4
  pub edges : (s t : ℕ) → s < n → t < n → (s ≢ u) → (s ≢ v) → (t ≢ u) → (t ≢ v) → (s ≢ t) → H.edge s t ≡ xor (G.edge s t) (xor (G.edge u s && G.edge v t) (G.edge v s && G.edge u t))

-- pivoting at phases 2a and 2b pays √2²·w^(4ab)
abbrev pub PivotSound : Amounts → Type 0
PivotSound A =
    (n u v : ℕ) (G H : Graph) (g : Bits → A.Amount) → SoundGraph n G → Pivoted n u v G H → Blind A g u → Blind A g v → graph_sum A n G g ≡ A.mul (A.mul (A.mul (root_two A) (root_two A)) (turned A (G.phase u * G.phase v))) (graph_sum A n H g)
