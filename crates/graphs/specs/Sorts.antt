-- The pivot's edges told by sorts of neighbours, and by local complementations. Assumes nothing.
use Rattle.std.specs.Prelude.{◌≡◌, ℕ, ◌+◌, ◌*◌, Bool, true, false, if◌then◌else◌, not, ◌&&◌, ◌||◌, ◌==◌, ◌≢◌}
use Rattle.graphs.specs.Counts.{bit}
use Rattle.graphs.specs.Graphs.{Graph, SoundGraph}
use Rattle.graphs.specs.Rules.{xor}

-- a slot beside u, v, both or neither
abbrev pub same_bit : Bool → Bool → Bool
same_bit a b = not (xor a b)

-- two slots, the first beside u if a and beside v if b, the other beside u if c and beside v if d, are
-- neighbours of different sorts
abbrev pub differ : Bool → Bool → Bool → Bool → Bool
differ a b c d = (a || b) && ((c || d) && not (same_bit a c && same_bit b d))

-- what a neighbour gains by its sort: of u only the phase q of v, of v only the phase p of u, of both
-- the two phases and two more
abbrev pub sort_gain : ℕ → ℕ → Bool → Bool → ℕ
sort_gain p q false false = 0
sort_gain p q true false = q
sort_gain p q false true = p
sort_gain p q true true = q + p + 2

-- the rank-two form of a pivot says the same as the sorts
pub record BySorts : Type 0 where
  pub edges : (a b c d : Bool) → xor (a && d) (b && c) ≡ differ a b c d
  pub phases : (p q : ℕ) (a b : Bool) → bit a * q + bit b * p + 2 * (bit a * bit b) ≡ sort_gain p q a b

-- the edges after local complementation at u, which itself stays
abbrev pub complemented_edges : (ℕ → ℕ → Bool) → ℕ → ℕ → ℕ → Bool
complemented_edges e u s t = xor (e s t) (if s == t then false else e u s && e u t)

-- a pivot at u and v leaves, between all other slots, the edges of three local complementations: at u,
-- at v, and at u
abbrev pub PivotIsThreeComplements : Type 0
PivotIsThreeComplements =
    (n u v : ℕ) (G : Graph) → SoundGraph n G → G.edge u v ≡ true → (u ≢ v) → (s t : ℕ) → (s ≢ u) → (s ≢ v) → (t ≢ u) → (t ≢ v) → (s ≢ t) → complemented_edges (complemented_edges (complemented_edges G.edge u) v) u s t ≡ xor (G.edge s t) (xor (G.edge u s && G.edge v t) (G.edge v s && G.edge u t))
