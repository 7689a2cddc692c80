-- The three rules on a working diagram: at which spots each fits, and what it makes there. Assumes nothing.
use Rattle.std.specs.Prelude.{ℕ, ◌+◌, ◌-◌, ◌*◌, ◌%◌, Bool, false, if◌then◌else◌, not, ◌&&◌, ◌||◌, pos, ◌==◌, nat_lt}
use Rattle.graphs.specs.Counts.{bit, total}
use Rattle.graphs.specs.Graphs.{without, odd_turn}
use Rattle.graphs.specs.Rules.{xor}
use Rattle.models.specs.Models.{Scalar, nothing, Model, slots, carries}
use Rattle.models.specs.Edits.{product}

-- a spider without an open leg
abbrev pub interior : Model → ℕ → Bool
interior m u = m.graph.stands u && not (carries m u)

abbrev pub odd : Model → ℕ → Bool
odd m u = m.graph.phase u % 2 == 1

-- local complementation fits at an interior spider of odd phase
abbrev pub complement_fits : Model → ℕ → Bool
complement_fits m u = interior m u && odd m u

-- u goes, of phase p; each neighbour gains 4 - p; every two neighbours toggle their edge; √2·w at phase 1, and
-- √2·w⁷ at phase 3
unfoldable pub complemented : ℕ → Model → Model
complemented u m = record {
  graph = record {
    stands = without m.graph.stands u;
    phase = λ s. if s == u then 0 else (m.graph.phase s + bit (m.graph.edge u s) * (4 - m.graph.phase u)) % 4;
    edge = λ s t. if s == u || (t == u || s == t) then false else xor (m.graph.edge s t) (m.graph.edge u s && m.graph.edge u t);
  };
  leg = m.leg;
  scalar = product (pos 1) (odd_turn (m.graph.phase u)) m.scalar;
}

-- pivoting fits at two interior spiders u < v of even phases that are joined
abbrev pub pivot_fits : Model → ℕ → ℕ → Bool
pivot_fits m u v = nat_lt u v && (m.graph.edge u v && ((interior m u && not (odd m u)) && (interior m v && not (odd m v))))

-- what the spider of slot s gains by a pivot at u and v: beside u the phase of v, beside v that of u, and
-- beside both a half turn more
abbrev pub pivot_gain : ℕ → ℕ → Model → ℕ → ℕ
pivot_gain u v m s = bit (m.graph.edge u s) * m.graph.phase v + bit (m.graph.edge v s) * m.graph.phase u + 2 * (bit (m.graph.edge u s) * bit (m.graph.edge v s))

-- both go, of phases 2a and 2b; their neighbours gain; two neighbours of different sorts toggle; √2²·w^(4ab)
unfoldable pub pivoted : ℕ → ℕ → Model → Model
pivoted u v m = record {
  graph = record {
    stands = without (without m.graph.stands u) v;
    phase = λ s. if s == u || s == v then 0 else (m.graph.phase s + pivot_gain u v m s) % 4;
    edge = λ s t. if (s == u || s == v) || ((t == u || t == v) || s == t) then false else xor (m.graph.edge s t) (xor (m.graph.edge u s && m.graph.edge v t) (m.graph.edge v s && m.graph.edge u t));
  };
  leg = m.leg;
  scalar = product (pos 2) (m.graph.phase u * m.graph.phase v) m.scalar;
}

-- how many edges slot u has
abbrev pub degree : Model → ℕ → ℕ
degree m u = total slots (λ s. bit (m.graph.edge u s))

-- removal fits at an interior spider of even phase that has no edge
abbrev pub drop_fits : Model → ℕ → Bool
drop_fits m u = (interior m u && not (odd m u)) && degree m u == 0

-- √2² at phase 0, and zero at phase 2
abbrev pub dropped_scalar : ℕ → Scalar → Scalar
dropped_scalar p a = if p == 0 then product (pos 2) 0 a else nothing

unfoldable pub dropped : ℕ → Model → Model
dropped u m = record {
  graph = record { stands = without m.graph.stands u; phase = λ s. if s == u then 0 else m.graph.phase s; edge = m.graph.edge };
  leg = m.leg;
  scalar = dropped_scalar (m.graph.phase u) m.scalar;
}
