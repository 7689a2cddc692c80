-- Changes of a working diagram, and when each can be made. Assumes nothing.
use Rattle.std.specs.Prelude.{ℕ, ◌+◌, ◌-◌, ◌*◌, ◌%◌, Bool, true, false, if◌then◌else◌, not, ◌&&◌, ◌||◌, ℤ, pos, negsuc, ◌+ℤ◌, is_some, Some, None, Option, ◌==◌, nat_le, nat_lt}
use Rattle.graphs.specs.Counts.{bit}
use Rattle.graphs.specs.Graphs.{Graph, without, put}
use Rattle.graphs.specs.Rules.{xor}
use Rattle.diagrams.specs.declared.items.Kind.{Kind}
use Rattle.diagrams.specs.declared.items.Kind.TheVariants.{Plain, Hadamard}
use Rattle.models.specs.Models.{Scalar, nothing, root, ModelLeg, Model, slots, spider_limit, leg_limit, carries, reach, reach_limit}

-- nothing at all: the amplitude is 1
unfoldable pub blank : Model
blank = record {
  graph = record { stands = λ s. false; phase = λ s. 0; edge = λ s t. false };
  leg = λ l. None;
  scalar = root (pos 0) 0;
}

-- with another graph
abbrev pub with_graph : Model → Graph → Model
with_graph m G = record { graph = G; leg = m.leg; scalar = m.scalar }

-- whether slot s is the one in which a spider would hold a leg that is open
abbrev pub reserved : Model → ℕ → Bool
reserved m s = nat_le spider_limit s && is_some (m.leg (s - spider_limit))

-- one spider more, of phase p, in an empty slot
abbrev pub can_place : ℕ → Model → Bool
can_place s m = nat_lt s slots && (not (m.graph.stands s) && (not (reserved m s) && nat_le (reach m + 2) reach_limit))

unfoldable pub placed : ℕ → ℕ → Model → Model
placed s p m = with_graph m (record { stands = put m.graph.stands s; phase = λ k. if k == s then p else m.graph.phase k; edge = m.graph.edge })

-- the spider of slot s goes, and its edges with it
abbrev pub can_remove : ℕ → Model → Bool
can_remove s m = not (carries m s)

unfoldable pub removed : ℕ → Model → Model
removed s m = with_graph m (record {
  stands = without m.graph.stands s;
  phase = λ k. if k == s then 0 else m.graph.phase k;
  edge = λ k j. if k == s || j == s then false else m.graph.edge k j;
})

-- every spider of a set of slots gains p quarter turns
unfoldable pub gained : (ℕ → Bool) → ℕ → Model → Model
gained r p m = with_graph m (record {
  stands = m.graph.stands;
  phase = λ k. if r k && m.graph.stands k then (m.graph.phase k + p) % 4 else m.graph.phase k;
  edge = m.graph.edge;
})

-- the slot a alone
abbrev pub only_slot : ℕ → ℕ → Bool
only_slot a k = k == a

-- the edge between two spiders: set where it was not, and gone where it was
abbrev pub can_join : ℕ → ℕ → Model → Bool
can_join a b m = not (a == b) && (m.graph.stands a && m.graph.stands b)

abbrev pub same_pair : ℕ → ℕ → ℕ → ℕ → Bool
same_pair a b s t = (s == a && t == b) || (s == b && t == a)

unfoldable pub toggled : ℕ → ℕ → Model → Model
toggled a b m = with_graph m (record {
  stands = m.graph.stands;
  phase = m.graph.phase;
  edge = λ s t. xor (m.graph.edge s t) (same_pair a b s t);
})

-- every two neighbours of u toggle their edge; u itself stays as it is
unfoldable pub complemented_around : ℕ → Model → Model
complemented_around u m = with_graph m (record {
  stands = m.graph.stands;
  phase = m.graph.phase;
  edge = λ s t. xor (m.graph.edge s t) (not (s == t) && (m.graph.edge u s && m.graph.edge u t));
})

-- s and t toggle where s is beside u and t beside v, or the other way round, but not both
unfoldable pub crossed : ℕ → ℕ → Model → Model
crossed u v m = with_graph m (record {
  stands = m.graph.stands;
  phase = m.graph.phase;
  edge = λ s t. xor (m.graph.edge s t) (xor (m.graph.edge u s && m.graph.edge v t) (m.graph.edge v s && m.graph.edge u t));
})

-- a scalar times √2^k·w^t; once zero, it stays so
abbrev pub product : ℤ → ℕ → Scalar → Scalar
product k t nothing = nothing
product k t (root a b) = root (a +ℤ k) ((b + t) % 8)

unfoldable pub scaled : ℤ → ℕ → Model → Model
scaled k t m = record { graph = m.graph; leg = m.leg; scalar = product k t m.scalar }

abbrev pub can_scale : ℤ → ℕ → Model → Bool
can_scale k t m = nat_le (reach (scaled k t m)) reach_limit

unfoldable pub zeroed : Model → Model
zeroed m = record { graph = m.graph; leg = m.leg; scalar = nothing }

-- the spider of slot b joins that of slot a: phases add, edges are toggled onto a, an edge between the two
-- gives a half turn, and the legs of b are on a
abbrev pub can_fuse : ℕ → ℕ → Model → Bool
can_fuse a b m = can_join a b m

abbrev pub led : ℕ → ℕ → Option ModelLeg → Option ModelLeg
led a b None = None
led a b (Some o) = Some (record { side = o.side; slot = if o.slot == b then a else o.slot; kind = o.kind })

unfoldable pub fused : ℕ → ℕ → Model → Model
fused a b m = record {
  graph = record {
    stands = without m.graph.stands b;
    phase = λ k. if k == b then 0 else if k == a then (m.graph.phase a + (m.graph.phase b + 2 * bit (m.graph.edge a b))) % 4 else m.graph.phase k;
    edge = λ s t. if s == b || (t == b || s == t) then false else xor (m.graph.edge s t) (xor (s == a && m.graph.edge b t) (t == a && m.graph.edge b s));
  };
  leg = λ l. led a b (m.leg l);
  scalar = m.scalar;
}

-- one open leg more, under a number that is free, on a spider
abbrev pub can_attach : ℕ → ModelLeg → Model → Bool
can_attach l o m = nat_lt l leg_limit && (not (is_some (m.leg l)) && (m.graph.stands o.slot && (not (m.graph.stands (spider_limit + l)) && nat_le (reach m + 4) reach_limit)))

abbrev pub with_leg : ℕ → Option ModelLeg → Model → Model
with_leg l o m = record { graph = m.graph; leg = λ k. if k == l then o else m.leg k; scalar = m.scalar }

unfoldable pub attached : ℕ → ModelLeg → Model → Model
attached l o m = with_leg l (Some o) m

-- the leg of number l is open no more
unfoldable pub detached : ℕ → Model → Model
detached l m = with_leg l None m

-- slot s is held at a bit, as by leg l of a kind: through a Hadamard box that is a half turn at 1, and
-- straight a spider in the slot of the leg, joined to s, at half the amount
abbrev pub held : ℕ → Kind → ℕ → Bool → Model → Model
held s Hadamard l b m = gained (only_slot s) (2 * bit b) m
held s Plain l b m = scaled (negsuc 1) 0 (toggled (spider_limit + l) s (placed (spider_limit + l) (2 * bit b) m))

-- the same by edits each of which is made only where it can be
abbrev pub if_can : Bool → Model → Model → Model
if_can b n m = if b then n else m

abbrev pub with_holder : ℕ → ℕ → Bool → Model → Model
with_holder s l b m =
    let p = if_can (can_place (spider_limit + l) m) (placed (spider_limit + l) (2 * bit b) m) m in
    if_can (can_join (spider_limit + l) s p) (toggled (spider_limit + l) s p) p

abbrev pub held_if : ℕ → Kind → ℕ → Bool → Model → Model
held_if s Hadamard l b m = gained (only_slot s) (2 * bit b) m
held_if s Plain l b m = if_can (can_scale (negsuc 1) 0 (with_holder s l b m)) (scaled (negsuc 1) 0 (with_holder s l b m)) (with_holder s l b m)

-- whether the amount could be halved
abbrev pub hold_pays : ℕ → Kind → ℕ → Bool → Model → Bool
hold_pays s Hadamard l b m = true
hold_pays s Plain l b m = can_scale (negsuc 1) 0 (with_holder s l b m)
