-- What holds of every diagram is that its model is sound, and the other way round. Assumes nothing.
use Rattle.std.proofs.Common.{◌≡◌, ℕ, ◌+◌, ◌*◌, ◌<◌, ◌≤◌, Bool, true, false, Some, sym, subst, arith}
use Rattle.graphs.specs.Counts.{bit}
use Rattle.models.specs.Models.{Model, ModelLeg, Sound, BelowFullTurn, slots, spider_limit, leg_limit, reach, reach_limit}
use Rattle.rows.specs.Rows.{has}
use Rattle.parts.specs.declared.scalar.Scalar.{Scalar}
use Rattle.parts.specs.declared.scalar.Scalar.TheVariants.{Zero, Root}
use Rattle.parts.specs.Scales.{scale_of}
use Rattle.graphlike.specs.declared.table.diagram.Diagram.{Diagram}
use Rattle.graphlike.specs.Diagrams.{model}

phase-low : (a b : Bool) → bit a + 2 * bit b < 4
phase-low true true = omega arith
phase-low true false = omega arith
phase-low false true = omega arith
phase-low false false = omega arith

turn_low : (s : Scalar) → BelowFullTurn (scale_of s)
turn_low Zero = omega arith
turn_low (Root k m) = m.bound

-- every diagram is sound
pub sound : (d : Diagram) → Sound (model d)
sound d = record {
  graph = record { symmetric = d.symmetric; loop_free = d.loopless; standing = d.standing };
  inside = d.inside;
  phases = λ s. phase-low (has d.table.phases.odd s) (has d.table.phases.half s);
  blank = d.blank;
  few = d.few;
  held = d.held;
  free = d.free;
  turn = turn_low d.table.scalar;
  range = d.range;
}

-- what a diagram owes
abbrev pub Owed : Model → Type 0
Owed m = record {
  symmetric : (s t : ℕ) → m.graph.edge s t ≡ m.graph.edge t s;
  loopless : (s : ℕ) → m.graph.edge s s ≡ false;
  standing : (s t : ℕ) → m.graph.edge s t ≡ true → m.graph.stands s ≡ true;
  inside : (s : ℕ) → m.graph.stands s ≡ true → s < slots;
  blank : (s : ℕ) → m.graph.stands s ≡ false → m.graph.phase s ≡ 0;
  few : (l : ℕ) (o : ModelLeg) → m.leg l ≡ Some o → l < leg_limit;
  held : (l : ℕ) (o : ModelLeg) → m.leg l ≡ Some o → m.graph.stands o.slot ≡ true;
  free : (l : ℕ) (o : ModelLeg) → m.leg l ≡ Some o → m.graph.stands (spider_limit + l) ≡ false;
  range : reach m ≤ reach_limit;
}

-- is that its model is sound
pub owed : (m n : Model) → m ≡ n → Sound n → Owed m
owed m n same s =
    let h : Sound m = subst Sound (sym same) s in
    record {
      symmetric = h.graph.symmetric;
      loopless = h.graph.loop_free;
      standing = h.graph.standing;
      inside = h.inside;
      blank = h.blank;
      few = h.few;
      held = h.held;
      free = h.free;
      range = h.range;
    }
