-- The working diagram as mathematics: a graph of Z spiders and Hadamard edges over numbered slots, open
-- legs by number, and a scalar; what holds of it at all times, and its amplitude at a row. Assumes nothing.
use Rattle.std.specs.Prelude.{◌≡◌, ℕ, zero, suc, ◌+◌, ◌*◌, ◌<◌, ◌≤◌, Bool, true, false, if◌then◌else◌, List, [], ◌∷◌, length, ℤ, pos, Some, None, Option, ◌==◌, unsigned_abs}
use Rattle.amounts.specs.Amounts.{Amounts, turned}
use Rattle.amounts.specs.Eighths.{Eighths, eighths, none, times}
use Rattle.amounts.specs.Scalars.{Scaled}
use Rattle.graphs.specs.Counts.{bit, total}
use Rattle.graphs.specs.Graphs.{Graph, Bits, SoundGraph, graph_sum}
use Rattle.diagrams.specs.Limits.{limit}
use Rattle.diagrams.specs.declared.items.Kind.{Kind}
use Rattle.diagrams.specs.declared.items.Side.{Side}
use Rattle.amplitudes.specs.Items.{joint, first_bit, other_bits}

-- how many slots there are, how many of them are for spiders that are given, and how many legs there may be
abbrev pub slots : ℕ
slots = 320

abbrev pub spider_limit : ℕ
spider_limit = 256

abbrev pub leg_limit : ℕ
leg_limit = 64

-- a scalar: zero, or √2^k·w^m
pub data Scalar : Type 0 where
  nothing : Scalar
  root : ℤ → ℕ → Scalar

-- an open leg, on the spider of a slot
pub record ModelLeg : Type 0 where
  pub side : Side
  pub slot : ℕ
  pub kind : Kind

-- the open legs have the numbers under which they were given
pub record Model : Type 0 where
  pub graph : Graph
  pub leg : ℕ → Option ModelLeg
  pub scalar : Scalar

-- the open legs in order, of n numbers from l on
abbrev pub onto : Option ModelLeg → List ModelLeg → List ModelLeg
onto None os = os
onto (Some o) os = o ∷ os

unfoldable pub legs_from : ℕ → ℕ → (ℕ → Option ModelLeg) → List ModelLeg
legs_from zero l leg = []
legs_from (suc n) l leg = onto (leg l) (legs_from n (suc l) leg)

abbrev pub open_legs : Model → List ModelLeg
open_legs m = legs_from leg_limit 0 m.leg

abbrev pub open_count : Model → ℕ
open_count m = length (open_legs m)

-- how many spiders stand
abbrev pub standing : Model → ℕ
standing m = total slots (λ s. bit (m.graph.stands s))

-- whether one of the legs with numbers below n is on slot s
abbrev pub on_slot : ℕ → Option ModelLeg → Bool
on_slot s None = false
on_slot s (Some o) = o.slot == s

unfoldable pub carried : ℕ → (ℕ → Option ModelLeg) → ℕ → Bool
carried zero leg s = false
carried (suc n) leg s = if on_slot s (leg n) then true else carried n leg s

-- whether slot s has an open leg; a spider that has none is interior
abbrev pub carries : Model → ℕ → Bool
carries m s = carried leg_limit m.leg s

-- what the legs are at a row, given the bits of the slots
abbrev pub legs_term : (A : Amounts) → List ModelLeg → List Bool → Bits → A.Amount
legs_term A [] row x = A.one
legs_term A (o ∷ os) row x = A.mul (joint A o.kind (x o.slot) (first_bit row)) (legs_term A os (other_bits row) x)

-- an amount times a scalar
abbrev pub scaled_by : Scalar → Eighths → Scaled
scaled_by nothing z = record { k = pos 0; z = none }
scaled_by (root k m) z = record { k = k; z = times (turned eighths m) z }

-- the amplitude at a row: the scalar times the sum of the terms, each i^p for every spider of phase p whose
-- bit is 1, -1 for every edge between ones, and the open legs
abbrev pub amount : Model → List Bool → Scaled
amount m row = scaled_by m.scalar (graph_sum eighths slots m.graph (legs_term eighths (open_legs m) row))

-- how far from 0 the power of √2 is, and below a full turn
abbrev pub size : Scalar → ℕ
size nothing = 0
size (root k m) = unsigned_abs k

abbrev pub BelowFullTurn : Scalar → Type 0
BelowFullTurn nothing = 0 < 1
BelowFullTurn (root k m) = m < 8

-- every spider can still move the power of √2 by 2, and every open leg by 2 and become a spider
abbrev pub reach : Model → ℕ
reach m = size m.scalar + 2 * standing m + 4 * open_count m

abbrev pub reach_limit : ℕ
reach_limit = limit + 2 * slots + 4 * leg_limit

-- what holds of every working diagram: edges go both ways, never from a slot to itself, and only between
-- spiders; an empty slot has phase 0; an open leg is on a spider, and keeps the slot free in which a spider
-- would hold it
pub record Sound (m : Model) : Type 0 where
  pub graph : SoundGraph slots m.graph
  pub inside : (s : ℕ) → m.graph.stands s ≡ true → s < slots
  pub phases : (s : ℕ) → m.graph.phase s < 4
  pub blank : (s : ℕ) → m.graph.stands s ≡ false → m.graph.phase s ≡ 0
  pub few : (l : ℕ) (o : ModelLeg) → m.leg l ≡ Some o → l < leg_limit
  pub held : (l : ℕ) (o : ModelLeg) → m.leg l ≡ Some o → m.graph.stands o.slot ≡ true
  pub free : (l : ℕ) (o : ModelLeg) → m.leg l ≡ Some o → m.graph.stands (spider_limit + l) ≡ false
  pub turn : BelowFullTurn m.scalar
  pub range : reach m ≤ reach_limit
