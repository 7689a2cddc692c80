-- An item taken keeps the amount that a point of a loading and the items to come make together. Assumes nothing.
use Rattle.std.proofs.Common.{◌≡◌, ℕ, ◌+◌, ◌*◌, ◌<◌, ◌≤◌, min, max, Bool, true, false, eqb, List, ◌∷◌, ◌++◌, length, get_or, drop, ℤ, pos, negsuc, ◌+ℤ◌, sym, refl, ap, ◌∙◌, subst, ap₂, arith, length-append}
use lib.ListN.{get_or-append}
use Rattle.amounts.specs.Eighths.{Eighths, eighths, none, times}
use Rattle.amounts.specs.Scalars.{Same}
use Rattle.amounts.proofs.Eighths.{lawful}
use Rattle.graphs.specs.Counts.{bit}
use Rattle.graphs.specs.Graphs.{sum, turns, quarters}
use Rattle.graphs.proofs.Sums.{sum_same, sum_scale}
use Rattle.diagrams.specs.declared.items.Colour.{Colour}
use Rattle.diagrams.specs.declared.items.Colour.TheVariants.{Z}
use Rattle.diagrams.specs.declared.items.Kind.{Kind}
use Rattle.diagrams.specs.declared.items.Kind.TheVariants.{Plain, Hadamard}
use Rattle.diagrams.specs.declared.items.Setting.{Setting}
use Rattle.diagrams.specs.declared.items.Setting.TheVariants.{Open, HeldZero, HeldOne}
use Rattle.diagrams.specs.declared.items.Spider.{Spider as SpiderData}
use Rattle.diagrams.specs.declared.items.Wire.{Wire as WireData}
use Rattle.diagrams.specs.declared.items.Leg.{Leg as LegData}
use Rattle.diagrams.specs.declared.items.Factor.{Factor as FactorData}
use Rattle.diagrams.specs.declared.items.Item.{Item}
use Rattle.diagrams.specs.declared.items.Item.TheVariants.{Spider, Wire, Leg, Factor, Zero}
use Rattle.amplitudes.specs.Items.{colours, at_end, wire_kind, leg_kind, joint, leg_bit, row_after, cost, root_power, eighth_turns}
use Rattle.models.specs.Models.{Model, slots, spider_limit, leg_limit, open_count}
use Rattle.models.specs.Edits.{placed, gained, only_slot, toggled, product, scaled, zeroed, fused, attached, held}
use Rattle.loadings.specs.Loadings.{Loading, with_model, with_spider, with_fusion, with_wire, with_leg, with_one_leg, paid, goes_on, taken}
use Rattle.loadings.proofs.Weights.{zero-mul}
use Rattle.loadings.proofs.Awaits.{awaited, seen}
use Rattle.loadings.specs.Goods.{Good}
use Rattle.loadings.proofs.Taken.{spider-taken, wire-taken, leg-taken, factor_taken, zero-taken}
use Rattle.loadings.proofs.Wholes.{whole, whole-spider}
use Rattle.loadings.proofs.Wires.{before, whole-wire}
use Rattle.loadings.proofs.Legs.{before_leg, whole_open, whole-turned, whole-held}
use Rattle.loadings.proofs.Values.{valued, value, same_equal, valued_product, valued_paid, valued_halved, valued_none}

module _ (s : Loading) (good : Good s) (cs : List Colour) (is : List Item) (row : List Bool) where
  abbrev n : ℕ
  n = length s.colours

  abbrev K : ℤ
  K = root_power cs is

  abbrev M : ℕ
  M = eighth_turns is

  -- the point with another diagram and a leg more
  abbrev after : Model → Loading
  after m = record { model = m; colours = s.colours; place = s.place; legs = s.legs + 1 }

  value_spider : (d : SpiderData) → n < spider_limit → n < length cs → value s cs (Spider d ∷ is) row ≡ value (with_spider d s) cs is row
  unfolding placed
  value_spider d low more = ap (valued s.model.scalar K M) (whole-spider eighths lawful s good cs is row d low more)

  -- what a wire does to the scalar
  scalar-wire : (kind : Kind) (a b : ℕ) (z : Eighths) → valued s.model.scalar (cost kind +ℤ K) M z ≡ valued (with_wire kind a b s).model.scalar K M z
  unfolding gained toggled fused
  scalar-wire Hadamard a b z = here (eqb a b)
    where
      here : (e : Bool) → valued s.model.scalar (negsuc 0 +ℤ K) M z ≡ valued (paid Hadamard (elim e [ true ↦ gained (only_slot a) 2 s.model | false ↦ toggled a b s.model ])).scalar K M z
      here true = valued_paid Hadamard (gained (only_slot a) 2 s.model) K M z
      here false = valued_paid Hadamard (toggled a b s.model) K M z
  scalar-wire Plain a b z = here (eqb a b)
    where
      here : (e : Bool) → valued s.model.scalar (pos 0 +ℤ K) M z ≡ valued (elim e as (λ v. Loading) [ true ↦ s | false ↦ with_fusion (min a b) (max a b) s ]).model.scalar K M z
      here true = valued_paid Plain s.model K M z
      here false = valued_paid Plain s.model K M z

  value_wire : (d : WireData) → d.first < n → d.second < n → n ≤ length cs → wire_kind cs d ≡ wire_kind s.colours d → value s cs (Wire d ∷ is) row ≡ value (with_wire (wire_kind s.colours d) (s.place d.first) (s.place d.second) s) cs is row
  value_wire d first second all same =
      let kind = wire_kind s.colours d in
      ap (λ k. valued s.model.scalar (cost k +ℤ K) M (before eighths lawful s good cs is row (λ y. joint eighths k (seen (length cs) s.place y d.first) (seen (length cs) s.place y d.second)))) same
      ∙ ap (valued s.model.scalar (cost kind +ℤ K) M) (whole-wire eighths lawful s good cs is row d.first d.second first second kind all)
      ∙ scalar-wire kind (s.place d.first) (s.place d.second) _

  -- what is paid goes into the scalar alone
  whole-paid : (kind : Kind) (m : Model) → whole eighths (after m) cs is row ≡ whole eighths (after (paid kind m)) cs is row
  unfolding scaled
  whole-paid Plain m = refl
  whole-paid Hadamard m = refl

  module _ (d : LegData) (given : d.spider < n) (low : s.legs < leg_limit) (all : n ≤ length cs) (most : length cs ≤ spider_limit) where
    abbrev a : ℕ
    a = s.place d.spider

    abbrev rest : List Bool
    rest = drop (open_count s.model) row

    abbrev leg_at : Kind → Bool → List Bool → Eighths
    leg_at kind v r = before_leg eighths lawful s good cs is row kind d.spider v r

    same-paid : (kind : Kind) (m : Model) (z : Eighths) → m.scalar ≡ s.model.scalar → z ≡ whole eighths (after m) cs is row → Same (valued s.model.scalar (cost kind +ℤ K) M z) (value (after (paid kind m)) cs is row)
    same-paid kind m z scalar e = same_equal (
        ap₂ (λ c y. valued c (cost kind +ℤ K) M y) (sym scalar) (e ∙ whole-paid kind m)
        ∙ valued_paid kind m K M _)

    same-held : (kind : Kind) (v : Bool) → Same (valued s.model.scalar (cost kind +ℤ K) M (leg_at kind v rest)) (value (after (paid kind (held a kind s.legs v s.model))) cs is row)
    unfolding gained toggled placed scaled
    same-held Hadamard v = same-paid Hadamard (gained (only_slot a) (2 * bit v) s.model) _ refl (whole-turned eighths lawful s good cs is row d.spider given all v)
    same-held Plain v =
        let z = leg_at Plain v rest in
        subst (λ x. Same x (value (after (held a Plain s.legs v s.model)) cs is row)) (sym (valued_paid Plain s.model K M z))
        (subst (λ y. Same (valued s.model.scalar K M z) (valued (product (negsuc 1) 0 s.model.scalar) K M y)) (sym (whole-held eighths lawful s good cs is row d.spider given all v most low))
        (valued_halved s.model.scalar K M z))

    same-leg : (kind : Kind) (x : Setting) → Same (valued s.model.scalar (cost kind +ℤ K) M (leg_at kind (leg_bit x rest) (row_after x rest))) (value (after (paid kind (with_leg d kind a x s))) cs is row)
    unfolding attached
    same-leg kind Open = same-paid kind (attached s.legs (record { side = d.side; slot = a; kind = kind }) s.model) _ refl (whole_open eighths lawful s good cs is row d.spider given all kind d.side low)
    same-leg kind HeldZero = same-held kind false
    same-leg kind HeldOne = same-held kind true

    value_leg : leg_kind cs d ≡ leg_kind s.colours d → Same (value s cs (Leg d ∷ is) row) (value (with_one_leg d s) cs is row)
    value_leg same =
        subst (λ kind. Same (valued s.model.scalar (cost kind +ℤ K) M (leg_at kind (leg_bit d.setting rest) (row_after d.setting rest))) (value (with_one_leg d s) cs is row)) (sym same)
        (same-leg (leg_kind s.colours d) d.setting)

  value_factor : (f : FactorData) → value s cs (Factor f ∷ is) row ≡ value (with_model s (scaled f.k.exponent f.m.parts s.model)) cs is row
  unfolding scaled
  value_factor f = valued_product f.k.exponent f.m.parts s.model.scalar K M _

  -- nothing but zeros
  whole-zero : whole eighths s cs (Zero ∷ is) row ≡ none
  whole-zero =
      sum_same eighths slots P _ (λ y. times none none) (λ y h. ap (times (quarters eighths (turns slots s.model.graph y))) (lawful.mul_zero _) ∙ lawful.mul_zero _ ∙ sym (lawful.mul_zero none))
      ∙ sum_scale eighths lawful slots P none (λ y. none)
      ∙ zero-mul eighths lawful (sum eighths slots P (λ y. none))
    where
      P : ℕ → Bool
      P = awaited s.model.graph.stands n (length cs)

  value_zero : Same (value s cs (Zero ∷ is) row) (value (with_model s (zeroed s.model)) cs is row)
  unfolding zeroed
  value_zero = subst (λ z. Same (valued s.model.scalar K M z) (record { k = pos 0; z = none })) (sym whole-zero) (valued_none s.model.scalar K M)

-- cs are the colours of all spiders: those so far, and those to come
module _ (s t : Loading) (good : Good s) (is : List Item) (cs : List Colour) (most : length cs ≤ spider_limit) (row : List Bool) where
  colour_given : (ds : List Colour) → cs ≡ s.colours ++ ds → (k : ℕ) → k < length s.colours → get_or cs k Z ≡ get_or s.colours k Z
  colour_given ds e k h = ap (λ xs. get_or xs k Z) e ∙ get_or-append s.colours ds Z k h

  so_far : (ds : List Colour) → cs ≡ s.colours ++ ds → length cs ≡ length s.colours + length ds
  so_far ds e = ap length e ∙ length-append s.colours ds

  pub value_taken : (i : Item) → taken s i ≡ goes_on t → cs ≡ s.colours ++ colours (i ∷ is) → Same (value s cs (i ∷ is) row) (value t cs is row)
  value_taken (Spider d) e same =
      let on = spider-taken s t d e in
      let all = so_far (d.colour ∷ colours is) same in
      subst (λ x. Same (value s cs (Spider d ∷ is) row) (value x cs is row)) on.1
      (same_equal (value_spider s good cs is row d on.0 (omega arith)))
  value_taken (Wire d) e same =
      let on = wire-taken s t d e in
      let all = so_far (colours is) same in
      subst (λ x. Same (value s cs (Wire d ∷ is) row) (value x cs is row)) on.3
      (same_equal (value_wire s good cs is row d on.0 on.1 (omega arith)
      (ap₂ (λ x y. at_end x (at_end y d.kind)) (colour_given (colours is) same d.first on.0) (colour_given (colours is) same d.second on.1))))
  value_taken (Leg d) e same =
      let on = leg-taken s t d e in
      let all = so_far (colours is) same in
      subst (λ x. Same (value s cs (Leg d ∷ is) row) (value x cs is row)) on.3
      (value_leg s good cs is row d on.0 on.1 (omega arith) most
      (ap (λ x. at_end x d.kind) (colour_given (colours is) same d.spider on.0)))
  value_taken (Factor f) e same =
      subst (λ x. Same (value s cs (Factor f ∷ is) row) (value x cs is row)) (factor_taken s t f e).1 (same_equal (value_factor s good cs is row f))
  value_taken Zero e same =
      subst (λ x. Same (value s cs (Zero ∷ is) row) (value x cs is row)) (zero-taken s t e) (value_zero s good cs is row)
