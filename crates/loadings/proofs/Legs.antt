-- A leg taken keeps the sum that a point of a loading and the items to come make together; held straight, it doubles it. Assumes nothing.
use Rattle.std.proofs.Common.{◌≡◌, ℕ, suc, ◌+◌, ◌*◌, ◌<◌, ◌≤◌, Bool, false, cond, eqb, List, [], ◌∷◌, ◌++◌, length, drop, Some, sym, ap, ◌∙◌, ap₂, ⊎_elim, add-one, arith, length-append}
use mathlib.Core.Path.{fun_ext}
use borrow.Author.Tests.{both_ways}
use Rattle.std.proofs.lemmas.Bool.Decides.{leb_tells}
use Rattle.amounts.specs.Amounts.{Amounts, Lawful, root_two}
use Rattle.graphs.specs.Counts.{bit}
use Rattle.graphs.specs.Graphs.{Bits, put, quarters}
use Rattle.graphs.specs.Rules.{Blind}
use Rattle.graphs.proofs.Sums.{sum-stands}
use Rattle.diagrams.specs.declared.items.Colour.{Colour}
use Rattle.diagrams.specs.declared.items.Kind.{Kind}
use Rattle.diagrams.specs.declared.items.Kind.TheVariants.{Plain, Hadamard}
use Rattle.diagrams.specs.declared.items.Side.{Side}
use Rattle.diagrams.specs.declared.items.Item.{Item}
use Rattle.amplitudes.specs.Items.{joint, first_bit, other_bits, term}
use Rattle.models.specs.Models.{ModelLeg, Model, slots, spider_limit, leg_limit, open_legs, open_count, legs_from, legs_term}
use Rattle.models.specs.Edits.{placed, gained, only_slot, toggled, attached}
use Rattle.loadings.specs.Loadings.{Loading}
use Rattle.loadings.proofs.Weights.{weighed}
use Rattle.loadings.proofs.Gains.{gained-turns}
use Rattle.loadings.proofs.Holds.{held_weighed}
use Rattle.loadings.proofs.OpenLegs.{one-leg-more, last_leg, blind_legs, drop_one_more}
use Rattle.loadings.proofs.Awaits.{awaited, awaited_stands, awaited_after, awaited_put, seen, seen_below, seen_blind}
use Rattle.loadings.specs.Goods.{Good}
use Rattle.loadings.proofs.Wholes.{whole, mul_left, turned_in, joint_hadamard}

module _ (A : Amounts) (laws : Lawful A) (s : Loading) (good : Good s) (cs : List Colour) (is : List Item) (row : List Bool) where
  abbrev n : ℕ
  n = length s.colours

  abbrev c : ℕ
  c = length cs

  abbrev P : ℕ → Bool
  P = awaited s.model.graph.stands n c

  abbrev L : Bits → A.Amount
  L y = legs_term A (open_legs s.model) row y

  abbrev T : List Bool → Bits → A.Amount
  T r y = term A cs is n r (seen c s.place y)

  -- what of the row the items to come have
  abbrev rest : List Bool
  rest = drop (open_count s.model) row

  -- the point with another diagram and a leg more
  abbrev after-leg : Model → Loading
  after-leg m = record { model = m; colours = s.colours; place = s.place; legs = s.legs + 1 }

  -- a leg of a kind at a bit, on the slot of spider j, before the items to come, which have a row
  abbrev pub before_leg : Kind → ℕ → Bool → List Bool → A.Amount
  before_leg kind j v r = weighed A slots P s.model.graph (λ y. A.mul (L y) (A.mul (joint A kind (seen c s.place y j) v) (T r y)))

  module _ (j : ℕ) (given : j < n) (all : n ≤ c) where
    abbrev a : ℕ
    a = s.place j

    low : a < slots
    low = let few = good.few in let b = good.below j given in omega arith

    bit_seen : (y : Bits) → seen c s.place y j ≡ y a
    bit_seen y = seen_below c s.place y j (omega arith)

    -- open: it is the last of the open legs
    pub whole_open : (kind : Kind) (side : Side) → s.legs < leg_limit → before_leg kind j (first_bit rest) (other_bits rest) ≡ whole A (after-leg (attached s.legs (record { side = side; slot = a; kind = kind }) s.model)) cs is row
    unfolding attached
    whole_open kind side few =
        ap (weighed A slots P s.model.graph) (fun_ext (λ y.
        sym (laws.mul_assoc (L y) (joint A kind (seen c s.place y j) (first_bit rest)) (T (other_bits rest) y))
        ∙ ap₂ A.mul
        (ap (λ v. A.mul (L y) (joint A kind v (first_bit rest))) (bit_seen y) ∙ sym (last_leg A laws (open_legs s.model) o row y) ∙ ap (λ os. legs_term A os row y) (sym more))
        (ap (λ r. T r y) fewer)))
      where
        o : ModelLeg
        o = record { side = side; slot = a; kind = kind }

        more : legs_from leg_limit 0 (λ k. cond (eqb k s.legs) (Some o) (s.model.leg k)) ≡ open_legs s.model ++ (o ∷ [])
        more = one-leg-more leg_limit 0 s.legs s.model.leg o (omega arith) (omega arith) good.unopened

        fewer : other_bits rest ≡ drop (length (legs_from leg_limit 0 (λ k. cond (eqb k s.legs) (Some o) (s.model.leg k)))) row
        fewer =
            let one : suc (open_count s.model) ≡ length (open_legs s.model ++ (o ∷ [])) = sym (length-append (open_legs s.model) (o ∷ []) ∙ add-one (open_count s.model)) in
            drop_one_more (open_count s.model) row ∙ ap (λ k. drop k row) (one ∙ sym (ap length more))

    -- held through a Hadamard box: a half turn where the bit is 1
    pub whole-turned : (v : Bool) → before_leg Hadamard j v rest ≡ whole A (after-leg (gained (only_slot a) (2 * bit v) s.model)) cs is row
    unfolding gained
    whole-turned v = turned_in A laws slots P s.model.graph (gained (only_slot a) (2 * bit v) s.model).graph (λ y. bit (y a) * (2 * bit v)) L (λ y. joint A Hadamard (seen c s.place y j) v) (T rest)
        (λ y. ap (λ b. joint A Hadamard b v) (bit_seen y) ∙ joint_hadamard A laws (y a) v ∙ ap (quarters A) (omega arith))
        (λ y. gained-turns slots a (2 * bit v) s.model y low (good.stood j given))

    -- held straight: a spider more, at twice the amount
    pub whole-held : (v : Bool) → c ≤ spider_limit → s.legs < leg_limit → whole A (after-leg (toggled (spider_limit + s.legs) a (placed (spider_limit + s.legs) (2 * bit v) s.model))) cs is row ≡ A.mul (A.mul (root_two A) (root_two A)) (before_leg Plain j v rest)
    unfolding toggled placed
    whole-held v most few =
        sum-stands A slots _ (put P u) _ (λ k l. awaited_put s.model.graph.stands n c u k)
        ∙ held_weighed A laws slots u a v P s.model (λ y. A.mul (L y) (T rest y)) good.sound.graph (awaited_stands s.model.graph.stands n c) (omega arith) low
        (awaited_after s.model.graph.stands n c u (omega arith) ∙ empty)
        (awaited_stands s.model.graph.stands n c a (good.stood j given))
        blind
        ∙ ap (λ f. A.mul (A.mul (root_two A) (root_two A)) (weighed A slots P s.model.graph f)) (fun_ext (λ y. mul_left A laws (joint A Plain (y a) v) (L y) (T rest y) ∙ ap (λ b. A.mul (L y) (A.mul (joint A Plain b v) (T rest y))) (sym (bit_seen y))))
      where
        u : ℕ
        u = spider_limit + s.legs

        empty : s.model.graph.stands u ≡ false
        empty = good.unheld s.legs (omega arith)

        elsewhere : (k : ℕ) → k < c → s.place k ≡ u → ⊥
        elsewhere k h e = ⊎_elim
            (λ q. let i = good.itself k q.1 in omega arith)
            (λ q. let b = good.below k q.1 in omega arith)
            (leb_tells n k)

        blind : Blind A (λ y. A.mul (L y) (T rest y)) u
        blind y = ap₂ A.mul
            (blind_legs A leg_limit 0 u s.model.leg row y (λ l o e q. both_ways (s.model.graph.stands u) empty (sym (ap s.model.graph.stands q) ∙ good.sound.held l o e)))
            (ap (term A cs is n rest) (seen_blind c u s.place y elsewhere))
