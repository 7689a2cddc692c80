-- A wire taken keeps the sum that a point of a loading and the items to come make together. Assumes nothing.
use Rattle.std.proofs.Common.{◌≡◌, ℕ, ◌*◌, ◌<◌, ◌≤◌, min, max, Bool, true, false, eqb, List, length, drop, sym, refl, ap, ◌∙◌, ap₂, arith, eqb-true}
use mathlib.Core.Path.{fun_ext}
use borrow.Author.Tests.{eqb-false}
use Rattle.amounts.specs.Amounts.{Amounts, Lawful}
use Rattle.amounts.proofs.Powers.{one-mul}
use Rattle.amounts.proofs.Turns.{turned_none}
use Rattle.graphs.specs.Counts.{bit}
use Rattle.graphs.specs.Graphs.{Bits, without, quarters}
use Rattle.graphs.proofs.Sums.{sum-stands}
use Rattle.diagrams.specs.declared.items.Colour.{Colour}
use Rattle.diagrams.specs.declared.items.Kind.{Kind}
use Rattle.diagrams.specs.declared.items.Kind.TheVariants.{Plain, Hadamard}
use Rattle.diagrams.specs.declared.items.Item.{Item}
use Rattle.amplitudes.specs.Items.{joint, term}
use Rattle.models.specs.Models.{slots, leg_limit, open_legs, legs_from, legs_term}
use Rattle.models.specs.Edits.{gained, only_slot, toggled, scaled, fused, led}
use Rattle.models.proofs.Counts.{legs-led}
use Rattle.loadings.specs.Loadings.{Loading, with_model, with_fusion, with_wire, paid, placed_again}
use Rattle.loadings.proofs.Weights.{weighed}
use Rattle.loadings.proofs.Gains.{gained-turns, toggled-turns}
use Rattle.loadings.proofs.Fusions.{copied, fused_weighed}
use Rattle.loadings.proofs.OpenLegs.{led-term}
use Rattle.loadings.proofs.Awaits.{awaited, awaited_stands, awaited_without, seen, seen_below, seen_again}
use Rattle.loadings.specs.Goods.{Good}
use Rattle.loadings.proofs.Guards.{by_order}
use Rattle.loadings.proofs.Wholes.{whole, to_come, mul_left, turned_in, joint_hadamard}

module _ (A : Amounts) (laws : Lawful A) where
  -- a wire from a bit to itself
  hadamard_same : (v : Bool) → joint A Hadamard v v ≡ quarters A (bit v * 2)
  hadamard_same true = refl
  hadamard_same false = sym (turned_none A laws)

  plain_same : (v : Bool) → joint A Plain v v ≡ A.one
  plain_same true = refl
  plain_same false = refl

  plain_comm : (u v : Bool) → joint A Plain u v ≡ joint A Plain v u
  plain_comm true true = refl
  plain_comm true false = refl
  plain_comm false true = refl
  plain_comm false false = refl

  module _ (s : Loading) (good : Good s) (cs : List Colour) (is : List Item) (row : List Bool) where
    abbrev n : ℕ
    n = length s.colours

    abbrev P : ℕ → Bool
    P = awaited s.model.graph.stands n (length cs)

    abbrev L : Bits → A.Amount
    L y = legs_term A (open_legs s.model) row y

    abbrev T : Bits → A.Amount
    T y = to_come A s cs is row y

    -- the sum with a factor f before the items to come
    abbrev pub before : (Bits → A.Amount) → A.Amount
    before f = weighed A slots P s.model.graph (λ y. A.mul (L y) (A.mul (f y) (T y)))

    -- given spiders are in slots below the limit
    low : (k : ℕ) → k < n → s.place k < slots
    low k h = let few = good.few in let b = good.below k h in omega arith

    fusion : (a b : ℕ) → a < slots → b < n → (a ≡ b → ⊥) → s.model.graph.stands b ≡ true → before (λ y. joint A Plain (y a) (y b)) ≡ whole A (with_fusion a b s) cs is row
    unfolding fused
    fusion a b a-low b-low apart b-stood =
        let few = good.few in
        ap (weighed A slots P s.model.graph) (fun_ext (λ y. mul_left A laws (L y) (joint A Plain (y a) (y b)) (T y)))
        ∙ fused_weighed A laws slots a b P s.model (λ y. A.mul (L y) (T y)) good.sound.graph a-low (omega arith) apart (awaited_stands s.model.graph.stands n (length cs) b b-stood)
        ∙ ap (weighed A slots (without P b) (fused a b s.model).graph) (fun_ext (λ y. ap₂ A.mul (sym (led-term A leg_limit 0 a b s.model.leg row y)) (rest y)))
        ∙ sum-stands A slots (without P b) _ _ (λ k l. sym (awaited_without s.model.graph.stands n (length cs) b k b-low))
      where
        rest : (y : Bits) → T (copied a b y) ≡ term A cs is n (drop (length (legs_from leg_limit 0 (λ l. led a b (s.model.leg l)))) row) (seen (length cs) (placed_again a b s.place) y)
        rest y = ap₂ (λ k x. term A cs is n (drop k row) x) (sym (legs-led leg_limit 0 a b s.model.leg)) (sym (seen_again (length cs) a b s.place y))

    -- between two slots: the edge toggles, or within one a half turn; or the two become one, and within one nothing changes
    module _ (j k : ℕ) (j-given : j < n) (k-given : k < n) where
      abbrev a : ℕ
      a = s.place j

      abbrev b : ℕ
      b = s.place k

      slots-wired : (kind : Kind) → before (λ y. joint A kind (y a) (y b)) ≡ whole A (with_wire kind a b s) cs is row
      unfolding gained toggled scaled
      slots-wired Hadamard = here (eqb a b) refl
        where
          here : (e : Bool) → eqb a b ≡ e → before (λ y. joint A Hadamard (y a) (y b)) ≡ whole A (with_model s (paid Hadamard (elim e [ true ↦ gained (only_slot a) 2 s.model | false ↦ toggled a b s.model ]))) cs is row
          here true e = turned_in A laws slots P s.model.graph (gained (only_slot a) 2 s.model).graph (λ y. bit (y a) * 2) L (λ y. joint A Hadamard (y a) (y b)) T
              (λ y. ap (joint A Hadamard (y a)) (ap y (sym (eqb-true a b e))) ∙ hadamard_same (y a))
              (λ y. gained-turns slots a 2 s.model y (low j j-given) (good.stood j j-given))
          here false e = turned_in A laws slots P s.model.graph (toggled a b s.model).graph (λ y. 2 * (bit (y a) * bit (y b))) L (λ y. joint A Hadamard (y a) (y b)) T
              (λ y. joint_hadamard A laws (y a) (y b))
              (λ y. toggled-turns slots a b s.model y (low j j-given) (low k k-given) (eqb-false a b e))
      slots-wired Plain = here (eqb a b) refl
        where
          swapped : before (λ y. joint A Plain (y a) (y b)) ≡ before (λ y. joint A Plain (y b) (y a))
          swapped = ap before (fun_ext (λ y. plain_comm (y a) (y b)))

          here : (e : Bool) → eqb a b ≡ e → before (λ y. joint A Plain (y a) (y b)) ≡ whole A (elim e [ true ↦ s | false ↦ with_fusion (min a b) (max a b) s ]) cs is row
          here true e = ap (weighed A slots P s.model.graph) (fun_ext (λ y. ap (A.mul (L y)) (ap (λ f. A.mul f (T y)) (ap (joint A Plain (y a)) (ap y (sym (eqb-true a b e))) ∙ plain_same (y a)) ∙ one-mul A laws (T y))))
          here false e =
              let apart = eqb-false a b e in
              by_order (λ u v. before (λ y. joint A Plain (y a) (y b)) ≡ whole A (with_fusion u v s) cs is row) a b
              (fusion a b (low j j-given) (good.below k k-given) apart (good.stood k k-given))
              (swapped ∙ fusion b a (low k k-given) (good.below j j-given) (λ q. apart (sym q)) (good.stood j j-given))

      pub whole-wire : (kind : Kind) → n ≤ length cs → before (λ y. joint A kind (seen (length cs) s.place y j) (seen (length cs) s.place y k)) ≡ whole A (with_wire kind a b s) cs is row
      whole-wire kind all =
          ap before (fun_ext (λ y. ap₂ (joint A kind) (seen_below (length cs) s.place y j (omega arith)) (seen_below (length cs) s.place y k (omega arith))))
          ∙ slots-wired kind
