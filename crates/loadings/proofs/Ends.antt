-- Before the first item the amount is the amplitude of the items, and after the last that of the diagram. Assumes nothing.
use Rattle.std.proofs.Common.{◌≡◌, ℕ, ◌*◌, ◌≤◌, Bool, false, ◌&&◌, List, [], length, drop, pos, None, refl, ap, ◌∙◌, ap₂, add-zero, zero-add, arith, lt-ltb, le-leb}
use mathlib.Core.Path.{fun_ext}
use borrow.Author.Differences.{same_in}
use Rattle.amounts.specs.Amounts.{Amounts, Lawful, turned}
use Rattle.amounts.specs.Eighths.{Eighths, eighths, times}
use Rattle.amounts.proofs.Eighths.{lawful}
use Rattle.amounts.proofs.Integers.{sums}
use Rattle.amounts.proofs.Powers.{one-mul}
use Rattle.amounts.proofs.Turns.{turned_none}
use Rattle.graphs.specs.Counts.{bit}
use Rattle.graphs.specs.Graphs.{Graph, Bits, sum, turns, quarters, graph_sum}
use Rattle.graphs.proofs.Counting.{total-nothing, pairs-nothing}
use Rattle.graphs.proofs.Sums.{sum_same, sum-stands}
use Rattle.diagrams.specs.declared.items.Colour.{Colour}
use Rattle.diagrams.specs.declared.items.Item.{Item}
use Rattle.amplitudes.specs.Items.{colours, term, every_slot, terms_sum, eighth_turns, amplitude}
use Rattle.models.specs.Models.{Scalar, nothing, root, slots, spider_limit, leg_limit, open_legs, legs_from, legs_term, scaled_by, amount}
use Rattle.models.specs.Edits.{blank}
use Rattle.loadings.specs.Loadings.{Loading, beginning}
use Rattle.loadings.proofs.Weights.{weighed, summed_below}
use Rattle.loadings.proofs.OpenLegs.{no_legs_from}
use Rattle.loadings.proofs.Awaits.{awaited, awaited_after, awaited_none, seen, seen_all}
use Rattle.loadings.proofs.Wholes.{whole}
use Rattle.loadings.proofs.Values.{valued, value, scaled_equal}

-- a graph of no phase and no edge turns nothing
turns-blank : (n : ℕ) (G : Graph) (y : Bits) → ((s : ℕ) → G.phase s ≡ 0) → ((s t : ℕ) → G.edge s t ≡ false) → turns n G y ≡ 0
unfolding turns
turns-blank n G y phases edges =
    let a = total-nothing n (λ s. bit (y s) * G.phase s) (λ s l. rw (phases s) (omega arith)) in
    let b = pairs-nothing n (λ s t. bit (y s) * bit (y t) * bit (G.edge s t)) (λ s t l m. rw (edges s t) (omega arith)) in
    omega arith

module _ (A : Amounts) (laws : Lawful A) where
  pub whole-beginning : (is : List Item) (row : List Bool) → length (colours is) ≤ spider_limit → whole A beginning (colours is) is row ≡ terms_sum A is row
  unfolding blank
  whole-beginning is row few =
      ap (sum A slots P) (fun_ext plain)
      ∙ summed_below A slots c P (λ y. T (seen c (λ k. k) y)) (omega arith) (λ k h. awaited_after (λ s. false) 0 c k h)
      ∙ sum_same A c P _ T (λ y h. ap T (seen_all c y h.low))
      ∙ sum-stands A c P every_slot T (λ k l. ap₂ (λ a b. a && b) (le-leb 0 k (omega arith)) (lt-ltb k c l))
    where
      c : ℕ
      c = length (colours is)

      P : ℕ → Bool
      P = awaited (λ s. false) 0 c

      T : Bits → A.Amount
      T y = term A (colours is) is 0 row y

      none_open : legs_from leg_limit 0 (λ l. None) ≡ []
      none_open = no_legs_from leg_limit 0 (λ l. None) (λ k h. refl)

      plain : (y : Bits) → A.mul (quarters A (turns slots blank.graph y)) (A.mul (legs_term A (legs_from leg_limit 0 (λ l. None)) row y) (term A (colours is) is 0 (drop (length (legs_from leg_limit 0 (λ l. None))) row) (seen c (λ k. k) y))) ≡ T (seen c (λ k. k) y)
      plain y =
          ap₂ (λ t os. A.mul (quarters A t) (A.mul (legs_term A os row y) (term A (colours is) is 0 (drop (length os) row) (seen c (λ k. k) y)))) (turns-blank slots blank.graph y (λ s. refl) (λ s t. refl)) none_open
          ∙ ap₂ A.mul (turned_none A laws) (one-mul A laws _)
          ∙ one-mul A laws _

  pub whole_end : (s : Loading) (cs : List Colour) (row : List Bool) → length cs ≡ length s.colours → whole A s cs [] row ≡ graph_sum A slots s.model.graph (legs_term A (open_legs s.model) row)
  whole_end s cs row all =
      ap (weighed A slots (awaited s.model.graph.stands (length s.colours) (length cs)) s.model.graph) (fun_ext (λ y. laws.mul_one (legs_term A (open_legs s.model) row y)))
      ∙ sum-stands A slots _ s.model.graph.stands _ (λ k l. ap (λ c. awaited s.model.graph.stands (length s.colours) c k) all ∙ awaited_none s.model.graph.stands (length s.colours) k)

pub value_beginning : (is : List Item) (row : List Bool) → length (colours is) ≤ spider_limit → value beginning (colours is) is row ≡ amplitude is row
unfolding blank
value_beginning is row few = scaled_equal _ _ _ _ (same_in _ _ (omega (arith, sums))) (ap₂ (λ t z. times (turned eighths t) z) (zero-add (eighth_turns is)) (whole-beginning eighths lawful is row few))

pub value_end : (s : Loading) (cs : List Colour) (row : List Bool) → length cs ≡ length s.colours → value s cs [] row ≡ amount s.model row
value_end s cs row all = ap (valued s.model.scalar (pos 0) 0) (whole_end eighths lawful s cs row all) ∙ here s.model.scalar _
  where
    here : (c : Scalar) (z : Eighths) → valued c (pos 0) 0 z ≡ scaled_by c z
    here nothing z = refl
    here (root k m) z = scaled_equal _ _ _ _ (same_in _ _ (omega (arith, sums))) (ap (λ t. times (turned eighths t) z) (add-zero m))
