-- The sum that a point of a loading and the items to come make together, and that an item taken keeps it. Assumes nothing.
use Rattle.std.proofs.Common.{◌≡◌, ℕ, ◌+◌, ◌*◌, ◌%◌, ◌<◌, Bool, true, false, cond, List, [], ◌∷◌, ◌++◌, length, drop, sym, refl, ap, ◌∙◌, ap₂, arith, length-append}
use mathlib.Core.Path.{fun_ext}
use Rattle.amounts.specs.Amounts.{Amounts, Lawful, power, quarter}
use Rattle.amounts.proofs.Turns.{turned_none}
use Rattle.graphs.specs.Counts.{bit}
use Rattle.graphs.specs.Graphs.{Graph, Bits, put, turns, quarters}
use Rattle.graphs.proofs.Literal.{quarter-power, if_set}
use Rattle.graphs.proofs.Sums.{sum-stands}
use Rattle.diagrams.specs.declared.items.Colour.{Colour}
use Rattle.diagrams.specs.declared.items.Kind.TheVariants.{Hadamard}
use Rattle.diagrams.specs.declared.items.Spider.{Spider as SpiderData}
use Rattle.diagrams.specs.declared.items.Item.{Item}
use Rattle.diagrams.specs.declared.items.Item.TheVariants.{Spider}
use Rattle.amplitudes.specs.Items.{joint, term}
use Rattle.models.specs.Models.{slots, spider_limit, open_legs, open_count, legs_term}
use Rattle.models.specs.Edits.{placed}
use Rattle.loadings.specs.Loadings.{Loading, with_spider}
use Rattle.loadings.proofs.Weights.{weighed, turns_move}
use Rattle.loadings.proofs.Gains.{placed-turns}
use Rattle.loadings.proofs.Awaits.{awaited, awaited_next, seen, seen_below}
use Rattle.loadings.specs.Goods.{Good}

-- what the items to come are at the bits y, where cs are the colours of all spiders
abbrev pub to_come : (A : Amounts) → Loading → List Colour → List Item → List Bool → Bits → A.Amount
to_come A s cs is row y = term A cs is (length s.colours) (drop (open_count s.model) row) (seen (length cs) s.place y)

-- the sum over the slots that stand or are awaited: the graph, the open legs, and the items to come
abbrev pub whole : (A : Amounts) → Loading → List Colour → List Item → List Bool → A.Amount
whole A s cs is row = weighed A slots (awaited s.model.graph.stands (length s.colours) (length cs)) s.model.graph (λ y. A.mul (legs_term A (open_legs s.model) row y) (to_come A s cs is row y))

module _ (A : Amounts) (laws : Lawful A) where
  pub mul_left : (a b c : A.Amount) → A.mul a (A.mul b c) ≡ A.mul b (A.mul a c)
  mul_left a b c = sym (laws.mul_assoc a b c) ∙ ap (λ t. A.mul t c) (laws.mul_comm a b) ∙ laws.mul_assoc b a c

  -- a factor of quarter turns goes into the graph
  pub turned_in : (n : ℕ) (p : ℕ → Bool) (G H : Graph) (e : Bits → ℕ) (L j T : Bits → A.Amount) → ((y : Bits) → j y ≡ quarters A (e y)) → ((y : Bits) → turns n H y % 4 ≡ (turns n G y + e y) % 4) → weighed A n p G (λ y. A.mul (L y) (A.mul (j y) (T y))) ≡ weighed A n p H (λ y. A.mul (L y) (T y))
  turned_in n p G H e L j T is more =
      ap (weighed A n p G) (fun_ext (λ y. mul_left (L y) (j y) (T y) ∙ ap (λ q. A.mul q (A.mul (L y) (T y))) (is y)))
      ∙ turns_move A laws n p G H e (λ y. A.mul (L y) (T y)) more

  -- a Hadamard wire between two bits
  pub joint_hadamard : (a b : Bool) → joint A Hadamard a b ≡ quarters A (2 * (bit a * bit b))
  joint_hadamard true true = refl
  joint_hadamard true false = sym (turned_none A laws)
  joint_hadamard false true = sym (turned_none A laws)
  joint_hadamard false false = sym (turned_none A laws)

  module _ (s : Loading) (good : Good s) (cs : List Colour) (is : List Item) (row : List Bool) where
    abbrev n : ℕ
    n = length s.colours

    pub whole-spider : (d : SpiderData) → n < spider_limit → n < length cs → whole A s cs (Spider d ∷ is) row ≡ whole A (with_spider d s) cs is row
    unfolding placed
    whole-spider d low more =
        turned_in slots P s.model.graph (placed n q s.model).graph (λ y. bit (y n) * q) L (λ y. cond (seen c s.place y n) (power A (quarter A) q) A.one) (λ y. T y (n + 1)) phase
        (λ y. placed-turns slots n q s.model y (omega arith) (good.sound.blank n (good.untaken n (omega arith) low)))
        ∙ ap (λ k. weighed A slots P (placed n q s.model).graph (λ y. A.mul (L y) (T y k))) (sym next)
        ∙ sum-stands A slots P _ _ (λ k l. awaited_next s.model.graph.stands n c k more ∙ ap (λ j. awaited (put s.model.graph.stands n) j c k) (sym next))
      where
        c : ℕ
        c = length cs

        q : ℕ
        q = d.phase.parts

        P : ℕ → Bool
        P = awaited s.model.graph.stands n c

        L : Bits → A.Amount
        L y = legs_term A (open_legs s.model) row y

        T : Bits → ℕ → A.Amount
        T y k = term A cs is k (drop (open_count s.model) row) (seen c s.place y)

        next : length (s.colours ++ (d.colour ∷ [])) ≡ n + 1
        next = length-append s.colours (d.colour ∷ [])

        phase : (y : Bits) → cond (seen c s.place y n) (power A (quarter A) q) A.one ≡ quarters A (bit (y n) * q)
        phase y =
            ap₂ (λ b t. cond b t A.one) (seen_below c s.place y n more ∙ ap y (good.itself n (omega arith))) (quarter-power A laws q)
            ∙ if_set A laws (y n) q
