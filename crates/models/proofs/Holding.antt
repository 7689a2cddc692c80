-- Holding a slot at a bit: by a spider of the bit's phase, at twice the amount, or by a half turn. Assumes nothing.
use Rattle.std.proofs.Common.{◌≡◌, ℕ, ◌+◌, ◌*◌, ◌%◌, ◌<◌, Bool, true, false, cond, ◌&&◌, ◌||◌, eqb, sym, refl, ap, ◌∙◌, ap₂, arith, eq-eqb, ne_eqb, eqb-true}
use mathlib.Core.Bool.{and_comm, and-false, or_comm, or-false}
use borrow.Author.Tests.{both_ways}
use Rattle.amounts.specs.Amounts.{Amounts, Lawful, turned, root_two}
use Rattle.amounts.proofs.Turns.{add-mul, turned_none, turned_same}
use Rattle.graphs.specs.Counts.{bit, total, pairs}
use Rattle.graphs.specs.Graphs.{Graph, Bits, SoundGraph, put, without, turns, quarters, graph_sum}
use Rattle.graphs.specs.Rules.{xor, Blind}
use Rattle.graphs.proofs.Bitwise.{beside, turns-put}
use Rattle.graphs.proofs.Counting.{at, total-same, total_at, pairs-same, pairs-nothing}
use Rattle.graphs.proofs.Shifts.{turns_shifted}
use Rattle.graphs.proofs.Slots.{other_than}
use Rattle.graphs.proofs.Sums.{Within, sum_same, sum-stands, sum_scale, sum_split}
use Rattle.graphs.proofs.Turns.{quarters-add, quarters-same, one_and_one}
use Rattle.diagrams.specs.declared.items.Kind.TheVariants.{Plain, Hadamard}
use Rattle.amplitudes.specs.Items.{joint}
use Rattle.models.specs.Models.{Model}
use Rattle.models.specs.Edits.{placed, toggled, gained, only_slot, same_pair}

-- the pair of a and b is told alike either way round
same_pair_swap : (a b s t : ℕ) → same_pair a b s t ≡ same_pair a b t s
same_pair_swap a b s t = ap₂ ◌||◌ (and_comm (eqb s a) (eqb t b)) (and_comm (eqb s b) (eqb t a)) ∙ or_comm (eqb t b && eqb s a) (eqb t a && eqb s b)

xor_false : (e : Bool) → xor e false ≡ e
xor_false true = refl
xor_false false = refl

-- bits that set only slots that stand do not set one that does not
off_where : (n u : ℕ) (stands : ℕ → Bool) (x : Bits) → stands u ≡ false → Within n stands x → x u ≡ false
off_where n u stands x none h = go (x u) refl
  where
    go : (b : Bool) → x u ≡ b → b ≡ false
    go true e = absurd (both_ways (stands u) none (h.on u e))
    go false e = refl

-- where two graphs agree on what is set, the quarter turns agree
pub turns_alike : (n : ℕ) (G H : Graph) (x : Bits) → ((k : ℕ) → x k ≡ true → H.phase k ≡ G.phase k) → ((k j : ℕ) → x k ≡ true → x j ≡ true → H.edge k j ≡ G.edge k j) → turns n H x ≡ turns n G x
unfolding turns
turns_alike n G H x phases edges = ap₂ (λ p e. p + 2 * e) (total-same n _ _ (λ k l. phase k (x k) refl)) (pairs-same n _ _ (λ k j l i. edge k j (x k) (x j) refl refl))
  where
    phase : (k : ℕ) (b : Bool) → x k ≡ b → bit b * H.phase k ≡ bit b * G.phase k
    phase k true e = ap (λ p. 1 * p) (phases k e)
    phase k false e = omega arith

    edge : (k j : ℕ) (a b : Bool) → x k ≡ a → x j ≡ b → bit a * bit b * bit (H.edge k j) ≡ bit a * bit b * bit (G.edge k j)
    edge k j true true e f = ap (λ q. 1 * bit q) (edges k j e f)
    edge k j true false e f = omega arith
    edge k j false b e f = omega arith

-- a new spider h that holds s, of phase p
module _ (n h s p : ℕ) (m : Model) (good : SoundGraph n m.graph) (empty : m.graph.stands h ≡ false) (stood : m.graph.stands s ≡ true) where
  abbrev G : Graph
  G = m.graph

  abbrev H : Graph
  H = (toggled h s (placed h p m)).graph

  apart : h ≡ s → ⊥
  apart e = both_ways (G.stands h) empty (ap G.stands e ∙ stood)

  edge_none : (k : ℕ) → G.edge h k ≡ false
  edge_none k = go (G.edge h k) refl
    where
      go : (b : Bool) → G.edge h k ≡ b → b ≡ false
      go true e = absurd (both_ways (G.stands h) empty (good.standing h k e))
      go false e = refl

  holding_sound : SoundGraph n H
  unfolding toggled placed
  holding_sound = record {
    symmetric = λ a b. ap₂ xor (good.symmetric a b) (same_pair_swap h s a b);
    loop_free = λ a. ap₂ xor (good.loop_free a) (loop a);
    standing = λ a b e. stands a b (eqb a h) (eqb a s) (G.edge a b) refl refl refl e;
  }
    where
      loop : (a : ℕ) → same_pair h s a a ≡ false
      loop a = go (eqb a h) (eqb a s) refl refl
        where
          go : (q r : Bool) → eqb a h ≡ q → eqb a s ≡ r → (q && r) || (r && q) ≡ false
          go true true e f = absurd (apart (sym (eqb-true a h e) ∙ eqb-true a s f))
          go true false e f = refl
          go false true e f = refl
          go false false e f = refl

      stands : (a b : ℕ) (q r e : Bool) → eqb a h ≡ q → eqb a s ≡ r → G.edge a b ≡ e → xor e ((q && eqb b s) || (r && eqb b h)) ≡ true → cond q true (G.stands a) ≡ true
      stands a b true r e f g i j = refl
      stands a b false true e f g i j = ap G.stands (eqb-true a s g) ∙ stood
      stands a b false false true f g i j = good.standing a b i
      stands a b false false false f g i j = absurd (both_ways false refl j)

  -- while h is not set the turns are those without it, and set it adds p, and two where s is set
  holding_off : (x : Bits) → x h ≡ false → turns n H x ≡ turns n G x
  unfolding toggled placed
  holding_off x off = turns_alike n G H x
      (λ k on. ap (λ b. cond b p (G.phase k)) (ne_eqb k h (other_than x h off k on)))
      (λ k j a b. ap (xor (G.edge k j)) (ap₂ (λ q r. (q && eqb j s) || (eqb k s && r)) (ne_eqb k h (other_than x h off k a)) (ne_eqb j h (other_than x h off j b)) ∙ and-false (eqb k s)) ∙ xor_false (G.edge k j))

  beside_holding : (x : Bits) → s < n → beside n H h x ≡ bit (x s)
  unfolding toggled placed
  beside_holding x low =
      total-same n (λ k. bit (x k) * bit (H.edge h k)) (λ k. at s k * bit (x k)) (λ k l. ap (λ e. bit (x k) * bit e) (only k) ∙ omega arith)
      ∙ total_at n s (λ k. bit (x k)) low
    where
      only : (k : ℕ) → xor (G.edge h k) (same_pair h s h k) ≡ eqb k s
      only k = ap₂ xor (edge_none k) (ap₂ (λ q r. (q && eqb k s) || (r && eqb k h)) (eq-eqb h h refl) (ne_eqb h s apart)) ∙ or-false (eqb k s)

  stands_holding : (k : ℕ) → H.stands k ≡ put G.stands h k
  unfolding toggled placed
  stands_holding k = refl

  phase_holding : H.phase h ≡ p
  unfolding toggled placed
  phase_holding = ap (λ b. cond b p (G.phase h)) (eq-eqb h h refl)

  holding_on : (x : Bits) → h < n → s < n → x h ≡ false → turns n H (put x h) ≡ turns n G x + (p + 2 * bit (x s))
  holding_on x low under off =
      turns-put n h H holding_sound x low off ∙ ap₂ ◌+◌ (holding_off x off) (ap₂ (λ q b. q + 2 * b) phase_holding (beside_holding x under))

-- a gain of p at the slots of r is p for each of them that is set
pub turns-gained : (n : ℕ) (r : ℕ → Bool) (p : ℕ) (m : Model) (x : Bits) → ((k : ℕ) → x k ≡ true → m.graph.stands k ≡ true) → turns n (gained r p m).graph x % 4 ≡ (turns n m.graph x + total n (λ k. bit (x k) * (bit (r k) * p))) % 4
unfolding gained
turns-gained n r p m x on =
    turns_shifted n m.graph _ x (λ k. bit (r k) * p) (λ s t. false) (record {
      phases = λ k l e. ap (λ b. cond (r k && b) ((m.graph.phase k + p) % 4) (m.graph.phase k) % 4) (on k e) ∙ here (m.graph.phase k) (r k);
      edges = λ s t l i a b. sym (xor_false (m.graph.edge s t));
    })
    ∙ ap (λ q. q % 4) rest
  where
    here : (q : ℕ) (b : Bool) → cond (b && true) ((q + p) % 4) q % 4 ≡ (q + bit b * p) % 4
    here q true = omega arith
    here q false = ap (λ c. c % 4) (omega arith)

    rest : turns n m.graph x + (total n (λ k. bit (x k) * (bit (r k) * p)) + 2 * pairs n (λ s t. bit (x s) * bit (x t) * bit false)) ≡ turns n m.graph x + total n (λ k. bit (x k) * (bit (r k) * p))
    rest = let none = pairs-nothing n (λ s t. bit (x s) * bit (x t) * bit false) (λ s t l i. omega arith) in omega arith

module _ (A : Amounts) (laws : Lawful A) where
  abbrev two : A.Amount
  two = A.mul (root_two A) (root_two A)

  -- 1 + (-1)^(a + b) is 2 where the bits are equal, and else 0
  held_terms : (a b : Bool) → A.add A.one (quarters A (2 * bit b + 2 * bit a)) ≡ A.mul two (joint A Plain a b)
  held_terms false false = ap (A.add A.one) (turned_none A laws) ∙ sym (one_and_one A laws) ∙ sym (laws.mul_one two)
  held_terms true true = ap (A.add A.one) (turned_same A laws 8 0 refl ∙ turned_none A laws) ∙ sym (one_and_one A laws) ∙ sym (laws.mul_one two)
  held_terms false true = laws.add_comm A.one (turned A 4) ∙ laws.half_turn ∙ sym (laws.mul_zero two)
  held_terms true false = laws.add_comm A.one (turned A 4) ∙ laws.half_turn ∙ sym (laws.mul_zero two)

  -- two terms that have t in common
  taken_out : (t q c j g : A.Amount) → A.add A.one q ≡ A.mul c j → A.add (A.mul t g) (A.mul (A.mul t q) g) ≡ A.mul c (A.mul t (A.mul j g))
  taken_out t q c j g h =
      ap (λ y. A.add (A.mul y g) (A.mul (A.mul t q) g)) (sym (laws.mul_one t))
      ∙ sym (add-mul A laws (A.mul t A.one) (A.mul t q) g)
      ∙ ap (λ y. A.mul y g) (sym (laws.mul_add t A.one q) ∙ ap (A.mul t) h ∙ sym (laws.mul_assoc t c j) ∙ ap (λ y. A.mul y j) (laws.mul_comm t c) ∙ laws.mul_assoc c t j)
      ∙ laws.mul_assoc c (A.mul t j) g
      ∙ ap (A.mul c) (laws.mul_assoc t j g)

  -- straight: the sum with a spider h, of phase 0 or 2, joined to s is twice the sum of the terms that have the bit at s
  pub held_plain : (n h s : ℕ) (b : Bool) (m : Model) (g : Bits → A.Amount) → SoundGraph n m.graph → h < n → s < n → m.graph.stands h ≡ false → m.graph.stands s ≡ true → Blind A g h → graph_sum A n (toggled h s (placed h (2 * bit b) m)).graph g ≡ A.mul (A.mul (root_two A) (root_two A)) (graph_sum A n m.graph (λ x. A.mul (joint A Plain (x s) b) (g x)))
  held_plain n h s b m g good low under empty stood blind =
      sum_split A laws n after.stands h term low here
      ∙ sum-stands A n (without after.stands h) m.graph.stands (λ x. A.add (term x) (term (put x h))) (λ k l. back k)
      ∙ sum_same A n m.graph.stands (λ x. A.add (term x) (term (put x h))) (λ x. A.mul two (before x)) pointwise
      ∙ sum_scale A laws n m.graph.stands two before
    where
      after : Graph
      after = (toggled h s (placed h (2 * bit b) m)).graph

      term : Bits → A.Amount
      term x = A.mul (quarters A (turns n after x)) (g x)

      before : Bits → A.Amount
      before x = A.mul (quarters A (turns n m.graph x)) (A.mul (joint A Plain (x s) b) (g x))

      here : after.stands h ≡ true
      here = stands_holding n h s (2 * bit b) m good empty stood h ∙ ap (λ q. cond q true (m.graph.stands h)) (eq-eqb h h refl)

      back : (k : ℕ) → without after.stands h k ≡ m.graph.stands k
      back k = ap (λ t. cond (eqb k h) false t) (stands_holding n h s (2 * bit b) m good empty stood k) ∙ go (eqb k h) refl
        where
          go : (q : Bool) → eqb k h ≡ q → cond q false (cond q true (m.graph.stands k)) ≡ m.graph.stands k
          go true e = sym (ap m.graph.stands (eqb-true k h e) ∙ empty)
          go false e = refl

      pointwise : (x : Bits) → Within n m.graph.stands x → A.add (term x) (term (put x h)) ≡ A.mul two (before x)
      pointwise x w =
          let off = off_where n h m.graph.stands x empty w in
          let t = turns n m.graph x in
          let j = 2 * bit b + 2 * bit (x s) in
          let less = ap (quarters A) (holding_off n h s (2 * bit b) m good empty stood x off) in
          let more = ap (quarters A) (holding_on n h s (2 * bit b) m good empty stood x low under off) ∙ quarters-add A laws t j in
          ap₂ A.add (ap (λ q. A.mul q (g x)) less) (ap₂ A.mul more (blind x))
          ∙ taken_out (quarters A t) (quarters A j) two (joint A Plain (x s) b) (g x) (held_terms (x s) b)

  -- through a Hadamard box: a half turn at s where the bit is 1
  held-turn : (a b : Bool) (t : ℕ) → quarters A (t + 2 * (bit a * bit b)) ≡ A.mul (quarters A t) (joint A Hadamard a b)
  held-turn true true t = quarters-add A laws t 2
  held-turn true false t = ap (quarters A) (omega arith) ∙ sym (laws.mul_one (quarters A t))
  held-turn false b t = ap (quarters A) (omega arith) ∙ sym (laws.mul_one (quarters A t))

  pub held_hadamard : (n s : ℕ) (b : Bool) (m : Model) (g : Bits → A.Amount) → s < n → graph_sum A n (gained (only_slot s) (2 * bit b) m).graph g ≡ graph_sum A n m.graph (λ x. A.mul (joint A Hadamard (x s) b) (g x))
  unfolding gained
  held_hadamard n s b m g low = sum_same A n m.graph.stands _ _ (λ x w.
      let t = turns n m.graph x in
      let gain = total-same n (λ k. bit (x k) * (bit (only_slot s k) * (2 * bit b))) (λ k. at s k * (bit (x k) * (2 * bit b))) (λ k l. omega arith) ∙ total_at n s (λ k. bit (x k) * (2 * bit b)) low in
      let all : t + bit (x s) * (2 * bit b) ≡ t + 2 * (bit (x s) * bit b) = omega arith in
      ap (λ q. A.mul q (g x)) (quarters-same A laws _ (t + 2 * (bit (x s) * bit b)) (turns-gained n (only_slot s) (2 * bit b) m x w.on ∙ ap (λ c. (t + c) % 4) gain ∙ ap (λ c. c % 4) all) ∙ held-turn (x s) b t)
      ∙ laws.mul_assoc (quarters A t) (joint A Hadamard (x s) b) (g x))
