-- Two slots with equal bits are one slot: what fusing keeps. Assumes nothing.
use Rattle.std.proofs.Common.{◌≡◌, ℕ, ◌+◌, ◌*◌, ◌%◌, ◌<◌, Bool, true, false, cond, ◌&&◌, ◌||◌, eqb, sym, refl, ap, ◌∙◌, ap₂, mul_comm, arith, eq-eqb, ne_eqb, eqb-true}
use mathlib.Core.Path.{fun_ext}
use native.Mathlib.Nat.{mod-mod}
use Rattle.graphs.specs.Counts.{bit, total, pairs}
use Rattle.amounts.specs.Amounts.{Amounts, Lawful}
use Rattle.amounts.proofs.Powers.{one-mul}
use Rattle.amounts.proofs.Turns.{zero-plus}
use Rattle.graphs.specs.Graphs.{Graph, Bits, SoundGraph, put, without, turns, quarters}
use Rattle.graphs.specs.Rules.{xor}
use Rattle.graphs.proofs.Bitwise.{beside, turns-put}
use Rattle.graphs.proofs.Counting.{at, total-same, total-add, total-times, total_at, pairs-same, pairs_at}
use Rattle.graphs.proofs.Shifts.{Shifted, turns_shifted}
use Rattle.graphs.proofs.Slots.{other_than}
use Rattle.graphs.proofs.Turns.{quarters-same}
use Rattle.diagrams.specs.declared.items.Kind.TheVariants.{Plain}
use Rattle.amplitudes.specs.Items.{joint}
use Rattle.models.specs.Models.{Model}
use Rattle.models.specs.Edits.{fused}
use Rattle.loadings.proofs.Gains.{total-one}
use Rattle.loadings.proofs.Weights.{weighed, zero-mul, summed_out}

-- the bits y with the bit of slot a in slot b too
abbrev pub copied : ℕ → ℕ → Bits → Bits
copied a b y k = cond (eqb k b) (y a) (y k)

copied_on : (a b : ℕ) (y : Bits) → y a ≡ true → copied a b y ≡ put y b
copied_on a b y on = fun_ext (λ k. ap (λ v. cond (eqb k b) v (y k)) on)

copied_off : (a b : ℕ) (y : Bits) → y a ≡ false → y b ≡ false → copied a b y ≡ y
copied_off a b y a_off b-off = fun_ext (λ k. here k (eqb k b) refl)
  where
    here : (k : ℕ) (e : Bool) → eqb k b ≡ e → cond e (y a) (y k) ≡ y k
    here k true e = a_off ∙ sym b-off ∙ sym (ap y (eqb-true k b e))
    here k false e = refl

-- the edges that come from b to a: from slot a to the neighbours of b
module _ (a : ℕ) (beside-b : ℕ → Bool) where
  abbrev moved : ℕ → ℕ → Bool
  moved s t = xor (eqb s a && beside-b t) (eqb t a && beside-b s)

  moved_is : (s t : ℕ) → s < t → bit (moved s t) ≡ at a s * bit (without beside-b a t) + bit (without beside-b a s) * at a t
  moved_is s t l = here (eqb s a) (eqb t a) refl refl
    where
      alone : (e : Bool) → bit (xor e false) ≡ 1 * bit e + 0
      alone true = refl
      alone false = refl

      here : (p q : Bool) → eqb s a ≡ p → eqb t a ≡ q → bit (xor (p && beside-b t) (q && beside-b s)) ≡ bit p * bit (cond q false (beside-b t)) + bit (cond p false (beside-b s)) * bit q
      here true true e f = let i = eqb-true s a e in let j = eqb-true t a f in absurd (omega arith)
      here true false e f = alone (beside-b t)
      here false true e f = omega arith
      here false false e f = omega arith

module _ (n a b : ℕ) (m : Model) (good : SoundGraph n m.graph) (a-low : a < n) (b-low : b < n) (apart : a ≡ b → ⊥) (y : Bits) (off : y b ≡ false) where
  abbrev G : Graph
  G = m.graph

  -- what slot a gains
  abbrev gain : ℕ
  gain = G.phase b + 2 * bit (G.edge a b)

  -- how many neighbours of b other than a are set
  abbrev others : ℕ
  others = total n (λ t. bit (without (G.edge b) a t) * bit (y t))

  besides_are : beside n G b y ≡ others + bit (y a) * bit (G.edge a b)
  besides_are =
      let apart = total-same n (λ t. bit (y t) * bit (G.edge b t)) (λ t. bit (without (G.edge b) a t) * bit (y t) + at a t * (bit (y t) * bit (G.edge b t))) (λ t l. here t (eqb t a)) in
      let both = total-add n (λ t. bit (without (G.edge b) a t) * bit (y t)) (λ t. at a t * (bit (y t) * bit (G.edge b t))) in
      let one = total_at n a (λ t. bit (y t) * bit (G.edge b t)) a-low ∙ ap (λ e. bit (y a) * bit e) (good.symmetric b a) in
      omega arith
    where
      here : (t : ℕ) (e : Bool) → bit (y t) * bit (G.edge b t) ≡ bit (cond e false (G.edge b t)) * bit (y t) + bit e * (bit (y t) * bit (G.edge b t))
      here t true = omega arith
      here t false = omega arith

  edges_moved : pairs n (λ s t. bit (y s) * bit (y t) * bit (moved a (G.edge b) s t)) ≡ bit (y a) * others
  edges_moved =
      pairs-same n _ (λ s t. (at a s * bit (without (G.edge b) a t) + bit (without (G.edge b) a s) * at a t) * (bit (y s) * bit (y t))) (λ s t l k. rw (moved_is a (G.edge b) s t l) (mul_comm (bit (y s) * bit (y t)) _))
      ∙ pairs_at n a (λ t. bit (without (G.edge b) a t)) (λ s t. bit (y s) * bit (y t)) a-low (ap (λ e. bit (cond e false (G.edge b a))) (eq-eqb a a refl)) (λ s t. mul_comm (bit (y s)) (bit (y t)))
      ∙ total-same n (λ t. bit (without (G.edge b) a t) * (bit (y a) * bit (y t))) (λ t. bit (without (G.edge b) a t) * bit (y t) * bit (y a)) (λ t l. omega arith)
      ∙ total-times n (bit (y a)) (λ t. bit (without (G.edge b) a t) * bit (y t))
      ∙ mul_comm others (bit (y a))

  shifted : Shifted n G (fused a b m).graph y (λ s. at a s * gain) (moved a (G.edge b))
  unfolding fused
  shifted = record {
    phases = λ s l on. ap (λ e. cond e 0 (cond (eqb s a) ((G.phase a + gain) % 4) (G.phase s)) % 4) (ne_eqb s b (other_than y b off s on)) ∙ here s (eqb s a) refl;
    edges = λ s t l k p q. ap (λ e. cond e false (xor (G.edge s t) (moved a (G.edge b) s t))) (neither s t l p q);
  }
    where
      here : (s : ℕ) (e : Bool) → eqb s a ≡ e → cond e ((G.phase a + gain) % 4) (G.phase s) % 4 ≡ (G.phase s + bit e * gain) % 4
      here s true e = let same : G.phase a + gain ≡ G.phase s + 1 * gain = omega (arith, ap G.phase (eqb-true s a e)) in mod-mod (G.phase a + gain) 4 ∙ ap (λ t. t % 4) same
      here s false e = ap (λ t. t % 4) (omega arith)

      neither : (s t : ℕ) → s < t → y s ≡ true → y t ≡ true → (eqb s b || (eqb t b || eqb s t)) ≡ false
      neither s t l p q = rw (ne_eqb s b (other_than y b off s p), ne_eqb t b (other_than y b off t q), ne_eqb s t (λ e. omega arith))

  pub fused-turns : turns n (fused a b m).graph y % 4 ≡ turns n G (copied a b y) % 4
  fused-turns =
      turns_shifted n G _ y _ _ shifted
      ∙ ap₂ (λ u v. (turns n G y + (u + 2 * v)) % 4) (total-one n a gain y a-low) edges_moved
      ∙ ap (λ t. t % 4) (here (y a) refl)
    where
      here : (e : Bool) → y a ≡ e → turns n G y + (bit e * gain + 2 * (bit e * others)) ≡ turns n G (copied a b y)
      here true e =
          let all = ap (turns n G) (copied_on a b y e) ∙ turns-put n b G good y b-low off in
          let besides = besides_are ∙ ap (λ v. others + bit v * bit (G.edge a b)) e in
          omega arith
      here false e = let same = ap (turns n G) (copied_off a b y e off) in omega arith

-- where a plain wire allows equal bits alone, the slots can be fused
module _ (A : Amounts) (laws : Lawful A) (n a b : ℕ) (p : ℕ → Bool) (m : Model) (g : Bits → A.Amount) (good : SoundGraph n m.graph) (a-low : a < n) (b-low : b < n) (apart : a ≡ b → ⊥) (on : p b ≡ true) where
  pub fused_weighed : weighed A n p m.graph (λ y. A.mul (joint A Plain (y a) (y b)) (g y)) ≡ weighed A n (without p b) (fused a b m).graph (λ y. g (copied a b y))
  fused_weighed = summed_out A laws n b p _ _ b-low on (λ y off.
      here y off (y a) refl
      ∙ ap (λ q. A.mul q (g (copied a b y))) (sym (quarters-same A laws _ _ (fused-turns n a b m good a-low b-low apart y off))))
    where
      T : Bits → A.Amount
      T y = quarters A (turns n m.graph y)

      F : Bits → A.Amount
      F y = A.mul (T y) (A.mul (joint A Plain (y a) (y b)) (g y))

      none : (y : Bits) → joint A Plain (y a) (y b) ≡ A.zero → F y ≡ A.zero
      none y e = ap (λ j. A.mul (T y) (A.mul j (g y))) e ∙ ap (A.mul (T y)) (zero-mul A laws (g y)) ∙ laws.mul_zero (T y)

      whole : (y : Bits) → joint A Plain (y a) (y b) ≡ A.one → F y ≡ A.mul (T y) (g y)
      whole y e = ap (λ j. A.mul (T y) (A.mul j (g y))) e ∙ ap (A.mul (T y)) (one-mul A laws (g y))

      set_b : (y : Bits) → put y b b ≡ true
      set_b y = ap (λ e. cond e true (y b)) (eq-eqb b b refl)

      keep_a : (y : Bits) → put y b a ≡ y a
      keep_a y = ap (λ e. cond e true (y a)) (ne_eqb a b apart)

      here : (y : Bits) → y b ≡ false → (e : Bool) → y a ≡ e → A.add (F y) (F (put y b)) ≡ A.mul (T (copied a b y)) (g (copied a b y))
      here y off true e =
          ap₂ A.add (none y (ap₂ (joint A Plain) e off)) (whole (put y b) (ap₂ (joint A Plain) (keep_a y ∙ e) (set_b y)))
          ∙ zero-plus A laws (A.mul (T (put y b)) (g (put y b)))
          ∙ ap (λ x. A.mul (T x) (g x)) (sym (copied_on a b y e))
      here y off false e =
          ap₂ A.add (whole y (ap₂ (joint A Plain) e off)) (none (put y b) (ap₂ (joint A Plain) (keep_a y ∙ e) (set_b y)))
          ∙ laws.add_zero (A.mul (T y) (g y))
          ∙ ap (λ x. A.mul (T x) (g x)) (sym (copied_off a b y e off))
