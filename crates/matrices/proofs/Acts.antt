-- The spiders of a gate act on the state as the gate does, up to roots of two. Assumes nothing.
use Rattle.std.proofs.Common.{◌≡◌, ℕ, suc, ◌<◌, Bool, true, false, cond, eqb, List, [], ◌∷◌, sym, refl, ap, ◌∙◌, ap₂, arith}
use mathlib.Core.Path.{fun_ext}
use Rattle.amounts.specs.Amounts.{Amounts, Lawful}
use Rattle.graphs.specs.Graphs.{Bits, sum}
use Rattle.diagrams.specs.declared.items.Colour.{Colour}
use Rattle.diagrams.specs.declared.items.Colour.TheVariants.{Z}
use Rattle.diagrams.specs.declared.items.Kind.{Kind}
use Rattle.diagrams.specs.declared.items.Kind.TheVariants.{Plain, Hadamard as HadamardWire}
use Rattle.amplitudes.specs.Items.{joint, at_end}
use Rattle.circuits.specs.declared.gates.Single.{Single}
use Rattle.circuits.specs.declared.gates.Double.{Double}
use Rattle.circuits.specs.declared.gates.Gate.{Gate}
use Rattle.circuits.specs.declared.gates.Gate.TheVariants.{One, Two}
use Rattle.circuits.specs.Gates.{single_kind, second_colour}
use Rattle.matrices.specs.Matrices.{changed, single, double, act, act_all}
use Rattle.matrices.proofs.Folds.{changed_here, changed-apart, changed-same}
use Rattle.matrices.proofs.States.{state, Local, both, state_steps, state_joins}
use Rattle.matrices.proofs.Steps.{colour_of, quarters_of, left, missing_at, left_at, spun, roots, idle, no_roots, single-bits, single_linear, double_linear, double-bits}

-- the kind of a plain leg at each qubit's last spider
abbrev pub kinds : (ℕ → Colour) → (ℕ → ℕ) → ℕ → Kind
kinds col L r = at_end (col (L r)) Plain

-- the state with plain legs, by the colours of the spiders
abbrev pub held : (A : Amounts) → ℕ → (ℕ → Colour) → ℕ → (Bits → A.Amount) → (ℕ → ℕ) → Bits → A.Amount
held A n col k f L = state A n k f (kinds col L) L

-- the terms f with a new spider k of n quarter turns, and a wire to it from spider l
abbrev pub spread : (A : Amounts) → (ℕ → Colour) → ℕ → ℕ → ℕ → Kind → (Bits → A.Amount) → Bits → A.Amount
spread A col k l n kind f x = A.mul (f x) (A.mul (spun A n (x k)) (joint A (at_end (col l) (at_end (col k) kind)) (x l) (x k)))

-- the last spiders once q ends at a new spider k, and r at the next
abbrev pub twice : (ℕ → ℕ) → ℕ → ℕ → ℕ → ℕ → ℕ
twice L k q r = changed (changed L q k) r (suc k)

pub twice_first : (L : ℕ → ℕ) (k q r : ℕ) → (r ≡ q → ⊥) → twice L k q r q ≡ k
twice_first L k q r apart = changed-apart (changed L q k) r q (suc k) (λ e. apart (sym e)) ∙ changed_here L q k

pub twice_second : (L : ℕ → ℕ) (k q r : ℕ) → twice L k q r r ≡ suc k
twice_second L k q r = changed_here (changed L q k) r (suc k)

-- the terms f with these two spiders
abbrev pub spread_twice : (A : Amounts) → (ℕ → Colour) → ℕ → (ℕ → ℕ) → ℕ → ℕ → (Bits → A.Amount) → Bits → A.Amount
spread_twice A col k L q r f = spread A col (suc k) (changed L q k r) 0 Plain (spread A col k (L q) 0 Plain f)

-- and with a Hadamard wire between them
abbrev pub spread_joined : (A : Amounts) → (ℕ → Colour) → ℕ → (ℕ → ℕ) → ℕ → ℕ → (Bits → A.Amount) → Bits → A.Amount
spread_joined A col k L q r f x = A.mul (spread_twice A col k L q r f x) (joint A HadamardWire (x (twice L k q r q)) (x (twice L k q r r)))

kinds_changed : (col : ℕ → Colour) (L : ℕ → ℕ) (q k : ℕ) → changed (kinds col L) q (at_end (col k) Plain) ≡ kinds col (changed L q k)
kinds_changed col L q k = fun_ext (λ r. either r (eqb r q))
  where
    either : (r : ℕ) (b : Bool) → cond b (at_end (col k) Plain) (kinds col L r) ≡ at_end (col (cond b k (L r))) Plain
    either r true = refl
    either r false = refl

module _ (A : Amounts) (laws : Lawful A) where
  open A use {Amount, mul}

  pub spread_local : (col : ℕ → Colour) (k l n : ℕ) (kind : Kind) (f : Bits → Amount) → l < k → Local A k f → Local A (suc k) (spread A col k l n kind f)
  spread_local col k l n kind f h local x z e =
      let before = local x z (λ j i. e j (omega arith)) in
      let old = e l (omega arith) in
      let new = e k (omega arith) in
      λ i. mul (before i) (mul (spun A n (new i)) (joint A (at_end (col l) (at_end (col k) kind)) (old i) (new i)))

  -- a gate takes a factor out of a state
  act_scale : (g : Gate) (s : Amount) (psi : Bits → Amount) → act A g (λ y. mul s (psi y)) ≡ (λ y. mul s (act A g psi y))
  unfolding sum
  act_scale (One g q) s psi = fun_ext (λ y. single_linear A laws g (y q) 0 (λ x. s) (λ x v. psi (changed y q v)))
  act_scale (Two g q r) s psi = fun_ext (λ y. double_linear A laws g (y q) (y r) 0 (λ x. s) (λ x u v. psi (changed (changed y q u) r v)))

  pub act_all_scale : (gs : List Gate) (s : Amount) (psi : Bits → Amount) → act_all A gs (λ y. mul s (psi y)) ≡ (λ y. mul s (act_all A gs psi y))
  act_all_scale [] s psi = refl
  act_all_scale (g ∷ gs) s psi = ap (act_all A gs) (act_scale g s psi) ∙ act_all_scale gs s (act A g psi)

  module _ (n k : ℕ) (col : ℕ → Colour) (f : Bits → Amount) (L : ℕ → ℕ) (local : Local A k f) (lasts : (r : ℕ) → r < n → L r < k) where
    -- a gate on one qubit
    pub one_acts : (g : Single) (q : ℕ) → q < n → col k ≡ colour_of g → (y : Bits) → mul (roots A (missing_at g (col (L q)))) (held A n col (suc k) (spread A col k (L q) (quarters_of g) (single_kind g) f) (changed L q k) y) ≡ mul (roots A (left_at g (col (L q)))) (act A (One g q) (held A n col k f L) y)
    one_acts g q below e y =
        ap (λ K. mul (roots A (missing_at g (col (L q)))) (state A n (suc k) (spread A col k (L q) (quarters_of g) (single_kind g) f) K (changed L q k) y)) (sym (kinds_changed col L q k))
        ∙ state_steps A laws n k f (kinds col L) L q below local lasts (spun A (quarters_of g)) _ (at_end (col k) Plain) _ _ (single A g) (single_linear A laws g) (λ a b.
        ap (λ N. mul (roots A (missing_at g (col (L q)))) (both A (spun A (quarters_of g)) (at_end (col (L q)) (at_end N (single_kind g))) (at_end N Plain) a b)) e
        ∙ single-bits A laws g (col (L q)) a b) y

    -- a spider with no turn
    pub idle_acts : (q : ℕ) → q < n → (y : Bits) → held A n col (suc k) (spread A col k (L q) 0 Plain f) (changed L q k) y ≡ mul (roots A (left (col k) (col (L q)))) (held A n col k f L y)
    idle_acts q below y =
        ap (λ K. state A n (suc k) (spread A col k (L q) 0 Plain f) K (changed L q k) y) (sym (kinds_changed col L q k))
        ∙ sym (no_roots A laws _)
        ∙ state_steps A laws n k f (kinds col L) L q below local lasts (spun A 0) _ (at_end (col k) Plain) _ _ (λ g b. g b) (λ b m c g. refl) (λ a b. no_roots A laws _ ∙ idle A laws (col k) (col (L q)) a b) y
        ∙ ap (λ t. mul (roots A (left (col k) (col (L q)))) (held A n col k f L t)) (changed-same y q)

  module _ (n k : ℕ) (col : ℕ → Colour) (f : Bits → Amount) (L : ℕ → ℕ) (local : Local A k f) (lasts : (r : ℕ) → r < n → L r < k) (q r : ℕ) (below : q < n) (below-too : r < n) (apart : r ≡ q → ⊥) where
    abbrev lasts_after : ℕ → ℕ
    lasts_after = twice L k q r

    lasts_too : (j : ℕ) (b : Bool) → j < n → cond b k (L j) < suc k
    lasts_too j true h = omega arith
    lasts_too j false h = let l = lasts j h in omega arith

    pub joined_local : Local A (suc (suc k)) (spread_joined A col k L q r f)
    joined_local x z e =
        let before = spread_local col (suc k) (changed L q k r) 0 Plain (spread A col k (L q) 0 Plain f) (lasts_too r (eqb r q) below-too) (spread_local col k (L q) 0 Plain f (lasts q below) local) x z e in
        let at_q = twice_first L k q r apart in
        let at_r = twice_second L k q r in
        let one_bit = e (lasts_after q) (omega arith) in
        let other_bit = e (lasts_after r) (omega arith) in
        λ i. mul (before i) (joint A HadamardWire (one_bit i) (other_bit i))

    -- a gate on two qubits
    pub two_acts : (g : Double) → col k ≡ Z → col (suc k) ≡ second_colour g → (y : Bits) → held A n col (suc (suc k)) (spread_joined A col k L q r f) lasts_after y ≡ mul (roots A (left (second_colour g) (col (L r)))) (act A (Two g q r) (held A n col k f L) y)
    two_acts g first second y =
        state_joins A laws n (suc (suc k)) (spread_twice A col k L q r f) (kinds col lasts_after) lasts_after q r below below-too apart (joint A HadamardWire) (double A g) (double_linear A laws g) bits y
        ∙ ap (λ psi. act A (Two g q r) psi y) (fun_ext both_idle)
        ∙ (λ i. act_scale (Two g q r) (roots A (left (second_colour g) (col (L r)))) (held A n col k f L) i y)
      where
        kind_q : kinds col lasts_after q ≡ Plain
        kind_q = ap (λ N. at_end N Plain) (ap col (twice_first L k q r apart) ∙ first)

        kind_r : kinds col lasts_after r ≡ at_end (second_colour g) Plain
        kind_r = ap (λ N. at_end N Plain) (ap col (twice_second L k q r) ∙ second)

        bits : (c d a b : Bool) → mul (joint A HadamardWire c d) (mul (joint A (kinds col lasts_after q) c a) (joint A (kinds col lasts_after r) d b)) ≡ double A g (λ u v. mul (joint A (kinds col lasts_after q) c u) (joint A (kinds col lasts_after r) d v)) a b
        bits c d a b =
            ap₂ (λ K M. mul (joint A HadamardWire c d) (mul (joint A K c a) (joint A M d b))) kind_q kind_r
            ∙ double-bits A laws g c d a b
            ∙ sym (ap₂ (λ K M. double A g (λ u v. mul (joint A K c u) (joint A M d v)) a b) kind_q kind_r)

        both_idle : (z : Bits) → held A n col (suc (suc k)) (spread_twice A col k L q r f) lasts_after z ≡ mul (roots A (left (second_colour g) (col (L r)))) (held A n col k f L z)
        both_idle z =
            idle_acts n (suc k) col (spread A col k (L q) 0 Plain f) (changed L q k) (spread_local col k (L q) 0 Plain f (lasts q below) local) (λ j h. lasts_too j (eqb j q) h) r below-too z
            ∙ ap₂ (λ N j. mul (roots A (left N (col j))) (held A n col (suc k) (spread A col k (L q) 0 Plain f) (changed L q k) z)) second (changed-apart L q r k apart)
            ∙ ap (mul (roots A (left (second_colour g) (col (L r))))) (idle_acts n k col f L local lasts q below z ∙ ap (λ N. mul (roots A (left N (col (L q)))) (held A n col k f L z)) first ∙ no_roots A laws _)
