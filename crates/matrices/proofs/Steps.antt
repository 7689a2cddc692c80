-- What a spider of each colour and phase does between two bits, and that gates are linear. Assumes nothing.
use Rattle.std.proofs.Common.{◌≡◌, ℕ, zero, suc, ◌+◌, ◌*◌, Bool, true, false, cond, not, ◌&&◌, sym, refl, ap, ◌∙◌, ap₂, arith}
use Rattle.amounts.specs.Amounts.{Amounts, Lawful, power, turned, quarter, root_two}
use Rattle.amounts.proofs.Powers.{one-mul, power-add}
use Rattle.graphs.specs.Graphs.{Bits}
use Rattle.graphs.proofs.Sums.{sum_same, sum-add, sum_scale}
use Rattle.amounts.proofs.Turns.{zero-plus, turned-add, whole-turn}
use Rattle.graphs.proofs.Turns.{one_and_one}
use Rattle.diagrams.specs.declared.items.Colour.{Colour}
use Rattle.diagrams.specs.declared.items.Colour.TheVariants.{Z, X}
use Rattle.diagrams.specs.declared.items.Kind.{Kind}
use Rattle.diagrams.specs.declared.items.Kind.TheVariants.{Plain, Hadamard as HadamardWire}
use Rattle.amplitudes.specs.Items.{joint, at_end, every_slot}
use Rattle.circuits.specs.declared.gates.Single.{Single}
use Rattle.circuits.specs.declared.gates.Single.TheVariants.{Hadamard, S, SInverse, PauliX, PauliZ}
use Rattle.circuits.specs.declared.gates.Double.{Double}
use Rattle.circuits.specs.declared.gates.Double.TheVariants.{ControlledX, ControlledZ}
use Rattle.circuits.specs.Gates.{single_kind, second_colour}
use Rattle.matrices.specs.Matrices.{turned_at, single, double}
use Rattle.matrices.proofs.States.{over, Linear, LinearTwice, both, mul_front}

-- the colour and the quarter turns of a gate's spider
abbrev pub colour_of : Single → Colour
colour_of Hadamard = Z
colour_of S = Z
colour_of SInverse = Z
colour_of PauliX = X
colour_of PauliZ = Z

abbrev pub quarters_of : Single → ℕ
quarters_of Hadamard = 0
quarters_of S = 1
quarters_of SInverse = 3
quarters_of PauliX = 2
quarters_of PauliZ = 2

-- how many roots of two an X spider leaves after a Z spider
abbrev pub left : Colour → Colour → ℕ
left Z C = 0
left X Z = 2
left X X = 0

-- how many roots of two are missing, and how many are left, at the spider of a gate after one of a colour
abbrev pub missing_at : Single → Colour → ℕ
missing_at Hadamard C = left C Z
missing_at S C = 0
missing_at SInverse C = 0
missing_at PauliX C = 0
missing_at PauliZ C = 0

abbrev pub left_at : Single → Colour → ℕ
left_at g C = left (colour_of g) C

-- i^n at a set bit
abbrev pub spun : (A : Amounts) → ℕ → Bool → A.Amount
spun A n b = cond b (power A (quarter A) n) A.one

-- √2^n
abbrev pub roots : (A : Amounts) → ℕ → A.Amount
roots A n = power A (root_two A) n

module _ (A : Amounts) (laws : Lawful A) where
  open A use {Amount, zero as none, one, add, mul}

  pub zero-mul : (x : Amount) → mul none x ≡ none
  zero-mul x = laws.mul_comm none x ∙ laws.mul_zero x

  half_after : add one (turned A 4) ≡ none
  half_after = laws.add_comm one (turned A 4) ∙ laws.half_turn

  half_twice : mul (turned A 4) (turned A 4) ≡ one
  half_twice = sym (turned-add A laws 4 4) ∙ whole-turn A laws

  half_over : (t : Amount) → mul (mul (turned A 4) t) (turned A 4) ≡ t
  half_over t = laws.mul_comm _ _ ∙ sym (laws.mul_assoc _ _ _) ∙ ap (λ s. mul s t) half_twice ∙ one-mul A laws t

  one_then : (t : Amount) → mul one t ≡ t
  one_then = one-mul A laws

  pub no_roots : (t : Amount) → mul (roots A 0) t ≡ t
  unfolding power
  no_roots = one-mul A laws

  pub roots_twice : (p q : ℕ) (t : Amount) → mul (roots A p) (mul (roots A q) t) ≡ mul (roots A (p + q)) t
  roots_twice p q t = sym (laws.mul_assoc _ _ _) ∙ ap (λ r. mul r t) (sym (power-add A laws (root_two A) p q))

  two_roots : (t : Amount) → mul (roots A 2) t ≡ add t t
  unfolding power
  two_roots t =
      ap (λ s. mul s t) (ap (mul (root_two A)) (laws.mul_one (root_two A)) ∙ one_and_one A laws)
      ∙ laws.mul_comm _ _ ∙ laws.mul_add t one one ∙ ap₂ add (laws.mul_one t) (laws.mul_one t)

  quarter-power : (n : ℕ) → power A (quarter A) n ≡ turned A (2 * n)
  unfolding power
  quarter-power zero = refl
  quarter-power (suc n) = ap (mul (quarter A)) (quarter-power n) ∙ sym (turned-add A laws 2 (2 * n)) ∙ (let e : 2 + 2 * n ≡ 2 * suc n = omega arith in ap (turned A) e)

  pub spun_none : (b : Bool) → spun A 0 b ≡ one
  unfolding power
  spun_none true = refl
  spun_none false = refl

  spun_turned : (n : ℕ) (b : Bool) → spun A n b ≡ turned_at A (2 * n) b
  spun_turned n true = quarter-power n
  spun_turned n false = refl

  -- a plain leg takes its bit
  both_plain : (turn : Bool → Amount) (T : Kind) (a b : Bool) → both A turn T Plain a b ≡ mul (turn b) (joint A T a b)
  both_plain turn T a false = ap₂ add (laws.mul_one _) (laws.mul_zero _) ∙ laws.add_zero _
  both_plain turn T a true = ap₂ add (laws.mul_zero _) (laws.mul_one _) ∙ zero-plus A laws _

  -- a Hadamard leg takes both, the set one with its sign
  both_hadamard : (T : Kind) (a b : Bool) → both A (spun A 0) T HadamardWire a b ≡ add (joint A T a false) (mul (joint A T a true) (turned_at A 4 b))
  both_hadamard T a b = ap₂ add (laws.mul_one _ ∙ one_then _) (ap (λ t. mul (mul t (joint A T a true)) (turned_at A 4 b)) (spun_none true) ∙ ap (λ t. mul t (turned_at A 4 b)) (one_then _))

  opposites : (c : Amount) → add one (turned A 4) ≡ mul c none
  opposites c = half_after ∙ sym (laws.mul_zero c)

  -- a spider with no turn, after one of colour C
  pub idle : (N C : Colour) (a b : Bool) → both A (spun A 0) (at_end C (at_end N Plain)) (at_end N Plain) a b ≡ mul (roots A (left N C)) (joint A (at_end C Plain) a b)
  idle Z C a b = both_plain (spun A 0) (at_end C Plain) a b ∙ ap (λ t. mul t (joint A (at_end C Plain) a b)) (spun_none b) ∙ one_then _ ∙ sym (no_roots _)
  idle X Z false false = both_hadamard HadamardWire false false ∙ ap (add one) (one_then one) ∙ sym (two_roots one)
  idle X Z false true = both_hadamard HadamardWire false true ∙ ap (add one) (one_then _) ∙ opposites _
  idle X Z true false = both_hadamard HadamardWire true false ∙ ap (add one) (laws.mul_one _) ∙ opposites _
  idle X Z true true = both_hadamard HadamardWire true true ∙ ap (add one) half_twice ∙ sym (two_roots one)
  idle X X false b = both_hadamard Plain false b ∙ ap (add one) (zero-mul _) ∙ laws.add_zero one ∙ sym (no_roots one)
  idle X X true b = both_hadamard Plain true b ∙ zero-plus A laws _ ∙ one_then _ ∙ sym (no_roots _)

  -- half a turn at an X spider flips the bit of its leg
  half_flips : (T : Kind) (a b : Bool) → both A (spun A 2) T HadamardWire a b ≡ both A (spun A 0) T HadamardWire a (not b)
  half_flips T a b = ap₂ add refl (ap (λ t. mul (mul t (joint A T a true)) (turned_at A 4 b)) (quarter-power 2) ∙ flip b ∙ ap (λ t. mul (mul t (joint A T a true)) (turned_at A 4 (not b))) (sym (spun_none true)))
    where
      flip : (c : Bool) → mul (mul (turned A 4) (joint A T a true)) (turned_at A 4 c) ≡ mul (mul one (joint A T a true)) (turned_at A 4 (not c))
      flip false = laws.mul_one _ ∙ laws.mul_comm _ _ ∙ ap (λ t. mul t (turned A 4)) (sym (one_then _))
      flip true = half_over _ ∙ sym (one_then _) ∙ sym (laws.mul_one _)

  -- a Hadamard wire to a spider with no turn
  changes : (C : Colour) (a b : Bool) → mul (roots A (left C Z)) (joint A (at_end C HadamardWire) a b) ≡ add (joint A (at_end C Plain) a false) (mul (turned_at A 4 b) (joint A (at_end C Plain) a true))
  changes Z false b = no_roots one ∙ sym (ap (add one) (laws.mul_zero _) ∙ laws.add_zero one)
  changes Z true b = no_roots _ ∙ sym (zero-plus A laws _ ∙ laws.mul_one _)
  changes X false false = two_roots one ∙ ap (add one) (sym (one_then one))
  changes X false true = sym (ap (add one) (laws.mul_one _) ∙ opposites _)
  changes X true false = sym (ap (add one) (one_then _) ∙ opposites _)
  changes X true true = two_roots one ∙ ap (add one) (sym half_twice)

  -- the spider of a gate with a turn alone
  turns : (n : ℕ) (C : Colour) (a b : Bool) → mul (roots A 0) (both A (spun A n) (at_end C Plain) Plain a b) ≡ mul (roots A 0) (mul (turned_at A (2 * n) b) (joint A (at_end C Plain) a b))
  turns n C a b = ap (mul (roots A 0)) (both_plain (spun A n) (at_end C Plain) a b ∙ ap (λ t. mul t (joint A (at_end C Plain) a b)) (spun_turned n b))

  -- the spider of a gate is its matrix
  pub single-bits : (g : Single) (C : Colour) (a b : Bool) → mul (roots A (missing_at g C)) (both A (spun A (quarters_of g)) (at_end C (at_end (colour_of g) (single_kind g))) (at_end (colour_of g) Plain) a b) ≡ mul (roots A (left_at g C)) (single A g (joint A (at_end C Plain) a) b)
  single-bits Hadamard C a b = ap (mul (roots A (left C Z))) (both_plain (spun A 0) (at_end C HadamardWire) a b ∙ ap (λ t. mul t (joint A (at_end C HadamardWire) a b)) (spun_none b) ∙ one_then _) ∙ changes C a b ∙ sym (no_roots _)
  single-bits S C a b = turns 1 C a b
  single-bits SInverse C a b = turns 3 C a b
  single-bits PauliX C a b = no_roots _ ∙ half_flips (at_end C HadamardWire) a b ∙ idle X C a (not b)
  single-bits PauliZ C a b = turns 2 C a b

  scaled_linear : (s : Amount) (k : ℕ) (c F : Bits → Amount) → mul s (over A k (λ x. mul (c x) (F x))) ≡ over A k (λ x. mul (c x) (mul s (F x)))
  scaled_linear s k c F = sym (sum_scale A laws k every_slot s _) ∙ sum_same A k every_slot _ _ (λ x h. mul_front A laws s (c x) (F x))

  -- gates are linear
  pub single_linear : (g : Single) (b : Bool) → Linear A (λ f. single A g f b)
  single_linear Hadamard b k c f =
      ap (add (over A k (λ x. mul (c x) (f x false)))) (scaled_linear (turned_at A 4 b) k c (λ x. f x true))
      ∙ sym (sum-add A laws k every_slot _ _)
      ∙ sum_same A k every_slot _ _ (λ x h. sym (laws.mul_add _ _ _))
  single_linear S b k c f = scaled_linear (turned_at A 2 b) k c (λ x. f x b)
  single_linear SInverse b k c f = scaled_linear (turned_at A 6 b) k c (λ x. f x b)
  single_linear PauliX b k c f = refl
  single_linear PauliZ b k c f = scaled_linear (turned_at A 4 b) k c (λ x. f x b)

  pub double_linear : (g : Double) (b d : Bool) → LinearTwice A (λ f. double A g f b d)
  double_linear ControlledX b d k c f = refl
  double_linear ControlledZ b d k c f = scaled_linear (turned_at A 4 (b && d)) k c (λ x. f x b d)

  -- the wire between the spiders of a gate on two qubits is its matrix
  pub double-bits : (g : Double) (c d a b : Bool) → mul (joint A HadamardWire c d) (mul (joint A Plain c a) (joint A (at_end (second_colour g) Plain) d b)) ≡ double A g (λ u v. mul (joint A Plain c u) (joint A (at_end (second_colour g) Plain) d v)) a b
  double-bits ControlledX false d false b = one_then _
  double-bits ControlledX false d true b = ap (mul _) (zero-mul _) ∙ laws.mul_zero _ ∙ sym (zero-mul _)
  double-bits ControlledX true d false b = ap (mul _) (zero-mul _) ∙ laws.mul_zero _ ∙ sym (zero-mul _)
  double-bits ControlledX true false true b = one_then _
  double-bits ControlledX true true true false = ap (mul _) (one_then one) ∙ laws.mul_comm _ _
  double-bits ControlledX true true true true = ap (mul _) (one_then _) ∙ half_twice ∙ sym (one_then one)
  double-bits ControlledZ false d true b = ap (mul _) (zero-mul _) ∙ laws.mul_zero _ ∙ sym (ap (mul _) (zero-mul _) ∙ laws.mul_zero _)
  double-bits ControlledZ true d false b = ap (mul _) (zero-mul _) ∙ laws.mul_zero _ ∙ sym (ap (mul _) (zero-mul _) ∙ laws.mul_zero _)
  double-bits ControlledZ false d false b = refl
  double-bits ControlledZ true false true false = refl
  double-bits ControlledZ true true true true = refl
  double-bits ControlledZ true false true true = ap (mul _) (laws.mul_zero _) ∙ laws.mul_zero _ ∙ sym (ap (mul _) (laws.mul_zero _) ∙ laws.mul_zero _)
  double-bits ControlledZ true true true false = ap (mul _) (laws.mul_zero _) ∙ laws.mul_zero _ ∙ sym (ap (mul _) (laws.mul_zero _) ∙ laws.mul_zero _)
