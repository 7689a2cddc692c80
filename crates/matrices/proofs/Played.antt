-- The items of gates and of the output legs give what the gates make of the state before them. Assumes nothing.
use Rattle.std.proofs.Common.{◌≡◌, ℕ, zero, suc, ◌+◌, ◌%◌, ◌<◌, ◌≤◌, Bool, true, false, cond, eqb, List, [], ◌∷◌, ◌++◌, map, length, get_or, set, ℤ, pos, negsuc, ◌+ℤ◌, sym, refl, ap, ◌∙◌, ap₂, add-zero, add-one, arith, length-set, eqb-true}
use mathlib.Core.Path.{fun_ext}
use borrow.Author.Tests.{eqb-false}
use borrow.Author.Differences.{same_out}
use lib.IntN.{+ℤ_comm, +ℤ_assoc, +ℤ_idr}
use Rattle.std.specs.List.{range_with_len, AllByRecursion}
use Rattle.std.proofs.lemmas.List.{get_or-set_same, get_or-set_other}
use Rattle.amounts.specs.Amounts.{Amounts, Lawful}
use Rattle.amounts.proofs.Integers.{sums}
use Rattle.graphs.specs.Graphs.{Bits}
use Rattle.graphs.proofs.Sums.{sum_same}
use Rattle.diagrams.specs.Streams.{finish}
use Rattle.diagrams.specs.declared.items.Colour.{Colour}
use Rattle.diagrams.specs.declared.items.Colour.TheVariants.{Z, X}
use Rattle.diagrams.specs.declared.items.Kind.{Kind}
use Rattle.diagrams.specs.declared.items.Kind.TheVariants.{Plain, Hadamard as HadamardWire}
use Rattle.diagrams.specs.declared.items.Side.TheVariants.{Output}
use Rattle.diagrams.specs.declared.items.Item.{Item}
use Rattle.amplitudes.specs.Items.{colours, at_end, joint, term, every_slot, cost, root_power}
use Rattle.circuits.specs.declared.gates.Single.{Single}
use Rattle.circuits.specs.declared.gates.Single.TheVariants.{Hadamard, S, SInverse, PauliX, PauliZ}
use Rattle.circuits.specs.declared.gates.Double.{Double}
use Rattle.circuits.specs.declared.gates.Double.TheVariants.{ControlledX, ControlledZ}
use Rattle.circuits.specs.declared.gates.Gate.{Gate}
use Rattle.circuits.specs.declared.gates.Gate.TheVariants.{One, Two}
use Rattle.circuits.specs.declared.wiring.Wiring.{Wiring}
use Rattle.circuits.specs.Gates.{spider, leg, single_spider, single_kind, second_colour, between_kind, last_of, wired, played}
use Rattle.circuits.specs.Spelling.{Valid}
use Rattle.matrices.specs.Matrices.{changed, act, act_all, is_hadamard, hadamards}
use Rattle.matrices.proofs.Folds.{fold, fold_same, fold_from, fold_change, changed-apart}
use Rattle.matrices.proofs.States.{over, legs, product, Local, mul_front}
use Rattle.matrices.proofs.Steps.{colour_of, quarters_of, left, missing_at, left_at, spun, roots, no_roots, roots_twice}
use Rattle.matrices.proofs.Acts.{kinds, held, spread, spread_local, act_all_scale, one_acts, twice, twice_first, twice_second, spread_joined, joined_local, two_acts}

-- reading a list after a write is a changed reading
set_changed : (l : List ℕ) (q v : ℕ) → q < length l → (λ r. get_or (set l q v) r 0) ≡ changed (λ r. get_or l r 0) q v
set_changed l q v h = fun_ext (λ r. either r (eqb r q) refl)
  where
    either : (r : ℕ) (b : Bool) → eqb r q ≡ b → get_or (set l q v) r 0 ≡ cond b v (get_or l r 0)
    either r true e = ap (λ j. get_or (set l q v) j 0) (eqb-true r q e) ∙ get_or-set_same l q v 0 h
    either r false e = get_or-set_other l q r v 0 (eqb-false r q e)

-- the output legs of the qubits qs
abbrev pub ends : (ℕ → ℕ) → List ℕ → List Item
ends L qs = map (λ q. leg Output (L q)) qs ++ []

ends_colours : (L : ℕ → ℕ) (qs : List ℕ) → colours (ends L qs) ≡ []
ends_colours L [] = refl
ends_colours L (q ∷ qs) = ends_colours L qs

-- the colour of each spider
abbrev pub colour_at : List Colour → ℕ → Colour
colour_at cs j = get_or cs j Z

-- what the legs cost
abbrev pub costs : ℕ → (ℕ → Colour) → (ℕ → ℕ) → ℤ
costs n col L = fold ◌+ℤ◌ (pos 0) n (λ r. cost (kinds col L r))

ends_cost : (cs : List Colour) (L : ℕ → ℕ) (n s : ℕ) → root_power cs (ends L (range_with_len s n)) ≡ fold ◌+ℤ◌ (pos 0) n (λ j. cost (kinds (colour_at cs) L (s + j)))
unfolding fold
ends_cost cs L zero s = refl
ends_cost cs L (suc n) s = ap (λ t. cost (kinds (colour_at cs) L s) +ℤ t) (ends_cost cs L n (s + 1)) ∙ sym (fold_from ◌+ℤ◌ (pos 0) +ℤ_comm +ℤ_assoc +ℤ_idr n s (λ r. cost (kinds (colour_at cs) L r)))

module _ (A : Amounts) (laws : Lawful A) where
  ends_term : (cs : List Colour) (L : ℕ → ℕ) (b x : Bits) (k n s : ℕ) → term A cs (ends L (range_with_len s n)) k (map b (range_with_len s n)) x ≡ product A n (λ j. legs A (kinds (colour_at cs) L) L x b (s + j))
  unfolding fold
  ends_term cs L b x k zero s = refl
  ends_term cs L b x k (suc n) s = ap (A.mul (legs A (kinds (colour_at cs) L) L x b s)) (ends_term cs L b x k n (s + 1)) ∙ sym (fold_from A.mul A.one laws.mul_comm laws.mul_assoc laws.mul_one n s (legs A (kinds (colour_at cs) L) L x b))

-- the spider of a gate on one qubit
pub single_is : (g : Single) → single_spider g ≡ spider (colour_of g) (quarters_of g)
single_is Hadamard = refl
single_is S = refl
single_is SInverse = refl
single_is PauliX = refl
single_is PauliZ = refl

single-quarters : (g : Single) → quarters_of g % 4 ≡ quarters_of g
single-quarters Hadamard = refl
single-quarters S = refl
single-quarters SInverse = refl
single-quarters PauliX = refl
single-quarters PauliZ = refl

single-colours : (g : Single) (is : List Item) → colours (single_spider g ∷ is) ≡ colour_of g ∷ colours is
single-colours g is = ap (λ i. colours (i ∷ is)) (single_is g)

single-root : (g : Single) (cs : List Colour) (is : List Item) → root_power cs (single_spider g ∷ is) ≡ root_power cs is
single-root g cs is = ap (λ i. root_power cs (i ∷ is)) (single_is g)

single-term : (A : Amounts) (g : Single) (cs : List Colour) (is : List Item) (k : ℕ) (row : List Bool) (x : Bits) → term A cs (single_spider g ∷ is) k row x ≡ A.mul (spun A (quarters_of g) (x k)) (term A cs is (k + 1) row x)
single-term A g cs is k row x = ap (λ i. term A cs (i ∷ is) k row x) (single_is g) ∙ ap (λ p. A.mul (spun A p (x k)) (term A cs is (k + 1) row x)) (single-quarters g)

-- what the spider of a gate costs, with its wire and the legs before and after it
single_account : (g : Single) (C : Colour) → cost (at_end C Plain) +ℤ pos (missing_at g C) ≡ (cost (at_end C (at_end (colour_of g) (single_kind g))) +ℤ cost (at_end (colour_of g) Plain)) +ℤ pos (left_at g C + is_hadamard g)
single_account Hadamard Z = refl
single_account Hadamard X = refl
single_account S Z = refl
single_account S X = refl
single_account SInverse Z = refl
single_account SInverse X = refl
single_account PauliX Z = refl
single_account PauliX X = refl
single_account PauliZ Z = refl
single_account PauliZ X = refl

idle_account : (N C : Colour) → cost (at_end C Plain) ≡ (cost (at_end C (at_end N Plain)) +ℤ cost (at_end N Plain)) +ℤ pos (left N C)
idle_account Z Z = refl
idle_account Z X = refl
idle_account X Z = refl
idle_account X X = refl

-- the wire between two spiders is a Hadamard one
between : (g : Double) → at_end (second_colour g) (between_kind g) ≡ HadamardWire
between ControlledX = refl
between ControlledZ = refl

account_on : (c d rp rq cg : ℤ) (p1 p2 q1 q2 h hg hs : ℕ) → c +ℤ pos p2 ≡ (cg +ℤ d) +ℤ pos (q2 + hg) → rp ≡ cg +ℤ rq → h ≡ hg + hs → d +ℤ pos p1 ≡ rq +ℤ pos (q1 + hs) → c +ℤ pos (p2 + p1) ≡ rp +ℤ pos ((q1 + q2) + h)
account_on c d rp rq cg p1 p2 q1 q2 h hg hs e f g i = omega (arith, sums, same_out _ _ e, same_out _ _ f, same_out _ _ i)

account_one : (c d kq kn t : ℤ) (p q : ℕ) → kn +ℤ c ≡ kq +ℤ d → kq +ℤ pos p ≡ (t +ℤ kn) +ℤ pos q → c +ℤ pos p ≡ (t +ℤ d) +ℤ pos q
account_one c d kq kn t p q e f = omega (arith, sums, same_out _ _ e, same_out _ _ f)

account_two : (c d e kq kr nq nr t1 t2 t3 : ℤ) (u : ℕ) → nq +ℤ c ≡ kq +ℤ d → nr +ℤ d ≡ kr +ℤ e → t1 ≡ kq → kr ≡ (t2 +ℤ nr) +ℤ pos u → nq ≡ pos 0 → t3 ≡ negsuc 0 → c +ℤ pos 0 ≡ ((t1 +ℤ (t2 +ℤ (t3 +ℤ pos 1))) +ℤ e) +ℤ pos (u + 0)
account_two c d e kq kr nq nr t1 t2 t3 u h i j l m o = omega (arith, sums, same_out _ _ h, same_out _ _ i, same_out _ _ j, same_out _ _ l, same_out _ _ m, same_out _ _ o)

regroup : (a b c d e : ℤ) → a +ℤ (b +ℤ (c +ℤ (d +ℤ e))) ≡ (a +ℤ (b +ℤ (c +ℤ d))) +ℤ e
regroup a b c d e = omega (arith, sums)

-- every qubit's last spider is there, and there is room for 16
pub record Ready (n : ℕ) (w : Wiring) : Type 0 where
  pub wide : length w.last ≡ 16
  pub lasts : (r : ℕ) → r < n → last_of w r < w.spiders

-- the items of gates and of the output legs
abbrev pub rest : ℕ → Wiring → List Gate → List Item
rest n w gs = (played n w gs finish).items

-- the spiders of these items have the colours of cs from the next one on
abbrev pub Coloured : ℕ → List Colour → Wiring → List Gate → Type 0
Coloured n cs w gs = (j : ℕ) → colour_at cs (w.spiders + j) ≡ colour_at (colours (rest n w gs)) j

-- the sum over m spiders of the terms f of the spiders so far with the gates and legs to come is what the
-- gates make of the state so far, with as many roots of two as the items say
abbrev pub Plays : (A : Amounts) → ℕ → List Colour → Bits → Wiring → List Gate → (Bits → A.Amount) → ℕ → Type 0
Plays A n cs b w gs f m =
    (p : ℕ) × (q : ℕ)
    × (A.mul (roots A p) (over A m (λ x. A.mul (f x) (term A cs (rest n w gs) w.spiders (map b (range_with_len 0 n)) x))) ≡ A.mul (roots A q) (act_all A gs (held A n (colour_at cs) w.spiders f (last_of w)) b))
    × (costs n (colour_at cs) (last_of w) +ℤ pos p ≡ root_power cs (rest n w gs) +ℤ pos (q + hadamards gs))

module _ (A : Amounts) (laws : Lawful A) (n : ℕ) (few : n ≤ 16) (cs : List Colour) (b : Bits) where
  open A use {Amount, one, mul}

  abbrev row : List Bool
  row = map b (range_with_len 0 n)

  abbrev col : ℕ → Colour
  col = colour_at cs

  ended : (w : Wiring) (f : Bits → Amount) (m : ℕ) → m ≡ w.spiders + length (colours (rest n w [])) → Plays A n cs b w [] f m
  ended w f m e =
      let all : m ≡ w.spiders = e ∙ ap (λ c. w.spiders + length c) (ends_colours (last_of w) (range_with_len 0 n)) ∙ add-zero w.spiders in
      let from : (r : ℕ) → 0 + r ≡ r = λ r. omega arith in (
        0,
        0,
        ap (mul (roots A 0)) (ap (λ k. over A k (λ x. mul (f x) (term A cs (rest n w []) w.spiders row x))) all
            ∙ sum_same A w.spiders every_slot _ _ (λ x h. ap (mul (f x)) (ends_term A laws cs (last_of w) b x w.spiders n 0 ∙ fold_same mul one n _ _ (λ r l. ap (legs A (kinds col (last_of w)) (last_of w) x b) (from r))))),
        ap (λ t. t +ℤ pos 0) (sym (ends_cost cs (last_of w) n 0 ∙ fold_same ◌+ℤ◌ (pos 0) n _ _ (λ r l. ap (λ j. cost (kinds col (last_of w) j)) (from r)))),
      )

  -- one gate before the others
  onward : (w : Wiring) (g : Gate) (gs : List Gate) (f h : Bits → Amount) (m p2 q2 hg : ℕ) (cg : ℤ)
      → ((x : Bits) → mul (f x) (term A cs (rest n w (g ∷ gs)) w.spiders row x) ≡ mul (h x) (term A cs (rest n (wired w g) gs) (wired w g).spiders row x))
      → ((y : Bits) → mul (roots A p2) (held A n col (wired w g).spiders h (last_of (wired w g)) y) ≡ mul (roots A q2) (act A g (held A n col w.spiders f (last_of w)) y))
      → costs n col (last_of w) +ℤ pos p2 ≡ (cg +ℤ costs n col (last_of (wired w g))) +ℤ pos (q2 + hg)
      → root_power cs (rest n w (g ∷ gs)) ≡ cg +ℤ root_power cs (rest n (wired w g) gs)
      → hadamards (g ∷ gs) ≡ hg + hadamards gs
      → Plays A n cs b (wired w g) gs h m
      → Plays A n cs b w (g ∷ gs) f m
  onward w g gs f h m p2 q2 hg cg terms acts paid cost-is count (p1, q1, e, i) = (
    p2 + p1,
    q1 + q2,
    sym (roots_twice A laws p2 p1 _)
        ∙ ap (mul (roots A p2)) (ap (mul (roots A p1)) (sum_same A m every_slot _ _ (λ x l. terms x)) ∙ e)
        ∙ mul_front A laws (roots A p2) (roots A q1) _
        ∙ ap (mul (roots A q1)) ((λ j. sym (act_all_scale A laws gs (roots A p2) after) j b) ∙ ap (λ psi. act_all A gs psi b) (fun_ext acts) ∙ (λ j. act_all_scale A laws gs (roots A q2) (act A g before) j b))
        ∙ roots_twice A laws q1 q2 _,
    account_on _ _ _ _ cg p1 p2 q1 q2 _ hg _ paid cost-is count i,
  )
    where
      before : Bits → Amount
      before = held A n col w.spiders f (last_of w)

      after : Bits → Amount
      after = held A n col (wired w g).spiders h (last_of (wired w g))

  -- one more qubit that ends at the newest spider
  ready_after : (l : List ℕ) (k q : ℕ) → length l ≡ 16 → ((r : ℕ) → r < n → get_or l r 0 < k) → q < n → (length (set l q k) ≡ 16) × ((r : ℕ) → r < n → get_or (set l q k) r 0 < k + 1)
  ready_after l k q wide lasts below = (length-set l q k ∙ wide, λ r h. let e : get_or (set l q k) r 0 ≡ changed (λ j. get_or l j 0) q k r = ap (λ (F : ℕ → ℕ). F r) (set_changed l q k (omega arith)) in let c = either r (eqb r q) h in omega arith)
    where
      either : (r : ℕ) (c : Bool) → r < n → cond c k (get_or l r 0) < k + 1
      either r true h = omega arith
      either r false h = let l = lasts r h in omega arith

  legs-cost : (L : ℕ → ℕ) (q k : ℕ) → q < n → cost (at_end (col k) Plain) +ℤ costs n col L ≡ cost (kinds col L q) +ℤ costs n col (changed L q k)
  legs-cost L q k below = fold_change ◌+ℤ◌ (pos 0) +ℤ_comm +ℤ_assoc +ℤ_idr n (λ r. cost (kinds col L r)) q (cost (at_end (col k) Plain)) below ∙ ap (λ t. cost (kinds col L q) +ℤ t) (fold_same ◌+ℤ◌ (pos 0) n _ _ (λ r h. either r (eqb r q)))
    where
      either : (r : ℕ) (c : Bool) → cond c (cost (at_end (col k) Plain)) (cost (kinds col L r)) ≡ cost (at_end (col (cond c k (L r))) Plain)
      either r true = refl
      either r false = refl

  one_plays : (w : Wiring) (g : Single) (q : ℕ) (gs : List Gate) (f : Bits → Amount) (m : ℕ) → Ready n w → Local A w.spiders f → Coloured n cs w (One g q ∷ gs) → q < n → Plays A n cs b (wired w (One g q)) gs (spread A col w.spiders (last_of w q) (quarters_of g) (single_kind g) f) m → Plays A n cs b w (One g q ∷ gs) f m
  one_plays w g q gs f m ready local coloured below = onward w (One g q) gs f _ m (missing_at g C) (left_at g C) (is_hadamard g) (cost T)
      (λ x. ap (mul (f x)) (single-term A g cs _ k row x) ∙ ap (mul (f x)) (sym (laws.mul_assoc _ _ _)) ∙ sym (laws.mul_assoc _ _ _))
      (λ y. ap₂ (λ j L. mul (roots A (missing_at g C)) (held A n col j (spread A col k (last_of w q) (quarters_of g) (single_kind g) f) L y)) (add-one k) lasts_are
      ∙ one_acts A laws n k col f (last_of w) local ready.lasts g q below colour y)
      (account_one _ _ _ _ (cost T) (missing_at g C) _ (legs-cost (last_of w) q k below ∙ ap (λ L. cost (kinds col (last_of w) q) +ℤ costs n col L) (sym lasts_are))
      (single_account g C ∙ ap (λ N. (cost (at_end C (at_end N (single_kind g))) +ℤ cost (at_end N Plain)) +ℤ pos (left_at g C + is_hadamard g)) (sym colour)))
      (single-root g cs _)
      refl
    where
      k : ℕ
      k = w.spiders

      C : Colour
      C = col (last_of w q)

      T : Kind
      T = at_end C (at_end (col k) (single_kind g))

      lasts_are : last_of (wired w (One g q)) ≡ changed (last_of w) q k
      lasts_are = let l = ready.wide in set_changed w.last q k (omega arith)

      colour : col k ≡ colour_of g
      colour = ap col (sym (add-zero k)) ∙ coloured 0 ∙ ap (λ c. colour_at c 0) (single-colours g _)

  -- the factors of a gate on two qubits, each wire at its spider
  gather : (f s t i j l R : Amount) → mul f (mul s (mul t (mul i (mul j (mul l R))))) ≡ mul (mul (mul (mul f (mul s i)) (mul t j)) l) R
  gather f s t i j l R =
      ap (λ v. mul f (mul s v)) (mul_front A laws t i _)
      ∙ ap (mul f) (sym (laws.mul_assoc s i _) ∙ ap (mul (mul s i)) (sym (laws.mul_assoc t j _)))
      ∙ sym (laws.mul_assoc f _ _) ∙ sym (laws.mul_assoc _ _ _) ∙ sym (laws.mul_assoc _ _ _)

  two_plays : (w : Wiring) (g : Double) (q r : ℕ) (gs : List Gate) (f : Bits → Amount) (m : ℕ) → Ready n w → Local A w.spiders f → Coloured n cs w (Two g q r ∷ gs) → q < n → r < n → (r ≡ q → ⊥) → Plays A n cs b (wired w (Two g q r)) gs (spread_joined A col w.spiders (last_of w) q r f) m → Plays A n cs b w (Two g q r ∷ gs) f m
  two_plays w g q r gs f m ready local coloured below below-too apart = onward w (Two g q r) gs f _ m 0 (left N (col (L r))) 0 (to_q +ℤ (to_r +ℤ (across +ℤ pos 1)))
      (λ x. gather _ _ _ _ _ _ _ ∙ ap₂ mul (same_terms x) (ap (λ j. term A cs (rest n (wired w (Two g q r)) gs) j row x) two_more))
      (λ y. no_roots A laws _
      ∙ ap₂ (λ j M. held A n col j (spread_joined A col k L q r f) M y) (omega arith) lasts_are
      ∙ two_acts A laws n k col f L local ready.lasts q r below below-too apart g first second y)
      (account_two _ _ _ _ _ _ _ to_q to_r across _ (legs-cost L q k below)
      (legs-cost (changed L q k) r (suc k) below-too ∙ ap₂ (λ j M. cost (at_end (col j) Plain) +ℤ costs n col M) (changed-apart L q r k apart) (sym lasts_are))
      (ap (λ c. cost (at_end (col (L q)) (at_end c Plain))) first)
      (idle_account N (col (L r)) ∙ ap₂ (λ c d. (cost (at_end (col (L r)) (at_end c Plain)) +ℤ cost (at_end d Plain)) +ℤ pos (left N (col (L r)))) (sym second_too) (sym second))
      (ap (λ c. cost (at_end c Plain)) first)
      (ap cost joins))
      (regroup to_q to_r across (pos 1) (root_power cs (rest n (wired w (Two g q r)) gs)))
      (omega arith)
    where
      k : ℕ
      k = w.spiders

      L : ℕ → ℕ
      L = last_of w

      N : Colour
      N = second_colour g

      -- what the wires cost
      to_q : ℤ
      to_q = cost (at_end (col (L q)) (at_end (col k) Plain))

      to_r : ℤ
      to_r = cost (at_end (col (L r)) (at_end (col (k + 1)) Plain))

      across : ℤ
      across = cost (at_end (col k) (at_end (col (k + 1)) (between_kind g)))

      two_more : k + 1 + 1 ≡ k + 2
      two_more = omega arith

      lasts_are : last_of (wired w (Two g q r)) ≡ twice L k q r
      lasts_are =
          let l = ready.wide in
          let wide = length-set w.last q k in
          set_changed (set w.last q k) r (k + 1) (omega arith)
          ∙ ap₂ (λ (M : ℕ → ℕ) (v : ℕ). changed M r v) (set_changed w.last q k (omega arith)) (add-one k)

      first : col k ≡ Z
      first = ap col (sym (add-zero k)) ∙ coloured 0

      second_too : col (k + 1) ≡ N
      second_too = coloured 1

      second : col (suc k) ≡ N
      second = ap col (sym (add-one k)) ∙ second_too

      joins : at_end (col k) (at_end (col (k + 1)) (between_kind g)) ≡ HadamardWire
      joins = ap₂ (λ c d. at_end c (at_end d (between_kind g))) first second_too ∙ between g

      same_terms : (x : Bits) → mul (mul (mul (f x) (mul (spun A 0 (x k)) (joint A (at_end (col (L q)) (at_end (col k) Plain)) (x (L q)) (x k)))) (mul (spun A 0 (x (k + 1))) (joint A (at_end (col (L r)) (at_end (col (k + 1)) Plain)) (x (L r)) (x (k + 1))))) (joint A (at_end (col k) (at_end (col (k + 1)) (between_kind g))) (x k) (x (k + 1))) ≡ spread_joined A col k L q r f x
      same_terms x =
          let at_q : k ≡ twice L k q r q = sym (twice_first L k q r apart) in
          let at_r : k + 1 ≡ twice L k q r r = add-one k ∙ sym (twice_second L k q r) in
          let before = sym (changed-apart L q r k apart) in
          let next = add-one k in
          λ i. mul (mul (mul (f x) (mul (spun A 0 (x k)) (joint A (at_end (col (L q)) (at_end (col k) Plain)) (x (L q)) (x k)))) (mul (spun A 0 (x (next i))) (joint A (at_end (col (before i)) (at_end (col (next i)) Plain)) (x (before i)) (x (next i))))) (joint A (joins i) (x (at_q i)) (x (at_r i)))

  -- the gates and the legs to come, at any wiring that is ready
  pub plays : (gs : List Gate) (w : Wiring) (f : Bits → Amount) (m : ℕ) → Ready n w → Local A w.spiders f → Coloured n cs w gs → AllByRecursion (Valid n) gs → m ≡ w.spiders + length (colours (rest n w gs)) → Plays A n cs b w gs f m
  plays [] w f m ready local coloured valid e = ended w f m e
  plays (One g q ∷ gs) w f m ready local coloured valid e =
      let k = w.spiders in
      let more = ready_after w.last k q ready.wide ready.lasts valid.0 in
      one_plays w g q gs f m ready local coloured valid.0 (plays gs (wired w (One g q)) (spread A col k (last_of w q) (quarters_of g) (single_kind g) f) m
      (record { wide = more.0; lasts = more.1 })
      (rw (add-one k) (spread_local A laws col k (last_of w q) (quarters_of g) (single_kind g) f (ready.lasts q valid.0) local))
      (λ j. let far : k + 1 + j ≡ k + suc j = omega arith in ap col far ∙ coloured (suc j) ∙ ap (λ c. colour_at c (suc j)) (single-colours g _))
      valid.1
      (e ∙ ap (λ c. k + length c) (single-colours g _) ∙ omega arith))
  plays (Two g q r ∷ gs) w f m ready local coloured valid e =
      let k = w.spiders in
      let (below, below-too, apart) = valid.0 in
      let more = ready_after w.last k q ready.wide ready.lasts below in
      let most = ready_after (set w.last q k) (k + 1) r more.0 more.1 below-too in
      let two : k + 2 ≡ suc (suc k) = omega arith in
      two_plays w g q r gs f m ready local coloured below below-too apart (plays gs (wired w (Two g q r)) (spread_joined A col k (last_of w) q r f) m
      (record { wide = most.0; lasts = λ j h. let l = most.1 j h in omega arith })
      (rw two (joined_local A laws n k col f (last_of w) local ready.lasts q r below below-too apart))
      (λ j. let far : k + 2 + j ≡ k + suc (suc j) = omega arith in ap col far ∙ coloured (suc (suc j)))
      valid.1
      (e ∙ omega arith))
