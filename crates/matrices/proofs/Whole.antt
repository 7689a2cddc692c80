-- A circuit's amplitude is what its gates make of the input row. Assumes nothing.
use Rattle.std.proofs.Common.{◌≡◌, ℕ, zero, suc, ◌+◌, ◌<◌, ◌≤◌, List, [], ◌∷◌, map, length, ℤ, pos, ◌+ℤ◌, ◌-ℤ◌, neg_ℤ, sym, refl, ap, ◌∙◌, subst, ap₂, zero-add, arith}
use mathlib.Core.Path.{fun_ext}
use borrow.Author.Differences.{up, same_out}
use lib.IntN.{+ℤ_idl}
use Rattle.std.specs.List.{range_with_len, AllByRecursion}
use Rattle.std.proofs.lemmas.List.FromFn.{get_or-range_with_len}
use Rattle.amounts.specs.Amounts.{Amounts, Lawful, turned}
use Rattle.amounts.specs.Eighths.{eighths, times}
use Rattle.amounts.specs.Scalars.{Scaled, Same, rooted, excess}
use Rattle.amounts.proofs.Eighths.{lawful}
use Rattle.amounts.proofs.Integers.{sums}
use Rattle.amounts.proofs.Powers.{one-mul}
use Rattle.amounts.proofs.Scalars.{rooted_cancels}
use Rattle.graphs.specs.Graphs.{Bits}
use Rattle.graphs.proofs.Sums.{sum_same}
use Rattle.amounts.proofs.Turns.{turned_none}
use Rattle.diagrams.specs.Streams.{finish}
use Rattle.diagrams.specs.declared.items.Colour.{Colour}
use Rattle.diagrams.specs.declared.items.Colour.TheVariants.{Z}
use Rattle.diagrams.specs.declared.items.Kind.TheVariants.{Plain}
use Rattle.diagrams.specs.declared.items.Item.{Item}
use Rattle.amplitudes.specs.Items.{colours, at_end, joint, term, terms_sum, every_slot, cost, root_power, eighth_turns, amplitude}
use Rattle.circuits.specs.declared.gates.Single.{Single}
use Rattle.circuits.specs.declared.gates.Gate.{Gate}
use Rattle.circuits.specs.declared.gates.Gate.TheVariants.{One, Two}
use Rattle.circuits.specs.declared.wiring.Wiring.{Wiring}
use Rattle.circuits.specs.Gates.{single_spider, last_of, wired, fresh, circuit_items}
use Rattle.circuits.specs.Spelling.{Valid}
use Rattle.circuits.proofs.Accepting.{accepted_spells}
use Rattle.circuits.proofs.Spelling.{spelled_reads}
use Rattle.matrices.specs.Matrices.{indicator, act_all, hadamards, row_of, gates_amplitude, CircuitsAreMatrices, TextsAreMatrices, AcceptedTextsAreMatrices}
use Rattle.matrices.proofs.Folds.{fold, fold_same}
use Rattle.matrices.proofs.States.{over, mul_front}
use Rattle.matrices.proofs.Steps.{roots, roots_twice}
use Rattle.matrices.proofs.Acts.{kinds, held}
use Rattle.matrices.proofs.Played.{colour_at, costs, ends, single_is, Ready, rest, Plays, plays}
use Rattle.matrices.proofs.Opened.{opening-low, opening_high, opening_length, opening-turns, opening-root, opening-term, taken, taken_local, select, taken_is}

-- no item of a circuit turns by eighths
ends_turns : (L : ℕ → ℕ) (qs : List ℕ) → eighth_turns (ends L qs) ≡ 0
ends_turns L [] = refl
ends_turns L (q ∷ qs) = ends_turns L qs

single-turns : (g : Single) (is : List Item) → eighth_turns (single_spider g ∷ is) ≡ eighth_turns is
single-turns g is = ap (λ i. eighth_turns (i ∷ is)) (single_is g)

rest_turns : (n : ℕ) (gs : List Gate) (w : Wiring) → eighth_turns (rest n w gs) ≡ 0
rest_turns n [] w = ends_turns (last_of w) (range_with_len 0 n)
rest_turns n (One g q ∷ gs) w = single-turns g _ ∙ rest_turns n gs (wired w (One g q))
rest_turns n (Two g q r ∷ gs) w = zero-add _ ∙ rest_turns n gs (wired w (Two g q r))

-- the same amount, by any powers of √2 that make both numbers equal
same_by : (x y : Scaled) (p q : ℕ) → x.k +ℤ pos q ≡ y.k +ℤ pos p → times (rooted p) x.z ≡ times (rooted q) y.z → Same x y
same_by x y p q e h =
    let u = excess x.k y.k in
    let v = excess y.k x.k in
    let back : y.k -ℤ x.k ≡ neg_ℤ (x.k -ℤ y.k) = omega (arith, sums) in
    let level : u + q ≡ v + p = omega (arith, sums, same_out _ _ e, ap up back) in
    rooted_cancels p _ _ (
    mul_front eighths lawful (rooted p) (rooted u) x.z ∙ ap (times (rooted u)) h ∙ roots_twice eighths lawful u q y.z
    ∙ ap (λ j. times (rooted j) y.z) level ∙ sym (roots_twice eighths lawful v p y.z) ∙ mul_front eighths lawful (rooted v) (rooted p) y.z)

-- the powers of √2 on both sides
settled : (r : ℤ) (p q h : ℕ) → pos p ≡ r +ℤ pos (q + h) → r +ℤ pos q ≡ neg_ℤ (pos h) +ℤ pos p
settled r p q h e = omega (arith, sums, same_out _ _ e)

module _ (A : Amounts) (laws : Lawful A) (n : ℕ) (few : n ≤ 16) (gs : List Gate) (valid : AllByRecursion (Valid n) gs) (a b : Bits) where
  open A use {Amount, one, mul}

  abbrev whole : List Item
  whole = (circuit_items n gs finish).items

  abbrev cs : List Colour
  cs = colours whole

  abbrev after : List Item
  after = rest n (fresh n) gs

  first : (j : ℕ) → j < n → colour_at cs j ≡ Z
  first j h = opening-low after n 0 j h

  fresh_is : (r : ℕ) → r < n → last_of (fresh n) r ≡ r
  fresh_is r h = get_or-range_with_len 0 16 r 0 (omega arith) ∙ zero-add r

  fresh-kind : (r : ℕ) → r < n → kinds (colour_at cs) (last_of (fresh n)) r ≡ Plain
  fresh-kind r h = ap (λ c. at_end c Plain) (ap (colour_at cs) (fresh_is r h) ∙ first r h)

  fresh_ready : Ready n (fresh n)
  fresh_ready = record { wide = refl; lasts = λ r h. let e = fresh_is r h in omega arith }

  fresh_costs : (m : ℕ) → m ≤ n → fold ◌+ℤ◌ (pos 0) m (λ r. cost (kinds (colour_at cs) (last_of (fresh n)) r)) ≡ pos 0
  unfolding fold
  fresh_costs zero h = refl
  fresh_costs (suc m) h = ap₂ ◌+ℤ◌ (fresh_costs m (omega arith)) (ap cost (fresh-kind m (omega arith)))

  -- the state after the opening is one at the input row
  fresh-held : (y : Bits) → held A n (colour_at cs) n (taken A n a) (last_of (fresh n)) y ≡ indicator A n a y
  fresh-held y =
      sum_same A n every_slot _ _ (λ x h. ap (mul (taken A n a x)) (fold_same mul one n _ _ (λ r l. λ i. joint A (fresh-kind r l i) (x (fresh_is r l i)) (y r))))
      ∙ select A laws n a (taken A n y) (taken_local A laws n y)
      ∙ taken_is A laws n a y

  whole_terms : terms_sum A whole (row_of n a b) ≡ over A (length cs) (λ x. mul (taken A n a x) (term A cs after n (map b (range_with_len 0 n)) x))
  whole_terms = sum_same A (length cs) every_slot _ _ (λ x h.
      opening-term after A laws cs a x (map b (range_with_len 0 n)) n 0
      ∙ ap₂ mul (fold_same mul one n _ _ (λ j l. λ i. joint A (at_end ((ap (colour_at cs) (zero-add j) ∙ first j l) i) Plain) (x (zero-add j i)) (a (zero-add j i)))) (ap (λ k. term A cs after k (map b (range_with_len 0 n)) x) (zero-add n)))

  -- the whole sum, with the roots of two that the items say
  whole_plays : (p : ℕ) × (q : ℕ) × (mul (roots A p) (terms_sum A whole (row_of n a b)) ≡ mul (roots A q) (act_all A gs (indicator A n a) b)) × (pos p ≡ root_power cs whole +ℤ pos (q + hadamards gs))
  whole_plays = conclude (plays A laws n few cs b gs (fresh n) (taken A n a) (length cs) fresh_ready (taken_local A laws n a) (opening_high after n 0) valid (opening_length after n 0))
    where
      conclude : Plays A n cs b (fresh n) gs (taken A n a) (length cs) → (p : ℕ) × (q : ℕ) × (mul (roots A p) (terms_sum A whole (row_of n a b)) ≡ mul (roots A q) (act_all A gs (indicator A n a) b)) × (pos p ≡ root_power cs whole +ℤ pos (q + hadamards gs))
      conclude (p, q, e, c) =
          let none : costs n (colour_at cs) (last_of (fresh n)) ≡ pos 0 = fresh_costs n (omega arith) in (
            p,
            q,
            ap (mul (roots A p)) whole_terms ∙ e ∙ ap (λ psi. mul (roots A q) (act_all A gs psi b)) (fun_ext fresh-held),
            sym (+ℤ_idl (pos p)) ∙ ap (λ t. t +ℤ pos p) (sym none) ∙ c ∙ ap (λ t. t +ℤ pos (q + hadamards gs)) (sym (opening-root after cs n 0 (λ j h. ap (colour_at cs) (zero-add j) ∙ first j h))),
          )

pub circuits_are_matrices : CircuitsAreMatrices
circuits_are_matrices n gs a b few valid = conclude (whole_plays eighths lawful n few gs valid a b)
  where
    items : List Item
    items = (circuit_items n gs finish).items

    none-turned : eighth_turns items ≡ 0
    none-turned = opening-turns (rest n (fresh n) gs) n 0 ∙ rest_turns n gs (fresh n)

    conclude : (p : ℕ) × (q : ℕ) × (times (rooted p) (terms_sum eighths items (row_of n a b)) ≡ times (rooted q) (act_all eighths gs (indicator eighths n a) b)) × (pos p ≡ root_power (colours items) items +ℤ pos (q + hadamards gs)) → Same (amplitude items (row_of n a b)) (gates_amplitude n gs a b)
    conclude (p, q, e, c) = same_by (amplitude items (row_of n a b)) (gates_amplitude n gs a b) p q (settled _ p q (hadamards gs) c)
        (ap (times (rooted p)) (ap (λ m. times (turned eighths m) (terms_sum eighths items (row_of n a b))) none-turned ∙ ap (λ t. times t (terms_sum eighths items (row_of n a b))) (turned_none eighths lawful) ∙ one-mul eighths lawful _) ∙ e)

pub texts_are_matrices : TextsAreMatrices
texts_are_matrices n gs bs a b s =
    let reads = spelled_reads n gs bs s in
    subst (λ t. Same (amplitude t.items (row_of n a b)) (gates_amplitude n gs a b)) (sym reads) (circuits_are_matrices n gs a b s.few s.valid)

pub accepted_texts_are_matrices : AcceptedTextsAreMatrices
accepted_texts_are_matrices bs end =
    let told = accepted_spells bs end in
    (told.0, told.1, told.2, λ a b. texts_are_matrices told.0 told.1 bs a b told.2)
