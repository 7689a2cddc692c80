-- A text that spells a circuit is read as its gates. Assumes nothing.
use Rattle.std.proofs.Common.{◌≡◌, ℕ, ◌+◌, ◌/◌, ◌%◌, ◌<◌, ◌≤◌, Bool, true, false, cond, ◌&&◌, eqb, ltb, leb, List, [], ◌∷◌, ◌++◌, length, get_or, take, drop, Ok, sym, refl, ap, ◌∙◌, append_assoc, arith, ltb-false, ltb-true, lt-ltb, eq-eqb, ne_eqb}
use Rattle.std.proofs.lemmas.List.{get_or-drop, drop-drop, take_at, drop_at, length-append, length-drop}
use Rattle.std.proofs.lemmas.Bool.Decides.{nat_tests}
use Rattle.std.specs.List.{flat_map, AllByRecursion}
use Rattle.diagrams.specs.Streams.{finish}
use Rattle.circuits.specs.Gates.{circuit_items}
use Rattle.circuits.specs.Tokens.{decimal, is_digit, digits_at, number_at, line_end}
use Rattle.circuits.specs.declared.gates.Single.{Single}
use Rattle.circuits.specs.declared.gates.Single.TheVariants.{Hadamard, S, SInverse, PauliX, PauliZ}
use Rattle.circuits.specs.declared.gates.Double.{Double}
use Rattle.circuits.specs.declared.gates.Double.TheVariants.{ControlledX, ControlledZ}
use Rattle.circuits.specs.declared.gates.Gate.{Gate}
use Rattle.circuits.specs.declared.gates.Gate.TheVariants.{One, Two}
use Rattle.circuits.specs.declared.lines.Name.TheVariants.{OneQubit, TwoQubits}
use Rattle.circuits.specs.Lines.{named, tested_at, operands_at, gate_at, head_at}
use Rattle.circuits.specs.Circuits.{Script, line_then, gates_from, headed, circuit}
use Rattle.circuits.proofs.Moves.{gates_end, gates-more, circuit-short}
use Rattle.circuits.specs.Spelling.{spell_number, single_letter, double_letter, spell_gate, Valid, Spells}

module _ (bs : List ℕ) (p : ℕ) (xs : List ℕ) (e : drop p bs ≡ xs) where
  byte : (k : ℕ) → get_or bs (p + k) 0 ≡ get_or xs k 0
  byte k = sym (get_or-drop p bs k 0) ∙ ap (λ l. get_or l k 0) e

  further : (k : ℕ) → drop (p + k) bs ≡ drop k xs
  further k = sym (drop-drop k p bs) ∙ ap (drop k) e

first : (bs : List ℕ) (p x : ℕ) (xs : List ℕ) → drop p bs ≡ x ∷ xs → get_or bs p 0 ≡ x
first bs p x xs e = let same : p ≡ p + 0 = omega arith in ap (λ k. get_or bs k 0) same ∙ byte bs p (x ∷ xs) e 0

digits_one : (bs : List ℕ) (p d c : ℕ) (post : List ℕ) → drop p bs ≡ (48 + d) ∷ c ∷ post → d < 10 → is_digit c ≡ false → digits_at bs p ≡ 1
digits_one bs p d c post e small end =
    let a = first bs p (48 + d) (c ∷ post) e in
    let b = byte bs p ((48 + d) ∷ c ∷ post) e 1 in
    rw (a, b, end) (grind (arith, nat_tests))

digits_two : (bs : List ℕ) (p d c : ℕ) (post : List ℕ) → drop p bs ≡ (48 + d) ∷ (48 + c) ∷ post → 0 < d → d < 10 → c < 10 → digits_at bs p ≡ 2
digits_two bs p d c post e some small small2 =
    let a = first bs p (48 + d) ((48 + c) ∷ post) e in
    let b = byte bs p ((48 + d) ∷ (48 + c) ∷ post) e 1 in
    rw (a, b) (grind (arith, nat_tests))

-- a number below a hundred is spelled with one digit or with two
by_digits : (q : ℕ) (P : List ℕ → Type 0) → (q < 10 → P ((48 + q) ∷ [])) → (10 ≤ q → P ((48 + q / 10) ∷ (48 + q % 10) ∷ [])) → P (spell_number q)
by_digits q P one two = go (ltb q 10) refl
  where
    go : (b : Bool) → ltb q 10 ≡ b → P (cond b ((48 + q) ∷ []) ((48 + q / 10) ∷ (48 + q % 10) ∷ []))
    go true e = one (ltb-true q 10 e)
    go false e = two (ltb-false q 10 e)

digits_spelled : (bs : List ℕ) (p q c : ℕ) (post : List ℕ) → drop p bs ≡ spell_number q ++ (c ∷ post) → q < 100 → is_digit c ≡ false → digits_at bs p ≡ length (spell_number q)
digits_spelled bs p q c post e small end =
    by_digits q (λ ds. drop p bs ≡ ds ++ (c ∷ post) → digits_at bs p ≡ length ds)
    (λ h e1. digits_one bs p q c post e1 h end)
    (λ h e2. digits_two bs p (q / 10) (q % 10) (c ∷ post) e2 (omega arith) (omega arith) (omega arith))
    e

decimal_spelled : (q : ℕ) → q < 100 → decimal (spell_number q) ≡ q
decimal_spelled q small = by_digits q (λ ds. decimal ds ≡ q) (λ h. omega arith) (λ h. omega arith)

some_spelled : (q : ℕ) → 0 < length (spell_number q)
some_spelled q = by_digits q (λ ds. 0 < length ds) (λ h. omega arith) (λ h. omega arith)

number_spelled : (bs : List ℕ) (p c : ℕ) (ds post : List ℕ) → drop p bs ≡ 32 ∷ (ds ++ (c ∷ post)) → digits_at bs (p + 1) ≡ length ds → 0 < length ds → number_at bs p ≡ Ok (ds, p + 1)
number_spelled bs p c ds post e many some =
    let space : eqb (get_or bs p 0) 32 ≡ true = eq-eqb (get_or bs p 0) 32 (first bs p 32 (ds ++ (c ∷ post)) e) in
    let here : eqb (length ds) 0 ≡ false = ne_eqb (length ds) 0 (λ z. omega arith) in
    let text : take (length ds) (drop (p + 1) bs) ≡ ds = ap (take (length ds)) (further bs p (32 ∷ (ds ++ (c ∷ post))) e 1) ∙ take_at ds (c ∷ post) (length ds) refl in
    rw (space, many, here, text)

module _ (bs : List ℕ) (p q c : ℕ) (post : List ℕ) (e : drop p bs ≡ 32 ∷ (spell_number q ++ (c ∷ post))) (small : q < 100) (end : is_digit c ≡ false) where
  tested_spelled : (good : ℕ → Bool) → good q ≡ true → tested_at good bs p ≡ Ok (q, p + 1 + length (spell_number q))
  tested_spelled good g =
      let many = digits_spelled bs (p + 1) q c post (further bs p (32 ∷ (spell_number q ++ (c ∷ post))) e 1) small end in
      let read = number_spelled bs p c (spell_number q) post e many (some_spelled q) in
      rw (read, decimal_spelled q small, g)

  -- what follows the number
  after-number : drop (p + 1 + length (spell_number q)) bs ≡ c ∷ post
  after-number =
      further bs (p + 1) (spell_number q ++ (c ∷ post)) (further bs p (32 ∷ (spell_number q ++ (c ∷ post))) e 1) (length (spell_number q))
      ∙ drop_at (spell_number q) (c ∷ post) (length (spell_number q)) refl

past_end : (bs : List ℕ) (p : ℕ) → drop p bs ≡ [] → length bs ≤ p
past_end bs p e = omega (arith, length-drop p bs, ap length e)

before_end : (bs : List ℕ) (p : ℕ) (xs : List ℕ) → drop p bs ≡ xs → 0 < length xs → p < length bs
before_end bs p xs e some = omega (arith, length-drop p bs, ap length e)

long_gate : (g : Gate) (post : List ℕ) → 0 < length (spell_gate g ++ post)
long_gate (One g q) post = omega arith
long_gate (Two g q r) post = omega arith

line_end_spelled : (bs : List ℕ) (p : ℕ) (post : List ℕ) → drop p bs ≡ 10 ∷ post → line_end bs p ≡ Ok (p + 1)
line_end_spelled bs p post e =
    let here : eqb (get_or bs p 0) 10 ≡ true = eq-eqb (get_or bs p 0) 10 (first bs p 10 post e) in
    rw here

named-single : (g : Single) (p : ℕ) → named (single_letter g) p ≡ Ok (OneQubit g)
named-single Hadamard p = refl
named-single S p = refl
named-single SInverse p = refl
named-single PauliX p = refl
named-single PauliZ p = refl

named-double : (g : Double) (p : ℕ) → named (double_letter g) p ≡ Ok (TwoQubits g)
named-double ControlledX p = refl
named-double ControlledZ p = refl

-- a line is read as the gate that it spells
module _ (n : ℕ) (few : n ≤ 16) (bs : List ℕ) where
  one_spelled : (p q : ℕ) (g : Single) (post : List ℕ) → drop p bs ≡ 32 ∷ (spell_number q ++ (10 ∷ post)) → q < n → operands_at n bs p (OneQubit g) ≡ Ok (One g q, p + 1 + length (spell_number q) + 1)
  one_spelled p q g post e h =
      let read = tested_spelled bs p q 10 post e (omega arith) refl (λ v. ltb v n) (lt-ltb q n h) in
      let ended = line_end_spelled bs (p + 1 + length (spell_number q)) post (after-number bs p q 10 post e (omega arith) refl) in
      rw (read, ended)

  two_spelled : (p q r : ℕ) (g : Double) (post : List ℕ) → drop p bs ≡ 32 ∷ (spell_number q ++ (32 ∷ (spell_number r ++ (10 ∷ post)))) → q < n → r < n → (r ≡ q → ⊥) → operands_at n bs p (TwoQubits g) ≡ Ok (Two g q r, p + 1 + length (spell_number q) + 1 + length (spell_number r) + 1)
  two_spelled p q r g post e h k ne =
      let o = p + 1 + length (spell_number q) in
      let more = spell_number r ++ (10 ∷ post) in
      let read = tested_spelled bs p q 32 more e (omega arith) refl (λ v. ltb v n) (lt-ltb q n h) in
      let next = after-number bs p q 32 more e (omega arith) refl in
      let again = tested_spelled bs o r 10 post next (omega arith) refl (λ v. ltb v n) (lt-ltb r n k) in
      let other : eqb r q ≡ false = ne_eqb r q ne in
      let ended = line_end_spelled bs (o + 1 + length (spell_number r)) post (after-number bs o r 10 post next (omega arith) refl) in
      rw (read, again, other, ended)

  gate_spelled : (p : ℕ) (g : Gate) (post : List ℕ) → drop p bs ≡ spell_gate g ++ post → Valid n g → gate_at n bs p ≡ Ok (g, p + length (spell_gate g))
  gate_spelled p (One g q) post e v =
      let text : drop p bs ≡ single_letter g ∷ 32 ∷ (spell_number q ++ (10 ∷ post)) = e ∙ simp append_assoc in
      let letter = first bs p (single_letter g) (32 ∷ (spell_number q ++ (10 ∷ post))) text in
      let rest = one_spelled (p + 1) q g post (further bs p (single_letter g ∷ 32 ∷ (spell_number q ++ (10 ∷ post))) text 1) v in
      let long : p + 1 + 1 + length (spell_number q) + 1 ≡ p + length (spell_gate (One g q)) = omega (arith, length-append {A = ℕ}) in
      rw (letter, named-single g p, rest, long)
  gate_spelled p (Two g q r) post e v =
      let tail = spell_number r ++ (10 ∷ post) in
      let text : drop p bs ≡ double_letter g ∷ 32 ∷ (spell_number q ++ (32 ∷ tail)) = e ∙ simp append_assoc in
      let letter = first bs p (double_letter g) (32 ∷ (spell_number q ++ (32 ∷ tail))) text in
      let rest = two_spelled (p + 1) q r g post (further bs p (double_letter g ∷ 32 ∷ (spell_number q ++ (32 ∷ tail))) text 1) v.0 v.1 v.2 in
      let long : p + 1 + 1 + length (spell_number q) + 1 + length (spell_number r) + 1 ≡ p + length (spell_gate (Two g q r)) = omega (arith, length-append {A = ℕ}) in
      rw (letter, named-double g p, rest, long)

  gates_spelled : (gs : List Gate) (p : ℕ) → drop p bs ≡ flat_map spell_gate gs → AllByRecursion (Valid n) gs → gates_from n bs p ≡ record { gates = gs; ending = finish }
  gates_spelled [] p e v = gates_end n bs p (past_end bs p e)
  gates_spelled (g ∷ gs) p e v =
      let on : p < length bs = before_end bs p (spell_gate g ++ flat_map spell_gate gs) e (long_gate g (flat_map spell_gate gs)) in
      let line = gate_spelled p g (flat_map spell_gate gs) e v.0 in
      let q = p + length (spell_gate g) in
      let more = further bs p (spell_gate g ++ flat_map spell_gate gs) e (length (spell_gate g)) ∙ drop_at (spell_gate g) (flat_map spell_gate gs) (length (spell_gate g)) refl in
      gates-more n bs p on
      ∙ ap (λ r. line_then r (gates_from n bs)) line
      ∙ ap (λ (s : Script). record { gates = g ∷ s.gates; ending = s.ending }) (gates_spelled gs q more v.1)

-- the first line of a text that spells a circuit
module _ (n : ℕ) (some : 0 < n) (few : n ≤ 16) (bs more : List ℕ) (e : bs ≡ 110 ∷ 32 ∷ (spell_number n ++ (10 ∷ more))) where
  space : drop 1 bs ≡ 32 ∷ (spell_number n ++ (10 ∷ more))
  space = ap (drop 1) e

  head_spelled : head_at bs ≡ Ok (n, 1 + 1 + length (spell_number n) + 1)
  head_spelled =
      let letter : eqb (get_or bs 0 0) 110 ≡ true = eq-eqb (get_or bs 0 0) 110 (ap (λ l. get_or l 0 0) e) in
      let inside : (leb 1 n && leb n 16) ≡ true = grind (arith, nat_tests) in
      let read = tested_spelled bs 1 n 10 more space (omega arith) refl (λ v. leb 1 v && leb v 16) inside in
      let ended = line_end_spelled bs (1 + 1 + length (spell_number n)) more (after-number bs 1 n 10 more space (omega arith) refl) in
      rw (letter, read, ended)

  after_head : drop (1 + 1 + length (spell_number n) + 1) bs ≡ more
  after_head = further bs (1 + 1 + length (spell_number n)) (10 ∷ more) (after-number bs 1 n 10 more space (omega arith) refl) 1

-- a text that spells a circuit gives exactly its items, and then the end
pub spelled_reads : (n : ℕ) (gs : List Gate) (bs : List ℕ) → Spells n gs bs → circuit bs ≡ circuit_items n gs finish
spelled_reads n gs bs s =
    let head = head_spelled n s.some s.few bs (flat_map spell_gate gs) s.text in
    let start = 1 + 1 + length (spell_number n) + 1 in
    let script = gates_spelled n s.few bs gs start (after_head n s.some s.few bs (flat_map spell_gate gs) s.text) s.valid in
    circuit-short bs s.short ∙ (ap (headed bs) head ∙ ap (λ (t : Script). circuit_items n t.gates t.ending) script)
