-- What a line that is read spells. Assumes nothing.
use Rattle.std.proofs.Common.{◌≡◌, ℕ, ◌+◌, ◌-◌, ◌*◌, ◌/◌, ◌%◌, ◌<◌, ◌≤◌, Bool, true, false, cond, ◌&&◌, eqb, ltb, leb, ◌⊎◌, List, ◌∷◌, ◌++◌, length, get_or, take, drop, Ok, Err, Result, sym, refl, ap, ◌∙◌, subst, ⊎_elim, append_assoc, arith, ltb-true, le-ltb, lt-ltb, eqb-true}
use borrow.Author.Tests.{eqb-false}
use Rattle.std.proofs.lemmas.List.{drop_more, get_or_past}
use Rattle.std.proofs.lemmas.Bool.Decides.{nat_tests, leb_tells}
use Rattle.refusals.specs.declared.Fault.{Fault}
use Rattle.circuits.specs.Tokens.{decimal, is_digit, digits_at, number_at, line_end}
use Rattle.circuits.specs.Spelling.{spell_number, single_letter, double_letter, spell_gate, Valid}
use Rattle.circuits.specs.Lines.{onward, named, tested_at, qubit_at, other_at, count_at, operands_at, gate_at, head_from}
use Rattle.circuits.specs.declared.lines.Name.{Name}
use Rattle.circuits.specs.declared.lines.Name.TheVariants.{OneQubit, TwoQubits}
use Rattle.circuits.specs.declared.gates.Gate.{Gate}
use Rattle.circuits.specs.declared.gates.Gate.TheVariants.{One, Two}

-- what was read, and what was read on from it
onward_inv : {X Y : Type 0} (r : Result X Fault) (k : X → Result Y Fault) (y : Y) → onward r k ≡ Ok y → (x : X) × (r ≡ Ok x) × (k x ≡ Ok y)
onward_inv (Ok x) k y e = (x, refl, e)
onward_inv (Err f) k y e = cc

ok_inv : {X : Type 0} (x y : X) (r : Result X Fault) → r ≡ Ok x → r ≡ Ok y → x ≡ y
ok_inv x y r a b = cc

-- the side of a test that gave something
first_inv : {X : Type 0} (b : Bool) (r : Result X Fault) (f : Fault) (x : X) → cond b r (Err f) ≡ Ok x → (b ≡ true) × (r ≡ Ok x)
first_inv true r f x e = (refl, e)
first_inv false r f x e = cc

second_inv : {X : Type 0} (b : Bool) (r : Result X Fault) (f : Fault) (x : X) → cond b (Err f) r ≡ Ok x → (b ≡ false) × (r ≡ Ok x)
second_inv true r f x e = cc
second_inv false r f x e = (refl, e)

-- a byte that is there begins what is left
begins : (bs : List ℕ) (p c : ℕ) → get_or bs p 0 ≡ c → 0 < c → drop p bs ≡ c ∷ drop (p + 1) bs
begins bs p c e some = drop_more bs p 0 on ∙ ap (λ b. b ∷ drop (p + 1) bs) e
  where
    on : p < length bs
    on = ⊎_elim (λ h. absurd (omega (arith, get_or_past bs p 0 h.1))) (λ h. h.1) (leb_tells (length bs) p)

abbrev name_letter : Name → ℕ
name_letter (OneQubit g) = single_letter g
name_letter (TwoQubits g) = double_letter g

named_inv : (b p : ℕ) (name : Name) → named b p ≡ Ok name → (b ≡ name_letter name) × (0 < b)
named_inv b p name e = (grind (arith, nat_tests), grind (arith, nat_tests))

-- a spelled number of k digits at p
record Number (bs : List ℕ) (p : ℕ) (ds : List ℕ) : Type 0 where
  text : drop p bs ≡ ds ++ drop (p + length ds) bs
  spelled : ds ≡ spell_number (decimal ds)

-- how a count of digits came about, at bytes x and y
digits_inv : (x y k : ℕ) → cond (eqb x 48) 1 (cond (is_digit x) (cond (is_digit y) 2 1) 0) ≡ k → 0 < k → ((k ≡ 1) × (48 ≤ x) × (x ≤ 57)) ⊎ ((k ≡ 2) × (49 ≤ x) × (x ≤ 57) × (48 ≤ y) × (y ≤ 57))
digits_inv x y k e some = grind (arith, nat_tests)

module _ (bs : List ℕ) (p : ℕ) where
  one_digit : 48 ≤ get_or bs p 0 → get_or bs p 0 ≤ 57 → Number bs p (take 1 (drop p bs))
  one_digit low high =
      let x = get_or bs p 0 in
      let text = begins bs p x refl (omega arith) in
      let small : ltb (x - 48) 10 ≡ true = lt-ltb (x - 48) 10 (omega arith) in
      let back : 48 + (x - 48) ≡ x = omega arith in
      rw text (record { text = text; spelled = rw (small, back) })

  two_digits : 49 ≤ get_or bs p 0 → get_or bs p 0 ≤ 57 → 48 ≤ get_or bs (p + 1) 0 → get_or bs (p + 1) 0 ≤ 57 → Number bs p (take 2 (drop p bs))
  two_digits low high low2 high2 =
      let x = get_or bs p 0 in
      let y = get_or bs (p + 1) 0 in
      let same : p + 1 + 1 ≡ p + 2 = omega arith in
      let text = begins bs p x refl (omega arith) ∙ ap (λ l. x ∷ l) (begins bs (p + 1) y refl (omega arith) ∙ ap (λ k. y ∷ drop k bs) same) in
      let v = 10 * (x - 48) + (y - 48) in
      let large : ltb v 10 ≡ false = le-ltb v 10 (omega arith) in
      let tens : 48 + v / 10 ≡ x = omega arith in
      let ones : 48 + v % 10 ≡ y = omega arith in
      rw text (record { text = text; spelled = rw (large, tens, ones) })

  number_inv : (k : ℕ) → digits_at bs p ≡ k → 0 < k → Number bs p (take k (drop p bs))
  number_inv k e some =
      ⊎_elim
      (λ h. subst (λ j. Number bs p (take j (drop p bs))) (sym h.0) (one_digit h.1 h.2))
      (λ h. subst (λ j. Number bs p (take j (drop p bs))) (sym h.0) (two_digits h.1 h.2 h.3 h.4))
      (digits_inv (get_or bs p 0) (get_or bs (p + 1) 0) k e some)

-- a number v after a space at p, which ends at o
abbrev SpelledAt : List ℕ → ℕ → ℕ → ℕ → Type 0
SpelledAt bs p v o = drop p bs ≡ 32 ∷ (spell_number v ++ drop o bs)

tested_inv : (good : ℕ → Bool) (bs : List ℕ) (p : ℕ) (v : ℕ × ℕ) → tested_at good bs p ≡ Ok v → (good v.0 ≡ true) × SpelledAt bs p v.0 v.1
tested_inv good bs p v e =
    let step = onward_inv (number_at bs p) _ v e in
    let t = step.0 in
    let spaced = first_inv (eqb (get_or bs p 0) 32) _ _ t step.1 in
    let count = second_inv (eqb (digits_at bs (p + 1)) 0) _ _ t spaced.1 in
    let some : digits_at bs (p + 1) ≡ 0 → ⊥ = eqb-false (digits_at bs (p + 1)) 0 count.0 in
    let number = number_inv bs (p + 1) (digits_at bs (p + 1)) refl (omega arith) in
    let judged = first_inv (good (decimal t.0)) _ _ v step.2 in
    let ds = take (digits_at bs (p + 1)) (drop (p + 1) bs) in
    let start = begins bs p 32 (eqb-true (get_or bs p 0) 32 spaced.0) (omega arith) in
    let read = start ∙ ap (λ l. 32 ∷ l) (number.text ∙ ap (λ l. l ++ drop (p + 1 + length ds) bs) number.spelled) in
    let spelled = subst (λ (u : List ℕ × ℕ). SpelledAt bs p (decimal u.0) (u.1 + length u.0)) (ok_inv (ds, p + 1) t _ refl count.1) read in
    subst (λ (u : ℕ × ℕ). (good u.0 ≡ true) × SpelledAt bs p u.0 u.1) (ok_inv (decimal t.0, t.1 + length t.0) v _ refl judged.1) (judged.0, spelled)

line_end_inv : (bs : List ℕ) (p e : ℕ) → line_end bs p ≡ Ok e → drop p bs ≡ 10 ∷ drop e bs
line_end_inv bs p e h =
    let ended = first_inv (eqb (get_or bs p 0) 10) _ _ e h in
    begins bs p 10 (eqb-true (get_or bs p 0) 10 ended.0) (omega arith) ∙ ap (λ k. 10 ∷ drop k bs) (ok_inv (p + 1) e _ refl ended.1)

other_inv : (n q : ℕ) (bs : List ℕ) (p : ℕ) (v : ℕ × ℕ) → other_at n q bs p ≡ Ok v → (v.0 < n) × (v.0 ≡ q → ⊥) × SpelledAt bs p v.0 v.1
other_inv n q bs p v e =
    let step = onward_inv (qubit_at n bs p) _ v e in
    let told = second_inv (eqb step.0.0 q) _ _ v step.2 in
    let same = ok_inv step.0 v _ refl told.1 in
    let read = tested_inv (λ w. ltb w n) bs p v (step.1 ∙ ap (λ (u : ℕ × ℕ). Ok u) same) in (
      ltb-true v.0 n read.0,
      λ equal. eqb-false step.0.0 q told.0 (ap (λ (u : ℕ × ℕ). u.0) same ∙ equal),
      read.1,
    )

-- a line spells the gate that is read of it
abbrev pub Line : ℕ → List ℕ → ℕ → Gate × ℕ → Type 0
Line n bs p g = (drop p bs ≡ spell_gate g.0 ++ drop g.1 bs) × Valid n g.0

module _ (n : ℕ) (bs : List ℕ) (p : ℕ) (g : Gate × ℕ) where
  line_inv : (name : Name) → named (get_or bs p 0) p ≡ Ok name → operands_at n bs (p + 1) name ≡ Ok g → Line n bs p g
  line_inv (OneQubit s) letter rest =
      let one = onward_inv (qubit_at n bs (p + 1)) _ g rest in
      let q = one.0 in
      let ended = onward_inv (line_end bs q.1) _ g one.2 in
      let name = named_inv (get_or bs p 0) p (OneQubit s) letter in
      let start = begins bs p (single_letter s) name.0 (omega arith) in
      let read = tested_inv (λ v. ltb v n) bs (p + 1) q one.1 in
      let last = line_end_inv bs q.1 ended.0 ended.1 in
      let text : drop p bs ≡ spell_gate (One s q.0) ++ drop ended.0 bs = simp (start, read.1, last, append_assoc) in
      subst (Line n bs p) (ok_inv (One s q.0, ended.0) g _ refl ended.2) (text, ltb-true q.0 n read.0)
  line_inv (TwoQubits d) letter rest =
      let one = onward_inv (qubit_at n bs (p + 1)) _ g rest in
      let q = one.0 in
      let two = onward_inv (other_at n q.0 bs q.1) _ g one.2 in
      let r = two.0 in
      let ended = onward_inv (line_end bs r.1) _ g two.2 in
      let name = named_inv (get_or bs p 0) p (TwoQubits d) letter in
      let start = begins bs p (double_letter d) name.0 (omega arith) in
      let read = tested_inv (λ v. ltb v n) bs (p + 1) q one.1 in
      let again = other_inv n q.0 bs q.1 r two.1 in
      let last = line_end_inv bs r.1 ended.0 ended.1 in
      let text : drop p bs ≡ spell_gate (Two d q.0 r.0) ++ drop ended.0 bs = simp (start, read.1, again.2, last, append_assoc) in
      subst (Line n bs p) (ok_inv (Two d q.0 r.0, ended.0) g _ refl ended.2) (text, (ltb-true q.0 n read.0, again.0, again.1))

  pub gate_inv : gate_at n bs p ≡ Ok g → Line n bs p g
  gate_inv e = let step = onward_inv (named (get_or bs p 0) p) _ g e in line_inv step.0 step.1 step.2

pub head_inv : (bs : List ℕ) (p : ℕ) (v : ℕ × ℕ) → head_from bs p ≡ Ok v → (0 < v.0) × (v.0 ≤ 16) × (drop p bs ≡ 110 ∷ 32 ∷ (spell_number v.0 ++ (10 ∷ drop v.1 bs)))
head_inv bs p v e =
    let letter = first_inv (eqb (get_or bs p 0) 110) _ _ v e in
    let count = onward_inv (count_at bs (p + 1)) _ v letter.1 in
    let n = count.0 in
    let ended = onward_inv (line_end bs n.1) _ v count.2 in
    let read = tested_inv (λ c. leb 1 c && leb c 16) bs (p + 1) n count.1 in
    let same = ok_inv (n.0, ended.0) v _ refl ended.2 in
    let start = begins bs p 110 (eqb-true (get_or bs p 0) 110 letter.0) (omega arith) in
    let last = line_end_inv bs n.1 ended.0 ended.1 in
    let text : drop p bs ≡ 110 ∷ 32 ∷ (spell_number n.0 ++ (10 ∷ drop ended.0 bs)) = simp (start, read.1, last) in
    let some : 0 < n.0 = grind (arith, nat_tests, read.0) in
    let few : n.0 ≤ 16 = grind (arith, nat_tests, read.0) in
    subst (λ (u : ℕ × ℕ). (0 < u.0) × (u.0 ≤ 16) × (drop p bs ≡ 110 ∷ 32 ∷ (spell_number u.0 ++ (10 ∷ drop u.1 bs)))) same (some, few, text)
