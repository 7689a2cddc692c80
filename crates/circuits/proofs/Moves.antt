-- Reading a line goes forward, and what the lines from a place on give, one line at a time. Assumes nothing.
use Rattle.std.proofs.Common.{◌≡◌, ℕ, zero, suc, ◌+◌, ◌*◌, ◌<◌, ◌≤◌, true, false, ltb, leb, List, [], ◌∷◌, length, Ok, Err, Result, refl, ap, ◌∙◌, ⊎_elim, arith, le-leb}
use borrow.Author.Tests.{lt-leb}
use Rattle.std.proofs.lemmas.Bool.Decides.{leb_tells}
use Rattle.std.proofs.lemmas.List.{length-append, length-drop}
use Rattle.refusals.specs.declared.Fault.{Fault}
use Rattle.refusals.specs.Refusals.{text_limit}
use Rattle.refusals.specs.declared.Fault.TheVariants.{TextTooLong}
use Rattle.diagrams.specs.Streams.{finish, broken, only}
use Rattle.circuits.specs.declared.gates.Gate.{Gate}
use Rattle.circuits.specs.declared.gates.Gate.TheVariants.{One, Two}
use Rattle.circuits.specs.Gates.{spiders_of}
use Rattle.circuits.specs.Lines.{gate_at, head_at}
use Rattle.circuits.specs.Spelling.{spell_gate}
use Rattle.circuits.specs.Circuits.{Script, line_then, lines, gates_from, headed, circuit}
use Rattle.circuits.proofs.Inverses.{gate_inv}

-- a line has two bytes or more for each spider of its gate, and it has a spider
spell_long : (g : Gate) → (2 * spiders_of g ≤ length (spell_gate g)) × (0 < spiders_of g)
spell_long (One g q) = (omega (arith, length-append {A = ℕ}), omega arith)
spell_long (Two g q r) = (omega (arith, length-append {A = ℕ}), omega arith)

-- where a gate is read, its line ends so much further
pub gate_far : (n : ℕ) (bs : List ℕ) (p : ℕ) (g : Gate × ℕ) → gate_at n bs p ≡ Ok g → p + 2 * spiders_of g.0 ≤ g.1
gate_far n bs p g e =
    let text = ap length (gate_inv n bs p g e).0 in
    omega (arith, spell_long g.0, text, length-append {A = ℕ}, length-drop {A = ℕ})

pub gate_further : (n : ℕ) (bs : List ℕ) (p : ℕ) (g : Gate × ℕ) → gate_at n bs p ≡ Ok g → p < g.1
gate_further n bs p g e = omega (arith, gate_far n bs p g e, spell_long g.0)

-- what follows counts only where the line is whole
line_then-same : (n : ℕ) (bs : List ℕ) (p : ℕ) (k l : ℕ → Script) → ((q : ℕ) → p < q → k q ≡ l q) → (r : Result (Gate × ℕ) Fault) → gate_at n bs p ≡ r → line_then r k ≡ line_then r l
line_then-same n bs p k l same (Ok g) e = ap (λ (s : Script). record { gates = g.0 ∷ s.gates; ending = s.ending }) (same g.1 (gate_further n bs p g e))
line_then-same n bs p k l same (Err f) e = refl

-- more lines than there can be change nothing
pub lines_enough : (a b n : ℕ) (bs : List ℕ) (p : ℕ) → length bs ≤ p + a → length bs ≤ p + b → lines a n bs p ≡ lines b n bs p
unfolding lines
lines_enough zero zero n bs p h k = refl
lines_enough zero (suc b) n bs p h k = let t : leb (length bs) p ≡ true = le-leb (length bs) p (omega arith) in rw (t, lines)
lines_enough (suc a) zero n bs p h k = let t : leb (length bs) p ≡ true = le-leb (length bs) p (omega arith) in rw (t, lines)
lines_enough (suc a) (suc b) n bs p h k = ⊎_elim
    (λ t. rw (t.0, lines))
    (λ t. rw (t.0, lines) (line_then-same n bs p (lines a n bs) (lines b n bs) (λ q on. lines_enough a b n bs q (omega arith) (omega arith)) (gate_at n bs p) refl))
    (leb_tells (length bs) p)

pub gates_end : (n : ℕ) (bs : List ℕ) (p : ℕ) → length bs ≤ p → gates_from n bs p ≡ record { gates = []; ending = finish }
unfolding lines
gates_end n bs p h = lines_enough (length bs) 0 n bs p (omega arith) (omega arith)

pub gates-more : (n : ℕ) (bs : List ℕ) (p : ℕ) → p < length bs → gates_from n bs p ≡ line_then (gate_at n bs p) (gates_from n bs)
unfolding lines
gates-more n bs p h =
    let t : leb (length bs) p ≡ false = lt-leb (length bs) p h in
    lines_enough (length bs) (suc (length bs)) n bs p (omega arith) (omega arith) ∙ rw (t, lines)

-- what a text means by its length
pub circuit-short : (bs : List ℕ) → length bs ≤ text_limit → circuit bs ≡ headed bs (head_at bs)
circuit-short bs short = let in_limit : ltb text_limit (length bs) ≡ false = lt-leb (suc text_limit) (length bs) (omega arith) in rw (in_limit, circuit)

pub circuit-long : (bs : List ℕ) → text_limit < length bs → circuit bs ≡ only (broken TextTooLong)
circuit-long bs long = let past : ltb text_limit (length bs) ≡ true = le-leb (suc text_limit) (length bs) long in rw (past, circuit)
