-- A text that is accepted spells the gates that are read of it. Assumes nothing.
use Rattle.std.proofs.Common.{◌≡◌, ℕ, zero, suc, ◌+◌, ◌<◌, ◌≤◌, List, [], ◌∷◌, ◌++◌, length, drop, Ok, Err, Result, sym, refl, ap, ◌∙◌, ⊎_elim, arith}
use Rattle.std.proofs.lemmas.List.{drop_all}
use Rattle.std.proofs.lemmas.Bool.Decides.{leb_tells}
use Rattle.refusals.specs.Refusals.{text_limit}
use Rattle.refusals.specs.declared.Fault.{Fault}
use Rattle.refusals.specs.declared.Fault.TheVariants.{TextTooLong}
use Rattle.circuits.specs.Gates.{wired, fresh, played}
use Rattle.circuits.specs.declared.wiring.Wiring.{Wiring}
use Rattle.std.specs.List.{flat_map, AllByRecursion}
use Rattle.diagrams.specs.Streams.{Stream, End, finish, broken}
use Rattle.circuits.specs.Circuits.{Script, line_then, lines, gates_from, headed, circuit}
use Rattle.circuits.proofs.Moves.{gate_further, circuit-short, circuit-long}
use Rattle.circuits.proofs.Inverses.{gate_inv, head_inv}
use Rattle.circuits.specs.Spelling.{spell_number, spell_gate, Valid, Spelling}
use Rattle.circuits.specs.Lines.{gate_at, head_at}
use Rattle.circuits.specs.declared.gates.Gate.{Gate}

-- the text from p on spells the gates of a script
abbrev Whole : ℕ → List ℕ → ℕ → Script → Type 0
Whole n bs p t = (drop p bs ≡ flat_map spell_gate t.gates) × AllByRecursion (Valid n) t.gates

line_then_inv : (n : ℕ) (bs : List ℕ) (p : ℕ) (more : ℕ → Script) → ((q : ℕ) → p < q → (more q).ending ≡ finish → Whole n bs q (more q)) → (r : Result (Gate × ℕ) Fault) → gate_at n bs p ≡ r → (line_then r more).ending ≡ finish → Whole n bs p (line_then r more)
line_then_inv n bs p more next (Ok g) e end =
    let line = gate_inv n bs p g e in
    let rest = next g.1 (gate_further n bs p g e) end in
    (line.0 ∙ ap (λ l. spell_gate g.0 ++ l) rest.0, (line.1, rest.1))
line_then_inv n bs p more next (Err f) e end = cc

-- all lines spell their gates, where no fault ends them
lines_inv : (more n : ℕ) (bs : List ℕ) (p : ℕ) → length bs ≤ p + more → (lines more n bs p).ending ≡ finish → Whole n bs p (lines more n bs p)
unfolding lines
lines_inv zero n bs p enough end = (drop_all p bs (omega arith), tt)
lines_inv (suc more) n bs p enough end = ⊎_elim
    (λ h. rw (h.0, lines) (drop_all p bs h.1, tt))
    (λ h. rw (h.0, lines) (line_then_inv n bs p (lines more n bs) (λ q on f. lines_inv more n bs q (omega arith) f) (gate_at n bs p) refl (rw (h.0, lines) at end)))
    (leb_tells (length bs) p)

-- a circuit ends as its gates end
played-ending : (n : ℕ) (w : Wiring) (gs : List Gate) (e : End) → (played n w gs e).ending ≡ e
played-ending n w [] finish = refl
played-ending n w [] (broken f) = refl
played-ending n w (g ∷ gs) e = played-ending n (wired w g) gs e

headed_inv : (bs : List ℕ) → length bs ≤ text_limit → (r : Result (ℕ × ℕ) Fault) → head_at bs ≡ r → (headed bs r).ending ≡ finish → Spelling bs
headed_inv bs short (Ok v) e end =
    let head = head_inv bs 0 v e in
    let script = gates_from v.0 bs v.1 in
    let whole = lines_inv (length bs) v.0 bs v.1 (omega arith) (sym (played-ending v.0 (fresh v.0) script.gates script.ending) ∙ end) in (
      v.0,
      script.gates,
      record {
        some = head.0;
        few = head.1;
        valid = whole.1;
        text = head.2 ∙ ap (λ l. 110 ∷ 32 ∷ (spell_number v.0 ++ (10 ∷ l))) whole.0;
        short = short;
      },
    )
headed_inv bs short (Err f) e end = cc

-- a text that is accepted spells a circuit
pub accepted_spells : (bs : List ℕ) → (circuit bs).ending ≡ finish → Spelling bs
accepted_spells bs end = ⊎_elim
    (λ h. headed_inv bs h.1 (head_at bs) refl (ap (λ (t : Stream). t.ending) (sym (circuit-short bs h.1)) ∙ end))
    (λ h. let fault : broken TextTooLong ≡ finish = ap (λ (t : Stream). t.ending) (sym (circuit-long bs h.1)) ∙ end in cc)
    (leb_tells (length bs) text_limit)
