-- What is still to come of a circuit text, as its part is given item by item. Assumes nothing.
use Rattle.std.proofs.Common.{◌≡◌, ℕ, zero, suc, ◌+◌, ◌*◌, ◌<◌, ◌≤◌, List, [], ◌∷◌, length, drop, Some, None, Ok, Err, refl, sym, ap, ◌∙◌, arith}
use Rattle.std.proofs.lemmas.List.{drop_all, drop_more, nil_from_length, length-map}
use Rattle.std.proofs.lemmas.List.FromFn.{length-range_with_len}
use Rattle.std.proofs.lemmas.Option.{slice_get_within, slice_get_cases, get_or_from_slice_get}
use Rattle.std.specs.List.{slice_get}
use Rattle.diagrams.specs.Streams.{Stream, only, finish, broken, ◌▸◌}
use Rattle.diagrams.specs.declared.items.Item.{Item}
use Rattle.refusals.specs.declared.Fault.{Fault}
use Rattle.circuits.specs.declared.gates.Gate.{Gate}
use Rattle.circuits.specs.declared.gates.Gate.TheVariants.{One, Two}
use Rattle.circuits.specs.declared.wiring.Wiring.{Wiring}
use Rattle.circuits.specs.declared.text.Part.{Part}
use Rattle.circuits.specs.declared.text.Part.TheVariants.{Unread, Opening, Placed, Closing}
use Rattle.circuits.specs.declared.text.ShortText.{ShortText}
use Rattle.circuits.specs.Gates.{spiders_of, gate_items, wired, fresh, opening, closing}
use Rattle.circuits.specs.Lines.{gate_at, head_from}
use Rattle.circuits.specs.Circuits.{circuit, part_items, remaining, line_then, headed, gates_from, scripted}
use Rattle.circuits.specs.Sources.{left, Spent, Went}
use Rattle.circuits.proofs.Inverses.{head_inv}
use Rattle.circuits.proofs.Moves.{gate_far, gates_end, gates-more, circuit-short}

-- an item that is there comes first of what is left
pub taken : (s : ShortText) (x : Item) → slice_get (part_items s.qubits s.wiring s.part) s.given ≡ Some x → left s ≡ x ∷ [] ▸ (drop (s.given + 1) (part_items s.qubits s.wiring s.part) ▸ remaining s.cursor.text.now s.cursor.at s.qubits s.wiring s.part)
unfolding left
taken s x e =
    let items = part_items s.qubits s.wiring s.part in
    ap (λ ys. ys ▸ remaining s.cursor.text.now s.cursor.at s.qubits s.wiring s.part) (drop_more items s.given x (slice_get_within items s.given x e) ∙ ap (λ y. y ∷ drop (s.given + 1) items) (get_or_from_slice_get items s.given x x e))

pub none_left : (xs : List Item) (k : ℕ) → slice_get xs k ≡ None → length xs ≤ k
none_left xs k e = grind (arith, slice_get_cases)

-- once the part is given, what comes after it is left
pub all_taken : (s : ShortText) → Spent s → left s ≡ remaining s.cursor.text.now s.cursor.at s.qubits s.wiring s.part
unfolding left
all_taken s h = ap (λ xs. xs ▸ remaining s.cursor.text.now s.cursor.at s.qubits s.wiring s.part) (drop_all s.given (part_items s.qubits s.wiring s.part) h)

-- a part has few items
opening-length : (q n : ℕ) → length (opening q n) ≡ 2 * n
opening-length q zero = refl
opening-length q (suc n) = let more = opening-length (q + 1) n in omega arith

part_few : (n : ℕ) (w : Wiring) (part : Part) → n ≤ 16 → length (part_items n w part) ≤ 32
part_few n w Unread few = omega arith
part_few n w Opening few = omega (arith, opening-length 0 n)
part_few n w (Placed (One g q) before) few = omega arith
part_few n w (Placed (Two g q r) before) few = omega arith
part_few n w Closing few = simp (length-map, length-range_with_len) (omega arith)

pub given_few : (s : ShortText) (x : Item) → slice_get (part_items s.qubits s.wiring s.part) s.given ≡ Some x → s.given < 32
given_few s x e = omega (arith, slice_get_within (part_items s.qubits s.wiring s.part) s.given x e, part_few s.qubits s.wiring s.part s.narrow)

-- before the first line all of a text that is not too long is left
pub all_left : (s : ShortText) → s.part ≡ Unread → s.given ≡ 0 → s.cursor.at ≡ 0 → left s ≡ circuit s.cursor.text.now
unfolding left
all_left s e none start = rw (e, none, start) (sym (circuit-short s.cursor.text.now s.cursor.short))

-- the first line gives something, and so does a gate
opening-some : (n : ℕ) → 0 < n → length (opening 0 n) ≤ 0 → ⊥
opening-some n some none = omega (arith, opening-length 0 n)

gate_some : (w : Wiring) (g : Gate) → length (gate_items w g) ≤ 0 → ⊥
gate_some w (One g q) none = omega arith
gate_some w (Two g q r) none = omega arith

-- a closing that gives nothing leaves the end
closed : (n : ℕ) (w : Wiring) → length (closing n w) ≤ 0 → closing n w ▸ only finish ≡ only finish
closed n w none = ap (λ xs. xs ▸ only finish) (nil_from_length (closing n w) (omega arith))

-- the stream is left of the text, with an item at hand unless that is the end
abbrev Goes : Stream → ShortText → Type 0
Goes t s = (left s ≡ t) × (Spent s → t ≡ only finish)

-- and over the same text as before
pub also : (t : Stream) (before after : ShortText) → Goes t after → after.cursor.text.now ≡ before.cursor.text.now → Went t before (Ok tt) after
also t before after goes same = (goes.0, goes.1, same)

-- after the first line its items are left, and then those of the lines
pub opened : (s : ShortText) (bs : List ℕ) (p : ℕ) → s.part ≡ Opening → s.given ≡ 0 → s.wiring ≡ fresh s.qubits → s.cursor.text.now ≡ bs → Ok (s.qubits, s.cursor.at) ≡ head_from bs p → Goes (headed bs (head_from bs p)) s
unfolding left
opened s bs p part none wiring text read =
    (rw (part, none, wiring, text, ← read) refl, λ spent. let h : length (opening 0 s.qubits) ≤ 0 = rw (part, none) at spent in absurd (opening-some s.qubits (head_inv bs p (s.qubits, s.cursor.at) (sym read)).0 h))

-- what the gates from a place on give, by the line that stands there
module _ (n : ℕ) (bs : List ℕ) (p : ℕ) (w : Wiring) where
  at_end : length bs ≤ p → scripted n w (gates_from n bs p) ≡ closing n w ▸ only finish
  at_end h = ap (scripted n w) (gates_end n bs p h)

  pub at_fault : p < length bs → (f : Fault) → Err f ≡ gate_at n bs p → scripted n w (gates_from n bs p) ≡ only (broken f)
  at_fault h f e = ap (scripted n w) (gates-more n bs p h ∙ ap (λ r. line_then r (gates_from n bs)) (sym e))

  at_gate : p < length bs → (g : Gate) (q : ℕ) → Ok (g, q) ≡ gate_at n bs p → scripted n w (gates_from n bs p) ≡ gate_items w g ▸ scripted n (wired w g) (gates_from n bs q)
  at_gate h g q e = ap (scripted n w) (gates-more n bs p h ∙ ap (λ r. line_then r (gates_from n bs)) (sym e))

-- after the last line the ends are left
pub ended : (s : ShortText) → s.part ≡ Closing → s.given ≡ 0 → length s.cursor.text.now ≤ s.cursor.at → Goes (scripted s.qubits s.wiring (gates_from s.qubits s.cursor.text.now s.cursor.at)) s
unfolding left
ended s part none over =
    let end = at_end s.qubits s.cursor.text.now s.cursor.at s.wiring over in
    (rw (part, none) (sym end), λ spent. let h : length (closing s.qubits s.wiring) ≤ 0 = rw (part, none) at spent in end ∙ closed s.qubits s.wiring h)

-- after a gate its items are left, and then those of the lines behind it
pub placed : (s t : ShortText) (g : Gate) → t.part ≡ Placed g s.wiring → t.given ≡ 0 → t.qubits ≡ s.qubits → t.wiring ≡ wired s.wiring g → t.cursor.text.now ≡ s.cursor.text.now → s.cursor.at < length s.cursor.text.now → Ok (g, t.cursor.at) ≡ gate_at s.qubits s.cursor.text.now s.cursor.at → Goes (scripted s.qubits s.wiring (gates_from s.qubits s.cursor.text.now s.cursor.at)) t
unfolding left
placed s t g part none qubits wiring text on read =
    (rw (part, none, qubits, wiring, text) (sym (at_gate s.qubits s.cursor.text.now s.cursor.at s.wiring on g t.cursor.at read)), λ spent. let h : length (gate_items s.wiring g) ≤ 0 = rw (part, none) at spent in absurd (gate_some s.wiring g h))

-- a gate's spiders have room in its line
pub few_after : (s : ShortText) (w : Wiring) (g : Gate) (q : ℕ) → w ≡ wired s.wiring g → Ok (g, q) ≡ gate_at s.qubits s.cursor.text.now s.cursor.at → (2 * w.spiders ≤ 32 + q) × (2 * s.wiring.spiders ≤ 32 + q)
few_after s w g q wiring read =
    let far = gate_far s.qubits s.cursor.text.now s.cursor.at (g, q) (sym read) in
    (omega (arith, s.few, ap (λ (v : Wiring). v.spiders) wiring, more g), omega (arith, s.few))
  where
    more : (h : Gate) → (wired s.wiring h).spiders ≡ s.wiring.spiders + spiders_of h
    more (One k r) = refl
    more (Two k r t) = refl
