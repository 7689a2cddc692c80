-- By how many quarter turns a term gains when a spider is placed, turned, or joined to another. Assumes nothing.
use Rattle.std.proofs.Common.{◌≡◌, ℕ, ◌+◌, ◌*◌, ◌%◌, ◌<◌, Bool, true, false, cond, ◌&&◌, ◌||◌, eqb, sym, refl, ap, ◌∙◌, mul_comm, arith, ne_eqb, eqb-true}
use native.Mathlib.Nat.{mod-mod}
use Rattle.graphs.specs.Counts.{bit, total, pairs}
use Rattle.graphs.specs.Graphs.{Graph, Bits, turns}
use Rattle.graphs.specs.Rules.{xor}
use Rattle.graphs.proofs.Counting.{at, total-same, total_at, total-nothing, pairs-same, pairs_at, pairs-nothing}
use Rattle.graphs.proofs.Shifts.{turns_shifted}
use Rattle.models.specs.Models.{Model}
use Rattle.models.specs.Edits.{placed, gained, only_slot, toggled, same_pair}

-- what one slot gains
pub total-one : (n a p : ℕ) (y : Bits) → a < n → total n (λ s. bit (y s) * (at a s * p)) ≡ bit (y a) * p
total-one n a p y low =
    total-same n (λ s. bit (y s) * (at a s * p)) (λ s. at a s * (bit (y s) * p)) (λ s l. omega arith)
    ∙ total_at n a (λ s. bit (y s) * p) low

xor_false : (e : Bool) → xor e false ≡ e
xor_false true = refl
xor_false false = refl

-- one slot gains, and no edge changes
pub turns_at : (n a p : ℕ) (G H : Graph) (y : Bits) → a < n → ((s : ℕ) → H.phase s % 4 ≡ (G.phase s + at a s * p) % 4) → ((s t : ℕ) → H.edge s t ≡ G.edge s t) → turns n H y % 4 ≡ (turns n G y + bit (y a) * p) % 4
turns_at n a p G H y low phases edges =
    turns_shifted n G H y (λ s. at a s * p) (λ s t. false) (record { phases = λ s l on. phases s; edges = λ s t l m b c. edges s t ∙ sym (xor_false (G.edge s t)) })
    ∙ ap (λ t. t % 4) all
  where
    all : turns n G y + (total n (λ s. bit (y s) * (at a s * p)) + 2 * pairs n (λ s t. bit (y s) * bit (y t) * bit false)) ≡ turns n G y + bit (y a) * p
    all =
        let one = total-one n a p y low in
        let none = pairs-nothing n (λ s t. bit (y s) * bit (y t) * bit false) (λ s t l m. omega arith) in
        omega arith

pub placed-turns : (n a p : ℕ) (m : Model) (y : Bits) → a < n → m.graph.phase a ≡ 0 → turns n (placed a p m).graph y % 4 ≡ (turns n m.graph y + bit (y a) * p) % 4
unfolding placed
placed-turns n a p m y low empty = turns_at n a p m.graph _ y low (λ s. ap (λ t. t % 4) (here s (eqb s a) refl)) (λ s t. refl)
  where
    here : (s : ℕ) (b : Bool) → eqb s a ≡ b → cond b p (m.graph.phase s) ≡ m.graph.phase s + bit b * p
    here s true e = let z = ap m.graph.phase (eqb-true s a e) ∙ empty in omega arith
    here s false e = omega arith

pub gained-turns : (n a p : ℕ) (m : Model) (y : Bits) → a < n → m.graph.stands a ≡ true → turns n (gained (only_slot a) p m).graph y % 4 ≡ (turns n m.graph y + bit (y a) * p) % 4
unfolding gained
gained-turns n a p m y low stood = turns_at n a p m.graph _ y low (λ s. here s (eqb s a) refl) (λ s t. refl)
  where
    here : (s : ℕ) (b : Bool) → eqb s a ≡ b → cond (b && m.graph.stands s) ((m.graph.phase s + p) % 4) (m.graph.phase s) % 4 ≡ (m.graph.phase s + bit b * p) % 4
    here s true e =
        let on : m.graph.stands s ≡ true = ap m.graph.stands (eqb-true s a e) ∙ stood in
        let one : m.graph.phase s + p ≡ m.graph.phase s + 1 * p = omega arith in
        ap (λ b. cond b ((m.graph.phase s + p) % 4) (m.graph.phase s) % 4) on ∙ mod-mod (m.graph.phase s + p) 4 ∙ ap (λ t. t % 4) one
    here s false e = ap (λ t. t % 4) (omega arith)

-- of two pairs that are not both there
either_pair : (a b c d : Bool) → (a ≡ true → c ≡ true → ⊥) → bit ((a && b) || (c && d)) ≡ bit a * bit b + bit c * bit d
either_pair true b true d not-both = absurd (not-both refl refl)
either_pair true true false d not-both = omega arith
either_pair true false false d not-both = omega arith
either_pair false b true true not-both = omega arith
either_pair false b true false not-both = omega arith
either_pair false b false d not-both = omega arith

pub toggled-turns : (n a b : ℕ) (m : Model) (y : Bits) → a < n → b < n → (a ≡ b → ⊥) → turns n (toggled a b m).graph y % 4 ≡ (turns n m.graph y + 2 * (bit (y a) * bit (y b))) % 4
unfolding toggled
toggled-turns n a b m y a-low b-low apart =
    turns_shifted n m.graph _ y (λ s. 0) (same_pair a b) (record { phases = λ s l on. ap (λ t. t % 4) (omega arith); edges = λ s t l k p q. refl })
    ∙ ap (λ t. t % 4) all
  where
    pair_is : (s t : ℕ) → bit (same_pair a b s t) ≡ at a s * at b t + at b s * at a t
    pair_is s t = either_pair (eqb s a) (eqb t b) (eqb s b) (eqb t a) (λ p q. apart (sym (eqb-true s a p) ∙ eqb-true s b q))

    one_pair : pairs n (λ s t. bit (y s) * bit (y t) * bit (same_pair a b s t)) ≡ bit (y a) * bit (y b)
    one_pair =
        pairs-same n _ (λ s t. (at a s * at b t + at b s * at a t) * (bit (y s) * bit (y t))) (λ s t l k. rw (pair_is s t) (mul_comm (bit (y s) * bit (y t)) (at a s * at b t + at b s * at a t)))
        ∙ pairs_at n a (at b) (λ s t. bit (y s) * bit (y t)) a-low (ap bit (ne_eqb a b apart)) (λ s t. mul_comm (bit (y s)) (bit (y t)))
        ∙ total_at n b (λ t. bit (y a) * bit (y t)) b-low

    all : turns n m.graph y + (total n (λ s. bit (y s) * 0) + 2 * pairs n (λ s t. bit (y s) * bit (y t) * bit (same_pair a b s t))) ≡ turns n m.graph y + 2 * (bit (y a) * bit (y b))
    all =
        let none = total-nothing n (λ s. bit (y s) * 0) (λ s l. omega arith) in
        let one = one_pair in
        omega arith
