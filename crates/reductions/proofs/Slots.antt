-- Slots that go from a graph: what stands then, and that the graph stays sound; and sums of bits that are 0, or not. Assumes nothing.
use Rattle.std.proofs.Common.{◌≡◌, ℕ, zero, suc, ◌<◌, Bool, true, false, cond, ◌||◌, eqb, ◌⊎◌, refl, ap, ◌∙◌, ap₂, inl, inr, ⊎_elim, arith, eq-eqb, ne_eqb}
use borrow.Author.Tests.{both_ways, clash}
use Rattle.std.proofs.lemmas.Bool.Decides.{eqb_tells}
use Rattle.graphs.specs.Counts.{bit, total}
use Rattle.graphs.specs.Graphs.{Graph, SoundGraph, without}
use Rattle.graphs.specs.Rules.{xor}
use Rattle.models.proofs.Truths.{eqb_comm}
use Rattle.reductions.proofs.Runs.{true_or_false}

-- another slot than the one that goes still stands
pub still-stands : (stands : ℕ → Bool) (u s : ℕ) → ¬ (s ≡ u) → without stands u s ≡ stands s
still-stands stands u s ne = ap (λ b. cond b false (stands s)) (ne_eqb s u ne)

-- a slot that is empty has no edge
pub no_edge : (n : ℕ) (G : Graph) → SoundGraph n G → (s t : ℕ) → G.stands s ≡ false → (G.edge s t ≡ false) × (G.edge t s ≡ false)
no_edge n G good s t none = let e = go (G.edge s t) refl in (e, good.symmetric t s ∙ e)
  where
    go : (b : Bool) → G.edge s t ≡ b → b ≡ false
    go true e = absurd (both_ways (G.stands s) none (good.standing s t e))
    go false e = refl

or_swap : (a b c : Bool) → (a || (b || c)) ≡ (b || (a || c))
or_swap true true c = refl
or_swap true false c = refl
or_swap false true c = refl
or_swap false false c = refl

-- some slots go, and some pairs of spiders toggle their edges
pub toggled-graph-sound : (n : ℕ) (G : Graph) (gone stands : ℕ → Bool) (phase : ℕ → ℕ) (flip : ℕ → ℕ → Bool) → SoundGraph n G → ((s t : ℕ) → flip s t ≡ flip t s) → ((s t : ℕ) → flip s t ≡ true → G.stands s ≡ true) → ((s : ℕ) → G.stands s ≡ true → gone s ≡ false → stands s ≡ true) → SoundGraph n (record { stands = stands; phase = phase; edge = λ s t. cond (gone s || (gone t || eqb s t)) false (xor (G.edge s t) (flip s t)) })
toggled-graph-sound n G gone stands phase flip good swap on stay = record {
  symmetric = λ s t. ap₂ (λ c e. cond c false e) (ap (λ q. gone s || (gone t || q)) (eqb_comm s t) ∙ or_swap (gone s) (gone t) (eqb t s)) (ap₂ xor (good.symmetric s t) (swap s t));
  loop_free = λ s. ap (λ q. cond (gone s || (gone s || q)) false (xor (G.edge s s) (flip s s))) (eq-eqb s s refl) ∙ ap (λ c. cond c false (xor (G.edge s s) (flip s s))) (or_all (gone s));
  standing = λ s t e. stays s t (gone s) (G.edge s t) (flip s t) refl refl refl e;
}
  where
    or_all : (a : Bool) → (a || (a || true)) ≡ true
    or_all true = refl
    or_all false = refl

    stays : (s t : ℕ) (a e f : Bool) → gone s ≡ a → G.edge s t ≡ e → flip s t ≡ f → cond (a || (gone t || eqb s t)) false (xor e f) ≡ true → stands s ≡ true
    stays s t true e f p q r h = absurd (clash h)
    stays s t false true f p q r h = stay s (good.standing s t q) p
    stays s t false false true p q r h = stay s (on s t r) p
    stays s t false false false p q r h = absurd (both_ways (cond (gone t || eqb s t) false false) (never (gone t || eqb s t)) h)
      where
        never : (c : Bool) → cond c false false ≡ false
        never true = refl
        never false = refl

-- a sum of bits that is 0 has none set
pub total-zero : (n : ℕ) (f : ℕ → Bool) → total n (λ s. bit (f s)) ≡ 0 → (k : ℕ) → k < n → f k ≡ false
unfolding total
total-zero zero f e k l = absurd (omega arith)
total-zero (suc n) f e k l = ⊎_elim
    (λ h. ap f h.1 ∙ off (f n) (omega arith))
    (λ h. let ne = h.1 in total-zero n f (omega arith) k (omega arith))
    (eqb_tells k n)
  where
    off : (b : Bool) → bit b ≡ 0 → b ≡ false
    off true z = absurd (omega arith)
    off false z = refl

-- a sum of bits is 0, or one of them is set
pub total-some : (n : ℕ) (f : ℕ → Bool) → (total n (λ s. bit (f s)) ≡ 0) ⊎ ((k : ℕ) × (f k ≡ true))
unfolding total
total-some zero f = inl refl
total-some (suc n) f = ⊎_elim
    (λ e. inr (n, e))
    (λ e. ⊎_elim (λ z. let last = ap bit e in inl (omega arith)) (λ h. inr h) (total-some n f))
    (true_or_false (f n))
