-- The pivot's edges by sorts and by three local complementations. Assumes nothing.
use Rattle.std.proofs.Common.{◌≡◌, ℕ, ◌+◌, ◌*◌, Bool, true, false, cond, ◌&&◌, T, sym, refl, ap, ◌∙◌, ap₂, arith, ne_eqb}
use Rattle.graphs.specs.Counts.{bit}
use Rattle.graphs.specs.Graphs.{Graph, SoundGraph}
use Rattle.graphs.specs.Rules.{xor}
use Rattle.graphs.specs.Sorts.{same_bit, differ, sort_gain, BySorts, complemented_edges, PivotIsThreeComplements}

-- a test that passes at both bits passes at each: so a law of bits is one computed test
abbrev both_bits : (Bool → Bool) → Bool
both_bits P = P true && P false

at_bit : (P : Bool → Bool) → T (both_bits P) → (b : Bool) → T (P b)
at_bit P h true = left (P true) h
  where
    left : (a : Bool) → T (a && P false) → T a
    left true k = tt
    left false k = k
at_bit P h false = right (P true) h
  where
    right : (a : Bool) → T (a && P false) → T (P false)
    right true k = k
    right false k = absurd k

same_from : (a b : Bool) → T (same_bit a b) → a ≡ b
same_from true true h = refl
same_from true false h = absurd h
same_from false true h = absurd h
same_from false false h = refl

edges_by_sorts : (a b c d : Bool) → xor (a && d) (b && c) ≡ differ a b c d
edges_by_sorts a b c d =
    same_from _ _
    (at_bit (λ d. same_bit (xor (a && d) (b && c)) (differ a b c d))
    (at_bit (λ c. both_bits (λ d. same_bit (xor (a && d) (b && c)) (differ a b c d)))
    (at_bit (λ b. both_bits (λ c. both_bits (λ d. same_bit (xor (a && d) (b && c)) (differ a b c d))))
    (at_bit (λ a. both_bits (λ b. both_bits (λ c. both_bits (λ d. same_bit (xor (a && d) (b && c)) (differ a b c d))))) tt a) b) c) d)

phases_by_sorts : (p q : ℕ) (a b : Bool) → bit a * q + bit b * p + 2 * (bit a * bit b) ≡ sort_gain p q a b
phases_by_sorts p q false false = omega arith
phases_by_sorts p q true false = omega arith
phases_by_sorts p q false true = omega arith
phases_by_sorts p q true true = omega arith

pub by_sorts : BySorts
by_sorts = record { edges = edges_by_sorts; phases = phases_by_sorts }

-- toggles three times over, by the bits of s and t beside u and v
toggles : (e a b c d : Bool) → xor (xor (xor e (a && c)) (xor b a && xor d c)) (b && d) ≡ xor e (xor (a && d) (b && c))
toggles e a b c d =
    same_from _ _
    (at_bit (λ d. law e a b c d)
    (at_bit (λ c. both_bits (law e a b c))
    (at_bit (λ b. both_bits (λ c. both_bits (law e a b c)))
    (at_bit (λ a. both_bits (λ b. both_bits (λ c. both_bits (law e a b c))))
    (at_bit (λ e. both_bits (λ a. both_bits (λ b. both_bits (λ c. both_bits (law e a b c))))) tt e) a) b) c) d)
  where
    law : Bool → Bool → Bool → Bool → Bool → Bool
    law e a b c d = same_bit (xor (xor (xor e (a && c)) (xor b a && xor d c)) (b && d)) (xor e (xor (a && d) (b && c)))

-- complementing at u, between two different slots
at_two : (e : ℕ → ℕ → Bool) (u s t : ℕ) → (s ≡ t → ⊥) → complemented_edges e u s t ≡ xor (e s t) (e u s && e u t)
at_two e u s t ne = ap (λ b. xor (e s t) (cond b false (e u s && e u t))) (ne_eqb s t ne)

module _ (n u v : ℕ) (G : Graph) (good : SoundGraph n G) (joined : G.edge u v ≡ true) (apart : u ≡ v → ⊥) where
  abbrev e₁ : ℕ → ℕ → Bool
  e₁ = complemented_edges G.edge u

  abbrev e₂ : ℕ → ℕ → Bool
  e₂ = complemented_edges e₁ v

  -- after the first, v is beside what one of u and v was beside
  beside_v : (s : ℕ) → (s ≡ v → ⊥) → e₁ v s ≡ xor (G.edge v s) (G.edge u s)
  beside_v s ne = at_two G.edge u v s (λ q. ne (sym q)) ∙ ap (λ b. xor (G.edge v s) (b && G.edge u s)) joined

  -- and u is beside what it was beside
  beside_u : (s : ℕ) → (s ≡ u → ⊥) → e₁ u s ≡ G.edge u s
  beside_u s ne = at_two G.edge u u s (λ q. ne (sym q)) ∙ ap (λ b. xor (G.edge u s) (b && G.edge u s)) (good.loop_free u) ∙ xor-none (G.edge u s)
    where
      xor-none : (b : Bool) → xor b false ≡ b
      xor-none true = refl
      xor-none false = refl

  -- after the second, u is beside what v was beside
  then_u : (s : ℕ) → (s ≡ u → ⊥) → (s ≡ v → ⊥) → e₂ u s ≡ G.edge v s
  then_u s nu nv =
      at_two e₁ v u s (λ q. nu (sym q))
      ∙ ap₂ (λ a b. xor a (b && e₁ v s)) (beside_u s nu) (beside_v u apart ∙ ap₂ xor (good.symmetric v u ∙ joined) (good.loop_free u))
      ∙ ap (λ b. xor (G.edge u s) b) (beside_v s nv)
      ∙ swap (G.edge u s) (G.edge v s)
    where
      swap : (a b : Bool) → xor a (xor b a) ≡ b
      swap true true = refl
      swap true false = refl
      swap false true = refl
      swap false false = refl

  three : (s t : ℕ) → (s ≡ u → ⊥) → (s ≡ v → ⊥) → (t ≡ u → ⊥) → (t ≡ v → ⊥) → (s ≡ t → ⊥) → complemented_edges e₂ u s t ≡ xor (G.edge s t) (xor (G.edge u s && G.edge v t) (G.edge v s && G.edge u t))
  three s t su sv tu tv st =
      at_two e₂ u s t st
      ∙ (λ i. xor (between i) (then_u s su sv i && then_u t tu tv i))
      ∙ toggles (G.edge s t) (G.edge u s) (G.edge v s) (G.edge u t) (G.edge v t)
    where
      between : e₂ s t ≡ xor (xor (G.edge s t) (G.edge u s && G.edge u t)) (xor (G.edge v s) (G.edge u s) && xor (G.edge v t) (G.edge u t))
      between = at_two e₁ v s t st ∙ (λ i. xor (at_two G.edge u s t st i) (beside_v s sv i && beside_v t tv i))

pub three_complements : PivotIsThreeComplements
three_complements n u v G good joined apart s t su sv tu tv st = three n u v G good joined apart s t su sv tu tv st
