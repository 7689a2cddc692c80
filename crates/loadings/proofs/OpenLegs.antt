-- The open legs in order: one more comes last, and what fusing and a further slot leave of them. Assumes nothing.
use Rattle.std.proofs.Common.{◌≡◌, ℕ, zero, suc, ◌+◌, ◌<◌, ◌≤◌, Bool, true, false, cond, eqb, List, [], ◌∷◌, ◌++◌, length, drop, Some, None, Option, sym, refl, ap, ◌∙◌, ap₂, ⊎_elim, arith, ne_eqb}
use Rattle.std.proofs.lemmas.Bool.Decides.{eqb_tells}
use Rattle.amounts.specs.Amounts.{Amounts, Lawful}
use Rattle.graphs.specs.Graphs.{Bits, put}
use Rattle.amplitudes.specs.Items.{joint, first_bit, other_bits}
use Rattle.models.specs.Models.{ModelLeg, onto, legs_from, legs_term}
use Rattle.models.specs.Edits.{led}
use Rattle.loadings.proofs.Fusions.{copied}

-- no leg is open from number j on
pub no_legs_from : (n j : ℕ) (leg : ℕ → Option ModelLeg) → ((k : ℕ) → j ≤ k → leg k ≡ None) → legs_from n j leg ≡ []
unfolding legs_from
no_legs_from zero j leg none = refl
no_legs_from (suc n) j leg none = ap₂ onto (none j (omega arith)) (no_legs_from n (suc j) leg (λ k h. none k (omega arith)))

onto_last : (o : Option ModelLeg) (os : List ModelLeg) (p : ModelLeg) → onto o (os ++ (p ∷ [])) ≡ onto o os ++ (p ∷ [])
onto_last None os p = refl
onto_last (Some o) os p = refl

-- a leg of number l, where none is open from l on, comes last
pub one-leg-more : (n j l : ℕ) (leg : ℕ → Option ModelLeg) (o : ModelLeg) → j ≤ l → l < j + n → ((k : ℕ) → l ≤ k → leg k ≡ None) → legs_from n j (λ k. cond (eqb k l) (Some o) (leg k)) ≡ legs_from n j leg ++ (o ∷ [])
unfolding legs_from
one-leg-more zero j l leg o from below none = absurd (omega arith)
one-leg-more (suc n) j l leg o from below none = ⊎_elim here (later (λ h. one-leg-more n (suc j) l leg o h (omega arith) none)) (eqb_tells j l)
  where
    more : ℕ → Option ModelLeg
    more k = cond (eqb k l) (Some o) (leg k)

    here : (eqb j l ≡ true) × (j ≡ l) → onto (more j) (legs_from n (suc j) more) ≡ onto (leg j) (legs_from n (suc j) leg) ++ (o ∷ [])
    here e =
        let same = e.1 in
        let others : (k : ℕ) → suc j ≤ k → more k ≡ None = λ k h. ap (λ b. cond b (Some o) (leg k)) (ne_eqb k l (λ q. omega arith)) ∙ none k (omega arith) in
        ap₂ onto (ap (λ b. cond b (Some o) (leg j)) e.0) (no_legs_from n (suc j) more others)
        ∙ sym (ap (λ os. os ++ (o ∷ [])) (ap₂ onto (none j (omega arith)) (no_legs_from n (suc j) leg (λ k h. none k (omega arith)))))

    later : (suc j ≤ l → legs_from n (suc j) more ≡ legs_from n (suc j) leg ++ (o ∷ [])) → (eqb j l ≡ false) × (j ≡ l → ⊥) → onto (more j) (legs_from n (suc j) more) ≡ onto (leg j) (legs_from n (suc j) leg) ++ (o ∷ [])
    later rec e =
        let ne = e.1 in
        ap₂ onto (ap (λ b. cond b (Some o) (leg j)) e.0) (rec (omega arith))
        ∙ onto_last (leg j) (legs_from n (suc j) leg) o

-- what of a row is left once its first bits are given away
drop_none : (n : ℕ) → drop {A = Bool} n [] ≡ []
drop_none zero = refl
drop_none (suc n) = refl

pub drop_one_more : (n : ℕ) (row : List Bool) → other_bits (drop n row) ≡ drop (suc n) row
drop_one_more zero [] = refl
drop_one_more zero (b ∷ row) = refl
drop_one_more (suc n) [] = refl
drop_one_more (suc n) (b ∷ row) = drop_one_more n row

drop_after : (n : ℕ) (row : List Bool) → drop n (other_bits row) ≡ drop (suc n) row
drop_after n [] = drop_none n
drop_after n (b ∷ row) = refl

module _ (A : Amounts) (laws : Lawful A) where
  -- the last leg's factor comes apart
  pub last_leg : (os : List ModelLeg) (o : ModelLeg) (row : List Bool) (y : Bits) → legs_term A (os ++ (o ∷ [])) row y ≡ A.mul (legs_term A os row y) (joint A o.kind (y o.slot) (first_bit (drop (length os) row)))
  last_leg [] o row y = laws.mul_comm (joint A o.kind (y o.slot) (first_bit row)) A.one
  last_leg (p ∷ os) o row y =
      let first = joint A p.kind (y p.slot) (first_bit row) in
      let last = λ (r : List Bool). joint A o.kind (y o.slot) (first_bit r) in
      ap (A.mul first) (last_leg os o (other_bits row) y ∙ ap (λ r. A.mul (legs_term A os (other_bits row) y) (last r)) (drop_after (length os) row))
      ∙ sym (laws.mul_assoc first (legs_term A os (other_bits row) y) (last (drop (suc (length os)) row)))

module _ (A : Amounts) where
  -- legs led from b to a read, in slot a, what they read in b once the bit of a is there too
  pub led-term : (n j a b : ℕ) (leg : ℕ → Option ModelLeg) (row : List Bool) (y : Bits) → legs_term A (legs_from n j (λ l. led a b (leg l))) row y ≡ legs_term A (legs_from n j leg) row (copied a b y)
  unfolding legs_from
  led-term zero j a b leg row y = refl
  led-term (suc n) j a b leg row y = here (leg j) (λ r. led-term n (suc j) a b leg r y)
    where
      bit_of : (o : ModelLeg) (e : Bool) → y (cond e a o.slot) ≡ cond e (y a) (y o.slot)
      bit_of o true = refl
      bit_of o false = refl

      here : (o : Option ModelLeg) → ((r : List Bool) → legs_term A (legs_from n (suc j) (λ l. led a b (leg l))) r y ≡ legs_term A (legs_from n (suc j) leg) r (copied a b y)) → legs_term A (onto (led a b o) (legs_from n (suc j) (λ l. led a b (leg l)))) row y ≡ legs_term A (onto o (legs_from n (suc j) leg)) row (copied a b y)
      here None rest = rest row
      here (Some o) rest = ap₂ (λ v t. A.mul (joint A o.kind v (first_bit row)) t) (bit_of o (eqb o.slot b)) (rest (other_bits row))

  -- legs that are not on slot u do not look at it
  pub blind_legs : (n j u : ℕ) (leg : ℕ → Option ModelLeg) (row : List Bool) (y : Bits) → ((l : ℕ) (o : ModelLeg) → leg l ≡ Some o → o.slot ≡ u → ⊥) → legs_term A (legs_from n j leg) row (put y u) ≡ legs_term A (legs_from n j leg) row y
  unfolding legs_from
  blind_legs zero j u leg row y off = refl
  blind_legs (suc n) j u leg row y off = here (leg j) refl (λ r. blind_legs n (suc j) u leg r y off)
    where
      here : (o : Option ModelLeg) → leg j ≡ o → ((r : List Bool) → legs_term A (legs_from n (suc j) leg) r (put y u) ≡ legs_term A (legs_from n (suc j) leg) r y) → legs_term A (onto o (legs_from n (suc j) leg)) row (put y u) ≡ legs_term A (onto o (legs_from n (suc j) leg)) row y
      here None e rest = rest row
      here (Some o) e rest = ap₂ (λ v t. A.mul (joint A o.kind v (first_bit row)) t) (ap (λ v. cond v true (y o.slot)) (ne_eqb o.slot u (off j o e))) (rest (other_bits row))
