-- Rows of edges put together: what a toggle, a removal and a fusion leave. Assumes nothing.
use Rattle.std.proofs.Common.{◌≡◌, ℕ, Bool, true, false, cond, ◌&&◌, ◌||◌, eqb, sym, refl, ap, ◌∙◌, true≢false, eq-eqb, ne_eqb, eqb-true}
use Rattle.graphs.specs.Rules.{xor}

-- of two slots that differ, a pair is one way round or the other
pub one_pair : (a b s t : ℕ) → (a ≡ b → ⊥) → xor (eqb s a && eqb t b) (eqb s b && eqb t a) ≡ (eqb s a && eqb t b) || (eqb s b && eqb t a)
one_pair a b s t apart = go (eqb s a) (eqb s b) refl refl
  where
    go : (x y : Bool) → eqb s a ≡ x → eqb s b ≡ y → xor (x && eqb t b) (y && eqb t a) ≡ (x && eqb t b) || (y && eqb t a)
    go true true e f = absurd (apart (sym (eqb-true s a e) ∙ eqb-true s b f))
    go true false e f = last (eqb t b)
      where
        last : (z : Bool) → xor z false ≡ z || false
        last true = refl
        last false = refl
    go false y e f = refl

module _ (e : ℕ → ℕ → Bool) (both : (s t : ℕ) → e s t ≡ e t s) (loopless : (s : ℕ) → e s s ≡ false) where
  -- a slot loses its edges where they are toggled once more
  pub edge-removed : (u s t : ℕ) → xor (e s t) (xor (eqb s u && e u t) (e u s && eqb t u)) ≡ cond (eqb s u || eqb t u) false (e s t)
  edge-removed u s t = go (eqb s u) (eqb t u) refl refl
    where
      twice : (x : Bool) → xor x (xor x false) ≡ false
      twice true = refl
      twice false = refl

      once : (x y : Bool) → xor x (y && false) ≡ x
      once true true = refl
      once true false = refl
      once false true = refl
      once false false = refl

      same : (x : Bool) → xor x (x && true) ≡ false
      same true = refl
      same false = refl

      go : (p q : Bool) → eqb s u ≡ p → eqb t u ≡ q → xor (e s t) (xor (p && e u t) (e u s && q)) ≡ cond (p || q) false (e s t)
      go true q h k =
          let at = eqb-true s u h in
          let none : e u s ≡ false = ap (e u) at ∙ loopless u in
          (λ i. xor (e (at i) t) (xor (e u t) (none i && q))) ∙ twice (e u t)
      go false true h k =
          let at = eqb-true t u k in
          (λ i. xor ((ap (e s) at ∙ both s u) i) (e u s && true)) ∙ same (e u s)
      go false false h k = once (e s t) (e u s)

  -- the edges of b toggled onto a, and then taken off b
  pub edge-fused : (a b s t : ℕ) → (a ≡ b → ⊥) → xor (xor (e s t) (xor (eqb s a && cond (eqb t a) false (e b t)) (cond (eqb s a) false (e b s) && eqb t a))) (xor (eqb s b && e b t) (e b s && eqb t b)) ≡ cond (eqb s b || (eqb t b || eqb s t)) false (xor (e s t) (xor (eqb s a && e b t) (eqb t a && e b s)))
  edge-fused a b s t apart = go (eqb s b) (eqb t b) refl refl
    where
      clash : (x y z : ℕ) → eqb x y ≡ true → eqb x z ≡ true → (y ≡ z → ⊥) → ⊥
      clash x y z h k ne = ne (sym (eqb-true x y h) ∙ eqb-true x z k)

      first : (q ta x : Bool) → xor (xor x (xor (false && cond ta false x) (cond false false false && ta))) (xor (true && x) (false && q)) ≡ false
      first q ta true = refl
      first q ta false = refl

      second : (sa x y : Bool) → xor (xor x (xor (sa && false) (cond sa false x && false))) (xor (false && y) (x && true)) ≡ false
      second true true y = refl
      second true false y = refl
      second false true y = refl
      second false false y = refl

      neither : (x y z : Bool) → xor x (xor (false && y) (z && false)) ≡ x
      neither true y true = refl
      neither true y false = refl
      neither false y true = refl
      neither false y false = refl

      off : (x y : ℕ) → (x ≡ y → ⊥) → (z : ℕ) → eqb z y ≡ true → eqb z x ≡ false
      off x y ne z h = ne_eqb z x (λ k. ne (sym k ∙ eqb-true z y h))

      loop : (sa x : Bool) → xor false (xor (sa && cond sa false x) (cond sa false x && sa)) ≡ false
      loop true x = refl
      loop false true = refl
      loop false false = refl

      apart-slots : (sa ta x y z : Bool) → (sa ≡ true → ta ≡ true → ⊥) → xor x (xor (sa && cond ta false y) (cond sa false z && ta)) ≡ xor x (xor (sa && y) (ta && z))
      apart-slots true true x y z never = absurd (never refl refl)
      apart-slots true false x y z never = refl
      apart-slots false true x y true never = refl
      apart-slots false true x y false never = refl
      apart-slots false false x y true never = refl
      apart-slots false false x y false never = refl

      rest : (st : Bool) → eqb s t ≡ st → xor (e s t) (xor (eqb s a && cond (eqb t a) false (e b t)) (cond (eqb s a) false (e b s) && eqb t a)) ≡ cond st false (xor (e s t) (xor (eqb s a && e b t) (eqb t a && e b s)))
      rest true h =
          let at = eqb-true s t h in
          (λ i. xor ((ap (λ k. e k t) at ∙ loopless t) i) (xor (eqb (at i) a && cond (eqb t a) false (e b t)) (cond (eqb (at i) a) false (e b (at i)) && eqb t a))) ∙ loop (eqb t a) (e b t)
      rest false h = apart-slots (eqb s a) (eqb t a) (e s t) (e b t) (e b s) (λ p q. true≢false (sym (eq-eqb s t (eqb-true s a p ∙ sym (eqb-true t a q))) ∙ h))

      go : (p q : Bool) → eqb s b ≡ p → eqb t b ≡ q → xor (xor (e s t) (xor (eqb s a && cond (eqb t a) false (e b t)) (cond (eqb s a) false (e b s) && eqb t a))) (xor (p && e b t) (e b s && q)) ≡ cond (p || (q || eqb s t)) false (xor (e s t) (xor (eqb s a && e b t) (eqb t a && e b s)))
      go true q h k =
          let at = eqb-true s b h in
          let none : e b s ≡ false = ap (e b) at ∙ loopless b in
          let no_a : eqb s a ≡ false = off a b apart s h in
          (λ i. xor (xor (e (at i) t) (xor (no_a i && cond (eqb t a) false (e b t)) (cond (no_a i) false (none i) && eqb t a))) (xor (true && e b t) (none i && q))) ∙ first q (eqb t a) (e b t)
      go false true h k =
          let at = eqb-true t b k in
          let none : e b t ≡ false = ap (e b) at ∙ loopless b in
          let no_a : eqb t a ≡ false = off a b apart t k in
          let same : e s t ≡ e b s = ap (e s) at ∙ both s b in
          (λ i. xor (xor (same i) (xor (eqb s a && cond (no_a i) false (none i)) (cond (eqb s a) false (e b s) && no_a i))) (xor (false && e b t) (e b s && true))) ∙ second (eqb s a) (e b s) (e b t)
      go false false h k = neither (xor (e s t) (xor (eqb s a && cond (eqb t a) false (e b t)) (cond (eqb s a) false (e b s) && eqb t a))) (e b t) (e b s) ∙ rest (eqb s t) refl
