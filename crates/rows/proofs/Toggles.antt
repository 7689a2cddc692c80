-- A word with one bit toggled, seen slot by slot. Assumes nothing.
use Rattle.std.proofs.Common.{◌≡◌, ℕ, ◌/◌, ◌%◌, ◌^◌, ◌<◌, Bool, true, false, eqb, List, length, get_or, set, sym, refl, ap, ◌∙◌, ap₂, ⊎_elim, arith, eq-eqb, ne_eqb}
use lib.Bits.{bit_xor}
use Rattle.std.proofs.lemmas.List.{get_or-set_same, get_or-set_other}
use Rattle.std.proofs.lemmas.Bool.Decides.{eqb_tells}
use Rattle.graphs.specs.Rules.{xor}
use Rattle.rows.specs.Rows.{bit_of}
use Rattle.rows.proofs.Words.{bit-xor, bit-one}

xor_false : (b : Bool) → b ≡ xor b false
xor_false true = refl
xor_false false = refl

-- two slots are equal where their words and places are
same_place : (i n : ℕ) → i / 64 ≡ n / 64 → eqb (i % 64) (n % 64) ≡ eqb i n
same_place i n q = ⊎_elim (λ e. let p = e.1 in eq-eqb (i % 64) (n % 64) (omega arith) ∙ sym e.0) (λ e. let ne = e.1 in ne_eqb (i % 64) (n % 64) (apart ne) ∙ sym e.0) (eqb_tells i n)
  where
    apart : (i ≡ n → ⊥) → i % 64 ≡ n % 64 → ⊥
    apart ne p = ne (omega arith)

pub toggled : (ws : List ℕ) (n : ℕ) → n / 64 < length ws → (i : ℕ) → bit_of (get_or (set ws (n / 64) (bit_xor (get_or ws (n / 64) 0) (2 ^ (n % 64)))) (i / 64) 0) (i % 64) ≡ xor (bit_of (get_or ws (i / 64) 0) (i % 64)) (eqb i n)
toggled ws n low i = ⊎_elim here elsewhere (eqb_tells (i / 64) (n / 64))
  where
    word : ℕ
    word = bit_xor (get_or ws (n / 64) 0) (2 ^ (n % 64))

    here : (eqb (i / 64) (n / 64) ≡ true) × (i / 64 ≡ n / 64) → bit_of (get_or (set ws (n / 64) word) (i / 64) 0) (i % 64) ≡ xor (bit_of (get_or ws (i / 64) 0) (i % 64)) (eqb i n)
    here e =
        ap (λ k. bit_of (get_or (set ws (n / 64) word) k 0) (i % 64)) e.1
        ∙ ap (λ w. bit_of w (i % 64)) (get_or-set_same ws (n / 64) word 0 low)
        ∙ bit-xor (get_or ws (n / 64) 0) (2 ^ (n % 64)) (i % 64)
        ∙ ap₂ xor (ap (λ k. bit_of (get_or ws k 0) (i % 64)) (sym e.1)) (bit-one (n % 64) (i % 64) ∙ same_place i n e.1)

    elsewhere : (eqb (i / 64) (n / 64) ≡ false) × (i / 64 ≡ n / 64 → ⊥) → bit_of (get_or (set ws (n / 64) word) (i / 64) 0) (i % 64) ≡ xor (bit_of (get_or ws (i / 64) 0) (i % 64)) (eqb i n)
    elsewhere e =
        ap (λ w. bit_of w (i % 64)) (get_or-set_other ws (n / 64) (i / 64) word 0 e.1)
        ∙ xor_false (bit_of (get_or ws (i / 64) 0) (i % 64))
        ∙ ap (xor (bit_of (get_or ws (i / 64) 0) (i % 64))) (sym (ne_eqb i n (λ p. e.1 (ap (λ k. k / 64) p))))
