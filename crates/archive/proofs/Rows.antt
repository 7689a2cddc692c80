-- Rows of bytes read one by one, and legs closed one by one. Assumes nothing.
use Rattle.std.proofs.Common.{◌≡◌, ℕ, Bor, ◌+◌, Bool, true, false, cond, eqb, ltb, List, [], ◌∷◌, length, Some, None, Ok, Err, Option, Result, sym, refl, ap, ◌∙◌, arith, eq-eqb}
use Rattle.std.specs.List.{position_from, position}
use Rattle.std.specs.Slice.Iter.{iter_rest, iter_steps}
use Rattle.std.specs.Option.{option_eq, option_copied}
use Rattle.std.specs.declared.slice.Iter.{Iter}
use Rattle.std.proofs.lemmas.Iterator.Adapters.{position_from-zero}
use Rattle.amplitudes.specs.Items.{first_bit, other_bits}
use Rattle.models.specs.Models.{Model, open_count}
use Rattle.reductions.specs.Answers.{Answer as Answered, answered, closed_from}
use Rattle.refusals.specs.declared.AskRefusal.{AskRefusal}
use Rattle.refusals.specs.declared.AskRefusal.TheVariants.{RowLength}
use Rattle.archive.specs.Questions.{bits, first_bad, judged, judged_byte, judged_row, asked}

-- the first byte that is no bit is the first that passes a test
abbrev stop : List ℕ → ℕ → Bool → Option ℕ
stop bs n true = Some n
stop bs n false = first_bad bs (n + 1)

first_from : (row : List ℕ) (n : ℕ) → first_bad row n ≡ position_from (λ b. ltb 1 b) n row
first_from [] n = refl
first_from (b ∷ bs) n = go (ltb 1 b) refl (first_from bs (n + 1))
  where
    go : (t : Bool) → ltb 1 b ≡ t → first_bad bs (n + 1) ≡ position_from (λ b. ltb 1 b) (n + 1) bs → first_bad (b ∷ bs) n ≡ position_from (λ b. ltb 1 b) n (b ∷ bs)
    go true e h = ap (stop bs n) e ∙ sym (ap (λ t. cond t (Some n) (position_from (λ b. ltb 1 b) (n + 1) bs)) e)
    go false e h = ap (stop bs n) e ∙ h ∙ sym (ap (λ t. cond t (Some n) (position_from (λ b. ltb 1 b) (n + 1) bs)) e)

pub first_bad-found : (row : List ℕ) → first_bad row 0 ≡ position (λ b. ltb 1 b) row
first_bad-found row = first_from row 0 ∙ sym (position_from-zero (λ b. ltb 1 b) row)

-- a row of the right length is judged by its bytes
abbrev of_length : Result Prim.Unit AskRefusal → Bool → Result Prim.Unit AskRefusal
of_length r false = Err RowLength
of_length r true = r

pub judged_bytes : (row : List ℕ) (m : Model) → length row ≡ open_count m → judged_row row m ≡ judged_byte (first_bad row 0)
judged_bytes row m e = ap (of_length (judged_byte (first_bad row 0))) (eq-eqb (length row) (open_count m) e)

-- the next byte of a row gives the next bit, and the bytes after it the bits after that
none_left : (bs : List ℕ) → length bs ≡ 0 → bs ≡ []
none_left [] e = refl
none_left (b ∷ bs) e = absurd (omega arith)

pub came_off : (s t : Iter ℕ) (r : Option (Bor ℕ)) → iter_steps s r t → (first_bit (bits (iter_rest s)) ≡ option_eq eqb (option_copied r) (Some 1)) × (other_bits (bits (iter_rest s)) ≡ bits (iter_rest t))
came_off s t (Some x) h = (ap (λ bs. first_bit (bits bs)) h, ap (λ bs. other_bits (bits bs)) h)
came_off s t None h =
    let none = none_left (iter_rest s) h.0 in
    (ap (λ bs. first_bit (bits bs)) none, ap (λ bs. other_bits (bits bs)) none ∙ sym (ap (λ i. bits (iter_rest i)) h.1 ∙ ap bits none))

pub closed_end : (l : ℕ) (row : List Bool) (m : Model) → closed_from 0 l row m ≡ m
unfolding closed_from
closed_end l row m = refl

-- a row that is not refused is answered
abbrev refuses : Option ℕ → List ℕ → Model → Bool → Result Answered AskRefusal
refuses q row m false = Err RowLength
refuses q row m true = judged q row m

pub not_refused : (row : List ℕ) (m : Model) → judged_row row m ≡ Ok tt → asked row m ≡ Ok (answered (bits row) m)
not_refused row m e = go (eqb (length row) (open_count m)) (first_bad row 0) e
  where
    go : (b : Bool) (q : Option ℕ) → elim b as (λ _. Result Prim.Unit AskRefusal) [ false ↦ Err RowLength | true ↦ judged_byte q ] ≡ Ok tt → refuses q row m b ≡ Ok (answered (bits row) m)
    go true None h = refl
    go true (Some p) h = absurd (let z : ◌≡◌ {A = ℕ} 0 1 = cc in omega arith)
    go false q h = absurd (let z : ◌≡◌ {A = ℕ} 0 1 = cc in omega arith)
