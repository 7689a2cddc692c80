-- A row that is cut after 65 bytes is asked as the whole row is. Assumes nothing.
use Rattle.std.proofs.Common.{◌≡◌, ℕ, ◌<◌, ◌≤◌, Bool, true, false, List, length, take, Ok, Err, Result, sym, ap, ◌∙◌, subst, ⊎_elim, arith, ne_eqb, MatchResult}
use Rattle.std.proofs.lemmas.List.{take_all, length-take-le, length-map}
use Rattle.std.proofs.lemmas.Bool.Decides.{leb_tells}
use Rattle.refusals.specs.declared.AskRefusal.{AskRefusal}
use Rattle.refusals.specs.declared.AskRefusal.TheVariants.{RowLength}
use Rattle.models.specs.Models.{Model, open_count}
use Rattle.models.proofs.Counts.{open_most}
use Rattle.reductions.specs.Answers.{Answer as Answered, Right}
use Rattle.archive.specs.declared.answer.Answer.{Answer}
use Rattle.archive.specs.Questions.{asked, judged, first_bad, bits, answer_is}
use Rattle.replies.specs.Input.{row_byte, row_bytes}

-- a row of another length than the open legs
abbrev sized : List ℕ → Model → Bool → Result Answered AskRefusal
sized row m false = Err RowLength
sized row m true = judged (first_bad row 0) row m

wrong_length : (row : List ℕ) (m : Model) → (length row ≡ open_count m → ⊥) → asked row m ≡ Err RowLength
wrong_length row m ne = ap (sized row m) (ne_eqb (length row) (open_count m) ne)

module _ (line : List ℕ) (m : Model) where
  whole : length line ≤ 65 → row_bytes (take 65 line) ≡ row_bytes line
  whole few = ap row_bytes (take_all 65 line few)

  cut_wrong : 65 < length line → asked (row_bytes (take 65 line)) m ≡ Err RowLength
  cut_wrong far =
      let most = open_most m in
      let a = length-map (take 65 line) row_byte in
      let b = length-take-le 65 line (omega arith) in
      wrong_length (row_bytes (take 65 line)) m (λ e. omega arith)

  whole_wrong : 65 < length line → asked (row_bytes line) m ≡ Err RowLength
  whole_wrong far =
      let most = open_most m in
      let a = length-map line row_byte in
      wrong_length (row_bytes line) m (λ e. omega arith)

  pub cut_asked : asked (row_bytes (take 65 line)) m ≡ asked (row_bytes line) m
  cut_asked = ⊎_elim (λ h. ap (λ q. asked q m) (whole h.1)) (λ h. cut_wrong h.1 ∙ sym (whole_wrong h.1)) (leb_tells (length line) 65)

  pub cut_value : (a : Result Answer AskRefusal) → MatchResult a (λ x. asked (row_bytes (take 65 line)) m ≡ Ok (answer_is x)) (λ e. asked (row_bytes (take 65 line)) m ≡ Err e) → MatchResult a (λ x. asked (row_bytes line) m ≡ Ok (answer_is x)) (λ e. asked (row_bytes line) m ≡ Err e)
  cut_value (Ok x) v = sym cut_asked ∙ v
  cut_value (Err e) v = sym cut_asked ∙ v

  pub cut_right : (a : Result Answer AskRefusal) → MatchResult a (λ x. asked (row_bytes (take 65 line)) m ≡ Ok (answer_is x)) (λ e. asked (row_bytes (take 65 line)) m ≡ Err e) → MatchResult a (λ x. Right m (bits (row_bytes (take 65 line))) (answer_is x)) (λ _. 0 < 1) → MatchResult a (λ x. Right m (bits (row_bytes line)) (answer_is x)) (λ _. 0 < 1)
  cut_right (Err e) v h = h
  cut_right (Ok x) v h = ⊎_elim (λ q. subst (λ (bs : List ℕ). Right m (bits bs) (answer_is x)) (whole q.1) h) (λ q. absurd (never q.1)) (leb_tells (length line) 65)
    where
      never : 65 < length line → ⊥
      never far =
          let bad = cut_wrong far in
          let z : ◌≡◌ {A = ℕ} 0 1 = cc in
          omega arith
