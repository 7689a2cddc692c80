-- The edges of slots after one row is written, and after rows are worked one by one. Assumes nothing.
use Rattle.std.proofs.Common.{◌≡◌, ℕ, suc, ◌<◌, Bool, true, false, cond, not, ◌&&◌, eqb, List, length, get_or, set, replicate, sym, refl, ap, ◌∙◌, ⊎_elim, arith, eqb-true}
use Rattle.std.proofs.lemmas.List.{get_or-set_same, get_or-set_other, get_or_past, get_or-replicate, length-replicate}
use Rattle.std.proofs.lemmas.Bool.Decides.{eqb_tells, leb_tells}
use Rattle.graphs.specs.Graphs.{without}
use Rattle.graphs.specs.Rules.{xor}
use Rattle.rows.specs.declared.row.Row.{Row}
use Rattle.rows.specs.Rows.{has}
use Rattle.rows.proofs.Words.{bit-none}
use Rattle.links.specs.Links.{no_row, linked}

-- no slot is in no row
pub none_in_no_row : (t : ℕ) → has no_row t ≡ false
none_in_no_row t = bit-none _

-- one row written
pub row_written : (rs : List Row) (n : ℕ) (r : Row) → n < length rs → (s t : ℕ) → linked (record { rows = set rs n r }) s t ≡ cond (eqb s n) (has r t) (linked (record { rows = rs }) s t)
unfolding linked
row_written rs n r low s t = ⊎_elim
    (λ e. ap (λ k. has (get_or (set rs n r) k no_row) t) e.1 ∙ ap (λ q. has q t) (get_or-set_same rs n r no_row low) ∙ sym (ap (λ b. cond b (has r t) (has (get_or rs s no_row) t)) e.0))
    (λ e. ap (λ q. has q t) (get_or-set_other rs n s r no_row e.1) ∙ sym (ap (λ b. cond b (has r t) (has (get_or rs s no_row) t)) e.0))
    (eqb_tells s n)

-- rows that are all empty
pub all_empty : (n : ℕ) (r : Row) → ((t : ℕ) → has r t ≡ false) → (s t : ℕ) → linked (record { rows = replicate n r }) s t ≡ false
unfolding linked
all_empty n r none s t = ⊎_elim
    (λ h. ap (λ q. has q t) (get_or-replicate n s r no_row h.1) ∙ none t)
    (λ h. let past = h.1 in let long = length-replicate n r in ap (λ q. has q t) (get_or_past (replicate n r) s no_row (omega arith)) ∙ none_in_no_row t)
    (leb_tells (suc s) n)

pub xor-none : (a : Bool) → xor a false ≡ a
xor-none true = refl
xor-none false = refl

-- one row toggled
pub row-toggled : (rs : List Row) (n : ℕ) (r : Row) (q : ℕ → Bool) → n < length rs → ((t : ℕ) → has r t ≡ xor (has (get_or rs n no_row) t) (q t)) → (s t : ℕ) → linked (record { rows = set rs n r }) s t ≡ xor (linked (record { rows = rs }) s t) (eqb s n && q t)
unfolding linked
row-toggled rs n r q low new s t = row_written rs n r low s t ∙ go (eqb s n) refl
  where
    go : (b : Bool) → eqb s n ≡ b → cond b (has r t) (linked (record { rows = rs }) s t) ≡ xor (linked (record { rows = rs }) s t) (b && q t)
    go true e = new t ∙ ap (λ k. xor (has (get_or rs k no_row) t) (q t)) (sym (eqb-true s n e))
    go false e = sym (xor-none (linked (record { rows = rs }) s t))

-- a set whose slots are worked one by one: those that are left are not worked yet
abbrev pub worked : (ℕ → Bool) → (ℕ → Bool) → (ℕ → ℕ → Bool) → ℕ → ℕ → Bool
worked set left q s t = (set s && not (left s)) && q s t

pub worked_none : (set : ℕ → Bool) (q : ℕ → ℕ → Bool) (s t : ℕ) (e : Bool) → e ≡ xor e (worked set set q s t)
worked_none set q s t e = sym (ap (xor e) (go (set s)) ∙ xor-none e)
  where
    go : (b : Bool) → (b && not b) && q s t ≡ false
    go true = refl
    go false = refl

pub worked_more : (set left : ℕ → Bool) (q : ℕ → ℕ → Bool) (w : ℕ) → left w ≡ true → ((k : ℕ) → left k ≡ true → set k ≡ true) → (s t : ℕ) (e : Bool) → xor (xor e (worked set left q s t)) (eqb s w && q w t) ≡ xor e (worked set (without left w) q s t)
worked_more set left q w on some s t e = go (eqb s w) refl
  where
    go : (b : Bool) → eqb s w ≡ b → xor (xor e (worked set left q s t)) (b && q w t) ≡ xor e ((set s && not (cond b false (left s))) && q s t)
    go false n = xor-none (xor e (worked set left q s t))
    go true n =
        let same = eqb-true s w n in
        let l : left s ≡ true = ap left same ∙ on in
        (λ i. xor (xor e ((some s l i && not (l i)) && q s t)) (q (sym same i) t)) ∙ ap (λ b. xor b (q s t)) (xor-none e) ∙ sym (ap (λ b. xor e ((b && true) && q s t)) (some s l))

pub worked_all : (set left : ℕ → Bool) (q : ℕ → ℕ → Bool) → ((k : ℕ) → left k ≡ false) → (s t : ℕ) (e : Bool) → xor e (worked set left q s t) ≡ xor e (set s && q s t)
worked_all set left q none s t e = ap (λ b. xor e ((set s && not b) && q s t)) (none s) ∙ ap (λ b. xor e (b && q s t)) (and_true (set s))
  where
    and_true : (a : Bool) → a && true ≡ a
    and_true true = refl
    and_true false = refl

-- the slots of a set but s
abbrev pub others_of : (ℕ → Bool) → ℕ → ℕ → Bool
others_of set s t = not (eqb s t) && set t
