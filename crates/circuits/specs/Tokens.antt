-- Numbers and line ends in circuit text, byte by byte. Assumes nothing.
use Rattle.std.specs.Prelude.{ℕ, ◌+◌, ◌-◌, ◌*◌, Bool, if◌then◌else◌, ◌&&◌, List, [], ◌∷◌, take, drop, Ok, Err, Result, ◌==◌, nat_le, slice_index}
use Rattle.refusals.specs.declared.Fault.{Fault}
use Rattle.refusals.specs.declared.Fault.TheVariants.{NotANumber, NoLineEnd}
use Rattle.circuits.specs.declared.tokens.Token.{Token}
use Rattle.circuits.specs.declared.tokens.Token.TheVariants.{Letter, Number}

-- the bytes of a token
abbrev pub text_of : Token → List ℕ
text_of (Letter t p) = t.now
text_of (Number t p) = t.now

-- the place of its first byte
abbrev pub place_of : Token → ℕ
place_of (Letter t p) = p
place_of (Number t p) = p

-- what one or two digits stand for
abbrev pub decimal : List ℕ → ℕ
decimal [] = 0
decimal (d ∷ []) = d - 48
decimal (d ∷ e ∷ []) = 10 * (d - 48) + (e - 48)
decimal (d ∷ e ∷ f ∷ ds) = 0

abbrev pub is_digit : ℕ → Bool
is_digit b = nat_le 48 b && nat_le b 57

-- how many bytes the number at p has, the longest first; none where no number begins there
abbrev pub digits_at : List ℕ → ℕ → ℕ
digits_at bs p =
    if slice_index bs p == 48 then 1
    else if is_digit (slice_index bs p) then (if is_digit (slice_index bs (p + 1)) then 2 else 1)
    else 0

-- the bytes of the number after a space at p, and its place, or the first byte that is wrong
abbrev pub number_at : List ℕ → ℕ → Result (List ℕ × ℕ) Fault
number_at bs p =
    if slice_index bs p == 32 then
    (if digits_at bs (p + 1) == 0 then Err (NotANumber (p + 1)) else Ok (take (digits_at bs (p + 1)) (drop (p + 1) bs), p + 1))
    else Err (NotANumber p)

-- the place after the line end at p
abbrev pub line_end : List ℕ → ℕ → Result ℕ Fault
line_end bs p = if slice_index bs p == 10 then Ok (p + 1) else Err (NoLineEnd p)
