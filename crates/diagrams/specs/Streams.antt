-- What a source means: the items still to come, and what comes after the last. Assumes nothing.
use Rattle.std.specs.Prelude.{ℕ, List, [], ◌∷◌, ◌++◌, drop, Some, None, Ok, Err, Option, Result}
use Rattle.diagrams.specs.declared.items.Item.{Item}
use Rattle.refusals.specs.declared.Fault.{Fault}

-- how a source ends: well, or with a fault
pub data End : Type 0 where
  finish : End
  broken : Fault → End

pub record Stream : Type 0 where
  pub items : List Item
  pub ending : End

-- what asking gives once no item is left
abbrev pub last_answer : End → Result (Option Item) Fault
last_answer finish = Ok None
last_answer (broken f) = Err f

-- what asking gives: the first item, and after the last one the end or the fault, every time
abbrev pub first_of : List Item → End → Result (Option Item) Fault
first_of [] e = last_answer e
first_of (x ∷ xs) e = Ok (Some x)

abbrev pub answer : Stream → Result (Option Item) Fault
answer s = first_of s.items s.ending

abbrev pub rest_of : List Item → List Item
rest_of [] = []
rest_of (x ∷ xs) = xs

-- what asking leaves: all but the first
abbrev pub after : Stream → Stream
after s = record { items = rest_of s.items; ending = s.ending }

-- some items, and then a stream
abbrev pub ◌▸◌ : List Item → Stream → Stream
xs ▸ s = record { items = xs ++ s.items; ending = s.ending }

infixr 60 ◌▸◌
-- a stream of nothing but its end
abbrev pub only : End → Stream
only e = record { items = []; ending = e }

-- what is left of a list of items once n of them are given, and then the end
abbrev pub listed : List Item → ℕ → Stream
listed xs n = drop n xs ▸ only finish
