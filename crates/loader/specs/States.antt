-- What a loading under way has come to. Assumes nothing.
use Rattle.std.specs.Prelude.{◌≡◌, ℕ, ◌<◌, length, Ok, Err, Result, slice_index_or}
use Rattle.refusals.specs.declared.LoadRefusal.{LoadRefusal}
use Rattle.diagrams.specs.declared.items.Colour.TheVariants.{Z}
use Rattle.loadings.specs.Loadings.{Loading as Point, Taken, goes_on, refuses, next_number}
use Rattle.graphlike.specs.Diagrams.{model}
use Rattle.loader.specs.declared.given.Given.{Given}
use Rattle.loader.specs.declared.loading.Loading.{Loading}
use Rattle.loader.specs.Givens.{loading_of}

abbrev pub state : Loading → Point
state l = loading_of (model l.diagram) l.spiders.items l.legs

-- an item of a number is taken, and leaves a loading with another number; or it is refused
abbrev pub ComesTo : Taken → ℕ → ℕ → Result Prim.Unit LoadRefusal → Loading → Type 0
ComesTo (goes_on t) n next r l = (r ≡ Ok tt) × (state l ≡ t) × (l.item ≡ next)
ComesTo (refuses why) n next r l = r ≡ Err (why n)

-- the number of the next item is still this one's, or the one after it
abbrev pub Comes : Taken → ℕ → Result Prim.Unit LoadRefusal → Loading → Type 0
Comes q n r l = ComesTo q n n r l

abbrev pub ComesNext : Taken → ℕ → Result Prim.Unit LoadRefusal → Loading → Type 0
ComesNext q n r l = ComesTo q n (next_number n) r l

-- spider k has been given, and this is what is kept of it
pub record Known (s : Point) (k : ℕ) (g : Given) : Type 0 where
  pub low : k < length s.colours
  pub colour : slice_index_or s.colours k Z ≡ g.colour
  pub place : s.place k ≡ g.slot.number

-- a slot is that of a spider that has been given
abbrev pub IsTaken : Point → ℕ → Type 0
IsTaken s a = (k : ℕ) × (k < length s.colours) × (s.place k ≡ a)
