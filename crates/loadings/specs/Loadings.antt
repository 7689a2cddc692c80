-- Loading: which working diagram the items of a stream make, or why they make none. Assumes nothing.
use Rattle.std.specs.Prelude.{ℕ, ◌+◌, ◌-◌, ◌^◌, min, max, Bool, true, false, if◌then◌else◌, ◌&&◌, List, [], ◌∷◌, ◌++◌, length, negsuc, ◌==◌, nat_le, nat_lt, unsigned_abs}
use Rattle.refusals.specs.declared.LoadRefusal.{LoadRefusal}
use Rattle.refusals.specs.declared.LoadRefusal.TheVariants.{Unreadable, UnknownSpider, TooManySpiders, TooManyLegs, ScalarOutOfRange}
use Rattle.diagrams.specs.Limits.{limit}
use Rattle.diagrams.specs.Streams.{End, finish, broken, Stream, only}
use Rattle.diagrams.specs.declared.items.Colour.{Colour}
use Rattle.diagrams.specs.declared.items.Kind.{Kind}
use Rattle.diagrams.specs.declared.items.Kind.TheVariants.{Plain, Hadamard}
use Rattle.diagrams.specs.declared.items.Setting.{Setting}
use Rattle.diagrams.specs.declared.items.Setting.TheVariants.{Open, HeldZero, HeldOne}
use Rattle.diagrams.specs.declared.items.Spider.{Spider as SpiderData}
use Rattle.diagrams.specs.declared.items.Leg.{Leg as LegData}
use Rattle.diagrams.specs.declared.items.Item.{Item}
use Rattle.diagrams.specs.declared.items.Item.TheVariants.{Spider, Wire, Leg, Factor, Zero}
use Rattle.amplitudes.specs.Items.{wire_kind, leg_kind}
use Rattle.models.specs.Models.{Scalar, nothing, root, Model, spider_limit, leg_limit}
use Rattle.models.specs.Edits.{blank, placed, gained, only_slot, toggled, scaled, zeroed, fused, attached, held}

-- what is known after some items: the diagram so far, the colours of the spiders in order, the slot in which
-- each spider now is, and how many legs there were, open and held
pub record Loading : Type 0 where
  pub model : Model
  pub colours : List Colour
  pub place : ℕ → ℕ
  pub legs : ℕ

-- before the first item; a spider that is yet to come will take the slot of its number
abbrev pub beginning : Loading
beginning = record { model = blank; colours = []; place = λ n. n; legs = 0 }

abbrev pub with_model : Loading → Model → Loading
with_model s m = record { model = m; colours = s.colours; place = s.place; legs = s.legs }

-- a spider takes the slot of its number
abbrev pub with_spider : SpiderData → Loading → Loading
with_spider d s = record {
  model = placed (length s.colours) d.phase.parts s.model;
  colours = s.colours ++ (d.colour ∷ []);
  place = s.place;
  legs = s.legs;
}

-- what a wire or leg of an effective kind costs: through a Hadamard box a root of two
abbrev pub paid : Kind → Model → Model
paid Plain m = m
paid Hadamard m = scaled (negsuc 0) 0 m

-- the spiders of slot b are in slot a
abbrev pub placed_again : ℕ → ℕ → (ℕ → ℕ) → ℕ → ℕ
placed_again a b place n = if place n == b then a else place n

-- two slots become one
abbrev pub with_fusion : ℕ → ℕ → Loading → Loading
with_fusion a b s = record { model = fused a b s.model; colours = s.colours; place = placed_again a b s.place; legs = s.legs }

-- a wire of an effective kind between two slots: a Hadamard one toggles the edge, or gives a half turn within
-- one slot; a plain one fuses into the lower slot, and does nothing within one
abbrev pub with_wire : Kind → ℕ → ℕ → Loading → Loading
with_wire Hadamard a b s =
    with_model s (paid Hadamard (elim (a == b) [ true ↦ gained (only_slot a) 2 s.model | false ↦ toggled a b s.model ]))
with_wire Plain a b s = elim (a == b) [ true ↦ s | false ↦ with_fusion (min a b) (max a b) s ]

-- a leg of an effective kind on a slot
abbrev pub with_leg : LegData → Kind → ℕ → Setting → Loading → Model
with_leg d k a Open s = attached s.legs (record { side = d.side; slot = a; kind = k }) s.model
with_leg d k a HeldZero s = held a k s.legs false s.model
with_leg d k a HeldOne s = held a k s.legs true s.model

abbrev pub with_one_leg : LegData → Loading → Loading
with_one_leg d s = record {
  model = paid (leg_kind s.colours d) (with_leg d (leg_kind s.colours d) (s.place d.spider) d.setting s);
  colours = s.colours;
  place = s.place;
  legs = s.legs + 1;
}

-- an item is taken, or refused, which a refusal's item number completes
pub data Taken : Type 0 where
  goes_on : Loading → Taken
  refuses : (ℕ → LoadRefusal) → Taken

-- the scalar's power of √2 lies within the limit; zero always does
abbrev pub within : Scalar → Bool
within nothing = true
within (root k m) = nat_le (unsigned_abs k) limit

abbrev pub judged : Loading → Taken
judged s = elim (within s.model.scalar) [ true ↦ goes_on s | false ↦ refuses ScalarOutOfRange ]

-- whether spider n has been given
abbrev pub given : Loading → ℕ → Bool
given s n = nat_lt n (length s.colours)

abbrev pub taken : Loading → Item → Taken
taken s (Spider d) = elim (nat_lt (length s.colours) spider_limit) [ false ↦ refuses TooManySpiders | true ↦ goes_on (with_spider d s) ]
taken s (Wire d) = elim (given s d.first && given s d.second) [
  | false ↦ refuses UnknownSpider
  | true ↦ judged (with_wire (wire_kind s.colours d) (s.place d.first) (s.place d.second) s)
]
taken s (Leg d) = elim (given s d.spider) [
  | false ↦ refuses UnknownSpider
  | true ↦ elim (nat_lt s.legs leg_limit) [ false ↦ refuses TooManyLegs | true ↦ judged (with_one_leg d s) ]
]
taken s (Factor f) = judged (with_model s (scaled f.k.exponent f.m.parts s.model))
taken s Zero = goes_on (with_model s (zeroed s.model))

-- item numbers stop at the largest
abbrev pub next_number : ℕ → ℕ
next_number n = min (n + 1) (2 ^ 32 - 1)

-- how a loading ends: with the diagram, or with a refusal; and what the source still has
pub data Loaded : Type 0 where
  accepted : Model → Stream → Loaded
  refused : LoadRefusal → Stream → Loaded

abbrev pub ended : Loading → ℕ → End → Loaded
ended s n finish = accepted s.model (only finish)
ended s n (broken f) = refused (Unreadable f n) (only (broken f))

-- the items from number n on, up to the end, a fault or a refusal
abbrev pub loaded_from : Loading → ℕ → List Item → End → Loaded
loaded_from s n [] e = ended s n e
loaded_from s n (i ∷ is) e = elim (taken s i) [
  | goes_on t ↦ loaded_from t (next_number n) is e
  | refuses why ↦ refused (why n) (record { items = is; ending = e })
]

-- what loading makes of a source
abbrev pub loaded : Stream → Loaded
loaded s = loaded_from beginning 0 s.items s.ending
