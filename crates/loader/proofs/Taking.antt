-- What each item comes to, by the tests that it passes. Assumes nothing.
use Rattle.std.proofs.Common.{◌≡◌, ℕ, min, max, Bool, true, false, ◌&&◌, eqb, ltb, length, Result, sym, refl, ap, ◌∙◌, subst}
use Rattle.refusals.specs.declared.LoadRefusal.{LoadRefusal}
use Rattle.refusals.specs.declared.LoadRefusal.TheVariants.{UnknownSpider, TooManySpiders, TooManyLegs, ScalarOutOfRange}
use Rattle.diagrams.specs.declared.items.Kind.TheVariants.{Plain}
use Rattle.diagrams.specs.declared.items.Spider.{Spider as SpiderData}
use Rattle.diagrams.specs.declared.items.Wire.{Wire as WireData}
use Rattle.diagrams.specs.declared.items.Leg.{Leg as LegData}
use Rattle.diagrams.specs.declared.items.Item.TheVariants.{Spider, Wire, Leg}
use Rattle.amplitudes.specs.Items.{wire_kind}
use Rattle.models.specs.Models.{spider_limit, leg_limit}
use Rattle.loadings.specs.Loadings.{Loading, Taken, goes_on, refuses, given, within, judged, taken, with_spider, with_wire, with_one_leg, with_fusion}
use Rattle.loader.specs.declared.loading.Loading.{Loading as Loader}
use Rattle.models.specs.Edits.{fused}
use Rattle.loader.specs.States.{ComesTo}

-- a test that is passed or failed decides
abbrev either : Taken → Taken → Bool → Taken
either p q true = q
either p q false = p

chosen : (b : Bool) (p q : Taken) (c : Bool) → b ≡ c → either p q b ≡ either p q c
chosen b p q c e = ap (either p q) e

pub judged-within : (s : Loading) → within s.model.scalar ≡ true → judged s ≡ goes_on s
judged-within s e = ap (either (refuses ScalarOutOfRange) (goes_on s)) e

pub judged_beyond : (s : Loading) → within s.model.scalar ≡ false → judged s ≡ refuses ScalarOutOfRange
judged_beyond s e = ap (either (refuses ScalarOutOfRange) (goes_on s)) e

module _ (s : Loading) where
  pub spider-taken : (d : SpiderData) → ltb (length s.colours) spider_limit ≡ true → taken s (Spider d) ≡ goes_on (with_spider d s)
  spider-taken d e = chosen (ltb (length s.colours) spider_limit) (refuses TooManySpiders) (goes_on (with_spider d s)) true e

  pub spider-refused : (d : SpiderData) → ltb (length s.colours) spider_limit ≡ false → taken s (Spider d) ≡ refuses TooManySpiders
  spider-refused d e = chosen (ltb (length s.colours) spider_limit) (refuses TooManySpiders) (goes_on (with_spider d s)) false e

  pub wire-judged : (d : WireData) → given s d.first && given s d.second ≡ true → taken s (Wire d) ≡ judged (with_wire (wire_kind s.colours d) (s.place d.first) (s.place d.second) s)
  wire-judged d e = chosen (given s d.first && given s d.second) (refuses UnknownSpider) (judged (with_wire (wire_kind s.colours d) (s.place d.first) (s.place d.second) s)) true e

  pub wire_unknown : (d : WireData) → given s d.first && given s d.second ≡ false → taken s (Wire d) ≡ refuses UnknownSpider
  wire_unknown d e = chosen (given s d.first && given s d.second) (refuses UnknownSpider) (judged (with_wire (wire_kind s.colours d) (s.place d.first) (s.place d.second) s)) false e

  leg_after : LegData → Taken
  leg_after d = elim (ltb s.legs leg_limit) [ false ↦ refuses TooManyLegs | true ↦ judged (with_one_leg d s) ]

  pub leg_unknown : (d : LegData) → given s d.spider ≡ false → taken s (Leg d) ≡ refuses UnknownSpider
  unfolding leg_after
  leg_unknown d e = chosen (given s d.spider) (refuses UnknownSpider) (leg_after d) false e

  pub leg_too_many : (d : LegData) → given s d.spider ≡ true → ltb s.legs leg_limit ≡ false → taken s (Leg d) ≡ refuses TooManyLegs
  unfolding leg_after
  leg_too_many d e f = chosen (given s d.spider) (refuses UnknownSpider) (leg_after d) true e ∙ chosen (ltb s.legs leg_limit) (refuses TooManyLegs) (judged (with_one_leg d s)) false f

  pub leg-judged : (d : LegData) → given s d.spider ≡ true → ltb s.legs leg_limit ≡ true → taken s (Leg d) ≡ judged (with_one_leg d s)
  unfolding leg_after
  leg-judged d e f = chosen (given s d.spider) (refuses UnknownSpider) (leg_after d) true e ∙ chosen (ltb s.legs leg_limit) (refuses TooManyLegs) (judged (with_one_leg d s)) true f

  -- a wire within one slot, and between two
  abbrev apart : Loading → Loading → Bool → Loading
  apart p q true = p
  apart p q false = q

  pub plain_within : (a b : ℕ) → eqb a b ≡ true → with_wire Plain a b s ≡ s
  plain_within a b e = ap (apart s (with_fusion (min a b) (max a b) s)) e

  pub plain_between : (a b : ℕ) → eqb a b ≡ false → with_wire Plain a b s ≡ with_fusion (min a b) (max a b) s
  plain_between a b e = ap (apart s (with_fusion (min a b) (max a b) s)) e

-- what an item comes to, once that is known
pub comes : (q t : Taken) (n next : ℕ) (r : Result Prim.Unit LoadRefusal) (l : Loader) → q ≡ t → ComesTo t n next r l → ComesTo q n next r l
comes q t n next r l e h = subst (λ (x : Taken). ComesTo x n next r l) (sym e) h

-- a plain wire leaves the scalar as it is
pub plain_scalar : (s : Loading) (a b : ℕ) → (with_wire Plain a b s).model.scalar ≡ s.model.scalar
unfolding fused
plain_scalar s a b = go (eqb a b) refl
  where
    go : (t : Bool) → eqb a b ≡ t → (with_wire Plain a b s).model.scalar ≡ s.model.scalar
    go true e = ap (λ (x : Loading). x.model.scalar) (plain_within s a b e)
    go false e = ap (λ (x : Loading). x.model.scalar) (plain_between s a b e)
