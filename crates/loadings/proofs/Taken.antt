-- What it tells of an item that it is taken, and that what holds at a point of a loading holds after it. Assumes nothing.
use Rattle.std.proofs.Common.{◌≡◌, ℕ, ◌<◌, Bool, true, false, ◌&&◌, ltb, length, refl, subst, arith, ltb-true}
use Rattle.refusals.specs.declared.LoadRefusal.{LoadRefusal}
use Rattle.refusals.specs.declared.LoadRefusal.TheVariants.{UnknownSpider, TooManySpiders, TooManyLegs, ScalarOutOfRange}
use Rattle.diagrams.specs.declared.items.Spider.{Spider as SpiderData}
use Rattle.diagrams.specs.declared.items.Wire.{Wire as WireData}
use Rattle.diagrams.specs.declared.items.Leg.{Leg as LegData}
use Rattle.diagrams.specs.declared.items.Factor.{Factor as FactorData}
use Rattle.diagrams.specs.declared.items.Item.{Item}
use Rattle.diagrams.specs.declared.items.Item.TheVariants.{Spider, Wire, Leg, Factor, Zero}
use Rattle.amplitudes.specs.Items.{wire_kind}
use Rattle.models.specs.Models.{spider_limit, leg_limit}
use Rattle.models.specs.Edits.{scaled, zeroed}
use Rattle.models.proofs.Truths.{both_true}
use Rattle.loadings.specs.Loadings.{Loading, with_model, with_spider, with_wire, with_one_leg, goes_on, refuses, within, judged, given, taken}
use Rattle.loadings.specs.Goods.{Good}
use Rattle.loadings.proofs.Goods.{good_spider, good_wire, good_leg, good_scaled, good_zeroed}

same_point : (s t : Loading) → goes_on s ≡ goes_on t → s ≡ t
same_point s t e = cc

never_on : (why : ℕ → LoadRefusal) (t : Loading) → refuses why ≡ goes_on t → ⊥
never_on why t e = let z : ◌≡◌ {A = ℕ} 0 1 = cc in omega arith

judged_on : (s t : Loading) → judged s ≡ goes_on t → (within s.model.scalar ≡ true) × (s ≡ t)
judged_on s t e = here (within s.model.scalar) refl e
  where
    here : (b : Bool) → within s.model.scalar ≡ b → elim b [ true ↦ goes_on s | false ↦ refuses ScalarOutOfRange ] ≡ goes_on t → (within s.model.scalar ≡ true) × (s ≡ t)
    here true f q = (f, same_point s t q)
    here false f q = absurd (never_on ScalarOutOfRange t q)

module _ (s t : Loading) where
  pub spider-taken : (d : SpiderData) → taken s (Spider d) ≡ goes_on t → (length s.colours < spider_limit) × (with_spider d s ≡ t)
  spider-taken d e = here (ltb (length s.colours) spider_limit) refl e
    where
      here : (b : Bool) → ltb (length s.colours) spider_limit ≡ b → elim b [ false ↦ refuses TooManySpiders | true ↦ goes_on (with_spider d s) ] ≡ goes_on t → (length s.colours < spider_limit) × (with_spider d s ≡ t)
      here true f q = (ltb-true (length s.colours) spider_limit f, same_point (with_spider d s) t q)
      here false f q = absurd (never_on TooManySpiders t q)

  abbrev wired : WireData → Loading
  wired d = with_wire (wire_kind s.colours d) (s.place d.first) (s.place d.second) s

  pub wire-taken : (d : WireData) → taken s (Wire d) ≡ goes_on t → (d.first < length s.colours) × (d.second < length s.colours) × (within (wired d).model.scalar ≡ true) × (wired d ≡ t)
  wire-taken d e = here (given s d.first && given s d.second) refl e
    where
      here : (b : Bool) → (given s d.first && given s d.second) ≡ b → elim b [ false ↦ refuses UnknownSpider | true ↦ judged (wired d) ] ≡ goes_on t → (d.first < length s.colours) × (d.second < length s.colours) × (within (wired d).model.scalar ≡ true) × (wired d ≡ t)
      here true f q =
          let both = both_true (given s d.first) (given s d.second) f in
          let on = judged_on (wired d) t q in
          (ltb-true d.first (length s.colours) both.0, ltb-true d.second (length s.colours) both.1, on.0, on.1)
      here false f q = absurd (never_on UnknownSpider t q)

  pub leg-taken : (d : LegData) → taken s (Leg d) ≡ goes_on t → (d.spider < length s.colours) × (s.legs < leg_limit) × (within (with_one_leg d s).model.scalar ≡ true) × (with_one_leg d s ≡ t)
  leg-taken d e = here (given s d.spider) (ltb s.legs leg_limit) refl refl e
    where
      here : (a b : Bool) → given s d.spider ≡ a → ltb s.legs leg_limit ≡ b → elim a [ false ↦ refuses UnknownSpider | true ↦ elim b [ false ↦ refuses TooManyLegs | true ↦ judged (with_one_leg d s) ] ] ≡ goes_on t → (d.spider < length s.colours) × (s.legs < leg_limit) × (within (with_one_leg d s).model.scalar ≡ true) × (with_one_leg d s ≡ t)
      here true true f g q = let on = judged_on (with_one_leg d s) t q in (ltb-true d.spider (length s.colours) f, ltb-true s.legs leg_limit g, on.0, on.1)
      here true false f g q = absurd (never_on TooManyLegs t q)
      here false b f g q = absurd (never_on UnknownSpider t q)

  abbrev factored : FactorData → Loading
  factored f = with_model s (scaled f.k.exponent f.m.parts s.model)

  pub factor_taken : (f : FactorData) → taken s (Factor f) ≡ goes_on t → (within (factored f).model.scalar ≡ true) × (factored f ≡ t)
  factor_taken f e = judged_on (factored f) t e

  pub zero-taken : taken s Zero ≡ goes_on t → with_model s (zeroed s.model) ≡ t
  zero-taken e = same_point (with_model s (zeroed s.model)) t e

  pub good_taken : (i : Item) → Good s → taken s i ≡ goes_on t → Good t
  good_taken (Spider d) good e = let on = spider-taken d e in subst Good on.1 (good_spider s good d on.0)
  good_taken (Wire d) good e = let on = wire-taken d e in subst Good on.3 (good_wire s good (wire_kind s.colours d) d.first d.second on.0 on.1 on.2)
  good_taken (Leg d) good e = let on = leg-taken d e in subst Good on.3 (good_leg s good d on.0 on.1 on.2)
  good_taken (Factor f) good e = let on = factor_taken f e in subst Good on.1 (good_scaled s good f.k.exponent f.m.parts on.0)
  good_taken Zero good e = subst Good (zero-taken e) (good_zeroed s good)
