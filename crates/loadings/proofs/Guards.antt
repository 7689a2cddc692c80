-- Which edits of the diagram can be made at every point of a loading. Assumes nothing.
use Rattle.std.proofs.Common.{◌≡◌, ℕ, ◌+◌, ◌-◌, ◌<◌, ◌≤◌, min, max, Bool, true, false, cond, not, ◌&&◌, eqb, ltb, length, ℤ, nat_abs, is_some, None, sym, refl, ap, ◌∙◌, subst, ap₂, ⊎_elim, arith, lt-ltb, eq-eqb, ne_eqb, le-leb, leb-true}
use borrow.Author.Tests.{lt-leb}
use Rattle.std.proofs.lemmas.Bool.Decides.{leb_tells}
use Rattle.diagrams.specs.Limits.{limit}
use Rattle.models.specs.Models.{Scalar, nothing, root, ModelLeg, Model, slots, spider_limit, leg_limit, size, reach, reach_limit}
use Rattle.models.specs.Edits.{placed, reserved, can_place, can_join, can_fuse, can_attach, attached, product, scaled, can_scale}
use Rattle.models.proofs.Counts.{standing_most, standing-placed, open_most, open_attached}
use Rattle.loadings.specs.Loadings.{Loading, within}
use Rattle.loadings.specs.Goods.{Good}

-- within the limit there is always room
size-within : (c : Scalar) → within c ≡ true → size c ≤ limit
size-within nothing e = omega arith
size-within (root k m) e = leb-true (nat_abs k) limit e

pub can_scale-within : (k : ℤ) (t : ℕ) (m : Model) → within (product k t m.scalar) ≡ true → can_scale k t m ≡ true
unfolding scaled
can_scale-within k t m e =
    let few = size-within (product k t m.scalar) e in
    let spiders = standing_most (scaled k t m) in
    let legs = open_most (scaled k t m) in
    le-leb (reach (scaled k t m)) reach_limit (omega arith)

-- the same where the scalar is judged after it is scaled
pub can_scale-judged : (k : ℤ) (t : ℕ) (m : Model) → within (scaled k t m).scalar ≡ true → can_scale k t m ≡ true
unfolding scaled
can_scale-judged k t m e = can_scale-within k t m e

room_to_place : (a : ℕ) (m : Model) → within m.scalar ≡ true → a < slots → m.graph.stands a ≡ false → reach m + 2 ≤ reach_limit
room_to_place a m e low off =
    let few = size-within m.scalar e in
    let one = standing-placed a 0 m low off in
    let spiders = standing_most (placed a 0 m) in
    let legs = open_most m in
    omega arith

room_to_attach : (l : ℕ) (o : ModelLeg) (m : Model) → within m.scalar ≡ true → l < leg_limit → m.leg l ≡ None → reach m + 4 ≤ reach_limit
room_to_attach l o m e low off =
    let few = size-within m.scalar e in
    let spiders = standing_most m in
    let one = open_attached l o m low off in
    let legs = open_most (attached l o m) in
    omega arith

both : (a b : Bool) → a ≡ true → b ≡ true → a && b ≡ true
both a b p q = ap₂ ◌&&◌ p q

can_place_in : (a : ℕ) (m : Model) → within m.scalar ≡ true → a < slots → m.graph.stands a ≡ false → reserved m a ≡ false → can_place a m ≡ true
can_place_in a m e low off free =
    both (ltb a slots) _ (lt-ltb a slots low) (
    both (not (m.graph.stands a)) _ (ap not off) (
    both (not (reserved m a)) _ (ap not free) (
    le-leb (reach m + 2) reach_limit (room_to_place a m e low off))))

can_join-apart : (a b : ℕ) (m : Model) → (a ≡ b → ⊥) → m.graph.stands a ≡ true → m.graph.stands b ≡ true → can_join a b m ≡ true
can_join-apart a b m apart p q = both (not (eqb a b)) _ (ap not (ne_eqb a b apart)) (both (m.graph.stands a) _ p q)

-- what holds of two slots either way round holds of the lower and the higher
pub by_order : (P : ℕ → ℕ → Type 0) (a b : ℕ) → P a b → P b a → P (min a b) (max a b)
by_order P a b p q = ⊎_elim
    (λ h. let l = h.1 in at_order a b (omega arith) (omega arith) p)
    (λ h. let l = h.1 in at_order b a (omega arith) (omega arith) q)
    (leb_tells a b)
  where
    at_order : (c d : ℕ) → c ≡ min a b → d ≡ max a b → P c d → P (min a b) (max a b)
    at_order c d e f r = subst (λ v. P (min a b) v) f (subst (λ u. P u d) e r)

module _ (s : Loading) (good : Good s) where
  -- the next spider can take the slot of its number
  pub can_place_next : length s.colours < spider_limit → can_place (length s.colours) s.model ≡ true
  can_place_next h =
      let n = length s.colours in
      can_place_in n s.model good.bounded (omega arith) (good.untaken n (omega arith) h) (ap (λ e. e && is_some (s.model.leg (n - spider_limit))) (lt-leb spider_limit n h))

  -- a spider can take the slot in which it would hold the next leg
  pub can_place_holder : s.legs < leg_limit → can_place (spider_limit + s.legs) s.model ≡ true
  can_place_holder h =
      let u = spider_limit + s.legs in
      let here : u - spider_limit ≡ s.legs = omega arith in
      can_place_in u s.model good.bounded (omega arith) (good.unheld s.legs (omega arith))
      (ap₂ (λ e o. e && is_some o) (le-leb spider_limit u (omega arith)) (ap s.model.leg here ∙ good.unopened s.legs (omega arith)))

  -- two given spiders in different slots can be joined, and fused into the lower slot
  pub can_join-given : (j k : ℕ) → j < length s.colours → k < length s.colours → (s.place j ≡ s.place k → ⊥) → can_join (s.place j) (s.place k) s.model ≡ true
  can_join-given j k p q apart = can_join-apart (s.place j) (s.place k) s.model apart (good.stood j p) (good.stood k q)

  pub can_fuse-given : (j k : ℕ) → j < length s.colours → k < length s.colours → (s.place j ≡ s.place k → ⊥) → can_fuse (min (s.place j) (s.place k)) (max (s.place j) (s.place k)) s.model ≡ true
  can_fuse-given j k p q apart = by_order (λ a b. can_fuse a b s.model ≡ true) (s.place j) (s.place k) (can_join-given j k p q apart) (can_join-given k j q p (λ e. apart (sym e)))

  -- the spider that holds the next leg can be joined to a given one
  pub can_join_holder : (k p : ℕ) → k < length s.colours → can_join (spider_limit + s.legs) (s.place k) (placed (spider_limit + s.legs) p s.model) ≡ true
  unfolding placed
  can_join_holder k p h =
      let u = spider_limit + s.legs in
      let few = good.few in
      let low = good.below k h in
      can_join-apart u (s.place k) (placed u p s.model) (λ e. omega arith)
      (ap (λ e. cond e true (s.model.graph.stands u)) (eq-eqb u u refl))
      (ap (λ e. cond e true (s.model.graph.stands (s.place k))) (ne_eqb (s.place k) u (λ e. omega arith)) ∙ good.stood k h)

  -- the next leg can be open on a given spider
  pub can_attach_next : (o : ModelLeg) (k : ℕ) → o.slot ≡ s.place k → k < length s.colours → s.legs < leg_limit → can_attach s.legs o s.model ≡ true
  can_attach_next o k on h low =
      let l = s.legs in
      let free = good.unopened l (omega arith) in
      both (ltb l leg_limit) _ (lt-ltb l leg_limit low) (
      both (not (is_some (s.model.leg l))) _ (ap (λ x. not (is_some x)) free) (
      both (s.model.graph.stands o.slot) _ (ap s.model.graph.stands on ∙ good.stood k h) (
      both (not (s.model.graph.stands (spider_limit + l))) _ (ap not (good.unheld l (omega arith))) (
      le-leb (reach s.model + 4) reach_limit (room_to_attach l o s.model good.bounded low free)))))
