-- What holds at a point of a loading holds after one more spider, wire, leg or factor. Assumes nothing.
use Rattle.std.proofs.Common.{◌≡◌, ℕ, ◌+◌, ◌*◌, ◌<◌, ◌≤◌, min, max, Bool, true, false, cond, eqb, [], ◌∷◌, ◌++◌, length, ℤ, negsuc, Some, sym, refl, ap, ◌∙◌, ⊎_elim, arith, length-append, eq-eqb, ne_eqb}
use borrow.Author.Tests.{eqb-false}
use Rattle.std.proofs.lemmas.Bool.Decides.{eqb_tells}
use Rattle.graphs.specs.Counts.{bit}
use Rattle.graphs.specs.Graphs.{without}
use Rattle.diagrams.specs.declared.items.Kind.{Kind}
use Rattle.diagrams.specs.declared.items.Kind.TheVariants.{Plain, Hadamard}
use Rattle.diagrams.specs.declared.items.Setting.{Setting}
use Rattle.diagrams.specs.declared.items.Setting.TheVariants.{Open, HeldZero, HeldOne}
use Rattle.diagrams.specs.declared.items.Spider.{Spider as SpiderData}
use Rattle.diagrams.specs.declared.items.Leg.{Leg as LegData}
use Rattle.amplitudes.specs.Items.{leg_kind}
use Rattle.models.specs.Models.{ModelLeg, Model, Sound, spider_limit, leg_limit}
use Rattle.models.specs.Edits.{blank, placed, gained, only_slot, toggled, scaled, zeroed, can_fuse, fused, led, attached, held}
use Rattle.models.proofs.Counts.{bit_most}
use Rattle.models.proofs.Keeps.{blank-sound, scaled-sound, zeroed-sound, attached-sound, placed-sound}
use Rattle.models.proofs.Toggles.{toggled-sound, gained-sound}
use Rattle.models.proofs.Fuses.{fused-sound}
use Rattle.loadings.specs.Loadings.{Loading, beginning, with_model, with_spider, paid, with_fusion, with_wire, with_leg, with_one_leg, within}
use Rattle.loadings.specs.Goods.{Good}
use Rattle.loadings.proofs.Guards.{can_scale-judged, can_place_next, can_place_holder, can_join-given, can_join_holder, can_attach_next, by_order}

pub good_beginning : Good beginning
unfolding blank
good_beginning = record {
  sound = blank-sound;
  few = omega arith;
  few_legs = omega arith;
  untaken = λ k h l. refl;
  unheld = λ l h. refl;
  unopened = λ l h. refl;
  below = λ k h. absurd (omega arith);
  stood = λ k h. absurd (omega arith);
  itself = λ k h. refl;
  bounded = refl;
}

-- another diagram, with legs more or not, that has the same slots for spiders, and from the next leg on the same slots and legs
pub good_edited : (s : Loading) → Good s → (m : Model) (l : ℕ) → Sound m → s.legs ≤ l → l ≤ leg_limit → ((k : ℕ) → k < spider_limit → m.graph.stands k ≡ s.model.graph.stands k) → ((j : ℕ) → l ≤ j → m.graph.stands (spider_limit + j) ≡ s.model.graph.stands (spider_limit + j)) → ((j : ℕ) → l ≤ j → m.leg j ≡ s.model.leg j) → within m.scalar ≡ true → Good (record { model = m; colours = s.colours; place = s.place; legs = l })
good_edited s good m l sound more low spiders holders legs bounded = record {
  sound = sound;
  few = good.few;
  few_legs = low;
  untaken = λ k h i. spiders k i ∙ good.untaken k h i;
  unheld = λ j h. holders j h ∙ good.unheld j (omega arith);
  unopened = λ j h. legs j h ∙ good.unopened j (omega arith);
  below = good.below;
  stood = λ k h. let few = good.few in let b = good.below k h in spiders (s.place k) (omega arith) ∙ good.stood k h;
  itself = good.itself;
  bounded = bounded;
}

module _ (s : Loading) (good : Good s) where
  -- another spider
  pub good_spider : (d : SpiderData) → length s.colours < spider_limit → Good (with_spider d s)
  unfolding placed
  good_spider d h =
      let n = length s.colours in
      let more : length (s.colours ++ (d.colour ∷ [])) ≡ n + 1 = length-append s.colours (d.colour ∷ []) in
      record {
        sound = placed-sound n d.phase.parts d.phase.bound good.sound (can_place_next s good h);
        few = omega arith;
        few_legs = good.few_legs;
        untaken = λ k i j. ap (λ e. cond e true (s.model.graph.stands k)) (ne_eqb k n (λ e. omega arith)) ∙ good.untaken k (omega arith) j;
        unheld = λ l i. ap (λ e. cond e true (s.model.graph.stands (spider_limit + l))) (ne_eqb (spider_limit + l) n (λ e. omega arith)) ∙ good.unheld l i;
        unopened = good.unopened;
        below = λ k i. ⊎_elim
            (λ e. let q = good.itself k (omega (arith, e.1)) in omega (arith, e.1))
            (λ e. let ne = e.1 in let q = good.below k (omega arith) in omega arith)
            (eqb_tells k n);
        stood = λ k i. ⊎_elim
            (λ e. let q = good.itself k (omega (arith, e.1)) in ap (λ b. cond b true (s.model.graph.stands (s.place k))) (eq-eqb (s.place k) n (q ∙ e.1)))
            (λ e. let ne = e.1 in let l : k < n = omega arith in let q = good.below k l in ap (λ b. cond b true (s.model.graph.stands (s.place k))) (ne_eqb (s.place k) n (λ r. omega arith)) ∙ good.stood k l)
            (eqb_tells k n);
        itself = λ k i. good.itself k (omega arith);
        bounded = good.bounded;
      }

  -- two slots of given spiders become one
  good_fusion : (a b : ℕ) → can_fuse a b s.model ≡ true → a < length s.colours → b < length s.colours → (a ≡ b → ⊥) → s.model.graph.stands a ≡ true → Good (with_fusion a b s)
  unfolding fused
  good_fusion a b can a-low b-low apart a-stood = record {
    sound = fused-sound a b good.sound can;
    few = good.few;
    few_legs = good.few_legs;
    untaken = λ k i j. off k (eqb k b) (good.untaken k i j);
    unheld = λ l i. off (spider_limit + l) (eqb (spider_limit + l) b) (good.unheld l i);
    unopened = λ l i. ap (led a b) (good.unopened l i);
    below = λ k i. below (s.place k) (good.below k i) (eqb (s.place k) b);
    stood = λ k i. stood (s.place k) (good.stood k i) (eqb (s.place k) b) refl;
    itself = λ k i. let q = good.itself k i in ap (λ e. cond e a (s.place k)) (ne_eqb (s.place k) b (λ e. omega arith)) ∙ q;
    bounded = good.bounded;
  }
    where
      off : (k : ℕ) (e : Bool) → s.model.graph.stands k ≡ false → cond e false (s.model.graph.stands k) ≡ false
      off k true h = refl
      off k false h = h

      below : (u : ℕ) → u < length s.colours → (e : Bool) → cond e a u < length s.colours
      below u h true = a-low
      below u h false = h

      stood : (u : ℕ) → s.model.graph.stands u ≡ true → (e : Bool) → eqb u b ≡ e → without s.model.graph.stands b (cond e a u) ≡ true
      stood u h true e = ap (λ f. cond f false (s.model.graph.stands a)) (ne_eqb a b apart) ∙ a-stood
      stood u h false e = ap (λ f. cond f false (s.model.graph.stands u)) e ∙ h

  pub good_fused : (j k : ℕ) → j < length s.colours → k < length s.colours → (s.place j ≡ s.place k → ⊥) → Good (with_fusion (min (s.place j) (s.place k)) (max (s.place j) (s.place k)) s)
  good_fused j k p q apart =
      by_order (λ a b. Good (with_fusion a b s)) (s.place j) (s.place k)
      (good_fusion (s.place j) (s.place k) (can_join-given s good j k p q apart) (good.below j p) (good.below k q) apart (good.stood j p))
      (good_fusion (s.place k) (s.place j) (can_join-given s good k j q p (λ e. apart (sym e))) (good.below k q) (good.below j p) (λ e. apart (sym e)) (good.stood k q))

  -- any factor, and zero
  scaled_stays : (k : ℤ) (t : ℕ) (m : Model) → Sound m → within (scaled k t m).scalar ≡ true → Sound (scaled k t m)
  scaled_stays k t m sound e = scaled-sound k t sound (can_scale-judged k t m e)

  pub good_scaled : (k : ℤ) (t : ℕ) → within (scaled k t s.model).scalar ≡ true → Good (with_model s (scaled k t s.model))
  unfolding scaled
  good_scaled k t e = good_edited s good (scaled k t s.model) s.legs (scaled_stays k t s.model good.sound e) (omega arith) good.few_legs (λ k h. refl) (λ j h. refl) (λ j h. refl) e

  pub good_zeroed : Good (with_model s (zeroed s.model))
  unfolding zeroed
  good_zeroed = good_edited s good (zeroed s.model) s.legs (zeroed-sound good.sound) (omega arith) good.few_legs (λ k h. refl) (λ j h. refl) (λ j h. refl) refl

  -- an edit, and what a wire or a leg costs
  good_paid : (kind : Kind) (m : Model) (l : ℕ) → Sound m → s.legs ≤ l → l ≤ leg_limit → ((k : ℕ) → k < spider_limit → m.graph.stands k ≡ s.model.graph.stands k) → ((j : ℕ) → l ≤ j → m.graph.stands (spider_limit + j) ≡ s.model.graph.stands (spider_limit + j)) → ((j : ℕ) → l ≤ j → m.leg j ≡ s.model.leg j) → within (paid kind m).scalar ≡ true → Good (record { model = paid kind m; colours = s.colours; place = s.place; legs = l })
  unfolding scaled
  good_paid Plain m l sound more low spiders holders legs e = good_edited s good m l sound more low spiders holders legs e
  good_paid Hadamard m l sound more low spiders holders legs e = good_edited s good (scaled (negsuc 0) 0 m) l (scaled_stays (negsuc 0) 0 m sound e) more low spiders holders legs e

  -- a wire between two given spiders
  pub good_wire : (kind : Kind) (j k : ℕ) → j < length s.colours → k < length s.colours → within (with_wire kind (s.place j) (s.place k) s).model.scalar ≡ true → Good (with_wire kind (s.place j) (s.place k) s)
  unfolding gained toggled
  good_wire Hadamard j k p q e = here (eqb (s.place j) (s.place k)) refl e
    where
      here : (b : Bool) → eqb (s.place j) (s.place k) ≡ b → within (paid Hadamard (elim b [ true ↦ gained (only_slot (s.place j)) 2 s.model | false ↦ toggled (s.place j) (s.place k) s.model ])).scalar ≡ true → Good (with_model s (paid Hadamard (elim b [ true ↦ gained (only_slot (s.place j)) 2 s.model | false ↦ toggled (s.place j) (s.place k) s.model ])))
      here true f h = good_paid Hadamard (gained (only_slot (s.place j)) 2 s.model) s.legs (gained-sound (only_slot (s.place j)) 2 good.sound) (omega arith) good.few_legs (λ k h. refl) (λ j h. refl) (λ j h. refl) h
      here false f h = good_paid Hadamard (toggled (s.place j) (s.place k) s.model) s.legs (toggled-sound (s.place j) (s.place k) good.sound (can_join-given s good j k p q (eqb-false (s.place j) (s.place k) f))) (omega arith) good.few_legs (λ k h. refl) (λ j h. refl) (λ j h. refl) h
  good_wire Plain j k p q e = here (eqb (s.place j) (s.place k)) refl
    where
      here : (b : Bool) → eqb (s.place j) (s.place k) ≡ b → Good (elim b [ true ↦ s | false ↦ with_fusion (min (s.place j) (s.place k)) (max (s.place j) (s.place k)) s ])
      here true f = good
      here false f = good_fused j k p q (eqb-false (s.place j) (s.place k) f)

  -- a leg on a given spider, open or held
  module _ (d : LegData) (given : d.spider < length s.colours) (low : s.legs < leg_limit) where
    abbrev a : ℕ
    a = s.place d.spider

    abbrev after : Model → Loading
    after m = record { model = m; colours = s.colours; place = s.place; legs = s.legs + 1 }

    good_held : (kind : Kind) (b : Bool) → within (paid kind (held a kind s.legs b s.model)).scalar ≡ true → Good (after (paid kind (held a kind s.legs b s.model)))
    unfolding gained toggled placed scaled
    good_held Hadamard b e = good_paid Hadamard (gained (only_slot a) (2 * bit b) s.model) (s.legs + 1) (gained-sound (only_slot a) (2 * bit b) good.sound) (omega arith) (omega arith) (λ k h. refl) (λ j h. refl) (λ j h. refl) e
    good_held Plain b e =
        let u = spider_limit + s.legs in
        let few = bit_most b in
        let placed_one = placed-sound u (2 * bit b) (omega arith) good.sound (can_place_holder s good low) in
        let joined = toggled-sound u a placed_one (can_join_holder s good d.spider (2 * bit b) given) in
        good_edited s good (scaled (negsuc 1) 0 (toggled u a (placed u (2 * bit b) s.model))) (s.legs + 1) (scaled_stays (negsuc 1) 0 (toggled u a (placed u (2 * bit b) s.model)) joined e) (omega arith) (omega arith)
        (λ k h. ap (λ f. cond f true (s.model.graph.stands k)) (ne_eqb k u (λ q. omega arith)))
        (λ j h. ap (λ f. cond f true (s.model.graph.stands (spider_limit + j))) (ne_eqb (spider_limit + j) u (λ q. omega arith)))
        (λ j h. refl) e

    good_set : (kind : Kind) (x : Setting) → within (paid kind (with_leg d kind a x s)).scalar ≡ true → Good (after (paid kind (with_leg d kind a x s)))
    unfolding attached
    good_set kind Open e =
        let o : ModelLeg = record { side = d.side; slot = a; kind = kind } in
        good_paid kind (attached s.legs o s.model) (s.legs + 1) (attached-sound s.legs o good.sound (can_attach_next s good o d.spider refl given low)) (omega arith) (omega arith) (λ k h. refl) (λ j h. refl)
        (λ j h. ap (λ f. cond f (Some o) (s.model.leg j)) (ne_eqb j s.legs (λ q. omega arith))) e
    good_set kind HeldZero e = good_held kind false e
    good_set kind HeldOne e = good_held kind true e

    pub good_leg : within (with_one_leg d s).model.scalar ≡ true → Good (with_one_leg d s)
    good_leg e = good_set (leg_kind s.colours d) d.setting e
