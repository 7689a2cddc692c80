-- What each item makes of a loading that it is taken in. Assumes nothing.
use Rattle.std.proofs.Common.{◌≡◌, ℕ, ◌+◌, ◌*◌, ◌<◌, ◌≤◌, min, max, Bool, true, false, cond, ◌&&◌, eqb, ltb, List, [], ◌∷◌, ◌++◌, length, map, ℤ, negsuc, sym, refl, ap, ◌∙◌, ap₂, subst, arith, lt-ltb, le-ltb, ne_eqb}
use Rattle.std.proofs.lemmas.List.{length-map}
use Rattle.refusals.specs.declared.LoadRefusal.TheVariants.{TooManyLegs}
use Rattle.diagrams.specs.declared.items.Kind.{Kind}
use Rattle.diagrams.specs.declared.items.Kind.TheVariants.{Plain, Hadamard}
use Rattle.diagrams.specs.declared.items.Setting.{Setting}
use Rattle.diagrams.specs.declared.items.Setting.TheVariants.{Open, HeldZero, HeldOne}
use Rattle.diagrams.specs.declared.items.Spider.{Spider as SpiderData}
use Rattle.diagrams.specs.declared.items.Wire.{Wire as WireData}
use Rattle.diagrams.specs.declared.items.Leg.{Leg as LegData}
use Rattle.diagrams.specs.declared.items.Factor.{Factor as FactorData}
use Rattle.diagrams.specs.declared.items.Item.TheVariants.{Spider, Wire, Leg, Factor, Zero}
use Rattle.amplitudes.specs.Items.{at_end, wire_kind, leg_kind}
use Rattle.graphs.specs.Counts.{bit}
use Rattle.rows.specs.Slots.{Slot}
use Rattle.models.specs.Models.{Model, spider_limit, leg_limit}
use Rattle.models.specs.Edits.{can_place, can_fuse, can_join, product, placed, gained, only_slot, toggled, scaled, zeroed, can_scale, fused}
use Rattle.loadings.specs.Loadings.{Loading, goes_on, refuses, judged, within, paid, taken, with_model, with_wire, with_fusion, with_leg, with_one_leg}
use Rattle.loadings.specs.Goods.{Good}
use Rattle.loadings.proofs.Guards.{can_scale-within, can_place_next, can_join-given, can_fuse-given, can_attach_next, can_place_holder, can_join_holder}
use Rattle.loadings.proofs.Goods.{good_wire}
use Rattle.loader.specs.declared.given.Given.{Given}
use Rattle.loader.specs.Givens.{loading_of, moved}
use Rattle.loader.specs.States.{Known, IsTaken}
use Rattle.loader.specs.Legs.{leg_put, cost_of, LegGuards}
use Rattle.loader.proofs.Legs.{leg_paid}
use Rattle.loader.proofs.Givens.{spider-given, fused-given}
use Rattle.loader.proofs.Taking.{judged-within, spider-taken, wire-judged, leg-judged, leg_too_many, plain_between, plain_scalar}

pub count-given : (m : Model) (gs : List Given) (l : ℕ) → length (loading_of m gs l).colours ≡ length gs
unfolding loading_of
count-given m gs l = length-map gs (λ (g : Given). g.colour)

pub model-given : (m : Model) (gs : List Given) (l : ℕ) → (loading_of m gs l).model ≡ m
unfolding loading_of
model-given m gs l = refl

pub legs-given : (m : Model) (gs : List Given) (l : ℕ) → (loading_of m gs l).legs ≡ l
unfolding loading_of
legs-given m gs l = refl

pub changed : (m n k : Model) (gs : List Given) (l : ℕ) → n ≡ k → loading_of n gs l ≡ with_model (loading_of m gs l) k
unfolding loading_of
changed m n k gs l e = ap (λ (x : Model). loading_of x gs l) e

-- done where it can be
pub when_done : (b : Bool) (n m o : Model) → b ≡ true → o ≡ cond b n m → o ≡ n
when_done b n m o e f = f ∙ ap (λ c. cond c n m) e

pub spider_on : (m n : Model) (gs hs : List Given) (l : ℕ) (d : SpiderData) (s : Slot) → length gs < spider_limit → s.number ≡ length gs → hs ≡ gs ++ (record { colour = d.colour; slot = s } ∷ []) → n ≡ placed s.number d.phase.parts m → taken (loading_of m gs l) (Spider d) ≡ goes_on (loading_of n hs l)
spider_on m n gs hs l d s low at e f =
    let count = count-given m gs l in
    spider-taken (loading_of m gs l) d (lt-ltb (length (loading_of m gs l).colours) spider_limit (omega arith))
    ∙ ap goes_on (sym (ap (λ (x : List Given). loading_of n x l) e ∙ spider-given m n gs l d s at f))

pub spider_placed : (m n : Model) (gs : List Given) (l : ℕ) (d : SpiderData) (s : Slot) (b : Bool) → Good (loading_of m gs l) → length gs < spider_limit → s.number ≡ length gs → b ≡ can_place s.number m → n ≡ cond b (placed s.number d.phase.parts m) m → n ≡ placed s.number d.phase.parts m
spider_placed m n gs l d s b good low at done after =
    let count = count-given m gs l in
    let can = ap₂ (λ k x. can_place k x) (at ∙ sym count) (sym (model-given m gs l)) ∙ can_place_next (loading_of m gs l) good (omega arith) in
    when_done b (placed s.number d.phase.parts m) m n (done ∙ can) after

-- a wire between two spiders that were given
pub wire_on : (s : Loading) (d : WireData) (f g : Given) (k : Kind) → Known s d.first f → Known s d.second g → k ≡ at_end f.colour (at_end g.colour d.kind) → taken s (Wire d) ≡ judged (with_wire k f.slot.number g.slot.number s)
wire_on s d f g k first second e =
    let both = ap₂ ◌&&◌ (lt-ltb d.first (length s.colours) first.low) (lt-ltb d.second (length s.colours) second.low) in
    let kind : wire_kind s.colours d ≡ k = ap₂ (λ p q. at_end p (at_end q d.kind)) first.colour second.colour ∙ sym e in
    wire-judged s d both ∙ (λ i. judged (with_wire (kind i) (first.place i) (second.place i) s))

pub plain_within-limit : (s : Loading) (x y : ℕ) → Good s → within (with_wire Plain x y s).model.scalar ≡ true
plain_within-limit s x y g = ap within (plain_scalar s x y) ∙ g.bounded

-- a plain wire between two slots, in the table and the diagram
pub plain_made : (m n : Model) (gs hs : List Given) (l x y : ℕ) (a b : Slot) → (x ≡ y → ⊥) → a.number ≡ min x y → b.number ≡ max x y → n ≡ fused a.number b.number m → hs ≡ map (moved a b) gs → b.number < length gs → loading_of n hs l ≡ with_wire Plain x y (loading_of m gs l)
plain_made m n gs hs l x y a b apart lower upper e f low =
    fused-given m n gs hs l a b e f low ∙ (λ i. with_fusion (lower i) (upper i) (loading_of m gs l)) ∙ sym (plain_between (loading_of m gs l) x y (ne_eqb x y apart))

-- a Hadamard wire between two slots, or within one
abbrev choice : Model → Model → Bool → Model
choice p q true = p
choice p q false = q

abbrev pub joined : ℕ → ℕ → Model → Model
joined x y m = elim (eqb x y) [ true ↦ gained (only_slot x) 2 m | false ↦ toggled x y m ]

pub joined-scalar : (x y k : ℕ) (z : ℤ) (m : Model) → product z k (joined x y m).scalar ≡ product z k m.scalar
unfolding gained toggled
joined-scalar x y k z m = go (eqb x y)
  where
    go : (t : Bool) → product z k (choice (gained (only_slot x) 2 m) (toggled x y m) t).scalar ≡ product z k m.scalar
    go true = refl
    go false = refl

pub scaled-scalar : (k : ℤ) (t : ℕ) (m : Model) → (scaled k t m).scalar ≡ product k t m.scalar
unfolding scaled
scaled-scalar k t m = refl

pub paid-scalar : (m : Model) → (paid Hadamard m).scalar ≡ product (negsuc 0) 0 m.scalar
unfolding scaled
paid-scalar m = refl

pub hadamard-scalar : (s : Loading) (x y : ℕ) → (with_wire Hadamard x y s).model.scalar ≡ product (negsuc 0) 0 s.model.scalar
hadamard-scalar s x y = paid-scalar (joined x y s.model) ∙ joined-scalar x y 0 (negsuc 0) s.model

pub hadamard_made : (m n : Model) (gs : List Given) (l x y : ℕ) → n ≡ paid Hadamard (joined x y m) → loading_of n gs l ≡ with_wire Hadamard x y (loading_of m gs l)
unfolding loading_of
hadamard_made m n gs l x y e = ap (λ (k : Model). loading_of k gs l) e

-- a leg on a spider that was given
leg_is : (d : LegData) (k : Kind) (x : ℕ) (s : Setting) (l : Loading) → leg_put l.legs (record { side = d.side; slot = x; kind = k }) s l.model ≡ paid k (with_leg d k x s l)
leg_is d k x Open l = refl
leg_is d k x HeldZero l = refl
leg_is d k x HeldOne l = refl

pub leg_kind_is : (s : Loading) (d : LegData) (g : Given) (k : Kind) → Known s d.spider g → k ≡ at_end g.colour d.kind → leg_kind s.colours d ≡ k
leg_kind_is s d g k here e = ap (λ p. at_end p d.kind) here.colour ∙ sym e

pub leg_made : (m n : Model) (gs : List Given) (l : ℕ) (d : LegData) (g : Given) (k : Kind) → Known (loading_of m gs l) d.spider g → k ≡ at_end g.colour d.kind → n ≡ leg_put l (record { side = d.side; slot = g.slot.number; kind = k }) d.setting m → loading_of n gs (l + 1) ≡ with_one_leg d (loading_of m gs l)
unfolding loading_of
leg_made m n gs l d g k here e f =
    let s = loading_of m gs l in
    let kind = sym (leg_kind_is s d g k here e) in
    let made : n ≡ (with_one_leg d s).model = f ∙ leg_is d k g.slot.number d.setting s ∙ (λ i. paid (kind i) (with_leg d (kind i) (sym here.place i) d.setting s)) in
    ap (λ (x : Model). loading_of x gs (l + 1)) made

pub leg_on : (m : Model) (gs : List Given) (l : ℕ) (d : LegData) (g : Given) → Known (loading_of m gs l) d.spider g → l < leg_limit → taken (loading_of m gs l) (Leg d) ≡ judged (with_one_leg d (loading_of m gs l))
leg_on m gs l d g here low =
    let s = loading_of m gs l in
    leg-judged s d (lt-ltb d.spider (length s.colours) here.low) (ap (λ n. ltb n leg_limit) (legs-given m gs l) ∙ lt-ltb l leg_limit low)

pub leg_off : (m : Model) (gs : List Given) (l : ℕ) (d : LegData) (g : Given) → Known (loading_of m gs l) d.spider g → leg_limit ≤ l → taken (loading_of m gs l) (Leg d) ≡ refuses TooManyLegs
leg_off m gs l d g here full =
    let s = loading_of m gs l in
    leg_too_many s d (lt-ltb d.spider (length s.colours) here.low) (ap (λ n. ltb n leg_limit) (legs-given m gs l) ∙ le-ltb l leg_limit full)

-- the leg that is taken is within the limit where its cost is
pub leg_spent : (m : Model) (gs : List Given) (l : ℕ) (d : LegData) (g : Given) (k : Kind) (z w : ℤ) (t : ℕ) → Known (loading_of m gs l) d.spider g → k ≡ at_end g.colour d.kind → w ≡ z → z ≡ cost_of d.setting k → t ≡ 0 → within (with_one_leg d (loading_of m gs l)).model.scalar ≡ within (product w t (loading_of m gs l).model.scalar)
unfolding loading_of
leg_spent m gs l d g k z w t here e same cost none =
    let made = leg_made m (leg_put l (record { side = d.side; slot = g.slot.number; kind = k }) d.setting m) gs l d g k here e refl in
    sym (ap (λ (s : Loading). within s.model.scalar) made) ∙ leg_paid l d.side g.slot.number k d.setting m ∙ (λ i. within (product (sym (same ∙ cost) i) (sym none i) m.scalar))

pub leg_within : (m n : Model) (gs : List Given) (l : ℕ) (d : LegData) (g : Given) (k : Kind) → Known (loading_of m gs l) d.spider g → k ≡ at_end g.colour d.kind → n ≡ leg_put l (record { side = d.side; slot = g.slot.number; kind = k }) d.setting m → within (with_one_leg d (loading_of m gs l)).model.scalar ≡ true → within n.scalar ≡ true
leg_within m n gs l d g k here e f on = ap (λ (x : Model). within x.scalar) (sym (model-given n gs (l + 1))) ∙ ap (λ (s : Loading). within s.model.scalar) (leg_made m n gs l d g k here e f) ∙ on

pub leg_guards : (m : Model) (gs : List Given) (l : ℕ) (d : LegData) (g : Given) (k : Kind) → Good (loading_of m gs l) → Known (loading_of m gs l) d.spider g → l < leg_limit → LegGuards l (record { side = d.side; slot = g.slot.number; kind = k }) m
unfolding loading_of
leg_guards m gs l d g k good here low =
    let s = loading_of m gs l in record {
      attach = can_attach_next s good (record { side = d.side; slot = g.slot.number; kind = k }) d.spider (sym here.place) here.low low;
      place = can_place_holder s good low;
      join = λ p. subst (λ q. can_join (spider_limit + l) q (placed (spider_limit + l) (2 * bit p) m) ≡ true) here.place (can_join_holder s good d.spider (2 * bit p) here.low);
    }

-- the two ends of a wire, in the diagram
pub ends_join : (m : Model) (gs : List Given) (l : ℕ) (d : WireData) (f g : Given) → Good (loading_of m gs l) → Known (loading_of m gs l) d.first f → Known (loading_of m gs l) d.second g → (f.slot.number ≡ g.slot.number → ⊥) → can_join f.slot.number g.slot.number m ≡ true
unfolding loading_of
ends_join m gs l d f g good first second apart =
    ap₂ (λ x y. can_join x y m) (sym first.place) (sym second.place) ∙ can_join-given (loading_of m gs l) good d.first d.second first.low second.low (λ q. apart (sym first.place ∙ q ∙ second.place))

pub slots_fuse : (m : Model) (gs : List Given) (l x y : ℕ) → Good (loading_of m gs l) → IsTaken (loading_of m gs l) x → IsTaken (loading_of m gs l) y → (x ≡ y → ⊥) → can_fuse (min x y) (max x y) m ≡ true
unfolding loading_of
slots_fuse m gs l x y good a b apart =
    ap₂ (λ p q. can_fuse (min p q) (max p q) m) (sym a.2) (sym b.2) ∙ can_fuse-given (loading_of m gs l) good a.0 b.0 a.1 b.1 (λ q. apart (sym a.2 ∙ q ∙ b.2))

pub taken_below : (m : Model) (gs : List Given) (l x : ℕ) → Good (loading_of m gs l) → IsTaken (loading_of m gs l) x → x < length gs
taken_below m gs l x good a =
    let low = good.below a.0 a.1 in
    let count = count-given m gs l in
    let at = a.2 in
    omega arith

pub good_plain : (s : Loading) (x y : ℕ) → Good s → IsTaken s x → IsTaken s y → Good (with_wire Plain x y s)
good_plain s x y good a b = subst (λ q. Good (with_wire Plain x q s)) b.2 (subst (λ p. Good (with_wire Plain p (s.place b.0) s)) a.2 (good_wire s good Plain a.0 b.0 a.1 b.1 (plain_within-limit s (s.place a.0) (s.place b.0) good)))

-- a factor
pub factor_on : (m n : Model) (gs : List Given) (l : ℕ) (f : FactorData) (z : ℤ) (b : Bool) → z ≡ f.k.exponent → within (product f.k.exponent f.m.parts (loading_of m gs l).model.scalar) ≡ true → b ≡ can_scale z f.m.parts m → n ≡ cond b (scaled z f.m.parts m) m → taken (loading_of m gs l) (Factor f) ≡ goes_on (loading_of n gs l)
factor_on m n gs l f z b is on done after =
    let s = loading_of m gs l in
    let same = model-given m gs l in
    let k = f.k.exponent in
    let t = f.m.parts in
    let can = done ∙ (λ i. can_scale (is i) t (sym same i)) ∙ can_scale-within k t s.model on in
    let new : n ≡ scaled k t s.model = when_done b (scaled z t m) m n can after ∙ (λ i. scaled (is i) t (sym same i)) in
    judged-within (with_model s (scaled k t s.model)) (ap within (scaled-scalar k t s.model) ∙ on) ∙ ap goes_on (sym (changed m n (scaled k t s.model) gs l new))

pub zero_on : (m n : Model) (gs : List Given) (l : ℕ) → n ≡ zeroed m → taken (loading_of m gs l) Zero ≡ goes_on (loading_of n gs l)
zero_on m n gs l e = ap goes_on (sym (changed m n (zeroed (loading_of m gs l).model) gs l (e ∙ ap zeroed (sym (model-given m gs l)))))
