-- The spiders that were given: found by number, one more, and moved into one slot. Assumes nothing.
use Rattle.std.proofs.Common.{◌≡◌, ℕ, zero, suc, ◌+◌, ◌<◌, ◌≤◌, Bool, true, false, cond, eqb, List, [], ◌∷◌, ◌++◌, length, map, Some, None, Option, sym, refl, ap, ◌∙◌, ⊎_elim, arith, le-ltb, ne_eqb, get_or, take, drop, set, ap₂, add-one, drop-cons}
use Rattle.std.specs.Prelude.{slice_get, option_map}
use mathlib.Core.Path.{fun_ext}
use Rattle.std.proofs.lemmas.List.{length-map, map-append, take_more, take_more_set, drop-set-lt}
use Rattle.std.proofs.lemmas.Option.{slice_get-map, slice_get_within, slice_get_cases, get_or_from_slice_get}
use Rattle.diagrams.specs.declared.items.Colour.{Colour}
use Rattle.diagrams.specs.declared.items.Colour.TheVariants.{Z}
use Rattle.diagrams.specs.declared.items.Spider.{Spider as SpiderData}
use Rattle.rows.specs.Slots.{Slot}
use Rattle.models.specs.Models.{Model}
use Rattle.models.specs.Edits.{blank, placed, fused}
use Rattle.loadings.specs.Loadings.{beginning, given, with_spider, with_fusion, placed_again}
use Rattle.loader.specs.declared.given.Given.{Given}
use Rattle.loader.specs.Givens.{place_of, loading_of, moved}
use Rattle.loader.specs.States.{Known}

abbrev colour_of : Given → Colour
colour_of g = g.colour

-- a spider's slot, or that of its number
abbrev slot_or : ℕ → Option Given → ℕ
slot_or n o = elim o [ Some g ↦ g.slot.number | None ↦ n ]

pub known : (m : Model) (gs : List Given) (l k : ℕ) (g : Given) → slice_get gs k ≡ Some g → Known (loading_of m gs l) k g
unfolding loading_of
known m gs l k g e =
    let here = slice_get_within gs k g e in
    let long = length-map gs colour_of in record {
      low = omega arith;
      colour = get_or_from_slice_get (map colour_of gs) k g.colour Z (slice_get-map colour_of gs k ∙ ap (option_map colour_of) e);
      place = ap (slot_or k) e;
    }

past : (gs : List Given) (k : ℕ) → slice_get gs k ≡ None → length gs ≤ k
past gs k e = ⊎_elim (λ h. absurd (let none = e in let some = h.2 in let z : ◌≡◌ {A = ℕ} 0 1 = cc in omega arith)) (λ h. h.0) (slice_get_cases gs k).1

pub unknown : (m : Model) (gs : List Given) (l k : ℕ) → slice_get gs k ≡ None → given (loading_of m gs l) k ≡ false
unfolding loading_of
unknown m gs l k e =
    let off = past gs k e in
    let long = length-map gs colour_of in
    le-ltb k (length (map colour_of gs)) (omega arith)

-- one more spider, in the slot of its number
last : (gs : List Given) (g : Given) (n d : ℕ) → (n ≡ length gs → g.slot.number ≡ d) → slot_or d (slice_get (gs ++ (g ∷ [])) n) ≡ slot_or d (slice_get gs n)
last [] g zero d e = e refl
last [] g (suc n) d e = refl
last (x ∷ xs) g zero d e = refl
last (x ∷ xs) g (suc n) d e = last xs g n d (λ q. e (ap suc q))

pub spider-given : (m n : Model) (gs : List Given) (l : ℕ) (d : SpiderData) (s : Slot) → s.number ≡ length gs → n ≡ placed s.number d.phase.parts m → loading_of n (gs ++ (record { colour = d.colour; slot = s } ∷ [])) l ≡ with_spider d (loading_of m gs l)
unfolding loading_of
spider-given m n gs l d s at e =
    let g : Given = record { colour = d.colour; slot = s } in
    let many : s.number ≡ length (map colour_of gs) = at ∙ sym (length-map gs colour_of) in
    let diagram : n ≡ placed (length (map colour_of gs)) d.phase.parts m = e ∙ ap (λ k. placed k d.phase.parts m) many in
    let place = fun_ext (λ k. last gs g k k (λ q. at ∙ sym q)) in
    λ i. record { model = diagram i; colours = map-append colour_of gs (g ∷ []) i; place = place i; legs = l }

-- the spiders of one slot moved into another
same-colours : (a b : Slot) (gs : List Given) → map colour_of (map (moved a b) gs) ≡ map colour_of gs
same-colours a b [] = refl
same-colours a b (g ∷ gs) = ap (λ cs. g.colour ∷ cs) (same-colours a b gs)

numbered : (a b : Slot) (t : Bool) → (cond t a b).number ≡ cond t a.number b.number
numbered a b true = refl
numbered a b false = refl

place-moved : (a b : Slot) (gs : List Given) → b.number < length gs → (n : ℕ) → place_of (map (moved a b) gs) n ≡ placed_again a.number b.number (place_of gs) n
place-moved a b gs low n = ap (slot_or n) (slice_get-map (moved a b) gs n) ∙ go (slice_get gs n) refl
  where
    go : (o : Option Given) → slice_get gs n ≡ o → slot_or n (option_map (moved a b) o) ≡ cond (eqb (slot_or n o) b.number) a.number (slot_or n o)
    go (Some g) e = numbered a g.slot (eqb g.slot.number b.number)
    go None e = let off = past gs n e in sym (ap (λ t. cond t a.number n) (ne_eqb n b.number (λ q. omega arith)))

pub fused-given : (m n : Model) (gs hs : List Given) (l : ℕ) (a b : Slot) → n ≡ fused a.number b.number m → hs ≡ map (moved a b) gs → b.number < length gs → loading_of n hs l ≡ with_fusion a.number b.number (loading_of m gs l)
unfolding loading_of
fused-given m n gs hs l a b e f low =
    let colours = ap (map colour_of) f ∙ same-colours a b gs in
    let place = ap place_of f ∙ fun_ext (place-moved a b gs low) in
    λ i. record { model = e i; colours = colours i; place = place i; legs = l }

-- none yet
pub none-given : (m : Model) (gs : List Given) → m ≡ blank → gs ≡ [] → loading_of m gs 0 ≡ beginning
unfolding loading_of
none-given m gs e f = λ i. loading_of (e i) (f i) 0

-- spiders changed one by one
pub changed_more : (f : Given → Given) (xs ys zs : List Given) (i : ℕ) (d : Given) → i < length xs → length ys ≡ length xs → take i ys ≡ map f (take i xs) → drop i ys ≡ drop i xs → zs ≡ set ys i (f (get_or ys i d)) → (take (i + 1) zs ≡ map f (take (i + 1) xs)) × (drop (i + 1) zs ≡ drop (i + 1) xs)
changed_more f xs ys zs i d low long done rest e =
    let low_y : i < length ys = omega arith in
    let more : i < i + 1 = omega arith in
    let x = drop-cons xs i d low in
    let y = drop-cons ys i d low_y in
    let head : get_or ys i d ≡ get_or xs i d = cc in
    let tail : drop (suc i) ys ≡ drop (suc i) xs = cc in
    let v = f (get_or ys i d) in (
      ap (take (i + 1)) e ∙ take_more_set ys i v low_y ∙ ap₂ (λ p q. p ++ (q ∷ [])) done (ap f head) ∙ sym (map-append f (take i xs) (get_or xs i d ∷ [])) ∙ ap (map f) (sym (take_more xs i d low)),
      ap (drop (i + 1)) e ∙ drop-set-lt (i + 1) ys i v more ∙ ap (λ k. drop k ys) (add-one i) ∙ tail ∙ ap (λ k. drop k xs) (sym (add-one i)),
    )
