-- An item taken keeps the colours of all spiders, and the number of all open legs. Assumes nothing.
use Rattle.std.proofs.Common.{◌≡◌, ℕ, ◌+◌, ◌<◌, min, max, Bool, true, false, eqb, List, [], ◌∷◌, ◌++◌, sym, refl, ap, ◌∙◌, append_assoc, add-zero, add_assoc, arith}
use Rattle.diagrams.specs.declared.items.Kind.{Kind}
use Rattle.diagrams.specs.declared.items.Kind.TheVariants.{Plain, Hadamard}
use Rattle.diagrams.specs.declared.items.Setting.{Setting}
use Rattle.diagrams.specs.declared.items.Setting.TheVariants.{Open, HeldZero, HeldOne}
use Rattle.diagrams.specs.declared.items.Leg.{Leg as LegData}
use Rattle.diagrams.specs.declared.items.Item.{Item}
use Rattle.diagrams.specs.declared.items.Item.TheVariants.{Spider, Wire, Leg, Factor, Zero}
use Rattle.amplitudes.specs.Items.{colours, wire_kind, leg_kind}
use Rattle.models.specs.Models.{Model, leg_limit, open_count}
use Rattle.models.specs.Edits.{placed, gained, only_slot, toggled, scaled, zeroed, held}
use Rattle.models.proofs.Counts.{open_fused, open_attached}
use Rattle.loadings.specs.Loadings.{Loading, with_fusion, with_wire, with_leg, paid, goes_on, taken}
use Rattle.loadings.specs.Laws.{opens, open_items}
use Rattle.loadings.specs.Goods.{Good}
use Rattle.loadings.proofs.Taken.{spider-taken, wire-taken, leg-taken, factor_taken, zero-taken}

-- a wire changes neither
wire-colours : (kind : Kind) (a b : ℕ) (s : Loading) → (with_wire kind a b s).colours ≡ s.colours
wire-colours Hadamard a b s = refl
wire-colours Plain a b s = here (eqb a b)
  where
    here : (e : Bool) → (elim e as (λ v. Loading) [ true ↦ s | false ↦ with_fusion (min a b) (max a b) s ]).colours ≡ s.colours
    here true = refl
    here false = refl

paid-opens : (kind : Kind) (m : Model) → open_count (paid kind m) ≡ open_count m
unfolding scaled
paid-opens Plain m = refl
paid-opens Hadamard m = refl

wire-opens : (kind : Kind) (a b : ℕ) (s : Loading) → open_count (with_wire kind a b s).model ≡ open_count s.model
unfolding gained toggled
wire-opens Hadamard a b s = here (eqb a b)
  where
    here : (e : Bool) → open_count (paid Hadamard (elim e [ true ↦ gained (only_slot a) 2 s.model | false ↦ toggled a b s.model ])) ≡ open_count s.model
    here true = paid-opens Hadamard (gained (only_slot a) 2 s.model)
    here false = paid-opens Hadamard (toggled a b s.model)
wire-opens Plain a b s = here (eqb a b)
  where
    here : (e : Bool) → open_count (elim e as (λ v. Loading) [ true ↦ s | false ↦ with_fusion (min a b) (max a b) s ]).model ≡ open_count s.model
    here true = refl
    here false = open_fused (min a b) (max a b) s.model

-- a leg that is held changes nothing of the open ones, and one that is open is one more
held-opens : (a : ℕ) (kind : Kind) (l : ℕ) (b : Bool) (m : Model) → open_count (held a kind l b m) ≡ open_count m
unfolding gained toggled placed scaled
held-opens a Hadamard l b m = refl
held-opens a Plain l b m = refl

leg-opens : (s : Loading) → Good s → s.legs < leg_limit → (d : LegData) (kind : Kind) (a : ℕ) (x : Setting) → open_count (with_leg d kind a x s) ≡ open_count s.model + opens x
leg-opens s good low d kind a Open = open_attached s.legs (record { side = d.side; slot = a; kind = kind }) s.model low (good.unopened s.legs (omega arith))
leg-opens s good low d kind a HeldZero = held-opens a kind s.legs false s.model ∙ sym (add-zero (open_count s.model))
leg-opens s good low d kind a HeldOne = held-opens a kind s.legs true s.model ∙ sym (add-zero (open_count s.model))

module _ (s t : Loading) (is : List Item) where
  pub colours-taken : (i : Item) → taken s i ≡ goes_on t → s.colours ++ colours (i ∷ is) ≡ t.colours ++ colours is
  colours-taken (Spider d) e = sym (append_assoc s.colours (d.colour ∷ []) (colours is)) ∙ ap (λ x. x.colours ++ colours is) (spider-taken s t d e).1
  colours-taken (Wire d) e = ap (λ cs. cs ++ colours is) (sym (wire-colours (wire_kind s.colours d) (s.place d.first) (s.place d.second) s)) ∙ ap (λ x. x.colours ++ colours is) (wire-taken s t d e).3
  colours-taken (Leg d) e = ap (λ x. x.colours ++ colours is) (leg-taken s t d e).3
  colours-taken (Factor f) e = ap (λ x. x.colours ++ colours is) (factor_taken s t f e).1
  colours-taken Zero e = ap (λ x. x.colours ++ colours is) (zero-taken s t e)

  pub opens-taken : (i : Item) → Good s → taken s i ≡ goes_on t → open_count s.model + open_items (i ∷ is) ≡ open_count t.model + open_items is
  unfolding placed scaled zeroed
  opens-taken (Spider d) good e = ap (λ x. open_count x.model + open_items is) (spider-taken s t d e).1
  opens-taken (Wire d) good e = ap (λ k. k + open_items is) (sym (wire-opens (wire_kind s.colours d) (s.place d.first) (s.place d.second) s)) ∙ ap (λ x. open_count x.model + open_items is) (wire-taken s t d e).3
  opens-taken (Leg d) good e =
      let on = leg-taken s t d e in
      let kind = leg_kind s.colours d in
      sym (add_assoc (open_count s.model) (opens d.setting) (open_items is))
      ∙ ap (λ k. k + open_items is) (sym (paid-opens kind (with_leg d kind (s.place d.spider) d.setting s) ∙ leg-opens s good on.1 d kind (s.place d.spider) d.setting))
      ∙ ap (λ x. open_count x.model + open_items is) on.3
  opens-taken (Factor f) good e = ap (λ x. open_count x.model + open_items is) (factor_taken s t f e).1
  opens-taken Zero good e = ap (λ x. open_count x.model + open_items is) (zero-taken s t e)
