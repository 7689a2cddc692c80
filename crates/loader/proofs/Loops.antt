-- A loading item by item. Assumes nothing.
use Rattle.std.proofs.Common.{◌≡◌, ℕ, List, [], ◌∷◌, Some, None, Ok, Err, Result, sym, refl, ap, arith}
use Rattle.refusals.specs.declared.LoadRefusal.{LoadRefusal}
use Rattle.refusals.specs.declared.Fault.{Fault}
use Rattle.diagrams.specs.declared.items.Item.{Item}
use Rattle.diagrams.specs.Streams.{End, finish, broken, Stream, only, answer, after}
use Rattle.loadings.specs.Loadings.{Loading, Taken, goes_on, refuses, taken, Loaded, refused, loaded_from, next_number}
use Rattle.loader.specs.declared.loading.Loading.{Loading as Loader}
use Rattle.loader.specs.States.{state, ComesTo}

-- an item that a source gives is its first
pub gave_first : (s : Stream) (i : Item) → answer s ≡ Ok (Some i) → s.items ≡ i ∷ (after s).items
gave_first s i e = go s.items s.ending e
  where
    go : (is : List Item) (d : End) → answer (record { items = is; ending = d }) ≡ Ok (Some i) → is ≡ i ∷ (after (record { items = is; ending = d })).items
    go [] finish e = absurd (let z : ◌≡◌ {A = ℕ} 0 1 = cc in omega arith)
    go [] (broken f) e = absurd (let z : ◌≡◌ {A = ℕ} 0 1 = cc in omega arith)
    go (j ∷ is) d e = let same : j ≡ i = cc in ap (λ k. k ∷ is) same

-- where it gives none, it is at its end
pub gave_none : (s : Stream) → answer s ≡ Ok None → s ≡ only finish
gave_none s e = go s.items s.ending e
  where
    go : (is : List Item) (d : End) → answer (record { items = is; ending = d }) ≡ Ok None → record { items = is; ending = d } ≡ only finish
    go [] finish e = refl
    go [] (broken f) e = absurd (let z : ◌≡◌ {A = ℕ} 0 1 = cc in omega arith)
    go (j ∷ is) d e = absurd (let z : ◌≡◌ {A = ℕ} 0 1 = cc in omega arith)

-- and where it gives a fault, it is at that
pub gave_fault : (s : Stream) (f : Fault) → answer s ≡ Err f → s ≡ only (broken f)
gave_fault s f e = go s.items s.ending e
  where
    go : (is : List Item) (d : End) → answer (record { items = is; ending = d }) ≡ Err f → record { items = is; ending = d } ≡ only (broken f)
    go [] finish e = absurd (let z : ◌≡◌ {A = ℕ} 0 1 = cc in omega arith)
    go [] (broken g) e = let same : g ≡ f = cc in ap (λ h. only (broken h)) same
    go (j ∷ is) d e = absurd (let z : ◌≡◌ {A = ℕ} 0 1 = cc in omega arith)

-- an item that is not refused is taken
pub comes_on : (q : Taken) (n next : ℕ) (r : Result Prim.Unit LoadRefusal) (l : Loader) → ComesTo q n next r l → r ≡ Ok tt → (q ≡ goes_on (state l)) × (l.item ≡ next)
comes_on (goes_on t) n next r l h e = (ap goes_on (sym h.1), h.2)
comes_on (refuses why) n next r l h e = absurd (let z : ◌≡◌ {A = ℕ} 0 1 = cc in omega arith)

-- the loading goes on with the items after it
abbrev onward : ℕ → List Item → End → Taken → Loaded
onward n is e (goes_on t) = loaded_from t (next_number n) is e
onward n is e (refuses why) = refused (why n) (record { items = is; ending = e })

pub loads_on : (s t : Loading) (n : ℕ) (i : Item) (is : List Item) (e : End) → taken s i ≡ goes_on t → loaded_from s n (i ∷ is) e ≡ loaded_from t (next_number n) is e
loads_on s t n i is e q = ap (onward n is e) q

-- or ends with the refusal
pub loads_off : (s : Loading) (l : Loader) (n next : ℕ) (i : Item) (r : Result Prim.Unit LoadRefusal) (why : LoadRefusal) (is : List Item) (e : End) → ComesTo (taken s i) n next r l → r ≡ Err why → loaded_from s n (i ∷ is) e ≡ refused why (record { items = is; ending = e })
loads_off s l n next i r why is e h f = go (taken s i) h
  where
    go : (q : Taken) → ComesTo q n next r l → onward n is e q ≡ refused why (record { items = is; ending = e })
    go (goes_on t) h = absurd (let a = h.0 in let z : ◌≡◌ {A = ℕ} 0 1 = cc in omega arith)
    go (refuses w) h = let same : w n ≡ why = cc in ap (λ x. refused x (record { items = is; ending = e })) same
