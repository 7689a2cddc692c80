-- Loading keeps the amplitude, by induction over the items still to come. Assumes nothing.
use Rattle.std.proofs.Common.{◌≡◌, ℕ, ◌+◌, ◌≤◌, Bool, List, [], ◌∷◌, ◌++◌, length, None, sym, refl, ap, ◌∙◌, subst, append-nil, add-zero, zero-add, arith}
use Rattle.refusals.specs.declared.LoadRefusal.{LoadRefusal}
use Rattle.amounts.specs.Scalars.{Same}
use Rattle.amounts.proofs.Scalars.{same_equivalence}
use Rattle.diagrams.specs.Streams.{End, finish, broken, Stream}
use Rattle.diagrams.specs.declared.items.Item.{Item}
use Rattle.amplitudes.specs.Items.{colours}
use Rattle.models.specs.Models.{Model, Sound, spider_limit, leg_limit, open_count, amount}
use Rattle.models.specs.Edits.{blank}
use Rattle.loadings.specs.Loadings.{Loading, beginning, Taken, goes_on, refuses, taken, next_number, accepted, refused, ended, loaded_from}
use Rattle.loadings.specs.Laws.{open_items, LoadingKeeps}
use Rattle.loadings.proofs.OpenLegs.{no_legs_from}
use Rattle.loadings.specs.Goods.{Good}
use Rattle.loadings.proofs.Goods.{good_beginning}
use Rattle.loadings.proofs.Taken.{good_taken}
use Rattle.loadings.proofs.Values.{value, same_equal}
use Rattle.loadings.proofs.Steps.{value_taken}
use Rattle.loadings.proofs.Ends.{value_beginning, value_end}
use Rattle.loadings.proofs.Tallies.{colours-taken, opens-taken}

never_accepted : (why : LoadRefusal) (r left : Stream) (m : Model) → refused why r ≡ accepted m left → ⊥
never_accepted why r left m e = let z : ◌≡◌ {A = ℕ} 0 1 = cc in omega arith

-- an accepted loading ends with its diagram
ended_with : (s : Loading) (n : ℕ) (e : End) (m : Model) (left : Stream) → ended s n e ≡ accepted m left → s.model ≡ m
ended_with s n finish m left q = cc
ended_with s n (broken f) m left q = absurd (never_accepted _ _ left m q)

-- and takes every item
pub record Goes_on (s : Loading) (n : ℕ) (i : Item) (is : List Item) (e : End) (m : Model) (left : Stream) : Type 0 where
  pub next : Loading
  pub on : taken s i ≡ goes_on next
  pub rest : loaded_from next (next_number n) is e ≡ accepted m left

pub first_taken : (s : Loading) (n : ℕ) (i : Item) (is : List Item) (e : End) (m : Model) (left : Stream) → loaded_from s n (i ∷ is) e ≡ accepted m left → Goes_on s n i is e m left
first_taken s n i is e m left q = here (taken s i) refl q
  where
    here : (x : Taken) → taken s i ≡ x → elim x [ goes_on t ↦ loaded_from t (next_number n) is e | refuses why ↦ refused (why n) (record { items = is; ending = e }) ] ≡ accepted m left → Goes_on s n i is e m left
    here (goes_on t) on r = record { next = t; on = on; rest = r }
    here (refuses why) on r = absurd (never_accepted _ _ left m r)

-- what an accepted loading from a point keeps
record KeptFrom (s : Loading) (is : List Item) (m : Model) : Type 0 where
  sound : Sound m
  few : length (s.colours ++ colours is) ≤ spider_limit
  legs : open_count m ≡ open_count s.model + open_items is
  amounts : (row : List Bool) → Same (value s (s.colours ++ colours is) is row) (amount m row)

kept_at_end : (s : Loading) → Good s → KeptFrom s [] s.model
kept_at_end s good =
    let all : length (s.colours ++ []) ≡ length s.colours = ap length (append-nil s.colours) in
    record {
      sound = good.sound;
      few = let few = good.few in omega arith;
      legs = sym (add-zero (open_count s.model));
      amounts = λ row. same_equal (value_end s (s.colours ++ []) row all);
    }

kept_before : (s t : Loading) (i : Item) (is : List Item) (m : Model) → Good s → taken s i ≡ goes_on t → KeptFrom t is m → KeptFrom s (i ∷ is) m
kept_before s t i is m good on rest =
    let cs = s.colours ++ colours (i ∷ is) in
    let same = colours-taken s t is i on in
    let few : length cs ≤ spider_limit = subst (λ xs. length xs ≤ spider_limit) (sym same) rest.few in
    record {
      sound = rest.sound;
      few = few;
      legs = rest.legs ∙ sym (opens-taken s t is i good on);
      amounts = λ row. same_equivalence.transitive (value s cs (i ∷ is) row) (value t cs is row) (amount m row)
          (value_taken s t good is cs few row i on refl)
          (subst (λ xs. Same (value t xs is row) (amount m row)) (sym same) (rest.amounts row));
    }

kept_from : (is : List Item) (s : Loading) (n : ℕ) (e : End) (m : Model) (left : Stream) → Good s → loaded_from s n is e ≡ accepted m left → KeptFrom s is m
kept_from [] s n e m left good q = subst (KeptFrom s []) (ended_with s n e m left q) (kept_at_end s good)
kept_from (i ∷ is) s n e m left good q =
    let first = first_taken s n i is e m left q in
    kept_before s first.next i is m good first.on
    (kept_from is first.next (next_number n) e m left (good_taken s first.next i good first.on) first.rest)

pub loading_keeps : LoadingKeeps
unfolding blank
loading_keeps s m left q =
    let all = kept_from s.items beginning 0 s.ending m left good_beginning q in
    let none_open : open_count blank ≡ 0 = ap length (no_legs_from leg_limit 0 (λ l. None) (λ k h. refl)) in
    record {
      sound = all.sound;
      legs = all.legs ∙ ap (λ k. k + open_items s.items) none_open ∙ zero-add (open_items s.items);
      amplitude = λ row. subst (λ v. Same v (amount m row)) (value_beginning s.items row all.few) (all.amounts row);
    }
