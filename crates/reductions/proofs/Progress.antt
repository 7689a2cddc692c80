-- While a spider stands and no leg is open there is a step, and every step is by a rule that fits. Assumes nothing.
use Rattle.std.proofs.Common.{◌≡◌, ℕ, ◌<◌, Bool, true, false, not, ◌&&◌, Some, None, Option, sym, refl, ap, ◌∙◌, subst, ap₂, ⊎_elim, arith, lt-ltb, eq-eqb}
use borrow.Author.Tests.{both_ways}
use Rattle.std.proofs.lemmas.Bool.Decides.{eqb_tells, leb_tells}
use Rattle.models.specs.Models.{ModelLeg, Model, Sound, slots}
use Rattle.models.proofs.Counts.{carries-none}
use Rattle.models.proofs.Toggles.{other_end}
use Rattle.reductions.specs.Rules.{interior, odd, complement_fits, complemented, pivot_fits, pivoted, drop_fits, dropped, degree}
use Rattle.reductions.specs.Runs.{first_from, first_complement, first_pivot, first_drop, reduced_next}
use Rattle.reductions.specs.Kept.{side_of, Kept}
use Rattle.reductions.specs.declared.Pair.{Pair}
use Rattle.reductions.proofs.Complementing.{complement_kept}
use Rattle.reductions.proofs.Fits.{complement_at, pivot_at, drop_at}
use Rattle.reductions.proofs.Pivoting.{pivot_kept}
use Rattle.reductions.proofs.Removing.{removal_kept}
use Rattle.reductions.proofs.Slots.{total-some}
use Rattle.reductions.proofs.Runs.{true_or_false, first_none, first_found, first_pair_none, first_pair_found}

-- there is no step just where no rule fits anywhere
pub record Stuck (m : Model) : Type 0 where
  pub complement : (u : ℕ) → u < slots → complement_fits m u ≡ false
  pub pivot : (u v : ℕ) → u < slots → v < slots → pivot_fits m u v ≡ false
  pub removal : (u : ℕ) → u < slots → drop_fits m u ≡ false

some-none : {X : Type 0} {Y : Type 0} (x : X) → Some x ≡ None → Y
some-none x e = absurd (let z : ◌≡◌ {A = ℕ} 0 1 = cc in omega arith)

pub stuck : (m : Model) → reduced_next m ≡ None → Stuck m
stuck m e = go (first_complement m) (first_pivot m) (first_drop m) refl refl refl e
  where
    go : (a : Option ℕ) (b : Option Pair) (c : Option ℕ) → first_complement m ≡ a → first_pivot m ≡ b → first_drop m ≡ c → ◌≡◌ {A = Option Model} (elim a [ Some u ↦ Some (complemented u m) | None ↦ elim b [ Some p ↦ Some (pivoted p.first p.second m) | None ↦ elim c [ Some u ↦ Some (dropped u m) | None ↦ None ] ] ]) None → Stuck m
    go (Some u) b c p q r h = some-none (complemented u m) h
    go None (Some w) c p q r h = some-none (pivoted w.first w.second m) h
    go None None (Some u) p q r h = some-none (dropped u m) h
    go None None None p q r h = record {
      complement = λ u l. first_none slots 0 (complement_fits m) p u (omega arith) l;
      pivot = λ u v l k. first_none slots 0 (pivot_fits m u) (first_pair_none slots 0 (λ j. first_from slots 0 (pivot_fits m j)) q u (omega arith) l) v (omega arith) k;
      removal = λ u l. first_none slots 0 (drop_fits m) r u (omega arith) l;
    }

-- no leg is open
abbrev pub Shut : Model → Type 0
Shut m = (k : ℕ) → m.leg k ≡ None

module _ (m : Model) (good : Sound m) (shut : Shut m) where
  inner : (u : ℕ) → m.graph.stands u ≡ true → interior m u ≡ true
  inner u on = ap₂ (λ a b. a && not b) on ((carries-none m u good).1 (λ l o e. some-none o (sym e ∙ shut l)))

  module _ (end : Stuck m) where
    even : (u : ℕ) → m.graph.stands u ≡ true → (interior m u && not (odd m u)) ≡ true
    even u on = go (odd m u) refl
      where
        go : (b : Bool) → odd m u ≡ b → (interior m u && not (odd m u)) ≡ true
        go true e = absurd (both_ways (complement_fits m u) (end.complement u (good.inside u on)) (ap₂ ◌&&◌ (inner u on) e))
        go false e = ap₂ (λ a b. a && not b) (inner u on) e

    unjoined : (u v : ℕ) → u < v → m.graph.stands u ≡ true → m.graph.stands v ≡ true → m.graph.edge u v ≡ true → ⊥
    unjoined u v order on too e =
        both_ways (pivot_fits m u v) (end.pivot u v (good.inside u on) (good.inside v too))
        (ap₂ ◌&&◌ (lt-ltb u v order) (ap₂ ◌&&◌ e (ap₂ ◌&&◌ (even u on) (even v too))))

    none-stands : (u : ℕ) → m.graph.stands u ≡ true → ⊥
    none-stands u on = ⊎_elim
        (λ z. both_ways (drop_fits m u) (end.removal u (good.inside u on)) (ap₂ ◌&&◌ (even u on) (eq-eqb (degree m u) 0 z)))
        (λ h.
        let v = h.0 in
        let e = h.1 in
        let too = other_end m u v good e in
        ⊎_elim
        (λ l. ⊎_elim
        (λ q. both_ways (m.graph.edge u u) (good.graph.loop_free u) (ap (m.graph.edge u) q.1 ∙ e))
        (λ q. let ne = q.1 in let le = l.1 in unjoined u v (omega arith) on too e)
        (eqb_tells u v))
        (λ l. unjoined v u l.1 too on (good.graph.symmetric v u ∙ e))
        (leb_tells u v))
        (total-some slots (m.graph.edge u))

  -- where there is no step, nothing stands
  pub progress : reduced_next m ≡ None → (u : ℕ) → m.graph.stands u ≡ false
  progress e u = ⊎_elim (λ on. absurd (none-stands (stuck m e) u on)) (λ off. off) (true_or_false (m.graph.stands u))

-- every step keeps what a rule keeps
pub next_kept : (m n : Model) → Sound m → reduced_next m ≡ Some n → Kept m n
next_kept m n good e = go (first_complement m) (first_pivot m) (first_drop m) refl refl refl e
  where
    go : (a : Option ℕ) (b : Option Pair) (c : Option ℕ) → first_complement m ≡ a → first_pivot m ≡ b → first_drop m ≡ c → ◌≡◌ {A = Option Model} (elim a [ Some u ↦ Some (complemented u m) | None ↦ elim b [ Some p ↦ Some (pivoted p.first p.second m) | None ↦ elim c [ Some u ↦ Some (dropped u m) | None ↦ None ] ] ]) (Some n) → Kept m n
    go (Some u) b c p q r h =
        let same : complemented u m ≡ n = cc in
        subst (Kept m) same (complement_kept m u good (complement_at m u good (first_found slots 0 (complement_fits m) u p).passes))
    go None (Some w) c p q r h =
        let same : pivoted w.first w.second m ≡ n = cc in
        let f = first_pair_found slots 0 (λ j. first_from slots 0 (pivot_fits m j)) w q in
        subst (Kept m) same (pivot_kept m w.first w.second good (pivot_at m w.first w.second good (first_found slots 0 (pivot_fits m w.first) w.second f.gives).passes))
    go None None (Some u) p q r h =
        let same : dropped u m ≡ n = cc in
        subst (Kept m) same (removal_kept m u good (drop_at m u good (first_found slots 0 (drop_fits m) u r).passes))
    go None None None p q r h = some-none n (sym h)

-- and opens no leg
pub kept_shut : (m n : Model) → Kept m n → Shut m → Shut n
kept_shut m n kept shut k = go (n.leg k) (kept.legs k ∙ ap side_of (shut k))
  where
    go : (q : Option ModelLeg) → side_of q ≡ None → q ≡ None
    go None e = refl
    go (Some o) e = some-none o.side e
