-- What it says that a rule fits. Assumes nothing.
use Rattle.std.proofs.Common.{◌≡◌, ℕ, zero, suc, ◌%◌, ◌<◌, true, false, not, ◌&&◌, eqb, ltb, ◌⊎◌, sym, refl, inl, inr, arith, ltb-true, eqb-true}
use borrow.Author.Tests.{not-true, clash}
use Rattle.models.specs.Models.{Model, Sound, carries}
use Rattle.models.proofs.Counts.{carries-none}
use Rattle.models.proofs.Truths.{both_true}
use Rattle.reductions.specs.Rules.{interior, odd, complement_fits, pivot_fits, drop_fits, degree}
use Rattle.reductions.proofs.Blinds.{Off}

-- a phase is odd or even
pub odd-phase : (p : ℕ) → p < 4 → eqb (p % 2) 1 ≡ true → (p ≡ 1) ⊎ (p ≡ 3)
odd-phase zero h e = absurd (clash e)
odd-phase (suc zero) h e = inl refl
odd-phase (suc (suc zero)) h e = absurd (clash e)
odd-phase (suc (suc (suc zero))) h e = inr refl
odd-phase (suc (suc (suc (suc p)))) h e = absurd (omega arith)

pub even-phase : (p : ℕ) → p < 4 → eqb (p % 2) 1 ≡ false → (p ≡ 0) ⊎ (p ≡ 2)
even-phase zero h e = inl refl
even-phase (suc zero) h e = absurd (clash (sym e))
even-phase (suc (suc zero)) h e = inr refl
even-phase (suc (suc (suc zero))) h e = absurd (clash (sym e))
even-phase (suc (suc (suc (suc p)))) h e = absurd (omega arith)

-- a spider in a slot, without a leg
pub record Inner (m : Model) (u : ℕ) : Type 0 where
  pub stood : m.graph.stands u ≡ true
  pub off : Off m.leg u

pub inner : (m : Model) (u : ℕ) → Sound m → interior m u ≡ true → Inner m u
inner m u good e =
    let h = both_true (m.graph.stands u) (not (carries m u)) e in
    record { stood = h.0; off = (carries-none m u good).0 (not-true (carries m u) h.1) }

-- complementing fits at an inner spider of odd phase
pub record ComplementAt (m : Model) (u : ℕ) : Type 0 where
  pub here : Inner m u
  pub phase : (m.graph.phase u ≡ 1) ⊎ (m.graph.phase u ≡ 3)

pub complement_at : (m : Model) (u : ℕ) → Sound m → complement_fits m u ≡ true → ComplementAt m u
complement_at m u good e =
    let h = both_true (interior m u) (odd m u) e in
    record { here = inner m u good h.0; phase = odd-phase (m.graph.phase u) (good.phases u) h.1 }

-- an inner spider of even phase
pub record EvenAt (m : Model) (u : ℕ) : Type 0 where
  pub here : Inner m u
  pub phase : (m.graph.phase u ≡ 0) ⊎ (m.graph.phase u ≡ 2)

even_at : (m : Model) (u : ℕ) → Sound m → (interior m u && not (odd m u)) ≡ true → EvenAt m u
even_at m u good e =
    let h = both_true (interior m u) (not (odd m u)) e in
    record { here = inner m u good h.0; phase = even-phase (m.graph.phase u) (good.phases u) (not-true (odd m u) h.1) }

-- pivoting fits at two of them that are joined, in order
pub record PivotAt (m : Model) (u v : ℕ) : Type 0 where
  pub order : u < v
  pub joined : m.graph.edge u v ≡ true
  pub first : EvenAt m u
  pub second : EvenAt m v

pub pivot_at : (m : Model) (u v : ℕ) → Sound m → pivot_fits m u v ≡ true → PivotAt m u v
pivot_at m u v good e =
    let a = both_true (ltb u v) (m.graph.edge u v && ((interior m u && not (odd m u)) && (interior m v && not (odd m v)))) e in
    let b = both_true (m.graph.edge u v) ((interior m u && not (odd m u)) && (interior m v && not (odd m v))) a.1 in
    let c = both_true (interior m u && not (odd m u)) (interior m v && not (odd m v)) b.1 in
    record { order = ltb-true u v a.0; joined = b.0; first = even_at m u good c.0; second = even_at m v good c.1 }

-- removal fits at one that has no edge
pub record DropAt (m : Model) (u : ℕ) : Type 0 where
  pub even : EvenAt m u
  pub alone : degree m u ≡ 0

pub drop_at : (m : Model) (u : ℕ) → Sound m → drop_fits m u ≡ true → DropAt m u
drop_at m u good e =
    let h = both_true (interior m u && not (odd m u)) (eqb (degree m u) 0) e in
    record { even = even_at m u good h.0; alone = eqb-true (degree m u) 0 h.1 }
