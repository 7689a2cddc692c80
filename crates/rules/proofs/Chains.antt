-- Runs put together out of steps. Assumes nothing.
use Rattle.std.proofs.Common.{◌≡◌, ℕ, zero, suc, ◌+◌, ◌-◌, ◌<◌, Bool, true, false, not, is_some, Some, None, Option, sym, ap, ◌∙◌, true≢false, arith}
use Rattle.amounts.proofs.Scalars.{same_equivalence}
use Rattle.models.specs.Models.{Model, amount}
use Rattle.reductions.specs.Kept.{Kept}
use Rattle.reductions.specs.Runs.{Run, ran}
use Rattle.reductions.proofs.Runs.{ran-none, ran-more, ran_spent}
use Rattle.rules.specs.Steps.{next_by, KeptByRun}

-- a run after n steps
abbrev pub after-steps : ℕ → Run → Run
after-steps n r = record { model = r.model; steps = n + r.steps; finished = r.finished }

pub chain_more : (next : Model → Option Model) (b n : ℕ) (m0 m m' : Model) → ran next b m0 ≡ after-steps n (ran next (b - n) m) → n < b → next m ≡ Some m' → ran next b m0 ≡ after-steps (n + 1) (ran next (b - (n + 1)) m')
chain_more next b n m0 m m' e low one =
    let left : b - n ≡ suc (b - (n + 1)) = omega arith in
    let r = ran next (b - (n + 1)) m' in
    let count : n + (r.steps + 1) ≡ n + 1 + r.steps = omega arith in
    e ∙ ap (λ k. after-steps n (ran next k m)) left ∙ ap (after-steps n) (ran-more next (b - (n + 1)) m m' one) ∙ ap (λ k. record { model = r.model; steps = k; finished = r.finished }) count

pub chain_spent : (next : Model → Option Model) (b n : ℕ) (m0 m : Model) → ran next b m0 ≡ after-steps n (ran next (b - n) m) → n ≡ b → ran next b m0 ≡ record { model = m; steps = b; finished = not (is_some (next m)) }
chain_spent next b n m0 m e same =
    let left : b - n ≡ zero = omega arith in
    let count : n + 0 ≡ b = omega arith in
    e ∙ ap (λ k. after-steps n (ran next k m)) left ∙ ap (after-steps n) (ran_spent next m) ∙ (λ i. record { model = m; steps = count i; finished = not (is_some (next m)) })

pub chain_done : (next : Model → Option Model) (b n : ℕ) (m0 m : Model) → ran next b m0 ≡ after-steps n (ran next (b - n) m) → next m ≡ None → ran next b m0 ≡ record { model = m; steps = n; finished = true }
chain_done next b n m0 m e none =
    let count : n + 0 ≡ n = omega arith in
    e ∙ ap (after-steps n) (ran-none next (b - n) m none) ∙ ap (λ k. record { model = m; steps = k; finished = true }) count

pub kept_more : (m0 m m' : Model) (n : ℕ) → KeptByRun m0 n m → Kept m m' → KeptByRun m0 (n + 1) m'
kept_more m0 m m' n so more =
    let a = so.fewer in
    let b = more.fewer in record {
      amplitude = λ row. same_equivalence.transitive (amount m0 row) (amount m row) (amount m' row) (so.amplitude row) (more.amplitude row);
      fewer = omega arith;
      legs = λ l. more.legs l ∙ so.legs l;
    }

pub next_some : {S : Type 0} (finds : Model → Option S) (does : Model → S → Model) (m : Model) (s : S) → finds m ≡ Some s → next_by finds does m ≡ Some (does m s)
next_some finds does m s e = ap (λ o. elim o [ Some t ↦ Some (does m t) | None ↦ None ]) e

pub next_none : {S : Type 0} (finds : Model → Option S) (does : Model → S → Model) (m : Model) → finds m ≡ None → next_by finds does m ≡ None
next_none finds does m e = ap (λ o. elim o [ Some t ↦ Some (does m t) | None ↦ None ]) e

-- no step is left where no spot is found
pub none_left : {S : Type 0} (finds : Model → Option S) (does : Model → S → Model) (m : Model) (r : Option S) (b : Bool) → r ≡ finds m → is_some r ≡ not b → b ≡ not (is_some (next_by finds does m))
none_left finds does m (Some s) false e f = sym (ap (λ o. not (is_some o)) (next_some finds does m s (sym e)))
none_left finds does m (Some s) true e f = absurd (true≢false f)
none_left finds does m None true e f = sym (ap (λ o. not (is_some o)) (next_none finds does m (sym e)))
none_left finds does m None false e f = absurd (true≢false (sym f))
