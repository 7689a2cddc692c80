-- A closed working diagram is reduced until nothing stands, and what is left is its scalar. Assumes nothing.
use Rattle.std.proofs.Common.{◌≡◌, ℕ, zero, suc, ◌+◌, ◌*◌, ◌≤◌, Bool, true, false, cond, [], None, sym, refl, ap, ◌∙◌, subst, ap₂, ⊎_elim, arith}
use Rattle.amounts.specs.Amounts.{Amounts, Lawful}
use Rattle.amounts.specs.Eighths.{unit, eighths}
use Rattle.amounts.specs.Scalars.{Same}
use Rattle.amounts.proofs.Eighths.{lawful}
use Rattle.amounts.proofs.Scalars.{same_equivalence}
use Rattle.amounts.proofs.Turns.{turned_none}
use Rattle.graphs.specs.Counts.{bit}
use Rattle.graphs.specs.Graphs.{Graph, Bits, none_set, put, sum, turns, quarters, graph_sum}
use Rattle.graphs.proofs.Counting.{total-nothing, pairs-nothing}
use Rattle.models.specs.Models.{Model, Sound, slots, leg_limit, legs_term, amount, scaled_by, standing}
use Rattle.reductions.specs.Runs.{Run, one_more, reduced_next, reduced}
use Rattle.reductions.specs.Kept.{Kept}
use Rattle.reductions.proofs.Legs.{legs-none}
use Rattle.reductions.proofs.Progress.{Shut, progress, next_kept, kept_shut}
use Rattle.reductions.proofs.Runs.{some_or_none, ran-none, ran-more}

-- where nothing stands there is one term
sum-none : (A : Amounts) (n : ℕ) (stands : ℕ → Bool) (F : Bits → A.Amount) → ((k : ℕ) → stands k ≡ false) → sum A n stands F ≡ F none_set
unfolding sum
sum-none A zero stands F none = refl
sum-none A (suc n) stands F none = ap (λ b. cond b (A.add (sum A n stands F) (sum A n stands (λ x. F (put x n)))) (sum A n stands F)) (none n) ∙ sum-none A n stands F none

turns-none : (n : ℕ) (G : Graph) → turns n G none_set ≡ 0
unfolding turns
turns-none n G = ap₂ (λ p e. p + 2 * e) (total-nothing n (λ s. 0 * G.phase s) (λ s l. omega arith)) (pairs-nothing n (λ s t. 0 * 0 * bit (G.edge s t)) (λ s t l k. omega arith))

-- and with no leg open it is 1
empty_sum : (A : Amounts) (laws : Lawful A) (n : ℕ) (G : Graph) → ((k : ℕ) → G.stands k ≡ false) → graph_sum A n G (λ x. A.one) ≡ A.one
empty_sum A laws n G none =
    sum-none A n G.stands (λ x. A.mul (quarters A (turns n G x)) A.one) none
    ∙ laws.mul_one (quarters A (turns n G none_set))
    ∙ ap (quarters A) (turns-none n G)
    ∙ turned_none A laws

empty_amount : (m : Model) → Shut m → ((k : ℕ) → m.graph.stands k ≡ false) → amount m [] ≡ scaled_by m.scalar unit
empty_amount m shut none =
    ap (λ os. scaled_by m.scalar (graph_sum eighths slots m.graph (legs_term eighths os []))) (legs-none leg_limit 0 m.leg shut)
    ∙ ap (scaled_by m.scalar) (empty_sum eighths lawful slots m.graph none)

-- how a reduction of m ends
pub record Ended (m : Model) (r : Run) : Type 0 where
  pub sound : Sound r.model
  pub shut : Shut r.model
  pub empty : (k : ℕ) → r.model.graph.stands k ≡ false
  pub same : Same (amount m []) (amount r.model [])
  pub few : r.steps ≤ standing m
  pub done : r.finished ≡ true

ended_here : (m : Model) → Sound m → Shut m → ((k : ℕ) → m.graph.stands k ≡ false) → Ended m (record { model = m; steps = 0; finished = true })
ended_here m good shut none = record { sound = good; shut = shut; empty = none; same = refl; few = omega arith; done = refl }

ended-more : (m n : Model) (r : Run) → Kept m n → Ended n r → Ended m (one_more r)
ended-more m n r kept h = record {
  sound = h.sound;
  shut = h.shut;
  empty = h.empty;
  same = same_equivalence.transitive (amount m []) (amount n []) (amount r.model []) (kept.amplitude []) h.same;
  few = let a = kept.fewer in let b = h.few in omega arith;
  done = h.done;
}

ended-none : (budget : ℕ) (m : Model) → Sound m → Shut m → reduced_next m ≡ None → Ended m (reduced budget m)
ended-none budget m good shut e = subst (Ended m) (sym (ran-none reduced_next budget m e)) (ended_here m good shut (progress m good shut e))

-- a step for each spider is enough
pub reduced_ends : (budget : ℕ) (m : Model) → Sound m → Shut m → standing m ≤ budget → Ended m (reduced budget m)
reduced_ends zero m good shut enough = ⊎_elim
    (λ h. let fewer = (next_kept m h.0 good h.1).fewer in absurd (omega arith))
    (ended-none zero m good shut)
    (some_or_none (reduced_next m))
reduced_ends (suc budget) m good shut enough = ⊎_elim
    (λ h.
    let n = h.0 in
    let kept = next_kept m n good h.1 in
    let fewer = kept.fewer in
    let rest = reduced_ends budget n kept.sound (kept_shut m n kept shut) (omega arith) in
    subst (Ended m) (sym (ran-more reduced_next budget m n h.1)) (ended-more m n (reduced budget n) kept rest))
    (ended-none (suc budget) m good shut)
    (some_or_none (reduced_next m))

-- what is left is the scalar
pub ended-scalar : (m : Model) (r : Run) → Ended m r → Same (amount m []) (scaled_by r.model.scalar unit)
ended-scalar m r h = subst (Same (amount m [])) (empty_amount r.model h.shut h.empty) h.same
