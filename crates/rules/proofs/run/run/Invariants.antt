use Rattle.std.proofs.Common.{◌≡◌, ◌-◌}
use Rattle.reductions.specs.Runs.{ran}
use Rattle.graphlike.specs.Diagrams.{model}
use Rattle.rules.specs.Steps.{next_by, KeptByRun}
use Rattle.rules.proofs.Chains.{after-steps}
use Rattle.rules.proofs.run.run.Given as goal

-- the run from the start is the steps so far, and then the run from here with what is left of the budget
abbrev pub invariant-loop-steps : goal.invariant-loop-steps
invariant-loop-steps g l =
    (ran (next_by (g.R.Rule.finds l.rule) (g.R.Rule.does l.rule)) l.budget (model l.initial.diagram) ≡ after-steps l.steps (ran (next_by (g.R.Rule.finds l.rule) (g.R.Rule.does l.rule)) (l.budget - l.steps) (model l.diagram)))
    × KeptByRun (model l.initial.diagram) l.steps (model l.diagram)
