use Rattle.std.proofs.Common.{◌≡◌, cond, Some, sym, ap, ◌∙◌, subst, arith}
use Rattle.models.specs.Models.{Model}
use Rattle.reductions.specs.Kept.{Kept}
use Rattle.graphlike.specs.Diagrams.{model}
use Rattle.graphlike.proofs.Sounds.{sound}
use Rattle.rules.specs.Steps.{next_by, KeptByRun}
use Rattle.rules.proofs.Chains.{chain_more, chain_spent, chain_done, kept_more, next_some, next_none, none_left}
use Rattle.rules.proofs.run.run.Given as given
use Rattle.rules.proofs.run.run.Goals as goal

-- a step at the spot that was found is a step that the rule makes, and keeps what a rule keeps
stepped : (g : given.Over) (c : goal.After-step g) → model c.step.new.diagram ≡ g.R.Rule.does c.args.rule.now (model c.loop-steps.diagram) c.in-Some.spot
stepped g c =
    let r = c.args.rule.now in
    let m = model c.loop-steps.diagram in
    let s = c.in-Some.spot in
    let fits = g.met.R.Rule.found r m s (sound c.loop-steps.diagram) (sym c.find.ensures ∙ c.in-Some.is) in
    c.step.ensures.after ∙ ap (λ b. cond b (g.R.Rule.does r m s) m) fits

kept : (g : given.Over) (c : goal.After-step g) → Kept (model c.loop-steps.diagram) (model c.step.new.diagram)
kept g c =
    let r = c.args.rule.now in
    let m = model c.loop-steps.diagram in
    let s = c.in-Some.spot in
    let fits = g.met.R.Rule.found r m s (sound c.loop-steps.diagram) (sym c.find.ensures ∙ c.in-Some.is) in
    subst (λ (n : Model). Kept m n) (sym (stepped g c)) (g.met.R.Rule.keeps r m s (sound c.loop-steps.diagram) fits)

pub loop-steps-preserved : goal.loop-steps-preserved
loop-steps-preserved g c =
    let m = model c.loop-steps.diagram in
    let finds = g.R.Rule.finds c.args.rule.now in
    let does = g.R.Rule.does c.args.rule.now in
    let n = c.loop-steps.steps in (
      chain_more (next_by finds does) c.args.budget n (model c.args.diagram.now) m (model c.step.new.diagram) c.loop-steps.invariant.0 c.loop-steps-test.true (next_some finds does m c.in-Some.spot (sym c.find.ensures ∙ c.in-Some.is) ∙ ap (λ k. Some k) (sym (stepped g c))),
      kept_more (model c.args.diagram.now) m (model c.step.new.diagram) n c.loop-steps.invariant.1 (kept g c),
    )

pub returns-in_default : goal.returns-in_default
returns-in_default g c =
    let m = model c.loop-steps.diagram in
    let finds = g.R.Rule.finds c.args.rule.now in
    let does = g.R.Rule.does c.args.rule.now in
    let end = chain_done (next_by finds does) c.args.budget c.loop-steps.steps (model c.args.diagram.now) m c.loop-steps.invariant.0 (next_none finds does m (sym c.find.ensures ∙ c.in_default.is)) in
    record { steps = sym (ap (λ r. r.steps) end); finished = sym (ap (λ r. r.finished) end); after = sym (ap (λ r. r.model) end); kept = c.loop-steps.invariant.1 }

pub returns : goal.returns
returns g c =
    let m = model c.loop-steps.diagram in
    let finds = g.R.Rule.finds c.args.rule.now in
    let does = g.R.Rule.does c.args.rule.now in
    let over = c.loop-steps-test.false in
    let low = c.loop-steps.auto.steps-end in
    let same : c.loop-steps.steps ≡ c.args.budget = omega arith in
    let end = chain_spent (next_by finds does) c.args.budget c.loop-steps.steps (model c.args.diagram.now) m c.loop-steps.invariant.0 same in
    record {
      steps = sym (ap (λ r. r.steps) end);
      finished = none_left finds does m c.find-2.result c.is_none.result c.find-2.ensures c.is_none.ensures ∙ sym (ap (λ r. r.finished) end);
      after = sym (ap (λ r. r.model) end);
      kept = subst (λ n. KeptByRun (model c.args.diagram.now) n m) same c.loop-steps.invariant.1;
    }
