use Rattle.std.proofs.Common.{◌≡◌, true, false, ◌&&◌, eqb, sym, ap, ◌∙◌, rules, tests}
use Rattle.std.specs.Option.{option_map}
use Rattle.rows.specs.Rows.{has}
use Rattle.rows.proofs.Walks.{first_taken}
use Rattle.graphlike.specs.Diagrams.{model}
use Rattle.reductions.specs.Rules.{degree, drop_fits}
use Rattle.reducers.proofs.Finding.{first_within_is}
use Rattle.reducers.proofs.removal.RemovalRule.find.Goals as goal

pub returns : goal.returns
returns c =
    let m = model c.args.diagram.now in
    let number : c.map.result ≡ option_map (λ s. s.number) c.find.result = search rules in
    let found = first_taken (λ s. s.left) (λ x. x.number) c.iter.result c.find.new.self _ c.find.result (λ k. eqb (degree m k) 0 ≡ true) (λ k. eqb (degree m k) 0 ≡ false) c.find.ensures.ran (λ x q k. search (rules, tests)) (λ x q k. search (rules, tests)) in
    number ∙ first_within_is (drop_fits m) (has c.iter.result.left) (λ k. eqb (degree m k) 0) (λ k. ap (λ e. e && eqb (degree m k) 0) (sym (ap (λ r. has r k) c.iter.ensures ∙ c.interior_even-even.ensures k))) c.find.result found
