use Rattle.std.proofs.Common.{refl, sym, ap, ◌∙◌}
use Rattle.circuits.specs.Circuits.{circuit}
use Rattle.circuits.proofs.Readings.{all_left}
use Rattle.circuits.proofs.Spelling.{spelled_reads}
use Rattle.circuits.proofs.Accepting.{accepted_spells}
use Rattle.circuits.proofs.text.CircuitText.new.Goals as goal

pub returns : goal.returns
returns c =
    let e = all_left _ refl refl c.in-Some.ensures.1 ∙ ap circuit c.in-Some.ensures.0 in
    record { rest = e; spelled = λ n gs s. e ∙ spelled_reads n gs c.args.text.now s; accepted = λ f. accepted_spells c.args.text.now (sym (ap (λ s. s.ending) e) ∙ f) }
