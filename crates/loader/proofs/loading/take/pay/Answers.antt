use Rattle.std.proofs.Common.{◌≡◌, true, negsuc, sym, ap, ◌∙◌, rules}
use Rattle.models.specs.Edits.{scaled, can_scale}
use Rattle.loadings.specs.Loadings.{within, paid}
use Rattle.loadings.proofs.Guards.{can_scale-judged}
use Rattle.diagrams.specs.declared.items.Kind.TheVariants.{Hadamard}
use Rattle.graphlike.specs.Diagrams.{model}
use Rattle.loader.proofs.Items.{when_done}
use Rattle.loader.proofs.loading.take.pay.Goals as goal

pub returns-then-eq : goal.returns-then-eq
returns-then-eq c =
    let m = model c.args.diagram.now in
    let kind : c.args.kind ≡ Hadamard = search rules in
    let none = ap (λ t. t.parts) c.of.ensures in
    let can : can_scale (negsuc 0) c.of.result.parts m ≡ true = ap (λ t. can_scale (negsuc 0) t m) none ∙ can_scale-judged (negsuc 0) 0 m (ap (λ k. within (paid k m).scalar) (sym kind) ∙ c.requires) in
    when_done c.scale.result (scaled (negsuc 0) c.of.result.parts m) m (model c.scale.new.self) (c.scale.ensures.done ∙ can) c.scale.ensures.after ∙ ap (λ t. scaled (negsuc 0) t m) none ∙ ap (λ k. paid k m) (sym kind)
