use Rattle.std.proofs.Common.{◌≡◌, negsuc, Err, sym, refl, ap, ◌∙◌}
use Rattle.std.proofs.lemmas.Result.{err_from_is_err_and}
use Rattle.refusals.specs.declared.LoadRefusal.TheVariants.{ScalarOutOfRange}
use Rattle.diagrams.specs.declared.items.Kind.TheVariants.{Hadamard}
use Rattle.diagrams.specs.declared.items.Item.TheVariants.{Wire}
use Rattle.amplitudes.specs.Items.{at_end}
use Rattle.models.specs.Models.{Model}
use Rattle.models.specs.Edits.{product}
use Rattle.loadings.specs.Loadings.{Loading, goes_on, refuses, within, paid, with_wire}
use Rattle.loadings.proofs.Taken.{good_taken}
use Rattle.graphlike.specs.Diagrams.{model}
use Rattle.loader.specs.Givens.{loading_of}
use Rattle.loader.specs.States.{state}
use Rattle.loader.proofs.Answers.{went_on, was_refused}
use Rattle.loader.proofs.Items.{model-given, hadamard-scalar, hadamard_made, wire_on, ends_join}
use Rattle.loader.proofs.Taking.{comes, judged-within, judged_beyond}
use Rattle.loader.proofs.loading.Loading.take_wire.Goals as goal

pub returns-in_err-afford-in-Hadamard : goal.returns-in_err-afford-in-Hadamard
returns-in_err-afford-in-Hadamard c =
    let l = c.args.self.now in
    let m = model l.diagram in
    let s = state l in
    let d = c.args.wire in
    let f = c.in_ok-first.first in
    let g = c.in_ok-second.second in
    let x = f.slot.number in
    let y = g.slot.number in
    let kind = sym c.in-Hadamard.is ∙ c.at_end-2.ensures ∙ ap (at_end f.colour) c.at_end.ensures in
    let none = ap (λ t. t.parts) c.of.ensures in
    let cost : within (product (negsuc 0) c.of.result.parts s.model.scalar) ≡ within (with_wire Hadamard x y s).model.scalar = ap (λ t. within (product (negsuc 0) t s.model.scalar)) none ∙ ap within (sym (hadamard-scalar s x y)) in
    let off = was_refused (within (product (negsuc 0) c.of.result.parts s.model.scalar)) (ScalarOutOfRange l.item) _ (sym c.afford.ensures ∙ c.in_err-afford-in-Hadamard.was) in
    let p = err_from_is_err_and c.from_residual-in_err-afford-in-Hadamard.result c.from_residual-in_err-afford-in-Hadamard.ensures.1 in
    comes _ (refuses ScalarOutOfRange) l.item l.item _ l (wire_on s d f g Hadamard c.in_ok-first.ensures c.in_ok-second.ensures kind ∙ judged_beyond (with_wire Hadamard x y s) (sym cost ∙ off.0)) (p.1 ∙ ap (λ e. Err e) (p.2 ∙ off.1))

pub join-requires : goal.join-requires
join-requires c = ends_join (model c.args.self.now.diagram) c.args.self.now.spiders.items c.args.self.now.legs c.args.wire c.in_ok-first.first c.in_ok-second.second c.args.self.now.good c.in_ok-first.ensures c.in_ok-second.ensures

pub pay-requires : goal.pay-requires
pay-requires c =
    let l = c.args.self.now in
    let m = model l.diagram in
    let s = state l in
    let d = c.args.wire in
    let f = c.in_ok-first.first in
    let g = c.in_ok-second.second in
    let x = f.slot.number in
    let y = g.slot.number in
    let kind = sym c.in-Hadamard.is ∙ c.at_end-2.ensures ∙ ap (at_end f.colour) c.at_end.ensures in
    let none = ap (λ t. t.parts) c.of.ensures in
    let cost : within (product (negsuc 0) c.of.result.parts s.model.scalar) ≡ within (with_wire Hadamard x y s).model.scalar = ap (λ t. within (product (negsuc 0) t s.model.scalar)) none ∙ ap within (sym (hadamard-scalar s x y)) in
    let on = went_on (within (product (negsuc 0) c.of.result.parts s.model.scalar)) (ScalarOutOfRange l.item) _ (sym c.afford.ensures ∙ c.in_ok-afford-in-Hadamard.was) in
    let made = hadamard_made m (paid Hadamard (model c.join.new.diagram)) l.spiders.items l.legs x y (ap (paid Hadamard) c.join.ensures) in
    ap (λ (n : Model). within n.scalar) (sym (model-given (paid Hadamard (model c.join.new.diagram)) l.spiders.items l.legs)) ∙ ap (λ (t : Loading). within t.model.scalar) made ∙ sym cost ∙ on

pub invariant_of-self : goal.invariant_of-self
invariant_of-self c =
    let l = c.args.self.now in
    let m = model l.diagram in
    let s = state l in
    let d = c.args.wire in
    let f = c.in_ok-first.first in
    let g = c.in_ok-second.second in
    let x = f.slot.number in
    let y = g.slot.number in
    let kind = sym c.in-Hadamard.is ∙ c.at_end-2.ensures ∙ ap (at_end f.colour) c.at_end.ensures in
    let none = ap (λ t. t.parts) c.of.ensures in
    let cost : within (product (negsuc 0) c.of.result.parts s.model.scalar) ≡ within (with_wire Hadamard x y s).model.scalar = ap (λ t. within (product (negsuc 0) t s.model.scalar)) none ∙ ap within (sym (hadamard-scalar s x y)) in
    let on = went_on (within (product (negsuc 0) c.of.result.parts s.model.scalar)) (ScalarOutOfRange l.item) _ (sym c.afford.ensures ∙ c.in_ok-afford-in-Hadamard.was) in
    let made = hadamard_made m (model c.pay.new.diagram) l.spiders.items l.legs x y (c.pay.ensures ∙ ap (paid Hadamard) c.join.ensures) in
    record { good = good_taken s (loading_of (model c.pay.new.diagram) l.spiders.items l.legs) (Wire d) l.good (wire_on s d f g Hadamard c.in_ok-first.ensures c.in_ok-second.ensures kind ∙ judged-within (with_wire Hadamard x y s) (sym cost ∙ on) ∙ ap goes_on (sym made)) }

pub returns-in_ok-afford-in-Hadamard : goal.returns-in_ok-afford-in-Hadamard
returns-in_ok-afford-in-Hadamard c =
    let l = c.args.self.now in
    let m = model l.diagram in
    let s = state l in
    let d = c.args.wire in
    let f = c.in_ok-first.first in
    let g = c.in_ok-second.second in
    let x = f.slot.number in
    let y = g.slot.number in
    let kind = sym c.in-Hadamard.is ∙ c.at_end-2.ensures ∙ ap (at_end f.colour) c.at_end.ensures in
    let none = ap (λ t. t.parts) c.of.ensures in
    let cost : within (product (negsuc 0) c.of.result.parts s.model.scalar) ≡ within (with_wire Hadamard x y s).model.scalar = ap (λ t. within (product (negsuc 0) t s.model.scalar)) none ∙ ap within (sym (hadamard-scalar s x y)) in
    let on = went_on (within (product (negsuc 0) c.of.result.parts s.model.scalar)) (ScalarOutOfRange l.item) _ (sym c.afford.ensures ∙ c.in_ok-afford-in-Hadamard.was) in
    let made = hadamard_made m (model c.pay.new.diagram) l.spiders.items l.legs x y (c.pay.ensures ∙ ap (paid Hadamard) c.join.ensures) in
    comes _ _ l.item l.item _ _ (wire_on s d f g Hadamard c.in_ok-first.ensures c.in_ok-second.ensures kind ∙ judged-within (with_wire Hadamard x y s) (sym cost ∙ on) ∙ ap goes_on (sym made)) (refl, refl, refl)
