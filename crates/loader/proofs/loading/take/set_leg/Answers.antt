use Rattle.std.proofs.Common.{true, false, sym, ap, ◌∙◌}
use Rattle.diagrams.specs.declared.items.Setting.{Setting}
use Rattle.loadings.specs.Loadings.{within}
use Rattle.parts.specs.Tables.{open_leg}
use Rattle.graphlike.specs.Diagrams.{model}
use Rattle.loader.specs.Legs.{leg_set, leg_put}
use Rattle.loader.proofs.Legs.{hold_done, hold_paid}
use Rattle.loader.proofs.loading.take.set_leg.Goals as goal

pub returns-in-HeldZero : goal.returns-in-HeldZero
returns-in-HeldZero c =
    let l = c.args.leg.number in
    let o = open_leg c.args.«open» in
    let m = model c.args.diagram.now in
    let set = c.in-HeldZero.is in
    let pays = hold_paid l o m c.requires.guards false o.kind (ap (λ (s : Setting). within (leg_put l o s m).scalar) (sym set) ∙ c.requires.within) in
    c.hold.ensures.after ∙ hold_done l o m c.requires.guards false o.kind pays ∙ ap (λ (s : Setting). leg_set l o s m) (sym set)

pub returns-in-HeldOne : goal.returns-in-HeldOne
returns-in-HeldOne c =
    let l = c.args.leg.number in
    let o = open_leg c.args.«open» in
    let m = model c.args.diagram.now in
    let set = c.in-HeldOne.is in
    let pays = hold_paid l o m c.requires.guards true o.kind (ap (λ (s : Setting). within (leg_put l o s m).scalar) (sym set) ∙ c.requires.within) in
    c.hold-in-HeldOne.ensures.after ∙ hold_done l o m c.requires.guards true o.kind pays ∙ ap (λ (s : Setting). leg_set l o s m) (sym set)
