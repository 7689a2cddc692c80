use Rattle.graphlike.specs.Diagrams.{model}
use Rattle.loadings.proofs.Loads.{loading_keeps}
use Rattle.loader.proofs.load.load.Goals as goal

pub returns-clause-kept : goal.returns-clause-kept
returns-clause-kept g c = loading_keeps (g.S.Source.rest c.args.source.now) (model c.in_ok-diagram.field-0) (g.S.Source.rest c.take_all.new.source) c.in_ok-diagram.ensures
