-- What loading a source answers and leaves. Assumes nothing.
use Rattle.std.specs.Prelude.{Ok, Err, Result}
use Rattle.refusals.specs.declared.LoadRefusal.{LoadRefusal}
use Rattle.diagrams.specs.Streams.{Stream}
use Rattle.models.specs.Models.{Model}
use Rattle.models.specs.Edits.{blank}
use Rattle.loadings.specs.Loadings.{Loaded, accepted, refused}

abbrev pub answer_of : Loaded → Result Prim.Unit LoadRefusal
answer_of (accepted m s) = Ok tt
answer_of (refused why s) = Err why

-- a refused loading leaves nothing
abbrev pub model_of : Loaded → Model
model_of (accepted m s) = m
model_of (refused why s) = blank

abbrev pub left_of : Loaded → Stream
left_of (accepted m s) = s
left_of (refused why s) = s
