use Rattle.std.proofs.Common.{refl}
use Rattle.models.specs.Edits.{placed}
use Rattle.graphlike.proofs.Shapes.{same-model}
use Rattle.graphlike.proofs.table.Table.place.Goals as goal

pub returns : goal.returns
unfolding placed
returns c = same-model _ _ (record { stands = c.insert.ensures; phase = c.set.ensures; edge = λ s t. refl; leg = λ l. refl; scalar = refl })
