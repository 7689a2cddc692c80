use Rattle.std.proofs.Common.{pos, ap}
use Rattle.models.specs.Models.{root}
use Rattle.models.specs.Edits.{blank}
use Rattle.graphlike.proofs.Shapes.{same-model}
use Rattle.graphlike.proofs.table.Table.blank.Goals as goal

pub returns : goal.returns
unfolding blank
returns c = same-model _ _ (record {
  stands = c.empty-2.ensures;
  phase = c.none.ensures;
  edge = c.empty.ensures;
  leg = c.none-2.ensures;
  scalar = ap (λ t. root (pos 0) t.parts) c.of.ensures;
})
