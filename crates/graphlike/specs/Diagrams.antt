-- What a working diagram means. Assumes nothing.
use Rattle.models.specs.Models.{Model}
use Rattle.graphlike.specs.Shapes.{shape}
use Rattle.graphlike.specs.declared.table.diagram.Diagram.{Diagram}

abbrev pub model : Diagram → Model
model d = shape d.table
