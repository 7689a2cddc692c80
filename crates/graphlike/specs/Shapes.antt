-- What a table of slots, legs and a scalar means. Assumes nothing.
use Rattle.models.specs.Models.{Model}
use Rattle.rows.specs.Rows.{has}
use Rattle.links.specs.Links.{linked, phase_at}
use Rattle.parts.specs.Tables.{leg_in}
use Rattle.parts.specs.Scales.{scale_of}
use Rattle.graphlike.specs.declared.table.Table.{Table}

abbrev pub shape : Table → Model
shape t = record {
  graph = record { stands = has t.standing; phase = phase_at t.phases; edge = linked t.links };
  leg = leg_in t.legs.table;
  scalar = scale_of t.scalar;
}
