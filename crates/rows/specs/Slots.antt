-- A slot by its own name, as the code has it. Assumes nothing.
use Rattle.rows.specs.declared.slot.Below.{Below}

abbrev pub Slot : Type 0
Slot = Below 320
