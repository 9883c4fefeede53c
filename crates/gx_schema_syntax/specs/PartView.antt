-- What a row of the code's table of parts stands for.
use Rattle.std.specs.Prelude.{ℕ, List}
use Rattle.gx_schema_syntax.specs.declared.parts.Slot.{Slot}
use Rattle.gx_schema_syntax.specs.declared.parts.PartRow.{PartRow}

abbrev pub part_row : PartRow → List ℕ × Slot
part_row row = (row.name.now, row.slot)
