use Rattle.std.proofs.Common.{◌≡◌, length}
use Rattle.gx_schema.specs.AttributeTypes.{complex_in_global}
use Rattle.gx_schema.specs.ComplexTypesView.{is_complex_in_table}
use Rattle.gx_schema.specs.FirstFound.{earlier_found, first_found}
use Rattle.gx_schema.proofs.attribute_types.note_globals.Given as goal

-- what was found, and what is left
abbrev pub invariant-loop-declaration : goal.invariant-loop-declaration
invariant-loop-declaration l =
    earlier_found l.found (first_found (complex_in_global (is_complex_in_table l.table) l.file) l.left) ≡ earlier_found l.fn.found (first_found (complex_in_global (is_complex_in_table l.table) l.file) l.fn.declarations)

abbrev pub decreases-loop-declaration : goal.decreases-loop-declaration
decreases-loop-declaration l = length l.left
