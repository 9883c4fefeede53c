use Rattle.std.proofs.Common.{◌≡◌, length}
use Rattle.gx_schema.specs.AttributeTypes.{complex_from}
use Rattle.gx_schema.specs.ComplexTypesView.{is_complex_in_table}
use Rattle.gx_schema.specs.FirstFound.{earlier_found}
use Rattle.gx_schema.proofs.attribute_types.first_complex.Given as goal

-- what was found, and what is left
abbrev pub invariant-loop-document : goal.invariant-loop-document
invariant-loop-document l = earlier_found l.found (complex_from (is_complex_in_table l.table) l.file l.left) ≡ complex_from (is_complex_in_table l.table) 0 l.fn.documents

abbrev pub decreases-loop-document : goal.decreases-loop-document
decreases-loop-document l = length l.left
