use Rattle.std.proofs.Common.{◌≡◌, ◌++◌, length, map}
use Rattle.gx_schema_components.specs.DeclaredNames.{types_in}
use Rattle.gx_schema.specs.AttributeTypes.{is_complex_declaration}
use Rattle.gx_schema.proofs.attribute_types.complex_marks.Given as goal

-- those so far and those that are left
abbrev pub invariant-loop-document : goal.invariant-loop-document
invariant-loop-document l = l.marks.items ++ map is_complex_declaration (types_in l.left) ≡ map is_complex_declaration (types_in l.fn.documents)

abbrev pub decreases-loop-document : goal.decreases-loop-document
decreases-loop-document l = length l.left
