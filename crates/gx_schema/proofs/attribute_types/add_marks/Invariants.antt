use Rattle.std.proofs.Common.{◌≡◌, ◌++◌, length, map}
use Rattle.gx_schema.specs.AttributeTypes.{is_complex_declaration}
use Rattle.gx_schema.proofs.attribute_types.add_marks.Given as goal

-- those so far and those that are left
abbrev pub invariant-loop-declaration : goal.invariant-loop-declaration
invariant-loop-declaration l = l.marks.items ++ map is_complex_declaration l.left ≡ l.fn.marks.items ++ map is_complex_declaration l.fn.types

abbrev pub decreases-loop-declaration : goal.decreases-loop-declaration
decreases-loop-declaration l = length l.left
