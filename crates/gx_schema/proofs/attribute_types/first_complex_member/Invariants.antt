use Rattle.std.proofs.Common.{◌≡◌, length}
use Rattle.gx_schema.specs.AttributeTypes.{first_complex_member}
use Rattle.gx_schema.specs.ComplexTypesView.{is_complex_in_table}
use Rattle.gx_schema.proofs.attribute_types.first_complex_member.Given as goal

-- what is left decides
abbrev pub invariant-loop-member : goal.invariant-loop-member
invariant-loop-member l = first_complex_member (is_complex_in_table l.table) l.left ≡ first_complex_member (is_complex_in_table l.table) l.fn.members

abbrev pub decreases-loop-member : goal.decreases-loop-member
decreases-loop-member l = length l.left
