use Rattle.std.proofs.Common.{◌≡◌, ◌++◌, length, map}
use Rattle.gx_schema_components.specs.AttributeLists.{part_of_member}
use Rattle.gx_schema_components.specs.ReferredView.{globals_in}
use Rattle.gx_schema_components.proofs.attribute_lists.parts_of_members.Given as goal

-- those so far and those that are left
abbrev pub invariant-loop-member : goal.invariant-loop-member
invariant-loop-member l = l.parts.items ++ map (part_of_member (globals_in l.globals)) l.left ≡ map (part_of_member (globals_in l.globals)) l.fn.members

abbrev pub decreases-loop-member : goal.decreases-loop-member
decreases-loop-member l = length l.left
