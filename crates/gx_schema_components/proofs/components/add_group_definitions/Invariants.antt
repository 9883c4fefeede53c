use Rattle.std.proofs.Common.{◌≡◌, ◌++◌, length}
use Rattle.gx_schema_components.specs.Components.{group_definitions_in}
use Rattle.gx_schema_components.proofs.components.add_group_definitions.Given as goal

-- those so far and those that are left
abbrev pub invariant-loop-declaration : goal.invariant-loop-declaration
invariant-loop-declaration l = l.groups.items ++ group_definitions_in l.left ≡ l.fn.groups.items ++ group_definitions_in l.fn.declarations

abbrev pub decreases-loop-declaration : goal.decreases-loop-declaration
decreases-loop-declaration l = length l.left
