use Rattle.std.proofs.Common.{◌≡◌, ◌++◌, length}
use Rattle.gx_schema_attributes.specs.GroupUses.{group_parts}
use Rattle.gx_schema_attributes.proofs.groups.group_parts.Given as goal

abbrev pub invariant-loop-group : goal.invariant-loop-group
invariant-loop-group l = l.parts.items ++ group_parts l.left ≡ group_parts l.fn.groups

abbrev pub decreases-loop-group : goal.decreases-loop-group
decreases-loop-group l = length l.left
