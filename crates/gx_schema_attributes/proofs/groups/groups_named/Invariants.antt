use Rattle.std.proofs.Common.{◌≡◌, ◌++◌, length}
use Rattle.gx_schema_attributes.specs.GroupUses.{groups_named}
use Rattle.gx_schema_attributes.proofs.groups.groups_named.Given as goal

abbrev pub invariant-loop-part : goal.invariant-loop-part
invariant-loop-part l = l.numbers.items ++ groups_named l.left ≡ groups_named l.fn.parts

abbrev pub decreases-loop-part : goal.decreases-loop-part
decreases-loop-part l = length l.left
