use Rattle.std.proofs.Common.{◌≡◌, ◌++◌, length}
use Rattle.gx_schema_components.specs.Components.{group_definitions_in}
use Rattle.gx_schema_components.specs.DeclaredNames.{declarations_in}
use Rattle.gx_schema_components.proofs.components.group_definitions.Given as goal

-- those so far and those that are left
abbrev pub invariant-loop-document : goal.invariant-loop-document
invariant-loop-document l = l.groups.items ++ group_definitions_in (declarations_in l.left) ≡ group_definitions_in (declarations_in l.fn.documents)

abbrev pub decreases-loop-document : goal.decreases-loop-document
decreases-loop-document l = length l.left
