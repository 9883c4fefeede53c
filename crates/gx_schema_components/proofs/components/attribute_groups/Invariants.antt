use Rattle.std.proofs.Common.{◌≡◌, ◌++◌, length}
use Rattle.gx_schema_components.specs.AttributeLists.{attribute_groups_of}
use Rattle.gx_schema_components.specs.DeclaredNames.{declarations_in}
use Rattle.gx_schema_components.specs.ReferredView.{globals_in}
use Rattle.gx_schema_components.proofs.components.attribute_groups.Given as goal

-- those so far and those that are left
abbrev pub invariant-loop-document : goal.invariant-loop-document
invariant-loop-document l = l.groups.items ++ attribute_groups_of (globals_in l.globals) (declarations_in l.left) ≡ attribute_groups_of (globals_in l.globals) (declarations_in l.fn.documents)

abbrev pub decreases-loop-document : goal.decreases-loop-document
decreases-loop-document l = length l.left
