use Rattle.std.proofs.Common.{◌≡◌, ◌++◌, length}
use Rattle.std.specs.List.{flat_map}
use Rattle.gx_schema_components.specs.AttributeLists.{attribute_group_of}
use Rattle.gx_schema_components.specs.ReferredView.{globals_in}
use Rattle.gx_schema_components.proofs.attribute_lists.add_attribute_groups.Given as goal

-- those so far and those that are left
abbrev pub invariant-loop-declaration : goal.invariant-loop-declaration
invariant-loop-declaration l = l.groups.items ++ flat_map (attribute_group_of (globals_in l.globals)) l.left ≡ l.fn.groups.items ++ flat_map (attribute_group_of (globals_in l.globals)) l.fn.declarations

abbrev pub decreases-loop-declaration : goal.decreases-loop-declaration
decreases-loop-declaration l = length l.left
