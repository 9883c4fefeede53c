use Rattle.std.proofs.Common.{◌≡◌, map, take}
use Rattle.gx_schema_content.specs.ElementViews.{group_listed}
use Rattle.gx_schema_content.proofs.element_lists.listed_groups.Given as goal

abbrev pub invariant-loop-group : goal.invariant-loop-group
invariant-loop-group l = map group_listed l.bodies.items ≡ take l.group-index l.groups
