use Rattle.std.proofs.Common.{◌≡◌, map, take}
use Rattle.gx_schema_content.specs.OutlineViews.{group_outlined}
use Rattle.gx_schema_content.proofs.group_outlines.outlined_groups.Given as goal

abbrev pub invariant-loop-group : goal.invariant-loop-group
invariant-loop-group l = map group_outlined l.bodies.items ≡ take l.group-index l.groups
