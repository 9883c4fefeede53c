use Rattle.std.proofs.Common.{◌≡◌, map, take}
use Rattle.gx_schema_content.specs.Views.{group_counted}
use Rattle.gx_schema_content.proofs.positions.counted_groups.Given as goal

abbrev pub invariant-loop-group : goal.invariant-loop-group
invariant-loop-group l = map group_counted l.bodies.items ≡ take l.group-index l.groups
