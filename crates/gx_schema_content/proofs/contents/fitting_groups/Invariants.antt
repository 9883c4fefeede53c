use Rattle.std.proofs.Common.{◌≡◌, map, take}
use Rattle.gx_references.specs.Known.{known}
use Rattle.gx_schema_content.specs.Views.{fitting_by, group_filled}
use Rattle.gx_schema_content.proofs.contents.fitting_groups.Given as goal

abbrev pub invariant-loop-group : goal.invariant-loop-group
invariant-loop-group l = map group_filled l.bodies.items ≡ map (fitting_by (known 0 l.positions)) (take l.group-index l.groups)
