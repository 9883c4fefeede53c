use Rattle.std.proofs.Common.{◌≡◌, map, take}
use Rattle.gx_references.specs.Known.{known}
use Rattle.gx_schema_content.specs.Views.{counted_over, type_counted}
use Rattle.gx_schema_content.proofs.positions.counted_types.Given as goal

abbrev pub invariant-loop-component : goal.invariant-loop-component
invariant-loop-component l = map type_counted l.bodies.items ≡ map (counted_over (known 0 l.groups)) (take l.component-index l.types)
