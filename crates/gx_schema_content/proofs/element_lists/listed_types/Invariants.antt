use Rattle.std.proofs.Common.{◌≡◌, [], map, take}
use Rattle.gx_references.specs.Known.{known}
use Rattle.gx_schema_content.specs.ElementViews.{listed_over, type_listed}
use Rattle.gx_schema_content.proofs.element_lists.listed_types.Given as goal

abbrev pub invariant-loop-component : goal.invariant-loop-component
invariant-loop-component l = map type_listed l.bodies.items ≡ map (listed_over (known [] l.groups)) (take l.component-index l.types)
