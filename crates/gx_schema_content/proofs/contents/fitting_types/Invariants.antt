use Rattle.std.proofs.Common.{◌≡◌, map, take}
use Rattle.gx_types.specs.SequenceType.{never}
use Rattle.gx_references.specs.Known.{known}
use Rattle.gx_schema_content.specs.Views.{fitting_over, type_filled}
use Rattle.gx_schema_content.proofs.contents.fitting_types.Given as goal

abbrev pub invariant-loop-component : goal.invariant-loop-component
invariant-loop-component l =
    map type_filled l.bodies.items ≡ map (fitting_over (known 0 l.tables.groups.items) (known 0 l.tables.types.items) (known never l.groups)) (take l.component-index l.types)
