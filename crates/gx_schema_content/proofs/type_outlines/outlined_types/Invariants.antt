use Rattle.std.proofs.Common.{◌≡◌, map, take}
use Rattle.gx_references.specs.Known.{known}
use Rattle.gx_schema_content.specs.declared.outline.Outline.TheVariants.{Never}
use Rattle.gx_schema_content.specs.OutlineViews.{outlined_over, type_outlined}
use Rattle.gx_schema_content.proofs.type_outlines.outlined_types.Given as goal

abbrev pub invariant-loop-component : goal.invariant-loop-component
invariant-loop-component l = map type_outlined l.bodies.items ≡ map (outlined_over (known Never l.groups)) (take l.component-index l.types)
