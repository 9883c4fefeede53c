use Rattle.std.proofs.Common.{◌≡◌, take}
use Rattle.gx_references.specs.Known.{known}
use Rattle.gx_schema_content.specs.declared.outline.Outline.TheVariants.{Never}
use Rattle.gx_schema_content.specs.Outlines.{choice_outline}
use Rattle.gx_schema_content.proofs.group_outlines.choice_outline.Given as goal

abbrev pub invariant-loop-particle : goal.invariant-loop-particle
invariant-loop-particle l = l.done ≡ choice_outline (known Never l.table) (take l.particle-index l.particles)
