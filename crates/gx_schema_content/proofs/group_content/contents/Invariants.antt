use Rattle.std.proofs.Common.{◌≡◌, take, map}
use Rattle.gx_types.specs.SequenceType.{never}
use Rattle.gx_references.specs.Known.{known}
use Rattle.gx_schema_content.specs.GroupContents.{particle_content}
use Rattle.gx_schema_content.proofs.group_content.contents.Given as goal

abbrev pub invariant-loop-particle : goal.invariant-loop-particle
invariant-loop-particle l = l.contents.items ≡ map (particle_content (known never l.table)) (take l.particle-index l.particles)
