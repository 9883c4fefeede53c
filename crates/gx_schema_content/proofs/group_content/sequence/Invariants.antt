use Rattle.std.proofs.Common.{◌≡◌, take}
use Rattle.std.specs.Prelude.{fold}
use Rattle.gx_types.specs.SequenceType.{never, nothing}
use Rattle.gx_types.specs.TypeRules.{joined_types}
use Rattle.gx_references.specs.Known.{known}
use Rattle.gx_schema_content.specs.GroupContents.{particle_content}
use Rattle.gx_schema_content.proofs.group_content.sequence.Given as goal

abbrev pub invariant-loop-particle : goal.invariant-loop-particle
invariant-loop-particle l = l.done ≡ fold (λ done particle. joined_types done (particle_content (known never l.table) particle)) nothing (take l.particle-index l.particles)
