use Rattle.std.proofs.Common.{◌≡◌, [], take}
use Rattle.gx_references.specs.Known.{known}
use Rattle.gx_schema_content.specs.Elements.{particles_elements, with_particles}
use Rattle.gx_schema_content.proofs.element_lists.add_particles.Given as goal

abbrev pub invariant-loop-particle : goal.invariant-loop-particle
invariant-loop-particle l = l.elements ≡ with_particles l.initial.elements (particles_elements (known [] l.groups) (take l.particle-index l.particles))
