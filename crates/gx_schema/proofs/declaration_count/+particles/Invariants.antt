use Rattle.std.proofs.Common.{◌≡◌, ◌≤◌, ◌+◌, ◌*◌, ◌++◌, length}
use Rattle.gx_schema_syntax.specs.ParticleTree.{particle_size, particles_size, particles_of}
use Rattle.gx_schema.specs.DeclarationCount.{elements_counted_among}
use Rattle.gx_schema.proofs.declaration_count.+particles.Given as goal

-- those so far and those that are left
abbrev pub invariant-add_elements_among-loop-particle : goal.invariant-add_elements_among-loop-particle
invariant-add_elements_among-loop-particle l = record {
  same : l.counted.items ++ elements_counted_among l.file (particles_of l.left) ≡ l.fn.counted.items ++ elements_counted_among l.file (particles_of l.fn.particles);
  smaller : particles_size (particles_of l.left) ≤ particles_size (particles_of l.fn.particles);
}

abbrev pub decreases-add_elements_among-loop-particle : goal.decreases-add_elements_among-loop-particle
decreases-add_elements_among-loop-particle l = length l.left

abbrev pub decreases-add_elements : goal.decreases-add_elements
decreases-add_elements l = 2 * particle_size l.particle.now

abbrev pub decreases-add_elements_among : goal.decreases-add_elements_among
decreases-add_elements_among l = 2 * particles_size (particles_of l.particles.now) + 1
