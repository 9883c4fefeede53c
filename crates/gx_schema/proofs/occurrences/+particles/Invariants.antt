use Rattle.std.proofs.Common.{◌≡◌, ◌≤◌, ◌+◌, ◌*◌, length}
use Rattle.gx_schema_syntax.specs.ParticleTree.{particle_size, particles_size, particles_of}
use Rattle.gx_schema.specs.Occurrences.{first_breaking_among}
use Rattle.gx_schema.proofs.occurrences.+particles.Given as goal

-- what is left decides
abbrev pub invariant-first_breaking_among-loop-particle : goal.invariant-first_breaking_among-loop-particle
invariant-first_breaking_among-loop-particle l = record {
  same : first_breaking_among l.rule (particles_of l.left) ≡ first_breaking_among l.rule (particles_of l.fn.particles);
  smaller : particles_size (particles_of l.left) ≤ particles_size (particles_of l.fn.particles);
}

abbrev pub decreases-first_breaking_among-loop-particle : goal.decreases-first_breaking_among-loop-particle
decreases-first_breaking_among-loop-particle l = length l.left

abbrev pub decreases-first_breaking : goal.decreases-first_breaking
decreases-first_breaking l = 2 * particle_size l.particle.now

abbrev pub decreases-first_breaking_among : goal.decreases-first_breaking_among
decreases-first_breaking_among l = 2 * particles_size (particles_of l.particles.now) + 1
