use Rattle.std.proofs.Common.{◌≡◌, ◌≤◌, ◌+◌, ◌*◌, length}
use Rattle.gx_schema_syntax.specs.ParticleTree.{particle_size, particles_size, particles_of}
use Rattle.gx_schema_components.specs.Mentions.{particles_mentions}
use Rattle.gx_schema_components.specs.NamesView.{number_in_tables}
use Rattle.gx_schema_components.specs.Unknown.{with_unknown}
use Rattle.gx_schema_components.proofs.mentions.+particles.Given as goal

-- what was found, and what is left
abbrev pub invariant-note_particles-loop-particle : goal.invariant-note_particles-loop-particle
invariant-note_particles-loop-particle l = record {
  same : with_unknown (number_in_tables l.numbers) l.found (particles_mentions (particles_of l.left)) ≡ with_unknown (number_in_tables l.numbers) l.fn.found (particles_mentions (particles_of l.fn.particles));
  smaller : particles_size (particles_of l.left) ≤ particles_size (particles_of l.fn.particles);
}

abbrev pub decreases-note_particles-loop-particle : goal.decreases-note_particles-loop-particle
decreases-note_particles-loop-particle l = length l.left

abbrev pub decreases-note_particle : goal.decreases-note_particle
decreases-note_particle l = 2 * particle_size l.particle.now

abbrev pub decreases-note_particles : goal.decreases-note_particles
decreases-note_particles l = 2 * particles_size (particles_of l.particles.now) + 1
