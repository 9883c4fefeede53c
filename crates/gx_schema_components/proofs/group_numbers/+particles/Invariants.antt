use Rattle.std.proofs.Common.{◌≡◌, ◌++◌, ◌≤◌, ◌+◌, ◌*◌, length}
use Rattle.gx_schema_syntax.specs.ParticleTree.{particle_size, particles_size, particles_of}
use Rattle.gx_schema_components.specs.GroupNumbers.{particles_placed}
use Rattle.gx_schema_components.specs.ReferredView.{globals_in}
use Rattle.gx_schema_components.proofs.group_numbers.+particles.Given as goal

-- the particles so far and those that are left
abbrev pub invariant-particles_placed-loop-particle : goal.invariant-particles_placed-loop-particle
invariant-particles_placed-loop-particle l = record {
  groups_behind : (particles_placed (globals_in l.globals) l.first l.groups.items (particles_of l.left)).groups ≡ (particles_placed (globals_in l.globals) l.first l.fn.groups.items (particles_of l.fn.particles)).groups;
  items : l.placed.items ++ (particles_placed (globals_in l.globals) l.first l.groups.items (particles_of l.left)).placed ≡ (particles_placed (globals_in l.globals) l.first l.fn.groups.items (particles_of l.fn.particles)).placed;
  smaller : particles_size (particles_of l.left) ≤ particles_size (particles_of l.fn.particles);
}

abbrev pub decreases-particles_placed-loop-particle : goal.decreases-particles_placed-loop-particle
decreases-particles_placed-loop-particle l = length l.left

abbrev pub decreases-particle_placed : goal.decreases-particle_placed
decreases-particle_placed l = 3 * particle_size l.particle.now

abbrev pub decreases-group_placed : goal.decreases-group_placed
decreases-group_placed l = 3 * particles_size (particles_of l.particles.now) + 2

abbrev pub decreases-particles_placed : goal.decreases-particles_placed
decreases-particles_placed l = 3 * particles_size (particles_of l.particles.now) + 1
