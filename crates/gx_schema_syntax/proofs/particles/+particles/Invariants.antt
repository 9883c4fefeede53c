use Rattle.std.proofs.Common.{◌≡◌, ◌≤◌, ◌+◌, ◌*◌, ◌-◌, length}
use Rattle.gx_xml.specs.SourceTree.{source_size, contents_size}
use Rattle.gx_xml.specs.SourceView.{contents_of}
use Rattle.gx_schema_syntax.specs.Declarations.{particles_written}
use Rattle.gx_qnames.specs.ScopeView.{declared_in}
use Rattle.gx_schema_syntax.proofs.ParticleLemmas.{particles_behind}
use Rattle.gx_schema_syntax.proofs.particles.+particles.Given as goal

-- the particles so far and those that are left
abbrev pub invariant-particles_written-loop-child : goal.invariant-particles_written-loop-child
invariant-particles_written-loop-child l = record {
  particles : particles_behind l.particles.items (particles_written l.context (declared_in l.scope) l.at (contents_of l.left)) ≡ particles_written l.context (declared_in l.scope) l.fn.at (contents_of l.fn.children);
  smaller : contents_size (contents_of l.left) ≤ contents_size (contents_of l.fn.children);
}

abbrev pub decreases-particles_written-loop-child : goal.decreases-particles_written-loop-child
decreases-particles_written-loop-child l = length l.left

abbrev pub decreases-particle_written : goal.decreases-particle_written
decreases-particle_written l = 3 * source_size l.element.now

abbrev pub decreases-model_group : goal.decreases-model_group
decreases-model_group l = 3 * source_size l.element.now - 1

abbrev pub decreases-particles_written : goal.decreases-particles_written
decreases-particles_written l = 3 * contents_size (contents_of l.children.now) + 1
