-- The plain tree that a particle stands for.
use Rattle.std.specs.Prelude.{ℕ}
use Rattle.gx_schema_syntax.specs.declared.written.Bounds.{Bounds}
use Rattle.gx_schema_syntax.specs.declared.written.Term.{Term}
use Rattle.gx_schema_syntax.specs.declared.written.Term.TheVariants.{Element, Group, Model}
use Rattle.gx_schema_syntax.specs.ParticleTree.{ParticleTree, an_element, a_group, a_model_group, particles_of}

abbrev pub particle_of : (place : ℕ) → Bounds → Term → ParticleTree
particle_of place bounds (Element declaration) = an_element place bounds declaration
particle_of place bounds (Group reference) = a_group place bounds reference
particle_of place bounds (Model compositor particles) = a_model_group place bounds compositor (particles_of particles.items)
