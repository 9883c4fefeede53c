-- Particles as they are written (XML Schema 1.0 part 1, sections 3.8 and 3.9).
use Rattle.std.specs.Prelude.{ℕ, ◌+◌, List, [], ◌∷◌}
use Rattle.gx_qnames.specs.declared.reference.Reference.{Reference}
use Rattle.gx_schema_syntax.specs.declared.role.Compositor.{Compositor}
use Rattle.gx_schema_syntax.specs.declared.written.Bounds.{Bounds}
use Rattle.gx_schema_syntax.specs.declared.written.LocalDeclaration.{LocalDeclaration}

mutual
  pub data ParticleTree : Type 0 where
    an_element : (place : ℕ) (bounds : Bounds) (declaration : LocalDeclaration) → ParticleTree
    a_group : (place : ℕ) (bounds : Bounds) (reference : Reference) → ParticleTree
    a_model_group : (place : ℕ) (bounds : Bounds) (compositor : Compositor) (particles : ParticleTrees) → ParticleTree

  pub data ParticleTrees : Type 0 where
    no_particles : ParticleTrees
    a_particle : (first : ParticleTree) (others : ParticleTrees) → ParticleTrees

-- how many particles stand in one
abbrev mutual
  pub particle_size : ParticleTree → ℕ
  particle_size (an_element place bounds declaration) = 1
  particle_size (a_group place bounds reference) = 1
  particle_size (a_model_group place bounds compositor particles) = 2 + particles_size particles

  pub particles_size : ParticleTrees → ℕ
  particles_size no_particles = 0
  particles_size (a_particle first others) = particle_size first + particles_size others

abbrev pub particles_of : List ParticleTree → ParticleTrees
particles_of [] = no_particles
particles_of (p ∷ ps) = a_particle p (particles_of ps)
