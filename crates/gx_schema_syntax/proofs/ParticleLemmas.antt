-- Particles that are pushed one by one.
use Rattle.std.proofs.Common.{◌≡◌, List, [], ◌∷◌, ◌++◌, refl, ap}
use Rattle.gx_schema_syntax.specs.ParticleTree.{ParticleTree, ParticleTrees, no_particles, a_particle, particles_of}

-- particles in front of others
abbrev pub particles_behind : List ParticleTree → ParticleTrees → ParticleTrees
particles_behind [] others = others
particles_behind (p ∷ ps) others = a_particle p (particles_behind ps others)

pub particles_behind_push : (ps : List ParticleTree) (p : ParticleTree) (others : ParticleTrees) → particles_behind (ps ++ p ∷ []) others ≡ particles_behind ps (a_particle p others)
particles_behind_push [] p others = refl
particles_behind_push (q ∷ ps) p others = ap (a_particle q) (particles_behind_push ps p others)

pub particles_behind_none : (ps : List ParticleTree) → particles_behind ps no_particles ≡ particles_of ps
particles_behind_none [] = refl
particles_behind_none (p ∷ ps) = ap (a_particle p) (particles_behind_none ps)

pub ruleset particle_rules = (particles_behind_push, particles_behind_none)
