-- The parts of a particle are smaller than it.
use Rattle.std.specs.Prelude.{ℕ, ◌+◌, ◌≤◌, max, List, [], ◌∷◌}
use Rattle.std.proofs.Common.{arith}
use denote.Param.Weighed.{most, w_this}
use Rattle.gx_schema_syntax.specs.declared.written.Bounds.{Bounds}
use Rattle.gx_schema_syntax.specs.declared.written.Particle.{Particle}
use Rattle.gx_schema_syntax.specs.declared.written.Particle.TheInside.{Inside}
use Rattle.gx_schema_syntax.specs.declared.written.Particle.TheDeep.{deep-Particle, deep-Term}
use Rattle.gx_schema_syntax.specs.declared.written.Particle.TheView.{size}
use Rattle.gx_schema_syntax.specs.declared.written.Term.{Term}
use Rattle.gx_schema_syntax.specs.declared.written.Term.TheVariants.{Element, Group, Model}
use Rattle.gx_schema_syntax.specs.ParticleTree.{ParticleTree, particle_size, particles_size, particles_of}
use Rattle.gx_schema_syntax.specs.ParticleView.{particle_of}

-- no particle of a list is larger than all of them together
most_le-particles_size : (ps : List ParticleTree) → most (λ p. size p + 1) ps ≤ particles_size (particles_of ps) + 1
unfolding size
most_le-particles_size [] = omega arith
most_le-particles_size (p ∷ ps) = omega (arith, most_le-particles_size ps)

term_is_smaller : (place : ℕ) (bounds : Bounds) (t : Term) → deep-Term t ≤ particle_size (particle_of place bounds t)
term_is_smaller place bounds (Element declaration) = omega arith
term_is_smaller place bounds (Group reference) = omega arith
term_is_smaller place bounds (Model compositor particles) = omega (arith, most_le-particles_size particles.items)

pub particle_parts_are_smaller : (p : Inside) → deep-Particle p ≤ particle_size (particle_of p.place p.bounds p.term)
particle_parts_are_smaller p = omega (arith, term_is_smaller p.place p.bounds p.term)
