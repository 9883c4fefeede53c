use Rattle.std.proofs.Common.{◌≡◌, ◌∷◌, List, ap, arith}
use Rattle.gx_schema_syntax.specs.ParticleTree.{ParticleTree, particles_of, particles_size}
use Rattle.gx_schema_components.specs.ReferredView.{globals_in}
use Rattle.gx_schema_components.proofs.ParticleSteps.{particle_groups-step, particle_items-step}
use Rattle.gx_schema_components.proofs.group_numbers.+particles.Goals as goal

pub particles_placed-loop-particle-preserved : goal.particles_placed-loop-particle-preserved
particles_placed-loop-particle-preserved t c =
    let split : c.loop-particle.left.now ≡ c.in-Some.particle.now ∷ c.in-Some.others.now = c.in-Some.ensures.cases.0 in
    record {
      groups_behind = particle_groups-step (globals_in c.args.globals.now) c.args.first c.loop-particle.groups.items c.particle_placed.new.groups.items _ c.loop-particle.left.now c.in-Some.particle.now c.in-Some.others.now
          split c.in_ok-particle_placed.ensures.groups c.loop-particle.invariant.groups_behind;
      items = particle_items-step (globals_in c.args.globals.now) c.args.first c.loop-particle.groups.items c.particle_placed.new.groups.items c.loop-particle.left.now c.in-Some.particle.now c.in-Some.others.now c.loop-particle.placed.items c.push.new.self.items _ c.in_ok-particle_placed.field-0
          split c.in_ok-particle_placed.ensures.groups c.in_ok-particle_placed.ensures.placed c.in_ok-push.ensures.items c.loop-particle.invariant.items;
      smaller = omega (arith, ap (λ (ps : List ParticleTree). particles_size (particles_of ps)) split, c.loop-particle.invariant.smaller);
    }
