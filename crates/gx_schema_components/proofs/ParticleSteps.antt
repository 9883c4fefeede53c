-- What is placed of particles, one at a time.
use Rattle.std.proofs.Common.{◌≡◌, ◌∙◌, ℕ, List, [], ◌∷◌, ◌++◌, sym, ap, append_assoc}
use Rattle.gx_schema_syntax.specs.ParticleTree.{ParticleTree, particles_of}
use Rattle.gx_schema_components.specs.declared.component.ModelGroup.{ModelGroup}
use Rattle.gx_schema_components.specs.declared.component.Particle.{Particle}
use Rattle.gx_schema_components.specs.GroupNumbers.{particle_placed, particles_placed}
use Rattle.gx_schema_components.specs.Referred.{Globals}

-- the groups behind a particle and those that are left are the groups of all
pub particle_groups-step : (x : Globals) (first : ℕ) (before behind whole : List ModelGroup) (left : List ParticleTree) (particle : ParticleTree) (others : List ParticleTree)
    → left ≡ particle ∷ others
    → behind ≡ (particle_placed x first before particle).groups
    → (particles_placed x first before (particles_of left)).groups ≡ whole
    → (particles_placed x first behind (particles_of others)).groups ≡ whole
particle_groups-step x first before behind whole left particle others split placed so_far =
    ap (λ (gs : List ModelGroup). (particles_placed x first gs (particles_of others)).groups) placed
    ∙ (sym (ap (λ (ps : List ParticleTree). (particles_placed x first before (particles_of ps)).groups) split) ∙ so_far)

-- the particles with one more, and those that are left, are all
pub particle_items-step : (x : Globals) (first : ℕ) (before behind : List ModelGroup) (left : List ParticleTree) (particle : ParticleTree) (others : List ParticleTree) (done more whole : List Particle) (component : Particle)
    → left ≡ particle ∷ others
    → behind ≡ (particle_placed x first before particle).groups
    → component ≡ (particle_placed x first before particle).placed
    → more ≡ done ++ component ∷ []
    → done ++ (particles_placed x first before (particles_of left)).placed ≡ whole
    → more ++ (particles_placed x first behind (particles_of others)).placed ≡ whole
particle_items-step x first before behind left particle others done more whole component split groups placed pushed so_far =
    let rest : List Particle = (particles_placed x first behind (particles_of others)).placed in
    ap (λ (ps : List Particle). ps ++ rest) pushed
    ∙ (append_assoc done (component ∷ []) rest
    ∙ (ap (λ (p : Particle). done ++ p ∷ rest) placed
    ∙ (ap (λ (gs : List ModelGroup). done ++ (particle_placed x first before particle).placed ∷ (particles_placed x first gs (particles_of others)).placed) groups
    ∙ (sym (ap (λ (ps : List ParticleTree). done ++ (particles_placed x first before (particles_of ps)).placed) split) ∙ so_far))))
