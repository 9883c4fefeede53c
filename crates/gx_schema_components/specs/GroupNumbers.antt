-- The model groups of particles, each with a number (XML Schema 1.0 part 1, sections 3.8 and 3.9).
use Rattle.std.specs.Prelude.{ℕ, ◌+◌, List, [], ◌∷◌, ◌++◌, length, Option, None, Some}
use Rattle.gx_schema_syntax.specs.declared.role.Compositor.{Compositor}
use Rattle.gx_schema_syntax.specs.declared.role.Compositor.TheVariants.{Sequence}
use Rattle.gx_schema_syntax.specs.declared.written.Bounds.{Bounds as WrittenBounds}
use Rattle.gx_schema_syntax.specs.declared.written.GlobalDeclaration.{GlobalDeclaration}
use Rattle.gx_schema_syntax.specs.declared.written.GlobalDeclaration.TheVariants as globals
use Rattle.gx_schema_syntax.specs.declared.written.LocalDeclaration.{LocalDeclaration}
use Rattle.gx_schema_syntax.specs.ParticleTree.{ParticleTree, ParticleTrees, an_element, a_group, a_model_group, no_particles, a_particle}
use Rattle.gx_schema_components.specs.declared.component.ModelGroup.{ModelGroup}
use Rattle.gx_schema_components.specs.declared.component.Particle.{Particle}
use Rattle.gx_schema_components.specs.declared.component.Term.{Term}
use Rattle.gx_schema_components.specs.declared.component.Term.TheVariants as terms
use Rattle.gx_schema_components.specs.declared.mention.ComponentKind.TheVariants as kinds
use Rattle.gx_schema_components.specs.declared.referred.TypedName.{TypedName}
use Rattle.gx_schema_components.specs.Bounds.{bounds_of}
use Rattle.gx_schema_components.specs.Referred.{Globals, local_component, group_referred}

-- what is left of a particle, of particles or of a content behind the groups so far
pub record Placed (A : Type 0) : Type 0 where
  pub groups : List ModelGroup
  pub placed : A

abbrev pub particle_with : (place : ℕ) → WrittenBounds → Term → Particle
particle_with place bounds term = record { place = place; bounds = bounds_of bounds; term = term }

abbrev pub element_term : TypedName → Term
element_term element = terms.Element element.name element.kind

abbrev pub referred_element : Globals → LocalDeclaration → Term
referred_element x declaration = element_term (local_component x kinds.ElementDeclaration x.elements declaration)

-- a model group takes the next number, behind the groups that stand in it
abbrev pub with_group : Compositor → Placed (List Particle) → List ModelGroup
with_group compositor inside = inside.groups ++ record { compositor = compositor; particles = inside.placed } ∷ []

abbrev pub group_placed : (first place : ℕ) → WrittenBounds → Compositor → Placed (List Particle) → Placed Particle
group_placed first place bounds compositor inside = record {
  groups = with_group compositor inside;
  placed = particle_with place bounds (terms.Group (first + length inside.groups));
}

abbrev pub behind_particle : Particle → Placed (List Particle) → Placed (List Particle)
behind_particle particle others = record { groups = others.groups; placed = particle ∷ others.placed }

-- the groups in particles are numbered from the first number on, behind the groups so far
abbrev mutual
  pub particle_placed : Globals → (first : ℕ) → List ModelGroup → ParticleTree → Placed Particle
  particle_placed x first groups (an_element place bounds declaration) =
      record { groups = groups; placed = particle_with place bounds (referred_element x declaration) }
  particle_placed x first groups (a_group place bounds reference) =
      record { groups = groups; placed = particle_with place bounds (terms.Group (group_referred x kinds.GroupDefinition reference)) }
  particle_placed x first groups (a_model_group place bounds compositor particles) = group_placed first place bounds compositor (particles_placed x first groups particles)

  pub particles_placed : Globals → (first : ℕ) → List ModelGroup → ParticleTrees → Placed (List Particle)
  particles_placed x first groups no_particles = record { groups = groups; placed = [] }
  particles_placed x first groups (a_particle particle others) =
      let p = particle_placed x first groups particle in behind_particle p.placed (particles_placed x first p.groups others)

abbrev pub some_placed : Placed Particle → Placed (Option Particle)
some_placed p = record { groups = p.groups; placed = Some p.placed }

abbrev pub content_placed : Globals → (first : ℕ) → List ModelGroup → Option ParticleTree → Placed (Option Particle)
content_placed x first groups None = record { groups = groups; placed = None }
content_placed x first groups (Some particle) = some_placed (particle_placed x first groups particle)

-- ---- group definitions

-- the group of a definition is a sequence of the particle that it is written with
abbrev pub particles_of_content : Option Particle → List Particle
particles_of_content None = []
particles_of_content (Some particle) = particle ∷ []

abbrev pub group_of_definition : Option Particle → ModelGroup
group_of_definition content = record { compositor = Sequence; particles = particles_of_content content }

abbrev pub behind_group : ModelGroup → Placed (List ModelGroup) → Placed (List ModelGroup)
behind_group group others = record { groups = others.groups; placed = group ∷ others.placed }

abbrev pub definitions_placed : Globals → (first : ℕ) → List ModelGroup → List GlobalDeclaration → Placed (List ModelGroup)
definitions_placed x first groups [] = record { groups = groups; placed = [] }
definitions_placed x first groups (globals.Group place name particle ∷ others) =
    let content = content_placed x first groups particle in behind_group (group_of_definition content.placed) (definitions_placed x first content.groups others)
definitions_placed x first groups (globals.Element place name kind ∷ others) = definitions_placed x first groups others
definitions_placed x first groups (globals.Attribute place name kind ∷ others) = definitions_placed x first groups others
definitions_placed x first groups (globals.AttributeGroup place name attributes ∷ others) = definitions_placed x first groups others
