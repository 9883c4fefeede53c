-- The element particles of contents, each once, in the order of their first appearance (XML Schema 1.0 part 1, section 3.8.6).
use Rattle.std.specs.Prelude.{ℕ, nat_eq, nat_lt, Bool, true, ◌&&◌, List, [], ◌∷◌, ◌++◌, Option, None, Some, fold, if◌then◌else◌}
use Rattle.std.specs.List.{flat_map, list_any}
use Rattle.gx_base.specs.Name.{same_name}
use Rattle.gx_base.specs.Text.{same_text}
use Rattle.gx_base.specs.declared.name.Name.{Name}
use Rattle.gx_base.specs.declared.type_name.TypeName.{TypeName}
use Rattle.gx_base.specs.declared.type_name.TypeName.TheVariants as names
use Rattle.gx_types.specs.SameItemType.{same_type_name}
use Rattle.gx_schema_components.specs.declared.component.Base.{Base}
use Rattle.gx_schema_components.specs.declared.component.Base.TheVariants.{Builtin, Declared}
use Rattle.gx_schema_components.specs.declared.component.ComplexType.{ComplexType}
use Rattle.gx_schema_components.specs.declared.component.ModelGroup.{ModelGroup}
use Rattle.gx_schema_components.specs.declared.component.Particle.{Particle}
use Rattle.gx_schema_components.specs.declared.component.Term.{Term}
use Rattle.gx_schema_components.specs.declared.component.Term.TheVariants.{Element, Group}
use Rattle.gx_schema_components.specs.declared.component.TypeComponent.{TypeComponent}
use Rattle.gx_schema_components.specs.declared.component.TypeForm.{TypeForm}
use Rattle.gx_schema_components.specs.declared.component.TypeForm.TheVariants as forms
use Rattle.gx_schema_content.specs.declared.elements.ElementParticle.{ElementParticle}
use Rattle.gx_schema_content.specs.declared.source.ContentSource.{ContentSource}
use Rattle.gx_schema_content.specs.declared.source.ContentSource.TheVariants as sources
use Rattle.gx_schema_content.specs.Sources.{source_of}

-- names that are written alike, with one prefix
abbrev pub same_written_name : Name → Name → Bool
same_written_name a b = same_name a b && same_text a.prefix b.prefix

abbrev pub prefix_of_type : TypeName → List ℕ
prefix_of_type (names.Builtin builtin) = []
prefix_of_type (names.Named name) = name.prefix
prefix_of_type (names.Anonymous number) = []

abbrev pub same_written_type : TypeName → TypeName → Bool
same_written_type a b = same_type_name a b && same_text (prefix_of_type a) (prefix_of_type b)

-- one element particle: it was written as one element, with one name and one type
abbrev pub same_particle : ElementParticle → ElementParticle → Bool
same_particle a b = nat_eq a.place b.place && same_written_name a.name b.name && same_written_type a.kind b.kind

-- a particle behind others, where it is none of them
abbrev pub with_particle : List ElementParticle → ElementParticle → List ElementParticle
with_particle elements element = if list_any (same_particle element) elements then elements else elements ++ element ∷ []

abbrev pub with_particles : List ElementParticle → List ElementParticle → List ElementParticle
with_particles elements others = fold with_particle elements others

-- each particle where it stands first
abbrev pub each_once : List ElementParticle → List ElementParticle
each_once elements = with_particles [] elements

-- a particle whose greatest number is 0 does not count
abbrev pub may_occur : Option ℕ → Bool
may_occur None = true
may_occur (Some greatest) = nat_lt 0 greatest

-- the element of a term, or those of the group to which it refers, over the elements of groups
abbrev pub term_elements : (ℕ → List ElementParticle) → (place : ℕ) → Term → List ElementParticle
term_elements groups place (Element name kind) = record { place = place; name = name; kind = kind } ∷ []
term_elements groups place (Group number) = groups number

abbrev pub particle_elements : (ℕ → List ElementParticle) → Particle → List ElementParticle
particle_elements groups particle = if may_occur particle.bounds.greatest then term_elements groups particle.place particle.term else []

abbrev pub particles_elements : (ℕ → List ElementParticle) → List Particle → List ElementParticle
particles_elements groups particles = flat_map (particle_elements groups) particles

abbrev pub group_elements : (ℕ → List ElementParticle) → ModelGroup → List ElementParticle
group_elements groups group = each_once (particles_elements groups group.particles)

-- ---- types

abbrev pub elements_of_base : (ℕ → List ElementParticle) → Base → List ElementParticle
elements_of_base types (Builtin builtin) = []
elements_of_base types (Declared number) = types number

abbrev pub written_elements : (ℕ → List ElementParticle) → Option Particle → List ElementParticle
written_elements groups None = []
written_elements groups (Some particle) = particle_elements groups particle

abbrev pub sourced_elements : (ℕ → List ElementParticle) → ContentSource → List ElementParticle → List ElementParticle
sourced_elements types sources.Simple written = []
sourced_elements types sources.Written written = written
sourced_elements types (sources.Behind base) written = elements_of_base types base ++ written

abbrev pub complex_elements : (ℕ → List ElementParticle) → (ℕ → List ElementParticle) → ComplexType → List ElementParticle
complex_elements groups types definition = sourced_elements types (source_of definition.derivation) (written_elements groups definition.content)

abbrev pub form_elements : (ℕ → List ElementParticle) → (ℕ → List ElementParticle) → TypeForm → List ElementParticle
form_elements groups types (forms.Simple definition) = []
form_elements groups types (forms.Complex definition) = complex_elements groups types definition

abbrev pub type_elements : (ℕ → List ElementParticle) → (ℕ → List ElementParticle) → TypeComponent → List ElementParticle
type_elements groups types component = each_once (form_elements groups types component.form)
