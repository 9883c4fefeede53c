-- The references of schema documents to components (XML Schema 1.0 part 1, section 3.15.3), with their places, in the order of the declarations.
use Rattle.std.specs.Prelude.{ℕ, List, [], ◌∷◌, ◌++◌, Option, None, Some}
use Rattle.std.specs.List.{flat_map}
use Rattle.gx_qnames.specs.declared.reference.Reference.{Reference}
use Rattle.gx_schema_syntax.specs.declared.written.AttributeMember.{AttributeMember}
use Rattle.gx_schema_syntax.specs.declared.written.AttributeMember.TheVariants as members
use Rattle.gx_schema_syntax.specs.declared.written.ComplexTypeDefinition.{ComplexTypeDefinition}
use Rattle.gx_schema_syntax.specs.declared.written.Derivation.{Derivation}
use Rattle.gx_schema_syntax.specs.declared.written.GlobalDeclaration.{GlobalDeclaration}
use Rattle.gx_schema_syntax.specs.declared.written.GlobalDeclaration.TheVariants as globals
use Rattle.gx_schema_syntax.specs.declared.written.LocalDeclaration.{LocalDeclaration}
use Rattle.gx_schema_syntax.specs.declared.written.LocalDeclaration.TheVariants.{Declared, Referred}
use Rattle.gx_schema_syntax.specs.declared.written.SimpleTypeDefinition.{SimpleTypeDefinition}
use Rattle.gx_schema_syntax.specs.declared.written.SimpleTypeDefinition.TheVariants as simple
use Rattle.gx_schema_syntax.specs.declared.written.TypeDeclaration.{TypeDeclaration}
use Rattle.gx_schema_syntax.specs.declared.written.TypeDefinition.{TypeDefinition}
use Rattle.gx_schema_syntax.specs.declared.written.TypeDefinition.TheVariants.{Simple, Complex}
use Rattle.gx_schema_syntax.specs.declared.written.TypeReference.{TypeReference}
use Rattle.gx_schema_syntax.specs.declared.written.TypeReference.TheVariants as types
use Rattle.gx_schema_syntax.specs.DocumentTree.{DocumentTree}
use Rattle.gx_schema_syntax.specs.ParticleTree.{ParticleTree, ParticleTrees, an_element, a_group, a_model_group, no_particles, a_particle}
use Rattle.gx_schema_components.specs.declared.mention.ComponentKind.{ComponentKind}
use Rattle.gx_schema_components.specs.declared.mention.ComponentKind.TheVariants as kinds
use Rattle.gx_schema_components.specs.declared.mention.Mention.{Mention}

abbrev pub mentioned : ComponentKind → (place : ℕ) → Reference → List Mention
mentioned kind place reference = record { place = place; kind = kind; reference = reference } ∷ []

-- a type that a name refers to
abbrev pub type_mentions : (place : ℕ) → TypeReference → List Mention
type_mentions place (types.Builtin builtin) = []
type_mentions place (types.Declared reference) = mentioned kinds.TypeDefinition place reference
type_mentions place (types.Anonymous number) = []

abbrev pub written_type_mentions : (place : ℕ) → Option TypeReference → List Mention
written_type_mentions place None = []
written_type_mentions place (Some kind) = type_mentions place kind

-- the component that `ref` refers to, and then the type beside it
abbrev pub local_mentions : ComponentKind → (place : ℕ) → LocalDeclaration → List Mention
local_mentions component place (Declared name kind) = type_mentions place kind
local_mentions component place (Referred reference kind) = mentioned component place reference ++ written_type_mentions place kind

abbrev mutual
  pub particle_mentions : ParticleTree → List Mention
  particle_mentions (an_element place bounds declaration) = local_mentions kinds.ElementDeclaration place declaration
  particle_mentions (a_group place bounds reference) = mentioned kinds.GroupDefinition place reference
  particle_mentions (a_model_group place bounds compositor particles) = particles_mentions particles

  pub particles_mentions : ParticleTrees → List Mention
  particles_mentions no_particles = []
  particles_mentions (a_particle first others) = particle_mentions first ++ particles_mentions others

abbrev pub content_mentions : Option ParticleTree → List Mention
content_mentions None = []
content_mentions (Some particle) = particle_mentions particle

abbrev pub member_mentions : AttributeMember → List Mention
member_mentions (members.Attribute place usage attribute) = local_mentions kinds.AttributeDeclaration place attribute
member_mentions (members.Group place reference) = mentioned kinds.AttributeGroupDefinition place reference

abbrev pub members_mentions : List AttributeMember → List Mention
members_mentions members = flat_map member_mentions members

abbrev pub simple_type_mentions : SimpleTypeDefinition → List Mention
simple_type_mentions (simple.Restriction place base facets) = type_mentions place base
simple_type_mentions (simple.List place item) = type_mentions place item

abbrev pub base_mentions : Option Derivation → List Mention
base_mentions None = []
base_mentions (Some derivation) = type_mentions derivation.place derivation.base

abbrev pub complex_type_mentions : ComplexTypeDefinition → List Mention
complex_type_mentions definition = base_mentions definition.derivation ++ (content_mentions definition.particle ++ members_mentions definition.attributes)

abbrev pub definition_mentions : TypeDefinition → List Mention
definition_mentions (Simple definition) = simple_type_mentions definition
definition_mentions (Complex definition) = complex_type_mentions definition

abbrev pub type_declaration_mentions : TypeDeclaration → List Mention
type_declaration_mentions declaration = definition_mentions declaration.definition

abbrev pub global_mentions : GlobalDeclaration → List Mention
global_mentions (globals.Element place name kind) = type_mentions place kind
global_mentions (globals.Attribute place name kind) = type_mentions place kind
global_mentions (globals.Group place name particle) = content_mentions particle
global_mentions (globals.AttributeGroup place name attributes) = members_mentions attributes

abbrev pub document_mentions : DocumentTree → List Mention
document_mentions document = flat_map type_declaration_mentions document.types ++ flat_map global_mentions document.declarations
