-- What is written of elements, attributes and particles (XML Schema 1.0 part 1, sections 3.2, 3.3, 3.8 and 3.9).
use Rattle.std.specs.Prelude.{ℕ, Bool, ◌||◌, List, [], ◌∷◌, ◌++◌, codes, Option, Some, None, unwrap_or, if◌then◌else◌}
use Rattle.std.specs.Option.{option_map}
use Rattle.std.specs.Str.{encode_utf8_all}
use Rattle.gx_base.specs.declared.name.Name.{Name}
use Rattle.gx_base.specs.declared.type_name.Builtin.{Builtin}
use Rattle.gx_base.specs.declared.type_name.Builtin.TheVariants as builtins
use Rattle.gx_xml.specs.declared.source.Declaration.{Declaration}
use Rattle.gx_xml.specs.declared.source.SourceAttribute.{SourceAttribute}
use Rattle.gx_xml.specs.SourceTree.{SourceTree, SourceContents, source, no_content, a_child, a_text, tree_name}
use Rattle.gx_schema_syntax.specs.declared.context.Context.{Context}
use Rattle.gx_schema_syntax.specs.declared.numbers.Numbers.{Numbers}
use Rattle.gx_qnames.specs.declared.reference.Reference.{Reference}
use Rattle.gx_schema_syntax.specs.declared.role.Compositor.{Compositor}
use Rattle.gx_schema_syntax.specs.declared.role.Compositor.TheVariants.{Sequence, Choice}
use Rattle.gx_schema_syntax.specs.declared.written.Bounds.{Bounds}
use Rattle.gx_schema_syntax.specs.declared.written.LocalDeclaration.{LocalDeclaration}
use Rattle.gx_schema_syntax.specs.declared.written.LocalDeclaration.TheVariants.{Declared, Referred}
use Rattle.gx_schema_syntax.specs.declared.written.TypeReference.{TypeReference}
use Rattle.gx_schema_syntax.specs.declared.written.TypeReference.TheVariants as types
use Rattle.gx_qnames.specs.Builtins.{named_builtin}
use Rattle.gx_schema_syntax.specs.Contents.{given_value, holds_named}
use Rattle.gx_schema_syntax.specs.Numbers.{numbers_inside, numbers_behind}
use Rattle.gx_schema_syntax.specs.Outside.{is_value}
use Rattle.gx_schema_syntax.specs.ParticleTree.{ParticleTree, ParticleTrees, an_element, a_group, a_model_group, no_particles, a_particle}
use Rattle.gx_qnames.specs.Scope.{reference_in}
use Rattle.gx_schema_syntax.specs.Words.{is_annotation, is_schema_element}
use Rattle.gx_qnames.specs.Words.{has_spelling, is_schema_uri}

-- ---- names

-- the name of a declaration, in this namespace
abbrev pub name_written : (uri : List ℕ) → List SourceAttribute → Name
name_written uri attributes = record { uri = uri; prefix = []; local = unwrap_or (given_value (codes "name") attributes) [] }

abbrev pub is_qualified_by : Option (List ℕ) → (otherwise : Bool) → Bool
is_qualified_by None otherwise = otherwise
is_qualified_by (Some form) otherwise = has_spelling (codes "qualified") form

-- the namespace of a local declaration: that of the schema document, where it is qualified
abbrev pub local_namespace : (target : List ℕ) → (otherwise : Bool) → List SourceAttribute → List ℕ
local_namespace target otherwise attributes = if is_qualified_by (given_value (codes "form") attributes) otherwise then target else []

-- ---- types

abbrev pub type_found : Option Builtin → Reference → TypeReference
type_found None reference = types.Declared reference
type_found (Some builtin) reference = types.Builtin builtin

-- the type that a reference stands for
abbrev pub type_of_reference : Reference → TypeReference
type_of_reference reference = if is_schema_uri reference.name.uri then type_found (named_builtin reference) reference else types.Declared reference

-- the type that the name in a value stands for
abbrev pub type_in : (scope : List Declaration) → (value : List ℕ) → TypeReference
type_in scope value = type_of_reference (reference_in scope value)

-- the type that an attribute of this name names
abbrev pub type_named : (word : List ℕ) → (scope : List Declaration) → List SourceAttribute → TypeReference
type_named word scope attributes = type_in scope (unwrap_or (given_value word attributes) [])

-- a type within an element is its first part, so that the next number of an anonymous type is that of this one
abbrev pub type_within : Builtin → SourceContents → (number : ℕ) → TypeReference
type_within default cs number = if holds_named (codes "complexType") cs || holds_named (codes "simpleType") cs then types.Anonymous number else types.Builtin default

-- the type that is written in the attribute `type`
abbrev pub written_kind : (scope : List Declaration) → List SourceAttribute → Option TypeReference
written_kind scope attributes = option_map (type_in scope) (given_value (codes "type") attributes)

-- the type of a declaration: the one that is named, the one within, or the default
abbrev pub declared_kind : Builtin → (scope : List Declaration) → List SourceAttribute → SourceContents → (number : ℕ) → TypeReference
declared_kind default scope attributes cs number = unwrap_or (written_kind scope attributes) (type_within default cs number)

-- ---- declarations

abbrev pub declaration_by : Option (List ℕ) → Builtin → (uri : List ℕ) → (scope : List Declaration) → List SourceAttribute → SourceContents → (number : ℕ) → LocalDeclaration
declaration_by None default uri scope attributes cs number = Declared (name_written uri attributes) (declared_kind default scope attributes cs number)
declaration_by (Some value) default uri scope attributes cs number = Referred (reference_in scope value) (written_kind scope attributes)

-- a local element or attribute: a declaration, or a reference
abbrev pub local_declaration : Builtin → (uri : List ℕ) → (scope : List Declaration) → List SourceAttribute → SourceContents → (number : ℕ) → LocalDeclaration
local_declaration default uri scope attributes cs number = declaration_by (given_value (codes "ref") attributes) default uri scope attributes cs number

-- ---- particles

abbrev pub greatest_written : Option (List ℕ) → Option (List ℕ)
greatest_written None = Some (codes "1")
greatest_written (Some value) = if has_spelling (codes "unbounded") value then None else Some value

abbrev pub bounds_written : List SourceAttribute → Bounds
bounds_written attributes = record { least = unwrap_or (given_value (codes "minOccurs") attributes) (codes "1"); greatest = greatest_written (given_value (codes "maxOccurs") attributes) }

abbrev pub local_element : Context → (scope : List Declaration) → Numbers → SourceTree → ParticleTree
local_element x scope at (source name declarations attributes cs) =
    an_element at.element (bounds_written attributes)
    (local_declaration builtins.AnyType (local_namespace x.target x.elements_are_qualified attributes) (declarations ++ scope) attributes cs at.anonymous)

abbrev pub group_reference : (scope : List Declaration) → Numbers → SourceTree → ParticleTree
group_reference scope at (source name declarations attributes cs) =
    a_group at.element (bounds_written attributes) (reference_in (declarations ++ scope) (unwrap_or (given_value (codes "ref") attributes) []))

-- a sequence or a choice of these particles, a group, or else an element
abbrev pub particle_over : Context → (scope : List Declaration) → Numbers → SourceTree → (particles : ParticleTrees) → ParticleTree
particle_over x scope at (source name declarations attributes cs) particles =
    if is_schema_element (codes "sequence") name then a_model_group at.element (bounds_written attributes) Sequence particles
    else (if is_schema_element (codes "choice") name then a_model_group at.element (bounds_written attributes) Choice particles
    else (if is_schema_element (codes "group") name then group_reference scope at (source name declarations attributes cs)
    else local_element x scope at (source name declarations attributes cs)))

-- each part of a model group is a particle
abbrev mutual
  pub particle_written : Context → (scope : List Declaration) → Numbers → SourceTree → ParticleTree
  particle_written x scope at (source name declarations attributes cs) =
      particle_over x scope at (source name declarations attributes cs)
      (particles_written x (declarations ++ scope) (numbers_inside at (source name declarations attributes cs)) cs)

  pub particles_written : Context → (scope : List Declaration) → Numbers → SourceContents → ParticleTrees
  particles_written x scope at no_content = no_particles
  particles_written x scope at (a_text text cs) = particles_written x scope at cs
  particles_written x scope at (a_child t cs) =
      if is_annotation (tree_name t) then particles_written x scope at cs else a_particle (particle_written x scope at t) (particles_written x scope (numbers_behind at t) cs)

abbrev pub model_group : Context → (scope : List Declaration) → Numbers → Compositor → SourceTree → ParticleTree
model_group x scope at compositor (source name declarations attributes cs) =
    a_model_group at.element (bounds_written attributes) compositor (particles_written x (declarations ++ scope) (numbers_inside at (source name declarations attributes cs)) cs)
