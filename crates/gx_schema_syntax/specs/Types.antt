-- What is written of types and of lists of attributes (XML Schema 1.0 part 1, sections 3.2, 3.4, 3.6 and 3.14; part 2, section 4.3).
use Rattle.std.specs.Prelude.{ℕ, ◌+◌, Bool, true, false, ◌||◌, ◌&&◌, not, List, [], ◌∷◌, ◌++◌, codes, bytes_eq, Option, Some, None, option_map, unwrap_or, if◌then◌else◌}
use Rattle.std.specs.Str.{encode_utf8_all}
use Rattle.gx_base.specs.declared.name.Name.{Name}
use Rattle.gx_base.specs.declared.type_name.Builtin.TheVariants as builtins
use Rattle.gx_base.specs.declared.type_name.TypeName.{TypeName}
use Rattle.gx_base.specs.declared.type_name.TypeName.TheVariants as names
use Rattle.gx_xml.specs.declared.source.Declaration.{Declaration}
use Rattle.gx_xml.specs.declared.source.SourceAttribute.{SourceAttribute}
use Rattle.gx_xml.specs.SourceTree.{SourceTree, SourceContents, source, no_content, a_child, a_text, tree_name}
use Rattle.gx_schema_syntax.specs.declared.context.Context.{Context}
use Rattle.gx_schema_syntax.specs.declared.numbers.Numbers.{Numbers}
use Rattle.gx_schema_syntax.specs.declared.parts.Slot.{Slot}
use Rattle.gx_schema_syntax.specs.declared.role.FacetKind.{FacetKind}
use Rattle.gx_schema_syntax.specs.declared.role.Role.{Role}
use Rattle.gx_schema_syntax.specs.declared.role.Role.TheVariants as roles
use Rattle.gx_schema_syntax.specs.declared.written.AttributeMember.{AttributeMember}
use Rattle.gx_schema_syntax.specs.declared.written.AttributeMember.TheVariants.{Attribute, Group}
use Rattle.gx_schema_syntax.specs.declared.written.ComplexTypeDefinition.{ComplexTypeDefinition}
use Rattle.gx_schema_syntax.specs.declared.written.ContentKind.{ContentKind}
use Rattle.gx_schema_syntax.specs.declared.written.ContentKind.TheVariants as content
use Rattle.gx_schema_syntax.specs.declared.written.Derivation.{Derivation}
use Rattle.gx_schema_syntax.specs.declared.written.DerivationMethod.{DerivationMethod}
use Rattle.gx_schema_syntax.specs.declared.written.DerivationMethod.TheVariants as method
use Rattle.gx_schema_syntax.specs.declared.written.SimpleTypeDefinition.{SimpleTypeDefinition}
use Rattle.gx_schema_syntax.specs.declared.written.SimpleTypeDefinition.TheVariants as simple
use Rattle.gx_schema_syntax.specs.declared.written.TypeDeclaration.{TypeDeclaration}
use Rattle.gx_schema_syntax.specs.declared.written.TypeDefinition.{TypeDefinition}
use Rattle.gx_schema_syntax.specs.declared.written.TypeDefinition.TheVariants.{Simple, Complex}
use Rattle.gx_schema_syntax.specs.declared.written.Usage.{Usage}
use Rattle.gx_schema_syntax.specs.declared.written.Usage.TheVariants as usage
use Rattle.gx_schema_syntax.specs.declared.written.WrittenFacet.{WrittenFacet}
use Rattle.gx_schema_syntax.specs.Contents.{given_value, is_given}
use Rattle.gx_schema_syntax.specs.Declarations.{name_written, local_namespace, type_named, local_declaration, particle_written}
use Rattle.gx_schema_syntax.specs.Numbers.{numbers_inside, numbers_behind}
use Rattle.gx_schema_syntax.specs.Outside.{is_value}
use Rattle.gx_schema_syntax.specs.ParticleTree.{ParticleTree}
use Rattle.gx_schema_syntax.specs.Parts.{slot_of, role_in}
use Rattle.gx_qnames.specs.Scope.{reference_in}
use Rattle.gx_schema_syntax.specs.Words.{is_schema_element, is_annotation}
use Rattle.gx_qnames.specs.Words.{has_spelling}

-- ---- the first part of an element, as simple types and derived complex types have it

-- what an element holds, where it is there
pub record Opened : Type 0 where
  pub name : Option Name
  pub declarations : List Declaration
  pub attributes : List SourceAttribute
  pub contents : SourceContents

abbrev pub nothing_opened : Opened
nothing_opened = record { name = None; declarations = []; attributes = []; contents = no_content }

abbrev pub opened : SourceTree → Opened
opened (source name declarations attributes cs) = record { name = Some name; declarations = declarations; attributes = attributes; contents = cs }

abbrev pub first_part : SourceContents → Opened
first_part no_content = nothing_opened
first_part (a_text x cs) = first_part cs
first_part (a_child t cs) = if is_annotation (tree_name t) then first_part cs else opened t

abbrev pub is_some_named : (word : List ℕ) → Option Name → Bool
is_some_named word None = false
is_some_named word (Some name) = is_schema_element word name

abbrev pub is_part_named : (word : List ℕ) → Opened → Bool
is_part_named word part = is_some_named word part.name

-- ---- facets

abbrev pub facet_of_role : Option Role → Option FacetKind
facet_of_role (Some (roles.Facet kind)) = Some kind
facet_of_role _ = None

-- the facet of a name in the table of parts
abbrev pub facet_named : Name → Option FacetKind
facet_named name = facet_of_role (option_map role_in (slot_of roles.SimpleTypeRestriction (encode_utf8_all name.local)))

abbrev pub facet_by_kind : Option FacetKind → Numbers → SourceTree → List WrittenFacet
facet_by_kind None at t = []
facet_by_kind (Some kind) at (source name declarations attributes cs) =
    record { place = at.element; kind = kind; value = unwrap_or (given_value (codes "value") attributes) [] } ∷ []

abbrev pub facets_written : Numbers → SourceContents → List WrittenFacet
facets_written at no_content = []
facets_written at (a_text x cs) = facets_written at cs
facets_written at (a_child t cs) = facet_by_kind (facet_named (tree_name t)) at t ++ facets_written (numbers_behind at t) cs

-- ---- lists of attributes

abbrev pub usage_of : Option (List ℕ) → Usage
usage_of None = usage.Optional
usage_of (Some value) = if has_spelling (codes "required") value then usage.Required else (if has_spelling (codes "prohibited") value then usage.Prohibited else usage.Optional)

abbrev pub attribute_use : Context → (scope : List Declaration) → Numbers → SourceTree → AttributeMember
attribute_use x scope at (source name declarations attributes cs) =
    Attribute at.element (usage_of (given_value (codes "use") attributes))
    (local_declaration builtins.AnySimple (local_namespace x.target x.attributes_are_qualified attributes) (declarations ++ scope) attributes cs at.anonymous)

abbrev pub attribute_group : (scope : List Declaration) → Numbers → SourceTree → AttributeMember
attribute_group scope at (source name declarations attributes cs) = Group at.element (reference_in (declarations ++ scope) (unwrap_or (given_value (codes "ref") attributes) []))

abbrev pub member_written : Context → (scope : List Declaration) → Numbers → SourceTree → List AttributeMember
member_written x scope at t =
    if is_schema_element (codes "attribute") (tree_name t) then attribute_use x scope at t ∷ []
    else (if is_schema_element (codes "attributeGroup") (tree_name t) then attribute_group scope at t ∷ [] else [])

abbrev pub members_written : Context → (scope : List Declaration) → Numbers → SourceContents → List AttributeMember
members_written x scope at no_content = []
members_written x scope at (a_text text cs) = members_written x scope at cs
members_written x scope at (a_child t cs) = member_written x scope at t ++ members_written x scope (numbers_behind at t) cs

-- ---- simple types

abbrev pub next_element : Numbers → Numbers
next_element at = record at { element = at.element + 1 }

-- the restriction or list of a simple type, which stands at these numbers
abbrev pub simple_type_by : Opened → (scope : List Declaration) → Numbers → SimpleTypeDefinition
simple_type_by part scope at =
    if is_part_named (codes "list") part then simple.List at.element (type_named (codes "itemType") (part.declarations ++ scope) part.attributes)
    else simple.Restriction at.element (type_named (codes "base") (part.declarations ++ scope) part.attributes) (facets_written (next_element at) part.contents)

-- ---- complex types

-- what a complex type is written with: its derivation, and where its particle and attributes stand
pub record Body : Type 0 where
  pub derivation : Option Derivation
  pub scope : List Declaration
  pub numbers : Numbers
  pub contents : SourceContents

abbrev pub method_of : Opened → DerivationMethod
method_of part = if is_part_named (codes "extension") part then method.Extension else method.Restriction

-- the extension or restriction of a content, which stands at these numbers
abbrev pub derived_body : ContentKind → Opened → (scope : List Declaration) → Numbers → Body
derived_body kind part scope at = record {
  derivation = Some (record { place = at.element; content = kind; method = method_of part; base = type_named (codes "base") (part.declarations ++ scope) part.attributes });
  scope = part.declarations ++ scope;
  numbers = next_element at;
  contents = part.contents;
}

abbrev pub body_by : Opened → (scope : List Declaration) → Numbers → SourceContents → Body
body_by part scope at cs =
    if is_part_named (codes "simpleContent") part then derived_body content.Simple (first_part part.contents) (part.declarations ++ scope) (next_element at)
    else (if is_part_named (codes "complexContent") part then derived_body content.Complex (first_part part.contents) (part.declarations ++ scope) (next_element at)
    else record { derivation = None; scope = scope; numbers = at; contents = cs })

abbrev pub body_of : (scope : List Declaration) → Numbers → SourceContents → Body
body_of scope at cs = body_by (first_part cs) scope at cs

abbrev pub is_particle : Name → Bool
is_particle name = is_schema_element (codes "sequence") name || (is_schema_element (codes "choice") name || is_schema_element (codes "group") name)

-- the particle of a content is its first part, if that is one
abbrev pub first_particle : Context → (scope : List Declaration) → Numbers → SourceContents → Option ParticleTree
first_particle x scope at no_content = None
first_particle x scope at (a_text text cs) = first_particle x scope at cs
first_particle x scope at (a_child t cs) =
    if is_annotation (tree_name t) then first_particle x scope at cs else (if is_particle (tree_name t) then Some (particle_written x scope at t) else None)

abbrev pub is_true : Option (List ℕ) → Bool
is_true value = is_value (codes "true") value || is_value (codes "1") value

abbrev pub complex_type_with : Bool → Option Derivation → List WrittenFacet → Option ParticleTree → List AttributeMember → ComplexTypeDefinition
complex_type_with is_mixed derivation facets particle attributes =
    record { is_mixed = is_mixed; derivation = derivation; facets = facets; particle = particle; attributes = attributes }

abbrev pub complex_type_by : Context → Bool → Body → ComplexTypeDefinition
complex_type_by x is_mixed body =
    complex_type_with is_mixed body.derivation (facets_written body.numbers body.contents) (first_particle x body.scope body.numbers body.contents) (members_written x body.scope body.numbers body.contents)

-- ---- the types of a document

-- a type without a name has the next number of an anonymous one
abbrev pub type_name_written : (target : List ℕ) → List SourceAttribute → (number : ℕ) → TypeName
type_name_written target attributes number = if is_given (codes "name") attributes then names.Named (name_written target attributes) else names.Anonymous number

abbrev pub definition_written : Context → (scope : List Declaration) → Numbers → SourceTree → TypeDefinition
definition_written x scope at (source name declarations attributes cs) =
    if is_schema_element (codes "complexType") name
    then Complex (complex_type_by x (is_true (given_value (codes "mixed") attributes)) (body_of (declarations ++ scope) (numbers_inside at (source name declarations attributes cs)) cs))
    else Simple (simple_type_by (first_part cs) (declarations ++ scope) (numbers_inside at (source name declarations attributes cs)))

abbrev pub type_declaration : Context → (scope : List Declaration) → Numbers → SourceTree → TypeDeclaration
type_declaration x scope at (source name declarations attributes cs) = record {
  place = at.element;
  name = type_name_written x.target attributes at.anonymous;
  definition = definition_written x scope at (source name declarations attributes cs);
}

-- the type that an element is, if it is one
abbrev pub own_type : Context → (scope : List Declaration) → Numbers → SourceTree → List TypeDeclaration
own_type x scope at t =
    if is_schema_element (codes "complexType") (tree_name t) || is_schema_element (codes "simpleType") (tree_name t) then type_declaration x scope at t ∷ [] else []

-- the types in document order: each stands before those that stand in it
abbrev mutual
  pub types_written : Context → (scope : List Declaration) → Numbers → SourceTree → List TypeDeclaration
  types_written x scope at (source name declarations attributes cs) =
      if is_annotation name then []
      else own_type x scope at (source name declarations attributes cs)
      ++ types_among x (declarations ++ scope) (numbers_inside at (source name declarations attributes cs)) cs

  pub types_among : Context → (scope : List Declaration) → Numbers → SourceContents → List TypeDeclaration
  types_among x scope at no_content = []
  types_among x scope at (a_text text cs) = types_among x scope at cs
  types_among x scope at (a_child t cs) = types_written x scope at t ++ types_among x scope (numbers_behind at t) cs
