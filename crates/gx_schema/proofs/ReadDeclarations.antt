-- Declarations that name types which there are: built-in ones that may be named, those of names, and those without a name that are written.
use Rattle.std.specs.Prelude.{◌≡◌, ℕ, Bool, true, false, ◌&&◌, List, Option, None, Some}
use Rattle.std.specs.List.{list_any}
use Rattle.gx_base.specs.declared.type_name.TypeName.TheVariants as names
use Rattle.gx_types.specs.SameItemType.{same_type_name}
use Rattle.gx_types.specs.SchemaInvariant.{HoldsOfEach, is_built_in, is_nameable}
use Rattle.gx_schema_syntax.specs.declared.written.AttributeMember.{AttributeMember}
use Rattle.gx_schema_syntax.specs.declared.written.AttributeMember.TheVariants as members
use Rattle.gx_schema_syntax.specs.declared.written.Derivation.{Derivation}
use Rattle.gx_schema_syntax.specs.declared.written.GlobalDeclaration.{GlobalDeclaration}
use Rattle.gx_schema_syntax.specs.declared.written.GlobalDeclaration.TheVariants.{Element, Attribute, Group, AttributeGroup}
use Rattle.gx_schema_syntax.specs.declared.written.LocalDeclaration.{LocalDeclaration}
use Rattle.gx_schema_syntax.specs.declared.written.LocalDeclaration.TheVariants.{Declared, Referred}
use Rattle.gx_schema_syntax.specs.declared.written.SimpleTypeDefinition.{SimpleTypeDefinition}
use Rattle.gx_schema_syntax.specs.declared.written.SimpleTypeDefinition.TheVariants as simple
use Rattle.gx_schema_syntax.specs.declared.written.TypeDeclaration.{TypeDeclaration}
use Rattle.gx_schema_syntax.specs.declared.written.TypeDefinition.{TypeDefinition}
use Rattle.gx_schema_syntax.specs.declared.written.TypeDefinition.TheVariants.{Simple, Complex}
use Rattle.gx_schema_syntax.specs.declared.written.TypeReference.{TypeReference}
use Rattle.gx_schema_syntax.specs.declared.written.TypeReference.TheVariants as types
use Rattle.gx_schema_syntax.specs.declared.written.Usage.{Usage}
use Rattle.gx_schema_syntax.specs.declared.written.Usage.TheVariants as usages
use Rattle.gx_schema_syntax.specs.DocumentTree.{DocumentTree}
use Rattle.gx_schema_syntax.specs.ParticleTree.{ParticleTree, ParticleTrees, an_element, a_group, a_model_group, no_particles, a_particle}
use Rattle.gx_schema_components.specs.DeclaredNames.{declarations_in, types_in}

-- ---- the types of elements and attributes

abbrev pub any_definition : TypeDefinition → Bool
any_definition definition = true

abbrev pub is_simple_definition : TypeDefinition → Bool
is_simple_definition (Simple definition) = true
is_simple_definition (Complex definition) = false

-- a type without a name that has this number, of a wanted definition
abbrev pub is_anonymous : (wanted : TypeDefinition → Bool) → ℕ → TypeDeclaration → Bool
is_anonymous wanted number declaration = wanted declaration.definition && same_type_name declaration.name (names.Anonymous number)

-- a built-in type from xs:string on, a type of a name, or one without a name that is there
abbrev pub is_read_kind : (wanted : TypeDefinition → Bool) → List TypeDeclaration → TypeReference → Bool
is_read_kind wanted all (types.Builtin builtin) = is_nameable builtin
is_read_kind wanted all (types.Declared reference) = true
is_read_kind wanted all (types.Anonymous number) = list_any (is_anonymous wanted number) all

abbrev pub IsReadKind : (wanted : TypeDefinition → Bool) → List TypeDeclaration → TypeReference → Type 0
IsReadKind wanted all kind = is_read_kind wanted all kind ≡ true

-- an element may have any type, and an attribute a simple one
abbrev pub IsElementType : List TypeDeclaration → TypeReference → Type 0
IsElementType all kind = IsReadKind any_definition all kind

abbrev pub IsAttributeType : List TypeDeclaration → TypeReference → Type 0
IsAttributeType all kind = IsReadKind is_simple_definition all kind

-- ---- what holds of the types that elements and attributes are written with

abbrev pub HoldsLocal : (TypeReference → Type 0) → LocalDeclaration → Type 0
HoldsLocal Fact (Declared name kind) = Fact kind
HoldsLocal Fact (Referred reference kind) = Unit {0}

abbrev mutual
  pub HoldsParticle : (TypeReference → Type 0) → ParticleTree → Type 0
  HoldsParticle Fact (an_element place bounds declaration) = HoldsLocal Fact declaration
  HoldsParticle Fact (a_group place bounds reference) = Unit {0}
  HoldsParticle Fact (a_model_group place bounds compositor particles) = HoldsParticles Fact particles

  pub HoldsParticles : (TypeReference → Type 0) → ParticleTrees → Type 0
  HoldsParticles Fact no_particles = Unit {0}
  HoldsParticles Fact (a_particle particle others) = HoldsParticle Fact particle × HoldsParticles Fact others

abbrev pub HoldsContent : (TypeReference → Type 0) → Option ParticleTree → Type 0
HoldsContent Fact None = Unit {0}
HoldsContent Fact (Some particle) = HoldsParticle Fact particle

-- a prohibited attribute is none
abbrev pub HoldsUse : (TypeReference → Type 0) → Usage → LocalDeclaration → Type 0
HoldsUse Fact usages.Optional attribute = HoldsLocal Fact attribute
HoldsUse Fact usages.Required attribute = HoldsLocal Fact attribute
HoldsUse Fact usages.Prohibited attribute = Unit {0}

abbrev pub HoldsMember : (TypeReference → Type 0) → AttributeMember → Type 0
HoldsMember Fact (members.Attribute place usage attribute) = HoldsUse Fact usage attribute
HoldsMember Fact (members.Group place reference) = Unit {0}

-- what holds of elements and of attributes
abbrev pub HoldsDefinition : (Elements Attributes : TypeReference → Type 0) → TypeDefinition → Type 0
HoldsDefinition Elements Attributes (Simple definition) = Unit {0}
HoldsDefinition Elements Attributes (Complex definition) = HoldsContent Elements definition.particle × HoldsOfEach (HoldsMember Attributes) definition.attributes

abbrev pub HoldsDeclaration : (Elements Attributes : TypeReference → Type 0) → TypeDeclaration → Type 0
HoldsDeclaration Elements Attributes declaration = HoldsDefinition Elements Attributes declaration.definition

abbrev pub HoldsGlobal : (Elements Attributes : TypeReference → Type 0) → GlobalDeclaration → Type 0
HoldsGlobal Elements Attributes (Element place name kind) = Elements kind
HoldsGlobal Elements Attributes (Attribute place name kind) = Attributes kind
HoldsGlobal Elements Attributes (Group place name particle) = HoldsContent Elements particle
HoldsGlobal Elements Attributes (AttributeGroup place name attributes) = HoldsOfEach (HoldsMember Attributes) attributes

-- ---- type declarations

-- a base or an item type has a name
abbrev pub is_read_base : TypeReference → Bool
is_read_base (types.Builtin builtin) = is_nameable builtin
is_read_base (types.Declared reference) = true
is_read_base (types.Anonymous number) = false

abbrev pub base_written : SimpleTypeDefinition → TypeReference
base_written (simple.Restriction place base facets) = base
base_written (simple.List place item) = item

abbrev pub is_read_derivation : Option Derivation → Bool
is_read_derivation None = true
is_read_derivation (Some derivation) = is_read_base derivation.base

abbrev pub IsReadDefinition : TypeDefinition → Type 0
IsReadDefinition (Simple definition) = is_read_base (base_written definition) ≡ true
IsReadDefinition (Complex definition) = is_read_derivation definition.derivation ≡ true

-- a type is not built in
pub record IsReadDeclaration (declaration : TypeDeclaration) : Type 0 where
  pub own : is_built_in declaration.name ≡ false
  pub definition : IsReadDefinition declaration.definition

-- the types that are declared, and those that elements and attributes are written with
pub record IsEverythingRead (documents : List DocumentTree) : Type 0 where
  pub types : HoldsOfEach IsReadDeclaration (types_in documents)
  pub kinds : HoldsOfEach (HoldsDeclaration (IsElementType (types_in documents)) (IsAttributeType (types_in documents))) (types_in documents)
  pub globals : HoldsOfEach (HoldsGlobal (IsElementType (types_in documents)) (IsAttributeType (types_in documents))) (declarations_in documents)
