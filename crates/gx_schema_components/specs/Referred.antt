-- What references refer to, over the numbers of names. A name that refers to nothing is put as xs:anyType, and as number 0.
use Rattle.std.specs.Prelude.{ℕ, List, slice_index_or, Option, None, Some, unwrap_or}
use Rattle.gx_base.specs.declared.name.Name.{Name}
use Rattle.gx_base.specs.declared.type_name.Builtin.TheVariants as builtins
use Rattle.gx_base.specs.declared.type_name.TypeName.{TypeName}
use Rattle.gx_base.specs.declared.type_name.TypeName.TheVariants as names
use Rattle.gx_qnames.specs.declared.reference.Reference.{Reference}
use Rattle.gx_schema_syntax.specs.declared.written.LocalDeclaration.{LocalDeclaration}
use Rattle.gx_schema_syntax.specs.declared.written.LocalDeclaration.TheVariants as locals
use Rattle.gx_schema_syntax.specs.declared.written.TypeReference.{TypeReference}
use Rattle.gx_schema_syntax.specs.declared.written.TypeReference.TheVariants as types
use Rattle.gx_schema_components.specs.declared.component.Base.{Base}
use Rattle.gx_schema_components.specs.declared.component.Base.TheVariants as bases
use Rattle.gx_schema_components.specs.declared.component.Declaration.{Declaration}
use Rattle.gx_schema_components.specs.declared.mention.ComponentKind.{ComponentKind}
use Rattle.gx_schema_components.specs.declared.mention.ComponentKind.TheVariants as kinds
use Rattle.gx_schema_components.specs.declared.referred.TypedName.{TypedName}
use Rattle.gx_schema_components.specs.Unknown.{Numbering}

-- what names refer to: the numbers of names, the types' names by number, and global elements and attributes
pub record Globals : Type 0 where
  pub numbers : Numbering
  pub types : List TypeName
  pub elements : List Declaration
  pub attributes : List Declaration

-- ---- types

abbrev pub unknown_type : TypeName
unknown_type = names.Builtin builtins.AnyType

abbrev pub type_numbered : List TypeName → Option ℕ → TypeName
type_numbered types None = unknown_type
type_numbered types (Some number) = slice_index_or types number unknown_type

abbrev pub type_referred : Numbering → List TypeName → TypeReference → TypeName
type_referred numbers declared (types.Builtin builtin) = names.Builtin builtin
type_referred numbers declared (types.Declared reference) = type_numbered declared (numbers kinds.TypeDefinition reference.name)
type_referred numbers declared (types.Anonymous number) = names.Anonymous number

-- a base or an item type; one without a name stands at no base
abbrev pub unknown_base : Base
unknown_base = bases.Builtin builtins.AnyType

abbrev pub base_of_number : Option ℕ → Base
base_of_number None = unknown_base
base_of_number (Some number) = bases.Declared number

abbrev pub base_referred : Numbering → TypeReference → Base
base_referred numbers (types.Builtin builtin) = bases.Builtin builtin
base_referred numbers (types.Declared reference) = base_of_number (numbers kinds.TypeDefinition reference.name)
base_referred numbers (types.Anonymous number) = unknown_base

-- ---- elements, attributes and groups

abbrev pub typed_name : Declaration → TypedName
typed_name declaration = record { name = declaration.name; kind = declaration.kind }

-- the name and the type of a global declaration
abbrev pub declaration_referred : List Declaration → Option ℕ → Name → TypedName
declaration_referred declarations None name = record { name = name; kind = unknown_type }
declaration_referred declarations (Some number) name = typed_name (slice_index_or declarations number (record { place = 0; name = name; kind = unknown_type }))

-- of a local declaration: its own, or those of what it refers to
abbrev pub local_component : Globals → ComponentKind → List Declaration → LocalDeclaration → TypedName
local_component x component declarations (locals.Declared name kind) = record { name = name; kind = type_referred x.numbers x.types kind }
local_component x component declarations (locals.Referred reference kind) = declaration_referred declarations (x.numbers component reference.name) reference.name

-- the number of a group or of an attribute group
abbrev pub group_referred : Globals → ComponentKind → Reference → ℕ
group_referred x kind reference = unwrap_or (x.numbers kind reference.name) 0
