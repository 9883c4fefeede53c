-- What the names and the operands of a type text stand for (XQuery 1.0, sections 2.5.3 and 2.5.4).
use Rattle.std.specs.Prelude.{ℕ, Bool, List, [], ◌∷◌, find, unwrap_or, is_some, if◌then◌else◌, Option, None, Some}
use Rattle.std.specs.Option.{option_map}
use Rattle.gx_base.specs.Text.{same_text}
use Rattle.gx_base.specs.declared.name.Name.{Name}
use Rattle.gx_base.specs.declared.type_name.Builtin.{Builtin}
use Rattle.gx_base.specs.declared.type_name.Builtin.TheVariants as builtins
use Rattle.gx_base.specs.declared.type_name.TypeName.{TypeName}
use Rattle.gx_base.specs.declared.type_name.TypeName.TheVariants as names
use Rattle.gx_types.specs.declared.item_type.ItemType.TheVariants as items
use Rattle.gx_types.specs.Choice.{choice_among}
use Rattle.gx_types.specs.Derivation.{is_derived}
use Rattle.gx_types.specs.SchemaInvariant.{content_is, is_atomic_content}
use Rattle.gx_types.specs.SchemaSet.{SchemaSet, declaration_of, global_type}
use Rattle.gx_types.specs.SequenceType.{SequenceType, never, nothing, item}
use Rattle.gx_typetext.specs.declared.written.Space.{Space}
use Rattle.gx_typetext.specs.declared.written.Space.TheVariants as space
use Rattle.gx_typetext.specs.declared.written.WrittenName.{WrittenName}
use Rattle.gx_typetext.specs.declared.written.WrittenItem.{WrittenItem}
use Rattle.gx_typetext.specs.declared.written.WrittenItem.TheVariants as written
use Rattle.gx_typetext.specs.declared.written.Operand.{Operand}
use Rattle.gx_typetext.specs.declared.written.Operand.TheVariants as operand
use Rattle.gx_typetext.specs.declared.written.Piece.{Piece}
use Rattle.gx_typetext.specs.declared.written.Piece.TheVariants as piece
use Rattle.gx_typetext.specs.BuiltinName.{local_name, all_builtins}
use Rattle.gx_typetext.specs.NameText.{word, schema_namespace}

-- names

-- the URI of the namespace that stands before a local part
abbrev pub uri_of_space : Space → List ℕ
uri_of_space space.Nowhere = []
uri_of_space space.Schema = schema_namespace
uri_of_space (space.Uri uri) = uri

abbrev pub expanded_name : WrittenName → Name
expanded_name name = record { uri = uri_of_space name.space; prefix = []; local = name.local }

-- the built-in type of a local name
abbrev pub builtin_with_name : List ℕ → Option Builtin
builtin_with_name local = find (λ builtin. same_text (word (local_name builtin)) local) all_builtins

abbrev pub declared_with_name : SchemaSet → Name → Option TypeName
declared_with_name schemas name = if is_some (declaration_of schemas (names.Named name)) then Some (names.Named name) else None

-- the built-in type of a name, which is in the schema namespace
abbrev pub builtin_of_name : Name → Option Builtin
builtin_of_name name = if same_text name.uri schema_namespace then builtin_with_name name.local else None

abbrev pub or_declared : SchemaSet → Name → Option Builtin → Option TypeName
or_declared schemas name (Some builtin) = Some (names.Builtin builtin)
or_declared schemas name None = declared_with_name schemas name

-- the type of a name: a built-in one, and else a declared one
abbrev pub type_with_name : SchemaSet → Name → Option TypeName
type_with_name schemas name = or_declared schemas name (builtin_of_name name)

-- an atomic type: a built-in one that is derived from xs:anyAtomicType, or a declared one whose values are single atomic values; a
-- complex type with simple content is none
abbrev pub is_atomic_name : SchemaSet → TypeName → Bool
is_atomic_name schemas (names.Builtin builtin) = is_derived schemas (names.Builtin builtin) (names.Builtin builtins.AnyAtomic)
is_atomic_name schemas (names.Named name) = content_is (declaration_of schemas (names.Named name)) is_atomic_content
is_atomic_name schemas (names.Anonymous number) = content_is (declaration_of schemas (names.Anonymous number)) is_atomic_content

-- a type, where it is atomic
abbrev pub if_atomic : SchemaSet → Option TypeName → Option TypeName
if_atomic schemas None = None
if_atomic schemas (Some t) = if is_atomic_name schemas t then Some t else None

-- the atomic type of a name
abbrev pub atomic_with_name : SchemaSet → Name → Option TypeName
atomic_with_name schemas name = if_atomic schemas (type_with_name schemas name)

-- unknown names

-- a name that stands for nothing
abbrev pub unless_known : Option TypeName → Name → Option Name
unless_known None name = Some name
unless_known (Some t) name = None

-- in a test the type is a known one, if it is written
abbrev pub unknown_kind : SchemaSet → Option WrittenName → Option Name
unknown_kind schemas None = None
unknown_kind schemas (Some kind) = unless_known (type_with_name schemas (expanded_name kind)) (expanded_name kind)

-- a name in `schema-element` is that of a global element
abbrev pub unknown_element : SchemaSet → WrittenName → Option Name
unknown_element schemas name = unless_known (global_type schemas (expanded_name name)) (expanded_name name)

-- the unknown name in an item type; a name by itself is that of an atomic type
abbrev pub unknown_in_item : SchemaSet → WrittenItem → Option Name
unknown_in_item schemas written.AnyNode = None
unknown_in_item schemas written.AnyItem = None
unknown_in_item schemas written.Text = None
unknown_in_item schemas written.Document = None
unknown_in_item schemas (written.DocumentOf test) = unknown_kind schemas test.kind
unknown_in_item schemas (written.DocumentOfDeclared name) = unknown_element schemas name
unknown_in_item schemas (written.Element test) = unknown_kind schemas test.kind
unknown_in_item schemas (written.Attribute test) = unknown_kind schemas test.kind
unknown_in_item schemas (written.Declared name) = unknown_element schemas name
unknown_in_item schemas (written.Atomic name) = unless_known (atomic_with_name schemas (expanded_name name)) (expanded_name name)

abbrev pub unknown_in_operand : SchemaSet → Operand → Option Name
unknown_in_operand schemas operand.Never = None
unknown_in_operand schemas operand.Empty = None
unknown_in_operand schemas (operand.Item kind) = unknown_in_item schemas kind

abbrev pub unknown_in_piece : SchemaSet → Piece → Option Name
unknown_in_piece schemas piece.Opening = None
unknown_in_piece schemas piece.Closing = None
unknown_in_piece schemas piece.Comma = None
unknown_in_piece schemas piece.Bar = None
unknown_in_piece schemas (piece.Indicated indicator) = None
unknown_in_piece schemas (piece.Operand o) = unknown_in_operand schemas o

abbrev pub first_of_names : Option Name → Option Name → Option Name
first_of_names (Some name) other = Some name
first_of_names None other = other

-- the first unknown name in a text of these pieces
abbrev pub first_unknown : SchemaSet → List Piece → Option Name
first_unknown schemas [] = None
first_unknown schemas (p ∷ ps) = first_of_names (unknown_in_piece schemas p) (first_unknown schemas ps)

-- types, where no name is unknown

-- the type of a test: where none is written any type
abbrev pub tested_kind : SchemaSet → Builtin → Option WrittenName → TypeName
tested_kind schemas any None = names.Builtin any
tested_kind schemas any (Some kind) = unwrap_or (type_with_name schemas (expanded_name kind)) (names.Builtin any)

abbrev pub element_kind : SchemaSet → WrittenName → TypeName
element_kind schemas name = unwrap_or (global_type schemas (expanded_name name)) (names.Builtin builtins.AnyType)

abbrev pub atomic_kind : SchemaSet → WrittenName → TypeName
atomic_kind schemas name = unwrap_or (atomic_with_name schemas (expanded_name name)) (names.Builtin builtins.AnyAtomic)

abbrev pub node_types : List SequenceType
node_types =
    item (items.Document None) ∷ item (items.Element None (names.Builtin builtins.AnyType)) ∷ item (items.Attribute None (names.Builtin builtins.AnySimple)) ∷ item items.Text ∷ []

abbrev pub item_types : List SequenceType
item_types =
    item (items.Document None) ∷ item (items.Element None (names.Builtin builtins.AnyType)) ∷ item (items.Attribute None (names.Builtin builtins.AnySimple)) ∷ item items.Text
    ∷ item (items.Atom (names.Builtin builtins.AnyAtomic)) ∷ []

-- `node()` is the choice of all kinds of nodes, and `item()` that of these and all atomic values
abbrev pub written_item_type : SchemaSet → WrittenItem → SequenceType
written_item_type schemas written.AnyNode = choice_among node_types
written_item_type schemas written.AnyItem = choice_among item_types
written_item_type schemas written.Text = item items.Text
written_item_type schemas written.Document = item (items.Document None)
written_item_type schemas (written.DocumentOf test) = item (items.Document (Some (option_map expanded_name test.name, tested_kind schemas builtins.AnyType test.kind)))
written_item_type schemas (written.DocumentOfDeclared name) = item (items.Document (Some (Some (expanded_name name), element_kind schemas name)))
written_item_type schemas (written.Element test) = item (items.Element (option_map expanded_name test.name) (tested_kind schemas builtins.AnyType test.kind))
written_item_type schemas (written.Attribute test) = item (items.Attribute (option_map expanded_name test.name) (tested_kind schemas builtins.AnySimple test.kind))
written_item_type schemas (written.Declared name) = item (items.Element (Some (expanded_name name)) (element_kind schemas name))
written_item_type schemas (written.Atomic name) = item (items.Atom (atomic_kind schemas name))

abbrev pub written_operand_type : SchemaSet → Operand → SequenceType
written_operand_type schemas operand.Never = never
written_operand_type schemas operand.Empty = nothing
written_operand_type schemas (operand.Item kind) = written_item_type schemas kind
