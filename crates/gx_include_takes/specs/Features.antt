-- The two halves of the test of a shape against an item type: by its name, and by its sort and its type.
use Rattle.std.specs.Prelude.{◌≡◌, Bool, true, false, ◌&&◌, List, Option, None, Some, if◌then◌else◌}
use Rattle.gx_base.specs.declared.name.Name.{Name}
use Rattle.gx_base.specs.declared.type_name.TypeName.{TypeName}
use Rattle.gx_types.specs.declared.item_type.ItemType.{ItemType}
use Rattle.gx_types.specs.declared.item_type.ItemType.TheVariants as items
use Rattle.gx_types.specs.declared.shape.Shape.{Shape}
use Rattle.gx_types.specs.declared.shape.Shape.TheVariants as shapes
use Rattle.gx_types.specs.SchemaSet.{SchemaSet}
use Rattle.gx_types.specs.Derivation.{is_derived}
use Rattle.gx_include_takes.specs.declared.reading.Feature.{Feature}
use Rattle.gx_include_takes.specs.declared.reading.Feature.TheVariants as features
use Rattle.gx_include_takes.specs.declared.reading.Symbol.{Symbol}
use Rattle.gx_include_positions.specs.Names.{name_given, may_fit, name_of, is_named}
use Rattle.gx_include_positions.specs.Test.{is_taken}

-- By sort and type

-- an item type takes elements of a type, of some name
abbrev pub takes_element : TypeName → SchemaSet → ItemType → Bool
takes_element t schemas (items.Element wanted kind) = is_derived schemas t kind
takes_element t schemas _ = false

abbrev pub takes_attribute : TypeName → SchemaSet → ItemType → Bool
takes_attribute t schemas (items.Attribute wanted kind) = is_derived schemas t kind
takes_attribute t schemas _ = false

abbrev pub takes_text : SchemaSet → ItemType → Bool
takes_text schemas items.Text = true
takes_text schemas _ = false

-- an item type takes document nodes without an element
abbrev pub takes_document : SchemaSet → ItemType → Bool
takes_document schemas (items.Document None) = true
takes_document schemas _ = false

-- an item type takes document nodes with an element of a type, of some name
abbrev pub takes_document_of : TypeName → SchemaSet → ItemType → Bool
takes_document_of t schemas (items.Document None) = true
takes_document_of t schemas (items.Document (Some element)) = is_derived schemas t element.1
takes_document_of t schemas _ = false

abbrev pub takes_atom : TypeName → SchemaSet → ItemType → Bool
takes_atom t schemas (items.Atom kind) = is_derived schemas t kind
takes_atom t schemas _ = false

-- an item type takes a shape, if the name is left aside
abbrev pub is_typed : Shape → SchemaSet → ItemType → Bool
is_typed (shapes.Elem name t) = takes_element t
is_typed (shapes.Attr name t) = takes_attribute t
is_typed shapes.Text = takes_text
is_typed (shapes.Doc None) = takes_document
is_typed (shapes.Doc (Some child)) = takes_document_of child.1
is_typed (shapes.Atom t) = takes_atom t

-- By name

-- an item type does not exclude shapes of a name, or of none
abbrev pub may_take : Option Name → SchemaSet → ItemType → Bool
may_take given schemas kind = may_fit (name_of kind) given

-- a name, if it is in a list
abbrev pub known_name : List Name → Option Name → Option Name
known_name names None = None
known_name names (Some name) = if is_named names name then Some name else None

-- Both

-- both halves are the whole test
abbrev pub HalvesAreTheTest : Type 0
HalvesAreTheTest = (schemas : SchemaSet) (shape : Shape) (kind : ItemType) → is_taken schemas shape kind ≡ (may_take (name_given shape) schemas kind && is_typed shape schemas kind)

-- an item type takes what has a feature, as far as that says
abbrev pub accepts : Feature → SchemaSet → ItemType → Bool
accepts (features.Named name) = may_take (Some name.now)
accepts features.Unnamed = may_take None
accepts (features.Element t) = takes_element t.now
accepts (features.Attribute t) = takes_attribute t.now
accepts features.Text = takes_text
accepts features.Document = takes_document
accepts (features.DocumentOf t) = takes_document_of t.now
accepts (features.Atom t) = takes_atom t.now

-- an item type takes what is read for a symbol
abbrev pub is_read : Symbol → SchemaSet → ItemType → Bool
is_read symbol schemas kind = accepts symbol.name schemas kind && accepts symbol.kind schemas kind

-- a symbol of a shape, where item types ask for no other names than those of a list
pub record IsSymbolOf (names : List Name) (shape : Shape) (symbol : Symbol) : Type 0 where
  pub by_name : accepts symbol.name ≡ may_take (known_name names (name_given shape))
  pub by_kind : accepts symbol.kind ≡ is_typed shape
