-- The declared types that item types may take.
use Rattle.std.specs.Prelude.{ℕ, Bool, true, false, List, [], ◌∷◌, None, Some, if◌then◌else◌}
use Rattle.std.specs.List.{list_any, flat_map}
use Rattle.gx_base.specs.declared.type_name.TypeName.{TypeName}
use Rattle.gx_types.specs.declared.declaration.Declared.{Declared}
use Rattle.gx_types.specs.declared.item_type.ItemType.{ItemType}
use Rattle.gx_types.specs.declared.item_type.ItemType.TheVariants as items
use Rattle.gx_types.specs.SchemaSet.{SchemaSet}
use Rattle.gx_types.specs.Derivation.{is_derived}
use Rattle.gx_include_derivations.specs.Derivations.{is_derived_at}

-- what a test says of the type that an item type asks for; a text has no type, and documents are taken with elements of each type
abbrev pub test_asked : ItemType → (TypeName → Bool) → Bool
test_asked (items.Element name kind) test = test kind
test_asked (items.Attribute name kind) test = test kind
test_asked items.Text test = false
test_asked (items.Document None) test = true
test_asked (items.Document (Some element)) test = test element.1
test_asked (items.Atom kind) test = test kind

-- an item type may take a shape that has a type
abbrev pub asks : SchemaSet → TypeName → ItemType → Bool
asks schemas t item = test_asked item (is_derived schemas t)

-- one of some item types may take a shape that has a type
abbrev pub is_asked : SchemaSet → List ItemType → TypeName → Bool
is_asked schemas items t = list_any (asks schemas t) items

-- the declared types of which item types may take shapes, in document order
abbrev pub types_asked : SchemaSet → List ItemType → List TypeName
types_asked schemas items = flat_map (λ (declared : Declared). if is_asked schemas items declared.name then declared.name ∷ [] else []) schemas.types

-- the same of the declared type of a number
abbrev pub asks_at : SchemaSet → ℕ → ItemType → Bool
asks_at schemas number item = test_asked item (λ kind. is_derived_at schemas kind number)

abbrev pub is_asked_at : SchemaSet → List ItemType → ℕ → Bool
is_asked_at schemas items number = list_any (asks_at schemas number) items
