-- What item types and types write to a hasher: equal ones write the same.
use Rattle.std.specs.Prelude.{[], ◌++◌, Option, None, Some}
use Rattle.std.specs.Str.{encode_utf8_all}
use Rattle.std.specs.Hash as writes
use Rattle.std.specs.Hash.{HashWrites}
use Rattle.gx_base.specs.declared.name.Name.{Name}
use Rattle.gx_base.specs.declared.type_name.TypeName.{TypeName}
use Rattle.gx_base.specs.declared.type_name.TypeName.TheVariants as names
use Rattle.gx_types.specs.BuiltinOrder.{builtin_number}
use Rattle.gx_types.specs.declared.item_type.ItemType.{ItemType}
use Rattle.gx_types.specs.declared.item_type.ItemType.TheVariants as items
use Rattle.gx_types.specs.SequenceType.{SequenceType, never, nothing, item, both, either, optional, star, plus}

abbrev pub name_writes : Name → HashWrites
name_writes name = writes.str (encode_utf8_all name.uri) ++ writes.str (encode_utf8_all name.local)

abbrev pub optional_name_writes : Option Name → HashWrites
optional_name_writes None = []
optional_name_writes (Some name) = name_writes name

abbrev pub type_name_writes : TypeName → HashWrites
type_name_writes (names.Builtin builtin) = writes.u8 (builtin_number builtin)
type_name_writes (names.Named name) = name_writes name
type_name_writes (names.Anonymous number) = writes.u32 number

-- an optional name and a type
abbrev pub test_writes : Option Name → TypeName → HashWrites
test_writes name kind = optional_name_writes name ++ type_name_writes kind

-- the sort of an item type, and then its parts
abbrev pub item_type_writes : ItemType → HashWrites
item_type_writes (items.Element name kind) = writes.u8 0 ++ test_writes name kind
item_type_writes (items.Attribute name kind) = writes.u8 1 ++ test_writes name kind
item_type_writes items.Text = writes.u8 2
item_type_writes (items.Document None) = writes.u8 3
item_type_writes (items.Document (Some element)) = writes.u8 4 ++ test_writes element.0 element.1
item_type_writes (items.Atom kind) = writes.u8 5 ++ type_name_writes kind

-- the sort of a type, and then its parts
abbrev pub type_writes : SequenceType → HashWrites
type_writes never = writes.u8 0
type_writes nothing = writes.u8 1
type_writes (item kind) = writes.u8 2 ++ item_type_writes kind
type_writes (both first second) = writes.u8 3 ++ (type_writes first ++ type_writes second)
type_writes (either first second) = writes.u8 4 ++ (type_writes first ++ type_writes second)
type_writes (optional part) = writes.u8 5 ++ type_writes part
type_writes (star part) = writes.u8 6 ++ type_writes part
type_writes (plus part) = writes.u8 7 ++ type_writes part
