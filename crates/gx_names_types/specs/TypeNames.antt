-- Types as they are written, with their names resolved (XQuery 1.0, sections 2.5.3 and 2.5.4).
use Rattle.std.specs.Prelude.{ℕ, Bool, false, List, [], ◌++◌, Option, None, Some, unwrap_or, if◌then◌else◌}
use Rattle.std.specs.Option.{option_map}
use Rattle.gx_base.specs.declared.name.Name.{Name}
use Rattle.gx_base.specs.declared.place.Place.{Place}
use Rattle.gx_base.specs.declared.code.Code.TheVariants.{XPST0008, XPST0051, XPST0080, XPST0081}
use Rattle.gx_base.specs.declared.type_name.Builtin.{Builtin}
use Rattle.gx_base.specs.declared.type_name.Builtin.TheVariants as builtins
use Rattle.gx_base.specs.declared.type_name.TypeName.{TypeName}
use Rattle.gx_base.specs.declared.type_name.TypeName.TheVariants as names
use Rattle.gx_ast.specs.declared.name.QName.{QName}
use Rattle.gx_ast.specs.declared.sequence_type.Indicator.{Indicator}
use Rattle.gx_ast.specs.declared.sequence_type.Indicator.TheVariants as indicated
use Rattle.gx_ast.specs.declared.sequence_type.TestedName.{TestedName}
use Rattle.gx_ast.specs.declared.sequence_type.KindTest.{KindTest}
use Rattle.gx_ast.specs.declared.sequence_type.KindTest.TheVariants as kinds
use Rattle.gx_ast.specs.declared.sequence_type.ItemType.{ItemType}
use Rattle.gx_ast.specs.declared.sequence_type.ItemType.TheVariants as written
use Rattle.gx_ast.specs.declared.sequence_type.SequenceType.{SequenceType as WrittenType}
use Rattle.gx_ast.specs.declared.sequence_type.SequenceType.TheVariants as sequences
use Rattle.gx_types.specs.declared.item_type.ItemType.TheVariants as items
use Rattle.gx_types.specs.SchemaSet.{global_type}
use Rattle.gx_types.specs.SameItemType.{same_type_name}
use Rattle.gx_types.specs.Choice.{choice_among}
use Rattle.gx_types.specs.Indicator.{optional_of, star_of, plus_of}
use Rattle.gx_types.specs.SequenceType.{SequenceType, nothing, item}
use Rattle.gx_typetext.specs.KnownNames.{type_with_name, atomic_with_name, node_types, item_types}
use Rattle.gx_names_scope.specs.declared.refusal.Refusal.{Refusal}
use Rattle.gx_names_scope.specs.Refusing.{refused_at, where_named, unless_found, prefix_refusals}
use Rattle.gx_names_scope.specs.Environment.{Environment, element_name, plain_name, or_nameless}

-- ---- refusals

-- the type behind the comma of a test: any known type
abbrev pub kind_refusals : Environment → Option QName → List Refusal
kind_refusals environment None = []
kind_refusals environment (Some kind) =
    where_named (element_name environment kind) kind.place (λ name. unless_found (type_with_name environment.schemas name) kind.place XPST0008)

-- a prefix by itself
abbrev pub uri_refusals : Option (List ℕ) → Place → List Refusal
uri_refusals None place = refused_at place XPST0081
uri_refusals (Some uri) place = []

abbrev pub tested_element_refusals : Environment → Option QName → List Refusal
tested_element_refusals environment None = []
tested_element_refusals environment (Some name) = prefix_refusals (element_name environment name) name.place

abbrev pub tested_attribute_refusals : Environment → Option QName → List Refusal
tested_attribute_refusals environment None = []
tested_attribute_refusals environment (Some name) = prefix_refusals (plain_name environment name) name.place

abbrev pub element_test_refusals : Environment → Option TestedName → List Refusal
element_test_refusals environment None = []
element_test_refusals environment (Some tested) = tested_element_refusals environment tested.name ++ kind_refusals environment tested.kind

abbrev pub attribute_test_refusals : Environment → Option TestedName → List Refusal
attribute_test_refusals environment None = []
attribute_test_refusals environment (Some tested) = tested_attribute_refusals environment tested.name ++ kind_refusals environment tested.kind

-- the name in `schema-element` is that of a global element
abbrev pub declared_refusals : Environment → QName → List Refusal
declared_refusals environment name =
    where_named (element_name environment name) name.place (λ n. unless_found (global_type environment.schemas n) name.place XPST0008)

abbrev pub test_refusals : Environment → KindTest → List Refusal
test_refusals environment (kinds.Node place) = []
test_refusals environment (kinds.Text place) = []
test_refusals environment (kinds.Document place) = []
test_refusals environment (kinds.DocumentOf place inner tested) = element_test_refusals environment tested
test_refusals environment (kinds.DocumentOfDeclared place inner name) = declared_refusals environment name
test_refusals environment (kinds.Element place tested) = element_test_refusals environment tested
test_refusals environment (kinds.Attribute place tested) = attribute_test_refusals environment tested
test_refusals environment (kinds.Declared place name) = declared_refusals environment name

-- a name by itself is that of an atomic type
abbrev pub item_refusals : Environment → ItemType → List Refusal
item_refusals environment (written.Item place) = []
item_refusals environment (written.Kind test) = test_refusals environment test
item_refusals environment (written.Atomic name) =
    where_named (element_name environment name) name.place (λ n. unless_found (atomic_with_name environment.schemas n) name.place XPST0051)

abbrev pub type_refusals : Environment → WrittenType → List Refusal
type_refusals environment (sequences.Empty place) = []
type_refusals environment (sequences.Items kind indicator) = item_refusals environment kind

abbrev pub written_type_refusals : Environment → Option WrittenType → List Refusal
written_type_refusals environment None = []
written_type_refusals environment (Some kind) = type_refusals environment kind

-- the type of a cast is atomic, and not xs:anyAtomicType itself
abbrev pub is_any_atomic : Option TypeName → Bool
is_any_atomic None = false
is_any_atomic (Some t) = same_type_name t (names.Builtin builtins.AnyAtomic)

abbrev pub target_refusals : Environment → QName → List Refusal
target_refusals environment target =
    where_named (element_name environment target) target.place
    (λ name. if is_any_atomic (atomic_with_name environment.schemas name) then refused_at target.place XPST0080
    else unless_found (atomic_with_name environment.schemas name) target.place XPST0051)

-- ---- types

-- the type in a test: where none is written any type
abbrev pub tested_type : Environment → Builtin → Option QName → TypeName
tested_type environment any None = names.Builtin any
tested_type environment any (Some kind) = unwrap_or (type_with_name environment.schemas (or_nameless (element_name environment kind))) (names.Builtin any)

abbrev pub element_test_name : Environment → TestedName → Option Name
element_test_name environment tested = option_map (λ name. or_nameless (element_name environment name)) tested.name

abbrev pub attribute_test_name : Environment → TestedName → Option Name
attribute_test_name environment tested = option_map (λ name. or_nameless (plain_name environment name)) tested.name

-- the name and the type that an element test asks for
abbrev pub element_tested : Environment → Option TestedName → Option Name × TypeName
element_tested environment None = (None, names.Builtin builtins.AnyType)
element_tested environment (Some tested) = (element_test_name environment tested, tested_type environment builtins.AnyType tested.kind)

abbrev pub attribute_tested : Environment → Option TestedName → Option Name × TypeName
attribute_tested environment None = (None, names.Builtin builtins.AnySimple)
attribute_tested environment (Some tested) = (attribute_test_name environment tested, tested_type environment builtins.AnySimple tested.kind)

-- the name and the type of a global element
abbrev pub element_declared : Environment → QName → Option Name × TypeName
element_declared environment name =
    let n = or_nameless (element_name environment name) in
    (Some n, unwrap_or (global_type environment.schemas n) (names.Builtin builtins.AnyType))

abbrev pub element_item : Option Name × TypeName → SequenceType
element_item tested = item (items.Element tested.0 tested.1)

abbrev pub attribute_item : Option Name × TypeName → SequenceType
attribute_item tested = item (items.Attribute tested.0 tested.1)

abbrev pub document_item : Option Name × TypeName → SequenceType
document_item tested = item (items.Document (Some (tested.0, tested.1)))

abbrev pub test_type : Environment → KindTest → SequenceType
test_type environment (kinds.Node place) = choice_among node_types
test_type environment (kinds.Text place) = item items.Text
test_type environment (kinds.Document place) = item (items.Document None)
test_type environment (kinds.DocumentOf place inner tested) = document_item (element_tested environment tested)
test_type environment (kinds.DocumentOfDeclared place inner name) = document_item (element_declared environment name)
test_type environment (kinds.Element place tested) = element_item (element_tested environment tested)
test_type environment (kinds.Attribute place tested) = attribute_item (attribute_tested environment tested)
test_type environment (kinds.Declared place name) = element_item (element_declared environment name)

abbrev pub atomic_named : Environment → QName → TypeName
atomic_named environment name = unwrap_or (atomic_with_name environment.schemas (or_nameless (element_name environment name))) (names.Builtin builtins.AnyAtomic)

abbrev pub item_type_of : Environment → ItemType → SequenceType
item_type_of environment (written.Item place) = choice_among item_types
item_type_of environment (written.Kind test) = test_type environment test
item_type_of environment (written.Atomic name) = item (items.Atom (atomic_named environment name))

abbrev pub indicated_type : Indicator → SequenceType → SequenceType
indicated_type indicated.Once t = t
indicated_type indicated.Optional t = optional_of t
indicated_type indicated.Star t = star_of t
indicated_type indicated.Plus t = plus_of t

abbrev pub type_written : Environment → WrittenType → SequenceType
type_written environment (sequences.Empty place) = nothing
type_written environment (sequences.Items kind indicator) = indicated_type indicator (item_type_of environment kind)
