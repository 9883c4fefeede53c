-- The types of typed values (Formal Semantics, section 7.2.3).
use Rattle.std.specs.Prelude.{Bool, true, false, ◌&&◌, not, Option, None, Some, if◌then◌else◌}
use Rattle.std.specs.List.{list_all}
use Rattle.gx_base.specs.declared.type_name.Builtin.TheVariants as builtins
use Rattle.gx_base.specs.declared.type_name.TypeName.{TypeName}
use Rattle.gx_base.specs.declared.type_name.TypeName.TheVariants as names
use Rattle.gx_types.specs.declared.declaration.Content.{Content}
use Rattle.gx_types.specs.declared.declaration.Content.TheVariants as contents
use Rattle.gx_types.specs.declared.declaration.Declared.{Declared}
use Rattle.gx_types.specs.declared.item_type.ItemType.{ItemType}
use Rattle.gx_types.specs.declared.item_type.ItemType.TheVariants as items
use Rattle.gx_types.specs.SchemaSet.{SchemaSet, declaration_of}
use Rattle.gx_types.specs.SequenceType.{SequenceType, never, nothing, item, both, either, optional, star, plus}
use Rattle.gx_types.specs.TypeRules.{limited}
use Rattle.gx_steptype.specs.DerivedTypes.{listed_types, derived_among, over_derived}
use Rattle.gx_steptype.specs.StepType.{is_ur_type}
use Rattle.gx_steptype.specs.Replaced.{replaced_items}

abbrev pub atomic_item : TypeName → SequenceType
atomic_item kind = item (items.Atom kind)

abbrev pub untyped_atomic_type : SequenceType
untyped_atomic_type = atomic_item (names.Builtin builtins.UntypedAtomic)

abbrev pub list_of_items : TypeName → SequenceType
list_of_items kind = star (atomic_item kind)

-- the values of a simple type: of a list those of its items
abbrev pub values_by_content : TypeName → Content → SequenceType
values_by_content kind (contents.Atomic facets) = atomic_item kind
values_by_content kind (contents.List other facets) = list_of_items other
values_by_content kind (contents.Simple other facets) = nothing
values_by_content kind (contents.Complex mixed model) = nothing

abbrev pub declared_values : TypeName → Option Declared → SequenceType
declared_values kind None = nothing
declared_values kind (Some declared) = values_by_content kind declared.content

abbrev pub simple_values : SchemaSet → TypeName → SequenceType
simple_values schemas (names.Builtin builtins.AnySimple) = list_of_items (names.Builtin builtins.AnyAtomic)
simple_values schemas (names.Builtin builtin) = atomic_item (names.Builtin builtin)
simple_values schemas (names.Named name) = declared_values (names.Named name) (declaration_of schemas (names.Named name))
simple_values schemas (names.Anonymous number) = declared_values (names.Anonymous number) (declaration_of schemas (names.Anonymous number))

-- the typed values of the nodes of a type, if it has any
pub data NodeValues : Type 0 where
  has_values : (type : SequenceType) → NodeValues
  has_no_value : NodeValues

abbrev pub is_empty_model : SequenceType → Bool
is_empty_model nothing = true
is_empty_model _ = false

-- mixed content has its string value, empty content no values, and element-only content no typed value
abbrev pub model_values : (mixed : Bool) → SequenceType → NodeValues
model_values true model = has_values untyped_atomic_type
model_values false model = if is_empty_model model then has_values nothing else has_no_value

abbrev pub content_values : SchemaSet → TypeName → Content → NodeValues
content_values schemas kind (contents.Atomic facets) = has_values (atomic_item kind)
content_values schemas kind (contents.List other facets) = has_values (list_of_items other)
content_values schemas kind (contents.Simple other facets) = has_values (simple_values schemas other)
content_values schemas kind (contents.Complex mixed model) = model_values mixed model

abbrev pub values_declared : SchemaSet → TypeName → Option Declared → NodeValues
values_declared schemas kind None = has_no_value
values_declared schemas kind (Some declared) = content_values schemas kind declared.content

abbrev pub values_of_type : SchemaSet → TypeName → NodeValues
values_of_type schemas (names.Builtin builtins.AnyType) = has_no_value
values_of_type schemas (names.Builtin builtins.Untyped) = has_values untyped_atomic_type
values_of_type schemas (names.Builtin builtin) = has_values (simple_values schemas (names.Builtin builtin))
values_of_type schemas (names.Named name) = values_declared schemas (names.Named name) (declaration_of schemas (names.Named name))
values_of_type schemas (names.Anonymous number) = values_declared schemas (names.Anonymous number) (declaration_of schemas (names.Anonymous number))

abbrev pub has_value : NodeValues → Bool
has_value (has_values t) = true
has_value has_no_value = false

abbrev pub value_type : NodeValues → SequenceType
value_type (has_values t) = t
value_type has_no_value = nothing

abbrev pub value_type_of : SchemaSet → TypeName → SequenceType
value_type_of schemas t = value_type (values_of_type schemas t)

-- all types that are derived from a type have values
abbrev pub have_values : SchemaSet → TypeName → Bool
have_values schemas kind = list_all (λ t. has_value (values_of_type schemas t)) (derived_among schemas kind (listed_types schemas))

-- an element has those of its type and of all types that are derived from it, and each of them must have some
abbrev pub item_has_data : SchemaSet → ItemType → Bool
item_has_data schemas (items.Element name kind) =
    not (is_ur_type kind) && have_values schemas kind
item_has_data schemas (items.Attribute name kind) = has_value (values_of_type schemas kind)
item_has_data schemas items.Text = true
item_has_data schemas (items.Document element) = true
item_has_data schemas (items.Atom kind) = true

abbrev pub item_data : SchemaSet → ItemType → SequenceType
item_data schemas (items.Element name kind) = over_derived schemas (value_type_of schemas) kind
item_data schemas (items.Attribute name kind) = value_type_of schemas kind
item_data schemas items.Text = untyped_atomic_type
item_data schemas (items.Document element) = untyped_atomic_type
item_data schemas (items.Atom kind) = atomic_item kind

-- each item type of a type has a typed value
abbrev pub has_data : SchemaSet → SequenceType → Bool
has_data schemas never = true
has_data schemas nothing = true
has_data schemas (item kind) = item_has_data schemas kind
has_data schemas (both first second) = has_data schemas first && has_data schemas second
has_data schemas (either first second) = has_data schemas first && has_data schemas second
has_data schemas (optional part) = has_data schemas part
has_data schemas (star part) = has_data schemas part
has_data schemas (plus part) = has_data schemas part

abbrev pub type_of_data : SchemaSet → SequenceType → SequenceType
type_of_data schemas t = limited (replaced_items (item_data schemas) t)
