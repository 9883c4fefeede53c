-- The types of steps (Formal Semantics, section 8.2).
use Rattle.std.specs.Prelude.{Bool, true, false, List, [], ◌∷◌, ◌++◌, map, fold, Option, None, Some, if◌then◌else◌}
use Rattle.std.specs.List.{flat_map}
use Rattle.gx_closure.specs.Closure.{closure_from}
use Rattle.gx_base.specs.declared.type_name.Builtin.TheVariants as builtins
use Rattle.gx_base.specs.declared.type_name.TypeName.{TypeName}
use Rattle.gx_base.specs.declared.type_name.TypeName.TheVariants as names
use Rattle.gx_types.specs.declared.declaration.AttributeUse.{AttributeUse}
use Rattle.gx_types.specs.declared.declaration.Content.{Content}
use Rattle.gx_types.specs.declared.declaration.Content.TheVariants as contents
use Rattle.gx_types.specs.declared.declaration.Declared.{Declared}
use Rattle.gx_types.specs.declared.item_type.ItemType.{ItemType}
use Rattle.gx_types.specs.declared.item_type.ItemType.TheVariants as items
use Rattle.gx_types.specs.declared.step.Axis.{Axis}
use Rattle.gx_types.specs.declared.step.Axis.TheVariants as axes
use Rattle.gx_types.specs.declared.step.NameTest.TheVariants as tests
use Rattle.gx_types.specs.declared.step.Test.{Test}
use Rattle.gx_types.specs.SameItemType.{same_item_type}
use Rattle.gx_types.specs.SchemaSet.{SchemaSet, declaration_of}
use Rattle.gx_types.specs.SequenceType.{SequenceType, nothing, item, either, optional, star}
use Rattle.gx_types.specs.Indicator.{star_of}
use Rattle.gx_types.specs.Choice.{choice_among}
use Rattle.gx_types.specs.Prime.{items_of}
use Rattle.gx_types.specs.TypeRules.{joined_types, factored, limited}
use Rattle.gx_model.specs.NodeTest.{KindTest, an_attribute, asked}
use Rattle.gx_model.specs.Axes.{is_attribute_axis}
use Rattle.gx_steptype.specs.Replaced.{replaced_items}
use Rattle.gx_steptype.specs.DerivedTypes.{listed_types, over_derived}
use Rattle.gx_steptype.specs.TestedType.{tested_item}

-- items

abbrev pub any_element : SequenceType
any_element = item (items.Element None (names.Builtin builtins.AnyType))

abbrev pub any_attribute : ItemType
any_attribute = items.Attribute None (names.Builtin builtins.AnySimple)

abbrev pub untyped_attribute : ItemType
untyped_attribute = items.Attribute None (names.Builtin builtins.UntypedAtomic)

abbrev pub any_document : SequenceType
any_document = item (items.Document None)

abbrev pub text_item : SequenceType
text_item = item items.Text

abbrev pub optional_text : SequenceType
optional_text = optional text_item

-- elements of one type, and texts, in any number and order
abbrev pub mixed_with : TypeName → SequenceType
mixed_with kind = star (either (item (items.Element None kind)) text_item)

-- children

-- the children that a declaration allows: of simple content at most one text
abbrev pub content_type : Content → SequenceType
content_type (contents.Atomic facets) = optional_text
content_type (contents.List kind facets) = optional_text
content_type (contents.Simple kind facets) = optional_text
content_type (contents.Complex mixed model) = model

abbrev pub declared_content : Option Declared → SequenceType
declared_content None = nothing
declared_content (Some declared) = content_type declared.content

-- the children of the elements of one type
abbrev pub content_of : SchemaSet → TypeName → SequenceType
content_of schemas (names.Builtin builtins.AnyType) = mixed_with (names.Builtin builtins.AnyType)
content_of schemas (names.Builtin builtins.Untyped) = mixed_with (names.Builtin builtins.Untyped)
content_of schemas (names.Builtin builtin) = optional_text
content_of schemas (names.Named name) = declared_content (declaration_of schemas (names.Named name))
content_of schemas (names.Anonymous number) = declared_content (declaration_of schemas (names.Anonymous number))

abbrev pub is_ur_type : TypeName → Bool
is_ur_type (names.Builtin builtins.AnyType) = true
is_ur_type _ = false

-- those of the elements of a type and of all types that are derived from it
abbrev pub child_content : SchemaSet → TypeName → SequenceType
child_content schemas kind = if is_ur_type kind then content_of schemas kind else over_derived schemas (content_of schemas) kind

abbrev pub child_type : SchemaSet → ItemType → SequenceType
child_type schemas (items.Element name kind) = child_content schemas kind
child_type schemas (items.Attribute name kind) = nothing
child_type schemas items.Text = nothing
child_type schemas (items.Document None) = mixed_with (names.Builtin builtins.AnyType)
child_type schemas (items.Document (Some e)) = item (items.Element e.0 e.1)
child_type schemas (items.Atom kind) = nothing

-- attributes

abbrev pub use_type : AttributeUse → SequenceType
use_type allowed =
    if allowed.required then item (items.Attribute (Some allowed.name) allowed.kind) else optional (item (items.Attribute (Some allowed.name) allowed.kind))

-- the attributes that a declaration allows, in their order
abbrev pub uses_type : List AttributeUse → SequenceType
uses_type uses = fold (λ t allowed. joined_types t (use_type allowed)) nothing uses

abbrev pub declared_attributes : Option Declared → SequenceType
declared_attributes None = nothing
declared_attributes (Some declared) = uses_type declared.attributes

abbrev pub attributes_of_type : SchemaSet → TypeName → SequenceType
attributes_of_type schemas (names.Builtin builtin) = nothing
attributes_of_type schemas (names.Named name) = declared_attributes (declaration_of schemas (names.Named name))
attributes_of_type schemas (names.Anonymous number) = declared_attributes (declaration_of schemas (names.Anonymous number))

abbrev pub has_one_name : KindTest → Bool
has_one_name (an_attribute (tests.Name name) kind) = true
has_one_name _ = false

-- attributes have no order, so but for one name the items stand as often as there are attributes
abbrev pub unordered : KindTest → SequenceType → SequenceType
unordered test t = if has_one_name test then t else factored t

-- of any number of attributes, at most one has the name
abbrev pub any_attributes : SchemaSet → KindTest → ItemType → SequenceType
any_attributes schemas test kind = if has_one_name test then tested_item schemas test kind else factored (star_of (tested_item schemas test kind))

-- of declared ones, those of the type and of all types that are derived from it
abbrev pub attributes_behind : SchemaSet → KindTest → TypeName → SequenceType
attributes_behind schemas test kind = unordered test (replaced_items (tested_item schemas test) (over_derived schemas (attributes_of_type schemas) kind))

abbrev pub attribute_content : SchemaSet → KindTest → TypeName → SequenceType
attribute_content schemas test (names.Builtin builtins.AnyType) = any_attributes schemas test any_attribute
attribute_content schemas test (names.Builtin builtins.Untyped) = any_attributes schemas test untyped_attribute
attribute_content schemas test kind = attributes_behind schemas test kind

abbrev pub attribute_type : SchemaSet → KindTest → ItemType → SequenceType
attribute_type schemas test (items.Element name kind) = attribute_content schemas test kind
attribute_type schemas test (items.Attribute name kind) = nothing
attribute_type schemas test items.Text = nothing
attribute_type schemas test (items.Document element) = nothing
attribute_type schemas test (items.Atom kind) = nothing

-- parents

abbrev pub parent_type : ItemType → SequenceType
parent_type (items.Element name kind) = optional (either any_element any_document)
parent_type (items.Attribute name kind) = optional any_element
parent_type items.Text = optional (either any_element any_document)
parent_type (items.Document element) = nothing
parent_type (items.Atom kind) = nothing

-- descendants and ancestors

-- the item types of the children of a node
abbrev pub child_kinds : SchemaSet → ItemType → List ItemType
child_kinds schemas kind = items_of (child_type schemas kind)

-- those of the children of a node that is a child itself: of these, elements alone have children
abbrev pub grandchild_kinds : SchemaSet → ItemType → List ItemType
grandchild_kinds schemas (items.Element name kind) = child_kinds schemas (items.Element name kind)
grandchild_kinds schemas _ = []

-- those of the children of all elements
abbrev pub all_child_kinds : SchemaSet → List ItemType
all_child_kinds schemas = flat_map (λ kind. items_of (content_of schemas kind)) (names.Builtin builtins.AnyType ∷ listed_types schemas)

-- the item types of the descendants of a node: of its children, of their children, and so on, breadth first
unfoldable pub descendant_kinds : SchemaSet → ItemType → List ItemType
descendant_kinds schemas kind =
    closure_from same_item_type (grandchild_kinds schemas) (child_kinds schemas kind ++ all_child_kinds schemas) (child_kinds schemas kind)

-- the item types of the parent of a node
abbrev pub parent_kinds : ItemType → List ItemType
parent_kinds kind = items_of (parent_type kind)

-- those of any parent
abbrev pub all_parent_kinds : List ItemType
all_parent_kinds = items.Element None (names.Builtin builtins.AnyType) ∷ items.Document None ∷ []

-- the item types of the ancestors of a node: of its parent, of that one's parent, and so on, breadth first
abbrev pub ancestor_kinds : ItemType → List ItemType
ancestor_kinds kind = closure_from same_item_type parent_kinds all_parent_kinds (parent_kinds kind)

-- what a test leaves of any number of nodes, each of one of these item types
abbrev pub any_tested : SchemaSet → KindTest → List ItemType → SequenceType
any_tested schemas test kinds = star_of (choice_among (map (tested_item schemas test) kinds))

abbrev pub descendant_type : SchemaSet → KindTest → ItemType → SequenceType
descendant_type schemas test kind = any_tested schemas test (descendant_kinds schemas kind)

abbrev pub ancestor_type : SchemaSet → KindTest → ItemType → SequenceType
ancestor_type schemas test kind = any_tested schemas test (ancestor_kinds kind)

-- steps

-- a step from a node of one item type
abbrev pub item_step : SchemaSet → Axis → KindTest → ItemType → SequenceType
item_step schemas axes.Child test kind = replaced_items (tested_item schemas test) (child_type schemas kind)
item_step schemas axes.Attribute test kind = attribute_type schemas test kind
item_step schemas axes.SelfAxis test kind = tested_item schemas test kind
item_step schemas axes.Parent test kind = replaced_items (tested_item schemas test) (parent_type kind)
item_step schemas axes.Descendant test kind = descendant_type schemas test kind
item_step schemas axes.DescendantOrSelf test kind = joined_types (tested_item schemas test kind) (descendant_type schemas test kind)
item_step schemas axes.Ancestor test kind = ancestor_type schemas test kind
item_step schemas axes.AncestorOrSelf test kind = factored (joined_types (tested_item schemas test kind) (ancestor_type schemas test kind))

abbrev pub step_type : SchemaSet → Axis → Test → SequenceType → SequenceType
step_type schemas axis test context = limited (replaced_items (item_step schemas axis (asked schemas (is_attribute_axis axis) test)) context)

-- node(), the type of one node
abbrev pub node_type : SequenceType
node_type = either (either (either any_document any_element) (item any_attribute)) text_item

-- item(), the type of one item
abbrev pub any_item : SequenceType
any_item = either node_type (item (items.Atom (names.Builtin builtins.AnyAtomic)))
