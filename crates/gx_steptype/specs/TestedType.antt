-- What a node test leaves of an item type (Formal Semantics, section 8.2.3).
use Rattle.std.specs.Prelude.{Bool, Option, None, Some, if◌then◌else◌}
use Rattle.gx_base.specs.declared.name.Name.{Name}
use Rattle.gx_base.specs.declared.type_name.Builtin.TheVariants.{AnyType}
use Rattle.gx_base.specs.declared.type_name.TypeName.{TypeName}
use Rattle.gx_base.specs.declared.type_name.TypeName.TheVariants.{Builtin}
use Rattle.gx_types.specs.declared.item_type.ItemType.{ItemType}
use Rattle.gx_types.specs.declared.item_type.ItemType.TheVariants as items
use Rattle.gx_types.specs.declared.step.NameTest.{NameTest}
use Rattle.gx_types.specs.declared.step.NameTest.TheVariants as tests
use Rattle.gx_types.specs.SchemaSet.{SchemaSet}
use Rattle.gx_types.specs.Derivation.{is_derived}
use Rattle.gx_types.specs.SequenceType.{SequenceType, nothing, item, optional}
use Rattle.gx_steptype.specs.declared.tested.Form.{Form}
use Rattle.gx_steptype.specs.declared.tested.Form.TheVariants.{Element, Attribute, Document}
use Rattle.gx_steptype.specs.declared.tested.Meeting.{Meeting}
use Rattle.gx_steptype.specs.declared.tested.Meeting.TheVariants.{Never, Always, Possibly}
use Rattle.gx_model.specs.NodeTest.{TypeTest, any_type, derived_from, no_type, KindTest, any_node, a_text, an_element, an_attribute, a_document, a_document_of, passes_name}

abbrev pub met_if : Bool → Meeting
met_if passes = if passes then Always else Never

-- the names of an item type meet a test: all do without a name that is asked, and one name does or does not
abbrev pub name_met : NameTest → Option Name → Meeting
name_met tests.Any named = Always
name_met (tests.Name wanted) (Some name) = met_if (passes_name (tests.Name wanted) name)
name_met (tests.Uri uri) (Some name) = met_if (passes_name (tests.Uri uri) name)
name_met (tests.Local local) (Some name) = met_if (passes_name (tests.Local local) name)
name_met (tests.Name wanted) None = Possibly
name_met (tests.Uri uri) None = Possibly
name_met (tests.Local local) None = Possibly

-- its types do
abbrev pub type_met : SchemaSet → TypeTest → TypeName → Meeting
type_met schemas any_type t = Always
type_met schemas (derived_from kind) t = if is_derived schemas t kind then Always else (if is_derived schemas kind t then Possibly else Never)
type_met schemas no_type t = Never

abbrev pub both_met : Meeting → Meeting → Meeting
both_met Never kinds = Never
both_met Always kinds = kinds
both_met Possibly Never = Never
both_met Possibly Always = Possibly
both_met Possibly Possibly = Possibly

-- the name of the test where the item type has none, and that of the two types which is derived from the other
abbrev pub narrowed_name : NameTest → Option Name → Option Name
narrowed_name (tests.Name wanted) None = Some wanted
narrowed_name tests.Any None = None
narrowed_name (tests.Uri uri) None = None
narrowed_name (tests.Local local) None = None
narrowed_name test (Some name) = Some name

abbrev pub narrowed_type : SchemaSet → TypeTest → TypeName → TypeName
narrowed_type schemas any_type t = t
narrowed_type schemas (derived_from kind) t = if is_derived schemas t kind then t else kind
narrowed_type schemas no_type t = t

-- nothing, the item, or the narrower item at most once
abbrev pub where_met : Meeting → (whole narrow : ItemType) → SequenceType
where_met Never whole narrow = nothing
where_met Always whole narrow = item whole
where_met Possibly whole narrow = optional (item narrow)

-- an item of a form with a name and a type
abbrev pub item_with : Form → Option Name → TypeName → ItemType
item_with Element name kind = items.Element name kind
item_with Attribute name kind = items.Attribute name kind
item_with Document name kind = items.Document (Some (name, kind))

abbrev pub optional_item : ItemType → SequenceType
optional_item kind = optional (item kind)

-- a document may hold anything else than one element
abbrev pub at_most_possibly : Meeting → Meeting
at_most_possibly Never = Never
at_most_possibly Always = Possibly
at_most_possibly Possibly = Possibly

abbrev pub tested_item : SchemaSet → KindTest → ItemType → SequenceType
tested_item schemas any_node (items.Element name kind) = item (items.Element name kind)
tested_item schemas any_node (items.Attribute name kind) = item (items.Attribute name kind)
tested_item schemas any_node items.Text = item items.Text
tested_item schemas any_node (items.Document element) = item (items.Document element)
tested_item schemas a_text items.Text = item items.Text
tested_item schemas (an_element wanted test) (items.Element name kind) =
    where_met (both_met (name_met wanted name) (type_met schemas test kind)) (items.Element name kind) (items.Element (narrowed_name wanted name) (narrowed_type schemas test kind))
tested_item schemas (an_attribute wanted test) (items.Attribute name kind) =
    where_met (both_met (name_met wanted name) (type_met schemas test kind)) (items.Attribute name kind) (items.Attribute (narrowed_name wanted name) (narrowed_type schemas test kind))
tested_item schemas a_document (items.Document element) = item (items.Document element)
tested_item schemas (a_document_of wanted test) (items.Document (Some e)) =
    where_met (both_met (name_met wanted e.0) (type_met schemas test e.1)) (items.Document (Some e))
    (items.Document (Some (narrowed_name wanted e.0, narrowed_type schemas test e.1)))
tested_item schemas (a_document_of wanted test) (items.Document None) =
    where_met (at_most_possibly (both_met (name_met wanted None) (type_met schemas test (Builtin AnyType)))) (items.Document None)
    (items.Document (Some (narrowed_name wanted None, narrowed_type schemas test (Builtin AnyType))))
tested_item schemas _ _ = nothing
