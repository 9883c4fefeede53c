-- How item types are written (XQuery 1.0, section 2.5.3).
use Rattle.std.specs.Prelude.{ℕ, Bool, true, false, List, [], ◌++◌, codes, Option, None, Some}
use Rattle.gx_base.specs.declared.name.Name.{Name}
use Rattle.gx_base.specs.declared.type_name.Builtin.TheVariants.{AnyType, AnySimple}
use Rattle.gx_base.specs.declared.type_name.TypeName.{TypeName}
use Rattle.gx_base.specs.declared.type_name.TypeName.TheVariants.{Builtin}
use Rattle.gx_types.specs.declared.item_type.ItemType.{ItemType}
use Rattle.gx_types.specs.declared.item_type.ItemType.TheVariants as items
use Rattle.gx_typetext.specs.NameText.{word, name_text, type_name_text}

-- the types that every element and every attribute has, which are not written
abbrev pub is_any_type : TypeName → Bool
is_any_type (Builtin AnyType) = true
is_any_type _ = false

abbrev pub is_any_simple_type : TypeName → Bool
is_any_simple_type (Builtin AnySimple) = true
is_any_simple_type _ = false

-- what stands between the parentheses of an element or an attribute: a name, or `*` before a type that is written
abbrev pub test_text : Option Name → TypeName → (has_any_type : Bool) → List ℕ
test_text None kind true = []
test_text (Some name) kind true = name_text name
test_text None kind false = word (codes "*, ") ++ type_name_text kind
test_text (Some name) kind false = name_text name ++ word (codes ", ") ++ type_name_text kind

abbrev pub element_text : Option Name → TypeName → List ℕ
element_text name kind = word (codes "element(") ++ test_text name kind (is_any_type kind) ++ word (codes ")")

abbrev pub item_text : ItemType → List ℕ
item_text (items.Element name kind) = element_text name kind
item_text (items.Attribute name kind) = word (codes "attribute(") ++ test_text name kind (is_any_simple_type kind) ++ word (codes ")")
item_text items.Text = word (codes "text()")
item_text (items.Document None) = word (codes "document-node()")
item_text (items.Document (Some element)) = word (codes "document-node(") ++ element_text element.0 element.1 ++ word (codes ")")
item_text (items.Atom kind) = type_name_text kind
