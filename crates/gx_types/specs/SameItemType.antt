-- When two item types are equal: names are equal by their URIs and local parts, whatever their prefixes are.
use Rattle.std.specs.Prelude.{Bool, true, false, ◌&&◌, ◌==◌, Option, None, Some}
use Rattle.gx_base.specs.Name.{same_name}
use Rattle.gx_base.specs.declared.name.Name.{Name}
use Rattle.gx_types.specs.BuiltinOrder.{same_builtin}
use Rattle.gx_base.specs.declared.type_name.TypeName.{TypeName}
use Rattle.gx_base.specs.declared.type_name.TypeName.TheVariants as names
use Rattle.gx_types.specs.declared.item_type.ItemType.{ItemType}
use Rattle.gx_types.specs.declared.item_type.ItemType.TheVariants as items

abbrev pub same_optional_name : Option Name → Option Name → Bool
same_optional_name None None = true
same_optional_name (Some a) (Some b) = same_name a b
same_optional_name _ _ = false

abbrev pub same_type_name : TypeName → TypeName → Bool
same_type_name (names.Builtin a) (names.Builtin b) = same_builtin a b
same_type_name (names.Named a) (names.Named b) = same_name a b
same_type_name (names.Anonymous a) (names.Anonymous b) = a == b
same_type_name _ _ = false

abbrev pub same_item_type : ItemType → ItemType → Bool
same_item_type (items.Element a t) (items.Element b u) = same_optional_name a b && same_type_name t u
same_item_type (items.Attribute a t) (items.Attribute b u) = same_optional_name a b && same_type_name t u
same_item_type items.Text items.Text = true
same_item_type (items.Document None) (items.Document None) = true
same_item_type (items.Document (Some d)) (items.Document (Some e)) = same_optional_name d.0 e.0 && same_type_name d.1 e.1
same_item_type (items.Atom t) (items.Atom u) = same_type_name t u
same_item_type _ _ = false
