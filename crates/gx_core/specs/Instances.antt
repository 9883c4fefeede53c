-- Which values are instances of a type (XQuery 1.0, section 2.5.4).
use Rattle.std.specs.Prelude.{Bool, true, false, ◌&&◌, ◌||◌, nat_le, nat_eq, length, Option, None, Some}
use Rattle.std.specs.List.{list_all}
use Rattle.gx_types.specs.declared.item_type.ItemType.{ItemType}
use Rattle.gx_types.specs.declared.item_type.ItemType.TheVariants as items
use Rattle.gx_types.specs.declared.shape.Shape.{Shape}
use Rattle.gx_types.specs.declared.shape.Shape.TheVariants as shapes
use Rattle.gx_types.specs.SchemaSet.{SchemaSet}
use Rattle.gx_types.specs.Derivation.{is_derived}
use Rattle.gx_types.specs.ItemTakes.{name_fits}
use Rattle.gx_types.specs.SequenceType.{SequenceType, never, nothing, item, both, either, optional, star, plus}
use Rattle.gx_model.specs.Forest.{Forest}
use Rattle.gx_model.specs.Item.{Item, Items}
use Rattle.gx_model.specs.Belongs.{item_shape}

-- a shape matches an item type: the name is the one that is asked for, if any is, and the type derives from that of the item type
abbrev pub shape_matches : SchemaSet → ItemType → Shape → Bool
shape_matches schemas (items.Element wanted kind) (shapes.Elem name t) = name_fits wanted name && is_derived schemas t kind
shape_matches schemas (items.Attribute wanted kind) (shapes.Attr name t) = name_fits wanted name && is_derived schemas t kind
shape_matches schemas items.Text shapes.Text = true
shape_matches schemas (items.Document None) (shapes.Doc child) = true
shape_matches schemas (items.Document (Some element)) (shapes.Doc (Some child)) = name_fits element.0 child.0 && is_derived schemas child.1 element.1
shape_matches schemas (items.Atom kind) (shapes.Atom t) = is_derived schemas t kind
shape_matches schemas _ _ = false

-- the shape of an item, if there is such an item
abbrev pub found_matches : SchemaSet → ItemType → Option Shape → Bool
found_matches schemas kind None = false
found_matches schemas kind (Some shape) = shape_matches schemas kind shape

-- an item matches an item type, or one of those that stand in a choice
abbrev pub item_matches : SchemaSet → Forest → SequenceType → Item → Bool
item_matches schemas forest (item kind) x = found_matches schemas kind (item_shape forest x)
item_matches schemas forest (either first second) x = item_matches schemas forest first x || item_matches schemas forest second x
item_matches schemas forest _ x = false

-- a value is an instance of a type: it has as many items as the indicator allows, and each matches
abbrev pub is_instance : SchemaSet → Forest → SequenceType → Items → Bool
is_instance schemas forest nothing xs = nat_eq (length xs) 0
is_instance schemas forest (optional part) xs = nat_le (length xs) 1 && list_all (item_matches schemas forest part) xs
is_instance schemas forest (star part) xs = list_all (item_matches schemas forest part) xs
is_instance schemas forest (plus part) xs = nat_le 1 (length xs) && list_all (item_matches schemas forest part) xs
is_instance schemas forest t xs = nat_eq (length xs) 1 && list_all (item_matches schemas forest t) xs

-- an item type, or a choice of such, as `node()` and `item()` are
abbrev pub IsItemType : SequenceType → Type 0
IsItemType (item kind) = Unit {0}
IsItemType (either first second) = IsItemType first × IsItemType second
IsItemType _ = ⊥

-- a type that can be written in a query: `empty-sequence()`, or an item type with an indicator or without (XQuery 1.0, section 2.5.3)
abbrev pub IsWrittenType : SequenceType → Type 0
IsWrittenType never = ⊥
IsWrittenType nothing = Unit {0}
IsWrittenType (item kind) = Unit {0}
IsWrittenType (both first second) = ⊥
IsWrittenType (either first second) = IsItemType (either first second)
IsWrittenType (optional part) = IsItemType part
IsWrittenType (star part) = IsItemType part
IsWrittenType (plus part) = IsItemType part
