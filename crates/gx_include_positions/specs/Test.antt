-- The test of a shape against an item type, and the item types for which it is exact.
use Rattle.std.specs.Prelude.{Bool, true, false, ◌&&◌, None, Some, ◌↔◌}
use Rattle.std.specs.Bool.{IsTrue}
use Rattle.gx_types.specs.declared.item_type.ItemType.{ItemType}
use Rattle.gx_types.specs.declared.item_type.ItemType.TheVariants as items
use Rattle.gx_types.specs.declared.shape.Shape.{Shape}
use Rattle.gx_types.specs.declared.shape.Shape.TheVariants as shapes
use Rattle.gx_types.specs.SchemaSet.{SchemaSet}
use Rattle.gx_types.specs.Derivation.{is_derived}
use Rattle.gx_types.specs.ItemTakes.{ItemTakes, name_fits}
use Rattle.gx_types.specs.SequenceType.{SequenceType, never, nothing, item, both, either, optional, star, plus}

-- a shape is one that an item type takes
abbrev pub is_taken : SchemaSet → Shape → ItemType → Bool
is_taken schemas (shapes.Elem name t) (items.Element wanted kind) = name_fits wanted name && is_derived schemas t kind
is_taken schemas (shapes.Attr name t) (items.Attribute wanted kind) = name_fits wanted name && is_derived schemas t kind
is_taken schemas shapes.Text items.Text = true
is_taken schemas (shapes.Doc child) (items.Document None) = true
is_taken schemas (shapes.Doc (Some child)) (items.Document (Some element)) = name_fits element.0 child.0 && is_derived schemas child.1 element.1
is_taken schemas (shapes.Atom t) (items.Atom kind) = is_derived schemas t kind
is_taken schemas _ _ = false

-- the test is exact for each item type that stands in a type
abbrev pub IsDecided : SchemaSet → Shape → SequenceType → Type 0
IsDecided schemas shape never = Unit {0}
IsDecided schemas shape nothing = Unit {0}
IsDecided schemas shape (item kind) = IsTrue (is_taken schemas shape kind) ↔ ItemTakes schemas kind shape
IsDecided schemas shape (both first second) = IsDecided schemas shape first × IsDecided schemas shape second
IsDecided schemas shape (either first second) = IsDecided schemas shape first × IsDecided schemas shape second
IsDecided schemas shape (optional part) = IsDecided schemas shape part
IsDecided schemas shape (star part) = IsDecided schemas shape part
IsDecided schemas shape (plus part) = IsDecided schemas shape part
