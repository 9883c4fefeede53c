-- Which shapes an item type takes (XQuery 1.0, section 2.5.4).
use Rattle.std.specs.Prelude.{Bool, true, Option, None, Some}
use Rattle.std.specs.Bool.{IsTrue}
use Rattle.gx_base.specs.Name.{same_name}
use Rattle.gx_base.specs.declared.name.Name.{Name}
use Rattle.gx_types.specs.declared.item_type.ItemType.{ItemType}
use Rattle.gx_types.specs.declared.item_type.ItemType.TheVariants as items
use Rattle.gx_types.specs.declared.shape.Shape.{Shape}
use Rattle.gx_types.specs.declared.shape.Shape.TheVariants as shapes
use Rattle.gx_types.specs.SchemaSet.{SchemaSet}
use Rattle.gx_types.specs.Derivation.{DerivesFrom}

-- a name fits an optional name: any name where there is none
abbrev pub name_fits : Option Name → Name → Bool
name_fits None name = true
name_fits (Some wanted) name = same_name wanted name

abbrev pub ItemTakes : SchemaSet → ItemType → Shape → Type 0
ItemTakes schemas (items.Element wanted kind) (shapes.Elem name t) = IsTrue (name_fits wanted name) × DerivesFrom schemas t kind
ItemTakes schemas (items.Attribute wanted kind) (shapes.Attr name t) = IsTrue (name_fits wanted name) × DerivesFrom schemas t kind
ItemTakes schemas items.Text shapes.Text = Unit {0}
ItemTakes schemas (items.Document None) (shapes.Doc child) = Unit {0}
ItemTakes schemas (items.Document (Some element)) (shapes.Doc (Some child)) = IsTrue (name_fits element.0 child.0) × DerivesFrom schemas child.1 element.1
ItemTakes schemas (items.Atom kind) (shapes.Atom t) = DerivesFrom schemas t kind
ItemTakes schemas _ _ = ⊥
