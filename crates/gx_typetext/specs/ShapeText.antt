-- How lists of shapes are written: each as the item type that tells its name and its type.
use Rattle.std.specs.Prelude.{ℕ, List, [], ◌∷◌, ◌++◌, codes, None, Some}
use Rattle.std.specs.List.{flat_map}
use Rattle.gx_types.specs.declared.item_type.ItemType.{ItemType}
use Rattle.gx_types.specs.declared.item_type.ItemType.TheVariants as items
use Rattle.gx_types.specs.declared.shape.Shape.{Shape}
use Rattle.gx_types.specs.declared.shape.Shape.TheVariants as shapes
use Rattle.gx_typetext.specs.NameText.{word}
use Rattle.gx_typetext.specs.ItemText.{item_text}

-- the item type of a shape's name and type
abbrev pub item_type_of_shape : Shape → ItemType
item_type_of_shape (shapes.Elem name kind) = items.Element (Some name) kind
item_type_of_shape (shapes.Attr name kind) = items.Attribute (Some name) kind
item_type_of_shape shapes.Text = items.Text
item_type_of_shape (shapes.Doc None) = items.Document None
item_type_of_shape (shapes.Doc (Some child)) = items.Document (Some (Some child.0, child.1))
item_type_of_shape (shapes.Atom kind) = items.Atom kind

-- the texts of shapes behind another one
abbrev pub further_text : List Shape → List ℕ
further_text list = flat_map (λ shape. word (codes ", ") ++ item_text (item_type_of_shape shape)) list

-- the shapes with commas between them; no shape is the empty sequence
abbrev pub shapes_text : List Shape → List ℕ
shapes_text [] = word (codes "empty-sequence()")
shapes_text (shape ∷ list) = item_text (item_type_of_shape shape) ++ further_text list
