-- Which lists of shapes a type takes (Formal Semantics, section 8.3).
use Rattle.std.specs.Prelude.{◌≡◌, List, [], ◌∷◌, ◌++◌, ◌⊎◌}
use Rattle.gx_types.specs.declared.shape.Shape.{Shape}
use Rattle.gx_types.specs.declared.item_type.ItemType.{ItemType}
use Rattle.gx_types.specs.SchemaSet.{SchemaSet}
use Rattle.gx_types.specs.ItemTakes.{ItemTakes}
use Rattle.gx_types.specs.SequenceType.{SequenceType, never, nothing, item, both, either, optional, star, plus}

-- the lists of shapes, one after another
abbrev pub all_joined : List (List Shape) → List Shape
all_joined [] = []
all_joined (part ∷ parts) = part ++ all_joined parts

-- each list of a list of lists
abbrev pub Each : (List Shape → Type 0) → List (List Shape) → Type 0
Each Fact [] = Unit {0}
Each Fact (part ∷ parts) = Fact part × Each Fact parts

-- each shape of a list
abbrev pub EachShape : (Shape → Type 0) → List Shape → Type 0
EachShape Fact [] = Unit {0}
EachShape Fact (shape ∷ shapes) = Fact shape × EachShape Fact shapes

-- a type takes a list of shapes
abbrev pub Takes : SchemaSet → SequenceType → List Shape → Type 0
Takes schemas never shapes = ⊥
Takes schemas nothing shapes = shapes ≡ []
Takes schemas (item kind) shapes = (shape : Shape) × (shapes ≡ shape ∷ []) × ItemTakes schemas kind shape
Takes schemas (both first second) shapes =
    (front rest : List Shape) × (shapes ≡ front ++ rest) × Takes schemas first front × Takes schemas second rest
Takes schemas (either first second) shapes = Takes schemas first shapes ⊎ Takes schemas second shapes
Takes schemas (optional part) shapes = (shapes ≡ []) ⊎ Takes schemas part shapes
Takes schemas (star part) shapes = (parts : List (List Shape)) × (shapes ≡ all_joined parts) × Each (Takes schemas part) parts
Takes schemas (plus part) shapes =
    (front : List Shape) × (parts : List (List Shape)) × (shapes ≡ front ++ all_joined parts) × Takes schemas part front × Each (Takes schemas part) parts

-- a type of a list takes a list of shapes
abbrev pub SomeTakes : SchemaSet → List SequenceType → List Shape → Type 0
SomeTakes schemas [] shapes = ⊥
SomeTakes schemas (t ∷ others) shapes = Takes schemas t shapes ⊎ SomeTakes schemas others shapes

-- an item type of a list takes a shape
abbrev pub SomeItemTakes : SchemaSet → List ItemType → Shape → Type 0
SomeItemTakes schemas [] shape = ⊥
SomeItemTakes schemas (kind ∷ others) shape = ItemTakes schemas kind shape ⊎ SomeItemTakes schemas others shape
