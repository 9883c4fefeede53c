-- Which values belong to a type (XQuery 1.0 and XPath 2.0 Formal Semantics, section 8.3).
use Rattle.std.specs.Prelude.{◌≡◌, List, [], ◌∷◌, Option, None, Some}
use Rattle.std.specs.Option.{option_map}
use Rattle.gx_base.specs.declared.name.Name.{Name}
use Rattle.gx_base.specs.declared.type_name.Builtin.TheVariants as types
use Rattle.gx_base.specs.declared.type_name.TypeName.{TypeName}
use Rattle.gx_base.specs.declared.type_name.TypeName.TheVariants.{Builtin}
use Rattle.gx_num.specs.declared.Number.TheVariants.{Int, Dec}
use Rattle.gx_facets.specs.declared.AtomValue.{AtomValue}
use Rattle.gx_facets.specs.declared.AtomValue.TheVariants.{Untyped, Str, Truth, Num}
use Rattle.gx_types.specs.declared.shape.Shape.{Shape}
use Rattle.gx_types.specs.declared.shape.Shape.TheVariants as shapes
use Rattle.gx_types.specs.SchemaSet.{SchemaSet}
use Rattle.gx_types.specs.Derivation.{DerivesFrom}
use Rattle.gx_types.specs.SequenceType.{SequenceType}
use Rattle.gx_types.specs.Takes.{Takes}
use Rattle.gx_tree.specs.PlainTree.{PlainTree, PlainTrees, document, element, attribute, text, no_trees, a_tree}
use Rattle.gx_model.specs.Forest.{Forest, node_in}
use Rattle.gx_model.specs.Item.{Item, atom, node, Items}

-- the name and the type of the one child of a document, where that is an element
abbrev pub only_element : PlainTrees → Option (Name × TypeName)
only_element (a_tree (element name kind attributes ts) no_trees) = Some (name, kind)
only_element _ = None

-- what a type sees of a node
abbrev pub shape_of : PlainTree → Shape
shape_of (document ts) = shapes.Doc (only_element ts)
shape_of (element name kind attributes ts) = shapes.Elem name kind
shape_of (attribute a) = shapes.Attr a.name a.kind
shape_of (text t) = shapes.Text

-- what a type sees of an item, if its node is one of the forest
abbrev pub item_shape : Forest → Item → Option Shape
item_shape forest (atom a) = Some (shapes.Atom a.kind)
item_shape forest (node place) = option_map shape_of (node_in forest place)

-- a value of this variant fits a type
abbrev pub ValueFits : SchemaSet → AtomValue → TypeName → Type 0
ValueFits schemas (Untyped t) kind = kind ≡ Builtin types.UntypedAtomic
ValueFits schemas (Str t) kind = DerivesFrom schemas kind (Builtin types.Str)
ValueFits schemas (Truth b) kind = DerivesFrom schemas kind (Builtin types.Boolean)
ValueFits schemas (Num (Int i)) kind = DerivesFrom schemas kind (Builtin types.Integer)
ValueFits schemas (Num (Dec d)) kind = DerivesFrom schemas kind (Builtin types.Decimal) × (DerivesFrom schemas kind (Builtin types.Integer) → ⊥)

-- an atomic value fits its type
abbrev pub ItemFits : SchemaSet → Item → Type 0
ItemFits schemas (atom a) = ValueFits schemas a.value a.kind
ItemFits schemas (node place) = Unit {0}

-- the shapes of items that fit their types
abbrev pub HaveShapes : SchemaSet → Forest → Items → List Shape → Type 0
HaveShapes schemas forest [] [] = Unit {0}
HaveShapes schemas forest (x ∷ xs) (s ∷ ss) = (item_shape forest x ≡ Some s) × ItemFits schemas x × HaveShapes schemas forest xs ss
HaveShapes schemas forest [] (s ∷ ss) = ⊥
HaveShapes schemas forest (x ∷ xs) [] = ⊥

-- a value belongs to a type: its items fit their types, and the type takes their shapes
pub record Belongs (schemas : SchemaSet) (forest : Forest) (value : Items) (type : SequenceType) : Type 0 where
  pub seen : List Shape
  pub shaped : HaveShapes schemas forest value seen
  pub taken : Takes schemas type seen
