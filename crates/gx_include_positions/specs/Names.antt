-- The names that a type asks for, and the names of shapes.
use Rattle.std.specs.Prelude.{Bool, true, false, List, [], ◌∷◌, ◌++◌, Option, None, Some, if◌then◌else◌}
use Rattle.std.specs.List.{list_any}
use Rattle.gx_base.specs.Name.{same_name}
use Rattle.gx_base.specs.declared.name.Name.{Name}
use Rattle.gx_types.specs.declared.item_type.ItemType.{ItemType}
use Rattle.gx_types.specs.declared.item_type.ItemType.TheVariants as items
use Rattle.gx_types.specs.declared.shape.Shape.{Shape}
use Rattle.gx_types.specs.declared.shape.Shape.TheVariants as shapes
use Rattle.gx_types.specs.SequenceType.{SequenceType, never, nothing, item, both, either, optional, star, plus}

-- the name that an item type asks for, if it does
abbrev pub name_of : ItemType → Option Name
name_of (items.Element name kind) = name
name_of (items.Attribute name kind) = name
name_of items.Text = None
name_of (items.Document None) = None
name_of (items.Document (Some element)) = element.0
name_of (items.Atom kind) = None

-- an equal name is in a list
abbrev pub is_named : List Name → Name → Bool
is_named names name = list_any (same_name name) names

-- a name behind those of a list, unless an equal one is there
abbrev pub with_name : List Name → Option Name → List Name
with_name names None = names
with_name names (Some name) = if is_named names name then names else names ++ name ∷ []

-- the names of a type behind those of a list, in the order of first mention
abbrev pub with_names : List Name → SequenceType → List Name
with_names names never = names
with_names names nothing = names
with_names names (item kind) = with_name names (name_of kind)
with_names names (both first second) = with_names (with_names names first) second
with_names names (either first second) = with_names (with_names names first) second
with_names names (optional part) = with_names names part
with_names names (star part) = with_names names part
with_names names (plus part) = with_names names part

-- the name of a shape, if it has one
abbrev pub name_given : Shape → Option Name
name_given (shapes.Elem name t) = Some name
name_given (shapes.Attr name t) = Some name
name_given shapes.Text = None
name_given (shapes.Doc None) = None
name_given (shapes.Doc (Some child)) = Some child.0
name_given (shapes.Atom t) = None

-- a name that may be asked for does not exclude a shape of a name, or of none
abbrev pub may_fit : (asked given : Option Name) → Bool
may_fit None given = true
may_fit (Some name) None = false
may_fit (Some name) (Some other) = same_name name other
