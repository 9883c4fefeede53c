-- What an item type sees of a node.
use Rattle.std.specs.Prelude.{Option, None, Some}
use Rattle.std.specs.Option.{option_map}
use Rattle.gx_base.specs.declared.name.Name.{Name}
use Rattle.gx_base.specs.declared.type_name.TypeName.{TypeName}
use Rattle.gx_types.specs.declared.shape.Shape.{Shape}
use Rattle.gx_types.specs.declared.shape.Shape.TheVariants as shapes
use Rattle.gx_tree.specs.PlainTree.{PlainTree, PlainTrees, element}
use Rattle.gx_model.specs.Belongs.{only_element}
use Rattle.gx_store.specs.declared.labels.Label.{Label}

-- the label of an element
abbrev pub element_label_of : PlainTree → Option Label
element_label_of (element name kind attributes ts) = Some (record { name = name; kind = kind })
element_label_of _ = None

-- that of the one child, where that is an element
abbrev pub only_label : PlainTrees → Option Label
only_label ts = option_map (λ (e : Name × TypeName). record { name = e.0; kind = e.1 }) (only_element ts)

-- the shape of a document whose one child has this label
abbrev pub document_shape : Option Label → Shape
document_shape child = shapes.Doc (option_map (λ (l : Label). (l.name, l.kind)) child)
