-- The tree of a document without types.
use Rattle.std.specs.Prelude.{ℕ, Bool, List, [], ◌∷◌, codes, bytes_eq, if◌then◌else◌}
use Rattle.std.specs.Str.{encode_utf8_all}
use Rattle.gx_base.specs.declared.type_name.Builtin.TheVariants.{Untyped, UntypedAtomic}
use Rattle.gx_base.specs.declared.type_name.TypeName.TheVariants.{Builtin}
use Rattle.gx_tree.specs.declared.attribute.Attribute.{Attribute}
use Rattle.gx_tree.specs.PlainTree.{PlainTree, PlainTrees, document, element, text, no_trees, a_tree}
use Rattle.gx_xml.specs.declared.source.SourceAttribute.{SourceAttribute}
use Rattle.gx_xml.specs.declared.source.SourceChild.{SourceChild}
use Rattle.gx_xml.specs.declared.source.SourceChild.TheVariants.{Element, Text}
use Rattle.gx_xml.specs.SourceTree.{SourceTree, SourceContents, source, no_content, a_child, a_text}

abbrev pub attribute_as_untyped : SourceAttribute → Attribute
attribute_as_untyped a = record { name = a.name; kind = Builtin UntypedAtomic; value = a.value }

-- the namespace of attributes that speak of schemas, as `xsi:type` does (XML Schema 1.0, part 1, section 2.6)
unfoldable pub is_instance_namespace : List ℕ → Bool
is_instance_namespace uri = bytes_eq (encode_utf8_all uri) (codes "http://www.w3.org/2001/XMLSchema-instance")

-- those of that namespace are not kept
abbrev pub untyped_attributes : List SourceAttribute → List Attribute
untyped_attributes [] = []
untyped_attributes (a ∷ others) = if is_instance_namespace a.name.uri then untyped_attributes others else attribute_as_untyped a ∷ untyped_attributes others

-- the element with xs:untyped on every element and xs:untypedAtomic on every attribute
abbrev mutual
  pub untyped_element : SourceTree → PlainTree
  untyped_element (source name declarations attributes cs) = element name (Builtin Untyped) (untyped_attributes attributes) (untyped_contents cs)

  pub untyped_contents : SourceContents → PlainTrees
  untyped_contents no_content = no_trees
  untyped_contents (a_child t cs) = a_tree (untyped_element t) (untyped_contents cs)
  untyped_contents (a_text x cs) = a_tree (text x) (untyped_contents cs)

-- the document node over it
abbrev pub untyped_document : SourceTree → PlainTree
untyped_document root = document (a_tree (untyped_element root) no_trees)

-- the tree of one child
abbrev pub untyped_child : SourceChild → PlainTree
untyped_child (Element t) = untyped_element t
untyped_child (Text x) = text x
