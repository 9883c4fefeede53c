-- Typed values (XQuery 1.0 and XPath 2.0 Data Model, sections 3.3.1.2 and 6.1.2 to 6.7.2).
use Rattle.std.specs.Prelude.{ℕ, Bool, true, false, List, [], ◌∷◌, Option, None, Some}
use Rattle.std.specs.Result.{result_ok}
use Rattle.gx_base.specs.declared.type_name.Builtin.TheVariants as types
use Rattle.gx_base.specs.declared.type_name.TypeName.{TypeName}
use Rattle.gx_base.specs.declared.type_name.TypeName.TheVariants.{Builtin, Named, Anonymous}
use Rattle.gx_facets.specs.declared.Atomic.{Atomic}
use Rattle.gx_facets.specs.declared.AtomValue.TheVariants.{Untyped}
use Rattle.gx_types.specs.SchemaSet.{SchemaSet, declaration_of}
use Rattle.gx_types.specs.SequenceType.{SequenceType, nothing}
use Rattle.gx_types.specs.SimpleValue.{values_of_text}
use Rattle.gx_types.specs.declared.declaration.Content.{Content}
use Rattle.gx_types.specs.declared.declaration.Content.TheVariants as contents
use Rattle.gx_types.specs.declared.declaration.Declared.{Declared}
use Rattle.gx_tree.specs.PlainTree.{PlainTree, document, element, attribute, text}
use Rattle.gx_tree.specs.StringValue.{string_value}
use Rattle.gx_model.specs.Forest.{Forest, PlainNode, then_found, node_in}

-- a string as one value of type xs:untypedAtomic
abbrev pub untyped_atomic : List ℕ → Atomic
untyped_atomic string = record { value = Untyped string; kind = Builtin types.UntypedAtomic }

abbrev pub untyped_value : List ℕ → Option (List Atomic)
untyped_value string = Some (untyped_atomic string ∷ [])

-- the values of a string at a type with simple values, if it stands for any
abbrev pub simple_value : SchemaSet → TypeName → List ℕ → Option (List Atomic)
simple_value schemas t string = result_ok (values_of_text schemas t string)

-- mixed content has its string value, empty content no values, and element-only content no typed value
abbrev pub complex_value : (mixed : Bool) → SequenceType → List ℕ → Option (List Atomic)
complex_value true model string = untyped_value string
complex_value false nothing string = Some []
complex_value false _ string = None

abbrev pub value_by_content : SchemaSet → TypeName → Content → List ℕ → Option (List Atomic)
value_by_content schemas t (contents.Complex mixed model) string = complex_value mixed model string
value_by_content schemas t _ string = simple_value schemas t string

abbrev pub declared_value : SchemaSet → TypeName → Option Declared → List ℕ → Option (List Atomic)
declared_value schemas t None string = None
declared_value schemas t (Some declared) string = value_by_content schemas t declared.content string

-- the typed value of a node of a type with this string value, if it has one
abbrev pub value_at_type : SchemaSet → TypeName → List ℕ → Option (List Atomic)
value_at_type schemas (Builtin types.AnyType) string = None
value_at_type schemas (Builtin types.Untyped) string = untyped_value string
value_at_type schemas (Builtin types.UntypedAtomic) string = untyped_value string
value_at_type schemas (Builtin builtin) string = simple_value schemas (Builtin builtin) string
value_at_type schemas (Named name) string = declared_value schemas (Named name) (declaration_of schemas (Named name)) string
value_at_type schemas (Anonymous number) string = declared_value schemas (Anonymous number) (declaration_of schemas (Anonymous number)) string

-- the typed value of a tree, if it has one: documents and texts have no declared type
abbrev pub typed_value_of : SchemaSet → PlainTree → Option (List Atomic)
typed_value_of schemas (document ts) = untyped_value (string_value (document ts))
typed_value_of schemas (element name kind attributes ts) = value_at_type schemas kind (string_value (element name kind attributes ts))
typed_value_of schemas (attribute a) = value_at_type schemas a.kind a.value
typed_value_of schemas (text t) = untyped_value t

-- the typed value of a node, if the forest has the node and it has one
abbrev pub value_of_node : SchemaSet → Forest → PlainNode → Option (List Atomic)
value_of_node schemas forest place = then_found (node_in forest place) (typed_value_of schemas)

-- the string value of a node that is found
abbrev pub found_string_value : Option PlainTree → List ℕ
found_string_value None = []
found_string_value (Some t) = string_value t
