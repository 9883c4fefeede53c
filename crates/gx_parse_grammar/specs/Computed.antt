-- Computed constructors (XQuery 1.0, section 3.7.3), and what their parts make.
--   Computed ::= ("document" | "text") "{" Expr "}" | ("element" | "attribute") QName "{" Expr? "}"
use Rattle.std.specs.Prelude.{codes, Option, Some, None, if◌then◌else◌}
use Rattle.gx_base.specs.declared.place.Place.{Place}
use Rattle.gx_ast.specs.SyntaxTree.{SyntaxForm, SyntaxTree, document_node, text_node, element_node, empty_element, attribute_node, empty_attribute}
use Rattle.gx_ast.specs.declared.name.QName.{QName}
use Rattle.gx_grammar.specs.Value.{nothing, node, pair}
use Rattle.gx_parse_grammar.specs.declared.word.ComputedNode.{ComputedNode}
use Rattle.gx_parse_grammar.specs.declared.word.ComputedNode.TheVariants as computed_is
use Rattle.gx_parse_grammar.specs.declared.word.NamedNode.{NamedNode}
use Rattle.gx_parse_grammar.specs.declared.word.NamedNode.TheVariants as named_is
use Rattle.gx_parse_grammar.specs.Nodes.{Made, Tree, Name, Constructs, name_at}
use Rattle.gx_parse_grammar.specs.Basics.{is_name}

-- what the name begins where a `{` stands behind it
abbrev pub computed_named : Made → Option ComputedNode
computed_named v = if is_name (codes "document") v then (Some computed_is.Document) else (if is_name (codes "text") v then (Some computed_is.Text) else None)

-- what the name begins where a name and a `{` stand behind it
abbrev pub node_named : Made → Option NamedNode
node_named v = if is_name (codes "element") v then (Some named_is.Element) else (if is_name (codes "attribute") v then (Some named_is.Attribute) else None)

abbrev pub computed_form : ComputedNode → SyntaxTree → SyntaxForm
computed_form computed_is.Document t = document_node t
computed_form computed_is.Text t = text_node t

abbrev pub named_form : NamedNode → QName → SyntaxTree → SyntaxForm
named_form named_is.Element q t = element_node q t
named_form named_is.Attribute q t = attribute_node q t

abbrev pub empty_form : NamedNode → QName → SyntaxForm
empty_form named_is.Element q = empty_element q
empty_form named_is.Attribute q = empty_attribute q

-- `{`, an expression and `}`
abbrev pub computed_value : ComputedNode → Made → Made
computed_value c (pair opening (pair (node (Tree t)) closing)) = node (Constructs (computed_form c t))
computed_value c _ = nothing

-- the name of a node, with its `{` and the gap behind that
abbrev pub constructor_value : Place → Made → Made
constructor_value p (pair name gap) = node (Name (name_at p name))
constructor_value p _ = nothing

-- a name, and an expression or nothing with `}`
abbrev pub named_node_value : NamedNode → Made → Made
named_node_value k (pair (node (Name q)) (pair (node (Tree t)) closing)) = node (Constructs (named_form k q t))
named_node_value k (pair (node (Name q)) _) = node (Constructs (empty_form k q))
named_node_value k _ = nothing
