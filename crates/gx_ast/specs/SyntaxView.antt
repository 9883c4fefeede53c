-- What a contract sees of the program's expressions.
use Rattle.std.specs.Prelude.{List, [], ◌∷◌}
use Rattle.gx_base.specs.declared.place.Place.{Place}
use Rattle.gx_ast.specs.declared.expression.ExprNode.{ExprNode}
use Rattle.gx_ast.specs.declared.expression.ExprNode.TheVariants.{Number, String, Variable, Parenthesised, Empty, Context, Call, Sequence, Flwor, Quantified, Typeswitch, If, Binary, InstanceOf, TreatAs, CastableAs, CastAs, Signed, Path, Step, ParentStep, Filtered, Direct, Document, TextNode, Element as ComputedElement, EmptyElement, Attribute as ComputedAttribute, EmptyAttribute}
use Rattle.gx_ast.specs.declared.expression.Binding.{Binding}
use Rattle.gx_ast.specs.declared.expression.Clause.{Clause}
use Rattle.gx_ast.specs.declared.expression.Clause.TheVariants.{For, Let, Where}
use Rattle.gx_ast.specs.declared.expression.Key.{Key}
use Rattle.gx_ast.specs.declared.expression.Case.{Case}
use Rattle.gx_ast.specs.declared.expression.DirectAttribute.{DirectAttribute}
use Rattle.gx_ast.specs.declared.expression.AttributePart.{AttributePart}
use Rattle.gx_ast.specs.declared.expression.AttributePart.TheVariants.{Text as AText, Enclosed as AEnclosed}
use Rattle.gx_ast.specs.declared.expression.Part.{Part}
use Rattle.gx_ast.specs.declared.expression.Part.TheVariants.{Blank, Text, Element as PElement, Enclosed}
use Rattle.gx_ast.specs.SyntaxTree.{AttributeParts, Attributes, Bindings, Cases, Clauses, Keys, Parts, SyntaxForm, SyntaxTree, SyntaxTrees, at, number, string, variable, parenthesised, empty_sequence, context_item, call, comma, flwor, quantified, typeswitch, conditional, binary, instance_of, treat_as, castable_as, cast_as, signed, path, axis_step, parent_step, filtered, direct, document_node, text_node, element_node, empty_element, attribute_node, empty_attribute, no_tree, a_tree, no_binding, a_binding, no_clause, for_clause, let_clause, where_clause, no_key, a_key, no_case, a_case, no_attribute, an_attribute, no_attribute_part, attribute_text, attribute_enclosed, no_part, blank_part, text_part, element_part, enclosed_part}

abbrev pub trees_of : List SyntaxTree → SyntaxTrees
trees_of [] = no_tree
trees_of (t ∷ ts) = a_tree t (trees_of ts)

abbrev pub bindings_of : List Binding → Bindings
bindings_of [] = no_binding
bindings_of (b ∷ bs) = a_binding b.bound b.value (bindings_of bs)

abbrev pub clauses_of : List Clause → Clauses
clauses_of [] = no_clause
clauses_of (For p bs ∷ cs) = for_clause p (bindings_of bs.items) (clauses_of cs)
clauses_of (Let p bs ∷ cs) = let_clause p (bindings_of bs.items) (clauses_of cs)
clauses_of (Where p e ∷ cs) = where_clause p e (clauses_of cs)

abbrev pub keys_of : List Key → Keys
keys_of [] = no_key
keys_of (k ∷ ks) = a_key k.value k.order (keys_of ks)

abbrev pub cases_of : List Case → Cases
cases_of [] = no_case
cases_of (c ∷ cs) = a_case c.head c.body (cases_of cs)

abbrev pub attribute_parts_of : List AttributePart → AttributeParts
attribute_parts_of [] = no_attribute_part
attribute_parts_of (AText t ∷ ps) = attribute_text t (attribute_parts_of ps)
attribute_parts_of (AEnclosed e ∷ ps) = attribute_enclosed e (attribute_parts_of ps)

abbrev pub attributes_of : List DirectAttribute → Attributes
attributes_of [] = no_attribute
attributes_of (a ∷ as') = an_attribute a.name (attribute_parts_of a.value.items) (attributes_of as')

abbrev pub parts_of : List Part → Parts
parts_of [] = no_part
parts_of (Blank t ∷ ps) = blank_part t (parts_of ps)
parts_of (Text t ∷ ps) = text_part t (parts_of ps)
parts_of (PElement e ∷ ps) = element_part e (parts_of ps)
parts_of (Enclosed e ∷ ps) = enclosed_part e (parts_of ps)

abbrev pub form_of_node : ExprNode → SyntaxForm
form_of_node (Number z) = number z.value
form_of_node (String t) = string t
form_of_node (Variable q) = variable q
form_of_node (Parenthesised a) = parenthesised a.value
form_of_node Empty = empty_sequence
form_of_node Context = context_item
form_of_node (Call c) = call c.value.name (trees_of c.value.arguments.items)
form_of_node (Sequence a b) = comma a.value b.value
form_of_node (Flwor f) = flwor (clauses_of f.value.clauses.items) f.value.order f.value.stable (keys_of f.value.keys.items) f.value.returned
form_of_node (Quantified q) = quantified q.value.every (bindings_of q.value.bindings.items) q.value.condition
form_of_node (Typeswitch t) = typeswitch t.value.operand (cases_of t.value.cases.items) t.value.default t.value.otherwise
form_of_node (If a b c) = conditional a.value b.value c.value
form_of_node (Binary o a b) = binary o a.value b.value
form_of_node (InstanceOf a t) = instance_of a.value t.value
form_of_node (TreatAs a t) = treat_as a.value t.value
form_of_node (CastableAs a t) = castable_as a.value t.value
form_of_node (CastAs a t) = cast_as a.value t.value
form_of_node (Signed minus a) = signed minus a.value
form_of_node (Path descendants a b) = path descendants a.value b.value
form_of_node (Step s) = axis_step s
form_of_node ParentStep = parent_step
form_of_node (Filtered f) = filtered f.value.place f.value.operand (trees_of f.value.predicates.items)
form_of_node (Direct d) = direct d.value.name (attributes_of d.value.attributes.items) (parts_of d.value.content.items)
form_of_node (Document a) = document_node a.value
form_of_node (TextNode a) = text_node a.value
form_of_node (ComputedElement q a) = element_node q.value a.value
form_of_node (EmptyElement q) = empty_element q
form_of_node (ComputedAttribute q a) = attribute_node q.value a.value
form_of_node (EmptyAttribute q) = empty_attribute q

abbrev pub syntax_of : Place → ExprNode → SyntaxTree
syntax_of place node = at place (form_of_node node)
