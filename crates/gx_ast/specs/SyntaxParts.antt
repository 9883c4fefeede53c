-- Each part of an expression is smaller than it.
use Rattle.std.specs.Prelude.{◌+◌, ◌≤◌, List, [], ◌∷◌, max}
use Rattle.std.proofs.Common.{arith}
use denote.Param.Weighed.{most}
use Rattle.gx_base.specs.declared.place.Place.{Place}
use Rattle.gx_ast.specs.declared.expression.ExprNode.{ExprNode}
use Rattle.gx_ast.specs.declared.expression.ExprNode.TheVariants.{Number, String, Variable, Parenthesised, Empty, Context, Call, Sequence, Flwor, Quantified, Typeswitch, If, Binary, InstanceOf, TreatAs, CastableAs, CastAs, Signed, Path, Step, ParentStep, Filtered, Direct, Document, TextNode, Element, EmptyElement, Attribute, EmptyAttribute}
use Rattle.gx_ast.specs.declared.expression.Binding.{Binding}
use Rattle.gx_ast.specs.declared.expression.Clause.{Clause}
use Rattle.gx_ast.specs.declared.expression.Clause.TheVariants.{For, Let, Where}
use Rattle.gx_ast.specs.declared.expression.Key.{Key}
use Rattle.gx_ast.specs.declared.expression.Case.{Case}
use Rattle.gx_ast.specs.declared.expression.DirectAttribute.{DirectAttribute}
use Rattle.gx_ast.specs.declared.expression.AttributePart.{AttributePart}
use Rattle.gx_ast.specs.declared.expression.AttributePart.TheVariants.{Text as Characters, Enclosed as Computed}
use Rattle.gx_ast.specs.declared.expression.Part.{Part}
use Rattle.gx_ast.specs.declared.expression.Part.TheVariants.{Blank, Text, Element as Nested, Enclosed}
use Rattle.gx_ast.specs.declared.expression.Expr.TheDeep.{deep-ExprNode, deep-Binding, deep-Clause, deep-Key, deep-Case, deep-DirectAttribute, deep-AttributePart, deep-Part}
use Rattle.gx_ast.specs.SyntaxTree.{SyntaxTree, syntax_size, syntaxes_size, bindings_size, clauses_size, keys_size, cases_size, attributes_size, attribute_parts_size, parts_size}
use Rattle.gx_ast.specs.SyntaxView.{syntax_of, trees_of, bindings_of, clauses_of, keys_of, cases_of, attributes_of, attribute_parts_of, parts_of}

most_trees : (ts : List SyntaxTree) → most (λ t. syntax_size t + 1) ts ≤ 1 + syntaxes_size (trees_of ts)
most_trees [] = omega arith
most_trees (t ∷ ts) = omega (arith, most_trees ts)

most_bindings : (bs : List Binding) → most deep-Binding bs ≤ 1 + bindings_size (bindings_of bs)
most_bindings [] = omega arith
most_bindings (b ∷ bs) = omega (arith, most_bindings bs)

most_clauses : (cs : List Clause) → most deep-Clause cs ≤ 1 + clauses_size (clauses_of cs)
most_clauses [] = omega arith
most_clauses (For p bs ∷ cs) = omega (arith, most_clauses cs, most_bindings bs.items)
most_clauses (Let p bs ∷ cs) = omega (arith, most_clauses cs, most_bindings bs.items)
most_clauses (Where p e ∷ cs) = omega (arith, most_clauses cs)

most_keys : (ks : List Key) → most deep-Key ks ≤ 1 + keys_size (keys_of ks)
most_keys [] = omega arith
most_keys (k ∷ ks) = omega (arith, most_keys ks)

most_cases : (cs : List Case) → most deep-Case cs ≤ 1 + cases_size (cases_of cs)
most_cases [] = omega arith
most_cases (c ∷ cs) = omega (arith, most_cases cs)

most_attribute_parts : (ps : List AttributePart) → most deep-AttributePart ps ≤ 1 + attribute_parts_size (attribute_parts_of ps)
most_attribute_parts [] = omega arith
most_attribute_parts (Characters t ∷ ps) = omega (arith, most_attribute_parts ps)
most_attribute_parts (Computed e ∷ ps) = omega (arith, most_attribute_parts ps)

most_attributes : (as' : List DirectAttribute) → most deep-DirectAttribute as' ≤ 1 + attributes_size (attributes_of as')
most_attributes [] = omega arith
most_attributes (a ∷ as') = omega (arith, most_attributes as', most_attribute_parts a.value.items)

most_parts : (ps : List Part) → most deep-Part ps ≤ 1 + parts_size (parts_of ps)
most_parts [] = omega arith
most_parts (Blank t ∷ ps) = omega (arith, most_parts ps)
most_parts (Text t ∷ ps) = omega (arith, most_parts ps)
most_parts (Nested e ∷ ps) = omega (arith, most_parts ps)
most_parts (Enclosed e ∷ ps) = omega (arith, most_parts ps)

pub parts_are_smaller : (place : Place) (node : ExprNode) → max (deep-ExprNode node) 0 ≤ syntax_size (syntax_of place node)
parts_are_smaller place (Number z) = omega arith
parts_are_smaller place (String t) = omega arith
parts_are_smaller place (Variable q) = omega arith
parts_are_smaller place (Parenthesised a) = omega arith
parts_are_smaller place Empty = omega arith
parts_are_smaller place Context = omega arith
parts_are_smaller place (Call c) = omega (arith, most_trees c.value.arguments.items)
parts_are_smaller place (Sequence a b) = omega arith
parts_are_smaller place (Flwor f) = omega (arith, most_clauses f.value.clauses.items, most_keys f.value.keys.items)
parts_are_smaller place (Quantified q) = omega (arith, most_bindings q.value.bindings.items)
parts_are_smaller place (Typeswitch t) = omega (arith, most_cases t.value.cases.items)
parts_are_smaller place (If a b c) = omega arith
parts_are_smaller place (Binary o a b) = omega arith
parts_are_smaller place (InstanceOf a t) = omega arith
parts_are_smaller place (TreatAs a t) = omega arith
parts_are_smaller place (CastableAs a t) = omega arith
parts_are_smaller place (CastAs a t) = omega arith
parts_are_smaller place (Signed minus a) = omega arith
parts_are_smaller place (Path descendants a b) = omega arith
parts_are_smaller place (Step s) = omega arith
parts_are_smaller place ParentStep = omega arith
parts_are_smaller place (Filtered f) = omega (arith, most_trees f.value.predicates.items)
parts_are_smaller place (Direct d) = omega (arith, most_attributes d.value.attributes.items, most_parts d.value.content.items)
parts_are_smaller place (Document a) = omega arith
parts_are_smaller place (TextNode a) = omega arith
parts_are_smaller place (Element q a) = omega arith
parts_are_smaller place (EmptyElement q) = omega arith
parts_are_smaller place (Attribute q a) = omega arith
parts_are_smaller place (EmptyAttribute q) = omega arith
