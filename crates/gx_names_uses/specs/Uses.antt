-- What an expression uses of what is declared outside it: variables, and functions that the query may declare (XQuery 1.0, section 3.1).
use Rattle.std.specs.Prelude.{ℕ, List, [], ◌∷◌, ◌++◌, Option, None, Some, is_some, if◌then◌else◌}
use Rattle.gx_base.specs.Text.{same_text}
use Rattle.gx_base.specs.declared.name.Name.{Name}
use Rattle.gx_ast.specs.SyntaxTree.{SyntaxTree, SyntaxForm, SyntaxTrees, Bindings, Clauses, Keys, Cases, Attributes, AttributeParts, Parts, at, number, string, variable, parenthesised, empty_sequence, context_item, call, comma, flwor, quantified, typeswitch, conditional, binary, instance_of, treat_as, castable_as, cast_as, signed, path, axis_step, parent_step, filtered, direct, document_node, text_node, element_node, empty_element, attribute_node, empty_attribute, no_tree, a_tree, no_binding, a_binding, no_clause, for_clause, let_clause, where_clause, no_key, a_key, no_case, a_case, no_attribute, an_attribute, no_attribute_part, attribute_text, attribute_enclosed, no_part, blank_part, text_part, element_part, enclosed_part}
use Rattle.gx_names_uses.specs.declared.uses.Use.{Use}
use Rattle.gx_names_uses.specs.declared.uses.Use.TheVariants as uses
use Rattle.gx_names_scope.specs.Environment.{Environment, function_uri, plain_name, called_name, binder_of, with_optional, with_bound}
use Rattle.gx_names_scope.specs.StartTags.{with_namespaces}
use Rattle.gx_names_scope.specs.TreeCounts.{count_trees}

-- a variable that is not bound inside
abbrev pub variable_used : Environment → Option Name → List Use
variable_used environment None = []
variable_used environment (Some name) = if is_some (binder_of environment.variables name) then [] else uses.Variable name ∷ []

-- a function that is not one of the standard
abbrev pub function_used : Option Name → (arity : ℕ) → List Use
function_used None arity = []
function_used (Some name) arity = if same_text name.uri function_uri then [] else uses.Function (record { name = name; arity = arity }) ∷ []

abbrev mutual
  pub tree_uses : Environment → SyntaxTree → List Use
  tree_uses environment (at place form) = form_uses environment form

  pub form_uses : Environment → SyntaxForm → List Use
  form_uses environment (number value) = []
  form_uses environment (string characters) = []
  form_uses environment (variable name) = variable_used environment (plain_name environment name)
  form_uses environment (parenthesised inner) = tree_uses environment inner
  form_uses environment empty_sequence = []
  form_uses environment context_item = []
  form_uses environment (call name arguments) = function_used (called_name environment name) (count_trees arguments) ++ trees_uses environment arguments
  form_uses environment (comma first second) = tree_uses environment first ++ tree_uses environment second
  form_uses environment (flwor clauses order stable keys returned) =
      clauses_uses clauses (λ inner. keys_uses inner keys ++ tree_uses inner returned) environment
  form_uses environment (quantified every bindings condition) = bindings_uses bindings (λ inner. tree_uses inner condition) environment
  form_uses environment (typeswitch operand cases default otherwise) =
      tree_uses environment operand ++ (cases_uses environment cases ++ tree_uses (with_optional default.variable environment) otherwise)
  form_uses environment (conditional test chosen otherwise) = tree_uses environment test ++ (tree_uses environment chosen ++ tree_uses environment otherwise)
  form_uses environment (binary operator left right) = tree_uses environment left ++ tree_uses environment right
  form_uses environment (instance_of operand kind) = tree_uses environment operand
  form_uses environment (treat_as operand kind) = tree_uses environment operand
  form_uses environment (castable_as operand kind) = tree_uses environment operand
  form_uses environment (cast_as operand kind) = tree_uses environment operand
  form_uses environment (signed minus operand) = tree_uses environment operand
  form_uses environment (path descendants left right) = tree_uses environment left ++ tree_uses environment right
  form_uses environment (axis_step step) = []
  form_uses environment parent_step = []
  form_uses environment (filtered bracket operand predicates) = tree_uses environment operand ++ trees_uses environment predicates
  form_uses environment (direct name attributes content) =
      attributes_uses (with_namespaces attributes environment) attributes ++ parts_uses (with_namespaces attributes environment) content
  form_uses environment (document_node content) = tree_uses environment content
  form_uses environment (text_node content) = tree_uses environment content
  form_uses environment (element_node name content) = tree_uses environment content
  form_uses environment (empty_element name) = []
  form_uses environment (attribute_node name content) = tree_uses environment content
  form_uses environment (empty_attribute name) = []

  pub trees_uses : Environment → SyntaxTrees → List Use
  trees_uses environment no_tree = []
  trees_uses environment (a_tree first others) = tree_uses environment first ++ trees_uses environment others

  pub bindings_uses : Bindings → (Environment → List Use) → Environment → List Use
  bindings_uses no_binding next environment = next environment
  bindings_uses (a_binding bound value others) next environment = tree_uses environment value ++ bindings_uses others next (with_bound bound environment)

  pub clauses_uses : Clauses → (Environment → List Use) → Environment → List Use
  clauses_uses no_clause next environment = next environment
  clauses_uses (for_clause place bindings others) next environment = bindings_uses bindings (clauses_uses others next) environment
  clauses_uses (let_clause place bindings others) next environment = bindings_uses bindings (clauses_uses others next) environment
  clauses_uses (where_clause place condition others) next environment = tree_uses environment condition ++ clauses_uses others next environment

  pub keys_uses : Environment → Keys → List Use
  keys_uses environment no_key = []
  keys_uses environment (a_key value order others) = tree_uses environment value ++ keys_uses environment others

  pub cases_uses : Environment → Cases → List Use
  cases_uses environment no_case = []
  cases_uses environment (a_case heading body others) = tree_uses (with_optional heading.variable environment) body ++ cases_uses environment others

  pub attributes_uses : Environment → Attributes → List Use
  attributes_uses environment no_attribute = []
  attributes_uses environment (an_attribute name value others) = attribute_parts_uses environment value ++ attributes_uses environment others

  pub attribute_parts_uses : Environment → AttributeParts → List Use
  attribute_parts_uses environment no_attribute_part = []
  attribute_parts_uses environment (attribute_text characters others) = attribute_parts_uses environment others
  attribute_parts_uses environment (attribute_enclosed value others) = tree_uses environment value ++ attribute_parts_uses environment others

  pub parts_uses : Environment → Parts → List Use
  parts_uses environment no_part = []
  parts_uses environment (blank_part characters others) = parts_uses environment others
  parts_uses environment (text_part characters others) = parts_uses environment others
  parts_uses environment (element_part element others) = tree_uses environment element ++ parts_uses environment others
  parts_uses environment (enclosed_part value others) = tree_uses environment value ++ parts_uses environment others
