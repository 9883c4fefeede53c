-- What is refused of an expression, in the order of the text; at one place in the order of the rules (XQuery 1.0, section 3).
use Rattle.std.specs.Prelude.{ℕ, ◌+◌, Bool, false, List, [], ◌∷◌, ◌++◌, Option, None, Some, is_some, if◌then◌else◌}
use Rattle.gx_base.specs.Name.{same_name}
use Rattle.gx_base.specs.declared.name.Name.{Name}
use Rattle.gx_base.specs.declared.place.Place.{Place}
use Rattle.gx_base.specs.declared.code.Code.TheVariants.{XPST0008, XPST0017, XQDY0044, XQST0040, XQST0089}
use Rattle.gx_ast.specs.declared.name.QName.{QName}
use Rattle.gx_ast.specs.declared.name.Variable.{Variable}
use Rattle.gx_ast.specs.declared.sequence_type.BoundVariable.{BoundVariable}
use Rattle.gx_ast.specs.declared.sequence_type.CaseHead.{CaseHead}
use Rattle.gx_ast.specs.declared.sequence_type.DefaultHead.{DefaultHead}
use Rattle.gx_ast.specs.declared.sequence_type.SequenceType.{SequenceType}
use Rattle.gx_ast.specs.SyntaxTree.{SyntaxTree, SyntaxForm, SyntaxTrees, Bindings, Clauses, Keys, Cases, Attributes, AttributeParts, Parts, at, number, string, variable, parenthesised, empty_sequence, context_item, call, comma, flwor, quantified, typeswitch, conditional, binary, instance_of, treat_as, castable_as, cast_as, signed, path, axis_step, parent_step, filtered, direct, document_node, text_node, element_node, empty_element, attribute_node, empty_attribute, no_tree, a_tree, no_binding, a_binding, no_clause, for_clause, let_clause, where_clause, no_key, a_key, no_case, a_case, no_attribute, an_attribute, no_attribute_part, attribute_text, attribute_enclosed, no_part, blank_part, text_part, element_part, enclosed_part}
use Rattle.gx_names_scope.specs.declared.refusal.Refusal.{Refusal}
use Rattle.gx_resolved.specs.NestedMap.{innermost_value}
use Rattle.gx_names_scope.specs.Environment.{Environment, element_name, plain_name, called_name, or_nameless, binder_of, with_optional, with_bound}
use Rattle.gx_names_scope.specs.TreeCounts.{count_trees}
use Rattle.gx_names_scope.specs.Refusing.{refused_if, where_named, unless_found, prefix_refusals}
use Rattle.gx_names_types.specs.TypeNames.{written_type_refusals, type_refusals, target_refusals}
use Rattle.gx_names_types.specs.Steps.{step_refusals}
use Rattle.gx_names_scope.specs.StartTags.{is_xmlns, declares_namespace, namespaces_refusals, with_namespaces}
use Rattle.gx_names_trees.specs.Calls.{called_construct}

-- a use of a variable: its prefix is known, and it is in scope
abbrev pub use_refusals : Environment → Place → QName → List Refusal
use_refusals environment place name =
    where_named (plain_name environment name) place (λ n. unless_found (binder_of environment.variables n) place XPST0008)

abbrev pub syntax_place : SyntaxTree → Place
syntax_place (at place form) = place

-- a call: the prefix is known, and there is a function of this name that is called with so many arguments
abbrev pub call_refusals : Environment → Place → QName → (arity : ℕ) → List Refusal
call_refusals environment place name arity =
    where_named (called_name environment name) place (λ n. unless_found (called_construct environment n arity) place XPST0017)

-- ---- binders

-- the name of a variable that is bound, and its type
abbrev pub binder_refusals : Environment → Variable → Option SequenceType → List Refusal
binder_refusals environment binder kind = prefix_refusals (plain_name environment binder.name) binder.place ++ written_type_refusals environment kind

-- a variable without a type, if it is written
abbrev pub optional_refusals : Environment → Option Variable → List Refusal
optional_refusals environment None = []
optional_refusals environment (Some binder) = binder_refusals environment binder None

-- the variable of the position has another name than that of the items
abbrev pub same_variable : Option Name → Option Name → Bool
same_variable (Some a) (Some b) = same_name a b
same_variable _ _ = false

abbrev pub position_refusals : Environment → Variable → Option Variable → List Refusal
position_refusals environment binder None = []
position_refusals environment binder (Some position) =
    binder_refusals environment position None
    ++ refused_if (same_variable (plain_name environment binder.name) (plain_name environment position.name)) position.place XQST0089

abbrev pub bound_refusals : Environment → BoundVariable → List Refusal
bound_refusals environment bound = binder_refusals environment bound.variable bound.kind ++ position_refusals environment bound.variable bound.position

abbrev pub case_refusals : Environment → CaseHead → List Refusal
case_refusals environment heading = optional_refusals environment heading.variable ++ type_refusals environment heading.kind

-- ---- constructors

-- an attribute is not named `xmlns`
abbrev pub attribute_refusals : Environment → Place → QName → List Refusal
attribute_refusals environment place name = refused_if (is_xmlns name) place XQDY0044 ++ prefix_refusals (plain_name environment name) name.place

-- ---- direct constructors

-- the attributes that stand before in a start tag, by their names
abbrev pub AttributeNames : Type 0
AttributeNames = List (Name × Place)

abbrev pub attribute_names_with : Environment → QName → AttributeNames → AttributeNames
attribute_names_with environment name earlier = (or_nameless (plain_name environment name), name.place) ∷ earlier

-- the name of an attribute: its prefix is known, and no earlier attribute of the tag has the same name
abbrev pub direct_attribute_refusals : Environment → (earlier : AttributeNames) → QName → List Refusal
direct_attribute_refusals environment earlier name =
    where_named (plain_name environment name) name.place (λ n. refused_if (is_some (innermost_value same_name earlier n)) name.place XQST0040)

-- ---- expressions

abbrev mutual
  pub tree_refusals : Environment → SyntaxTree → List Refusal
  tree_refusals environment (at place form) = form_refusals environment place form

  pub form_refusals : Environment → Place → SyntaxForm → List Refusal
  form_refusals environment place (number value) = []
  form_refusals environment place (string characters) = []
  form_refusals environment place (variable name) = use_refusals environment place name
  form_refusals environment place (parenthesised inner) = tree_refusals environment inner
  form_refusals environment place empty_sequence = []
  form_refusals environment place context_item = []
  form_refusals environment place (call name arguments) = call_refusals environment place name (count_trees arguments) ++ trees_refusals environment arguments
  form_refusals environment place (comma first second) = tree_refusals environment first ++ tree_refusals environment second
  form_refusals environment place (flwor clauses order stable keys returned) =
      clauses_refusals clauses (λ inner. keys_refusals inner keys ++ tree_refusals inner returned) environment
  form_refusals environment place (quantified every bindings condition) = bindings_refusals bindings (λ inner. tree_refusals inner condition) environment
  form_refusals environment place (typeswitch operand cases default otherwise) =
      tree_refusals environment operand
      ++ (cases_refusals environment cases
      ++ (optional_refusals environment default.variable ++ tree_refusals (with_optional default.variable environment) otherwise))
  form_refusals environment place (conditional test chosen otherwise) =
      tree_refusals environment test ++ (tree_refusals environment chosen ++ tree_refusals environment otherwise)
  form_refusals environment place (binary operator left right) = tree_refusals environment left ++ tree_refusals environment right
  form_refusals environment place (instance_of operand kind) = tree_refusals environment operand ++ type_refusals environment kind
  form_refusals environment place (treat_as operand kind) = tree_refusals environment operand ++ type_refusals environment kind
  form_refusals environment place (castable_as operand kind) = tree_refusals environment operand ++ target_refusals environment kind.name
  form_refusals environment place (cast_as operand kind) = tree_refusals environment operand ++ target_refusals environment kind.name
  form_refusals environment place (signed minus operand) = tree_refusals environment operand
  form_refusals environment place (path descendants left right) = tree_refusals environment left ++ tree_refusals environment right
  form_refusals environment place (axis_step step) = step_refusals environment step
  form_refusals environment place parent_step = []
  form_refusals environment place (filtered bracket operand predicates) = tree_refusals environment operand ++ trees_refusals environment predicates
  form_refusals environment place (direct name attributes content) =
      namespaces_refusals [] attributes
      ++ (prefix_refusals (element_name (with_namespaces attributes environment) name) name.place
      ++ (attributes_refusals (with_namespaces attributes environment) [] attributes
      ++ parts_refusals (with_namespaces attributes environment) content))
  form_refusals environment place (document_node content) = tree_refusals environment content
  form_refusals environment place (text_node content) = tree_refusals environment content
  form_refusals environment place (element_node name content) = prefix_refusals (element_name environment name) name.place ++ tree_refusals environment content
  form_refusals environment place (empty_element name) = prefix_refusals (element_name environment name) name.place
  form_refusals environment place (attribute_node name content) = attribute_refusals environment place name ++ tree_refusals environment content
  form_refusals environment place (empty_attribute name) = attribute_refusals environment place name

  pub trees_refusals : Environment → SyntaxTrees → List Refusal
  trees_refusals environment no_tree = []
  trees_refusals environment (a_tree first others) = tree_refusals environment first ++ trees_refusals environment others

  -- bindings, each in the scope of those before it, and then what follows them
  pub bindings_refusals : Bindings → (Environment → List Refusal) → Environment → List Refusal
  bindings_refusals no_binding next environment = next environment
  bindings_refusals (a_binding bound value others) next environment =
      bound_refusals environment bound ++ (tree_refusals environment value ++ bindings_refusals others next (with_bound bound environment))

  pub clauses_refusals : Clauses → (Environment → List Refusal) → Environment → List Refusal
  clauses_refusals no_clause next environment = next environment
  clauses_refusals (for_clause place bindings others) next environment = bindings_refusals bindings (clauses_refusals others next) environment
  clauses_refusals (let_clause place bindings others) next environment = bindings_refusals bindings (clauses_refusals others next) environment
  clauses_refusals (where_clause place condition others) next environment = tree_refusals environment condition ++ clauses_refusals others next environment

  pub keys_refusals : Environment → Keys → List Refusal
  keys_refusals environment no_key = []
  keys_refusals environment (a_key value order others) = tree_refusals environment value ++ keys_refusals environment others

  pub cases_refusals : Environment → Cases → List Refusal
  cases_refusals environment no_case = []
  cases_refusals environment (a_case heading body others) =
      case_refusals environment heading ++ (tree_refusals (with_optional heading.variable environment) body ++ cases_refusals environment others)

  -- the attributes that declare no namespaces, behind those of these names
  pub attributes_refusals : Environment → (earlier : AttributeNames) → Attributes → List Refusal
  attributes_refusals environment earlier no_attribute = []
  attributes_refusals environment earlier (an_attribute name value others) =
      if declares_namespace name then attributes_refusals environment earlier others
      else (direct_attribute_refusals environment earlier name
      ++ (attribute_parts_refusals environment value ++ attributes_refusals environment (attribute_names_with environment name earlier) others))

  pub attribute_parts_refusals : Environment → AttributeParts → List Refusal
  attribute_parts_refusals environment no_attribute_part = []
  attribute_parts_refusals environment (attribute_text characters others) = attribute_parts_refusals environment others
  attribute_parts_refusals environment (attribute_enclosed value others) = tree_refusals environment value ++ attribute_parts_refusals environment others

  pub parts_refusals : Environment → Parts → List Refusal
  parts_refusals environment no_part = []
  parts_refusals environment (blank_part characters others) = parts_refusals environment others
  parts_refusals environment (text_part characters others) = parts_refusals environment others
  parts_refusals environment (element_part element others) = tree_refusals environment element ++ parts_refusals environment others
  parts_refusals environment (enclosed_part value others) = tree_refusals environment value ++ parts_refusals environment others

-- the default of a typeswitch
abbrev pub default_refusals : Environment → DefaultHead → SyntaxTree → List Refusal
default_refusals environment heading otherwise =
    optional_refusals environment heading.variable ++ tree_refusals (with_optional heading.variable environment) otherwise
