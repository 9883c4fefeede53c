-- An expression with its names resolved, where nothing is refused.
use Rattle.std.specs.Prelude.{ℕ, List, Option, None, Some, unwrap_or, if◌then◌else◌}
use Rattle.std.specs.Option.{option_map}
use Rattle.gx_base.specs.declared.place.Place.{Place}
use Rattle.gx_ast.specs.declared.name.QName.{QName}
use Rattle.gx_ast.specs.declared.name.Variable.{Variable}
use Rattle.gx_ast.specs.declared.sequence_type.BoundVariable.{BoundVariable}
use Rattle.gx_ast.specs.declared.sequence_type.CaseHead.{CaseHead}
use Rattle.gx_ast.specs.declared.sequence_type.DefaultHead.{DefaultHead}
use Rattle.gx_ast.specs.declared.sequence_type.SequenceType.{SequenceType}
use Rattle.gx_ast.specs.SyntaxTree.{SyntaxTree, SyntaxForm, SyntaxTrees, Bindings, Clauses, Keys, Cases, Attributes, AttributeParts, Parts, at, number, string, variable, parenthesised, empty_sequence, context_item, call, comma, flwor, quantified, typeswitch, conditional, binary, instance_of, treat_as, castable_as, cast_as, signed, path, axis_step, parent_step, filtered, direct, document_node, text_node, element_node, empty_element, attribute_node, empty_attribute, no_tree, a_tree, no_binding, a_binding, no_clause, for_clause, let_clause, where_clause, no_key, a_key, no_case, a_case, no_attribute, an_attribute, no_attribute_part, attribute_text, attribute_enclosed, no_part, blank_part, text_part, element_part, enclosed_part}
use Rattle.gx_funcs.specs.declared.function.Function.TheVariants as functions
use Rattle.gx_resolved.specs.declared.tree.BindingWord.{BindingWord}
use Rattle.gx_resolved.specs.declared.tree.BindingWord.TheVariants as words
use Rattle.gx_resolved.specs.declared.tree.BoundName.{BoundName}
use Rattle.gx_resolved.specs.declared.tree.Construct.{Construct}
use Rattle.gx_resolved.specs.declared.tree.Construct.TheVariants as constructs
use Rattle.gx_resolved.specs.ResolvedTree.{ResolvedTree, ResolvedTrees, resolved_at, no_resolved, a_resolved, one_resolved, two_resolved, three_resolved, and_parts}
use Rattle.gx_names_scope.specs.Environment.{Environment, element_name, plain_name, called_name, or_nameless, binder_of, with_optional, with_bound}
use Rattle.gx_names_types.specs.TypeNames.{type_written, atomic_named}
use Rattle.gx_names_types.specs.Steps.{axis_of_step, step_tested}
use Rattle.gx_names_scope.specs.StartTags.{declares_namespace, with_namespaces}
use Rattle.gx_names_scope.specs.TreeCounts.{count_trees}
use Rattle.gx_names_trees.specs.Calls.{called_construct, context_argument}
use Rattle.gx_names_trees.specs.TreeRefusals.{syntax_place}

-- a use of a variable, with the place of its binder
abbrev pub use_resolved : Environment → Place → QName → Construct
use_resolved environment place name =
    let n = or_nameless (plain_name environment name) in
    constructs.Variable n (unwrap_or (binder_of environment.variables n) place)

abbrev pub call_resolved : Environment → QName → (arity : ℕ) → Construct
call_resolved environment name arity = unwrap_or (called_construct environment (or_nameless (called_name environment name)) arity) (constructs.Call functions.True)

-- a call over its arguments
abbrev pub call_over : Place → Construct → (arity : ℕ) → (arguments : ResolvedTrees) → ResolvedTree
call_over place construct arity arguments = resolved_at place construct (and_parts (context_argument place construct arity) arguments)

abbrev pub binder_resolved : Environment → Variable → Option SequenceType → BoundName
binder_resolved environment binder kind =
    record { name = or_nameless (plain_name environment binder.name); place = binder.place; kind = option_map (type_written environment) kind }

abbrev pub optional_resolved : Environment → Option Variable → Option BoundName
optional_resolved environment None = None
optional_resolved environment (Some binder) = Some (binder_resolved environment binder None)

-- what a binding is, by the word of its clause; a position is written in `for` alone
abbrev pub binding_resolved : BindingWord → BoundName → Option BoundName → Construct
binding_resolved words.Let bound position = constructs.Let bound
binding_resolved words.For bound position = constructs.For bound position
binding_resolved words.Satisfies bound position = constructs.In bound

abbrev pub bound_resolved : Environment → BindingWord → BoundVariable → Construct
bound_resolved environment word bound =
    binding_resolved word (binder_resolved environment bound.variable bound.kind) (optional_resolved environment bound.position)

abbrev pub case_resolved : Environment → CaseHead → Construct
case_resolved environment heading = constructs.Case (optional_resolved environment heading.variable) (type_written environment heading.kind)

abbrev pub element_resolved : Environment → QName → Construct
element_resolved environment name = constructs.Element (or_nameless (element_name environment name))

abbrev pub attribute_resolved : Environment → QName → Construct
attribute_resolved environment name = constructs.Attribute (or_nameless (plain_name environment name))

abbrev pub direct_element_resolved : Environment → QName → Construct
direct_element_resolved environment name = constructs.DirectElement (or_nameless (element_name environment name))

abbrev pub direct_attribute_resolved : Environment → QName → Construct
direct_attribute_resolved environment name = constructs.DirectAttribute (or_nameless (plain_name environment name))

-- text of a direct constructor is a string, at the element or the attribute that it stands in
abbrev pub text_resolved : Place → List ℕ → ResolvedTree
text_resolved place characters = resolved_at place (constructs.String characters) no_resolved

-- white space alone is kept apart: it counts only where boundary-space is preserved
abbrev pub blank_resolved : Place → List ℕ → ResolvedTree
blank_resolved place characters = resolved_at place (constructs.Blank characters) no_resolved

abbrev mutual
  pub tree_resolved : Environment → SyntaxTree → ResolvedTree
  tree_resolved environment (at place form) = form_resolved environment place form

  pub form_resolved : Environment → Place → SyntaxForm → ResolvedTree
  form_resolved environment place (number value) = resolved_at place (constructs.Number value) no_resolved
  form_resolved environment place (string characters) = resolved_at place (constructs.String characters) no_resolved
  form_resolved environment place (variable name) = resolved_at place (use_resolved environment place name) no_resolved
  form_resolved environment place (parenthesised inner) = resolved_at place constructs.Parenthesised (one_resolved (tree_resolved environment inner))
  form_resolved environment place empty_sequence = resolved_at place constructs.Empty no_resolved
  form_resolved environment place context_item = resolved_at place constructs.Context no_resolved
  form_resolved environment place (call name arguments) =
      call_over place (call_resolved environment name (count_trees arguments)) (count_trees arguments) (trees_resolved environment arguments)
  form_resolved environment place (comma first second) =
      resolved_at place constructs.Sequence (two_resolved (tree_resolved environment first) (tree_resolved environment second))
  form_resolved environment place (flwor clauses order stable keys returned) =
      resolved_at place constructs.Flwor
      (clauses_resolved clauses (λ inner. and_parts (keys_resolved inner keys) (one_resolved (tree_resolved inner returned))) environment)
  form_resolved environment place (quantified every bindings condition) =
      resolved_at place (constructs.Quantified every) (bindings_resolved words.Satisfies bindings (λ inner. one_resolved (tree_resolved inner condition)) environment)
  form_resolved environment place (typeswitch operand cases default otherwise) =
      resolved_at place constructs.Typeswitch
      (a_resolved (tree_resolved environment operand)
      (and_parts (cases_resolved environment cases)
      (one_resolved (resolved_at default.place (constructs.Default (optional_resolved environment default.variable))
      (one_resolved (tree_resolved (with_optional default.variable environment) otherwise))))))
  form_resolved environment place (conditional test chosen otherwise) =
      resolved_at place constructs.If (three_resolved (tree_resolved environment test) (tree_resolved environment chosen) (tree_resolved environment otherwise))
  form_resolved environment place (binary operator left right) =
      resolved_at place (constructs.Binary operator) (two_resolved (tree_resolved environment left) (tree_resolved environment right))
  form_resolved environment place (instance_of operand kind) =
      resolved_at place (constructs.InstanceOf (type_written environment kind)) (one_resolved (tree_resolved environment operand))
  form_resolved environment place (treat_as operand kind) =
      resolved_at place (constructs.TreatAs (type_written environment kind)) (one_resolved (tree_resolved environment operand))
  form_resolved environment place (castable_as operand kind) =
      resolved_at place (constructs.CastableAs (atomic_named environment kind.name) kind.optional) (one_resolved (tree_resolved environment operand))
  form_resolved environment place (cast_as operand kind) =
      resolved_at place (constructs.CastAs (atomic_named environment kind.name) kind.optional) (one_resolved (tree_resolved environment operand))
  form_resolved environment place (signed minus operand) = resolved_at place (constructs.Signed minus) (one_resolved (tree_resolved environment operand))
  form_resolved environment place (path descendants left right) =
      resolved_at place (constructs.Path descendants) (two_resolved (tree_resolved environment left) (tree_resolved environment right))
  form_resolved environment place (axis_step step) = resolved_at place (constructs.Step (axis_of_step step) (step_tested environment step)) no_resolved
  form_resolved environment place parent_step = resolved_at place constructs.ParentStep no_resolved
  form_resolved environment place (filtered bracket operand predicates) =
      resolved_at place constructs.Filtered (a_resolved (tree_resolved environment operand) (trees_resolved environment predicates))
  form_resolved environment place (direct name attributes content) =
      resolved_at place (direct_element_resolved (with_namespaces attributes environment) name)
      (and_parts (attributes_resolved (with_namespaces attributes environment) attributes)
      (parts_resolved (with_namespaces attributes environment) place content))
  form_resolved environment place (document_node content) = resolved_at place constructs.Document (one_resolved (tree_resolved environment content))
  form_resolved environment place (text_node content) = resolved_at place constructs.TextNode (one_resolved (tree_resolved environment content))
  form_resolved environment place (element_node name content) = resolved_at place (element_resolved environment name) (one_resolved (tree_resolved environment content))
  form_resolved environment place (empty_element name) = resolved_at place (element_resolved environment name) no_resolved
  form_resolved environment place (attribute_node name content) = resolved_at place (attribute_resolved environment name) (one_resolved (tree_resolved environment content))
  form_resolved environment place (empty_attribute name) = resolved_at place (attribute_resolved environment name) no_resolved

  pub trees_resolved : Environment → SyntaxTrees → ResolvedTrees
  trees_resolved environment no_tree = no_resolved
  trees_resolved environment (a_tree first others) = a_resolved (tree_resolved environment first) (trees_resolved environment others)

  pub bindings_resolved : BindingWord → Bindings → (Environment → ResolvedTrees) → Environment → ResolvedTrees
  bindings_resolved word no_binding next environment = next environment
  bindings_resolved word (a_binding bound value others) next environment =
      a_resolved (resolved_at bound.variable.place (bound_resolved environment word bound) (one_resolved (tree_resolved environment value)))
      (bindings_resolved word others next (with_bound bound environment))

  pub clauses_resolved : Clauses → (Environment → ResolvedTrees) → Environment → ResolvedTrees
  clauses_resolved no_clause next environment = next environment
  clauses_resolved (for_clause place bindings others) next environment = bindings_resolved words.For bindings (clauses_resolved others next) environment
  clauses_resolved (let_clause place bindings others) next environment = bindings_resolved words.Let bindings (clauses_resolved others next) environment
  clauses_resolved (where_clause place condition others) next environment =
      a_resolved (resolved_at place constructs.Where (one_resolved (tree_resolved environment condition))) (clauses_resolved others next environment)

  pub keys_resolved : Environment → Keys → ResolvedTrees
  keys_resolved environment no_key = no_resolved
  keys_resolved environment (a_key value order others) =
      a_resolved (resolved_at (syntax_place value) (constructs.Key order) (one_resolved (tree_resolved environment value))) (keys_resolved environment others)

  pub cases_resolved : Environment → Cases → ResolvedTrees
  cases_resolved environment no_case = no_resolved
  cases_resolved environment (a_case heading body others) =
      a_resolved (resolved_at heading.place (case_resolved environment heading) (one_resolved (tree_resolved (with_optional heading.variable environment) body)))
      (cases_resolved environment others)

  -- the attributes that declare no namespaces
  pub attributes_resolved : Environment → Attributes → ResolvedTrees
  attributes_resolved environment no_attribute = no_resolved
  attributes_resolved environment (an_attribute name value others) =
      if declares_namespace name then attributes_resolved environment others
      else a_resolved (resolved_at name.place (direct_attribute_resolved environment name) (attribute_parts_resolved environment name.place value))
      (attributes_resolved environment others)

  pub attribute_parts_resolved : Environment → Place → AttributeParts → ResolvedTrees
  attribute_parts_resolved environment place no_attribute_part = no_resolved
  attribute_parts_resolved environment place (attribute_text characters others) =
      a_resolved (text_resolved place characters) (attribute_parts_resolved environment place others)
  attribute_parts_resolved environment place (attribute_enclosed value others) =
      a_resolved (tree_resolved environment value) (attribute_parts_resolved environment place others)

  pub parts_resolved : Environment → Place → Parts → ResolvedTrees
  parts_resolved environment place no_part = no_resolved
  parts_resolved environment place (blank_part characters others) = a_resolved (blank_resolved place characters) (parts_resolved environment place others)
  parts_resolved environment place (text_part characters others) = a_resolved (text_resolved place characters) (parts_resolved environment place others)
  parts_resolved environment place (element_part element others) = a_resolved (tree_resolved environment element) (parts_resolved environment place others)
  parts_resolved environment place (enclosed_part value others) = a_resolved (tree_resolved environment value) (parts_resolved environment place others)

-- the default of a typeswitch
abbrev pub default_resolved : Environment → DefaultHead → SyntaxTree → ResolvedTree
default_resolved environment heading otherwise =
    resolved_at heading.place (constructs.Default (optional_resolved environment heading.variable))
    (one_resolved (tree_resolved (with_optional heading.variable environment) otherwise))
