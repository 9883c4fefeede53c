-- Names are refused with the codes of static errors alone.
use Rattle.std.proofs.Common.{◌≡◌, ℕ, Bool, true, false, not, ◌||◌, List, [], ◌∷◌, ◌++◌, codes, length, Option, None, Some, refl, if◌then◌else◌}
use Rattle.std.specs.Prelude.{All, is_some}
use Rattle.std.proofs.lemmas.List.Elements.{All-nil, All-cons}
use Rattle.gx_base.specs.Name.{same_name}
use Rattle.gx_base.specs.Text.{same_text}
use Rattle.gx_base.specs.declared.name.Name.{Name}
use Rattle.gx_base.specs.declared.place.Place.{Place}
use Rattle.gx_base.specs.declared.code.Code.{Code}
use Rattle.gx_base.specs.declared.code.Code.TheVariants.{XPST0008, XPST0017, XPST0051, XPST0080, XQDY0044, XQST0022, XQST0033, XQST0034, XQST0039, XQST0040, XQST0045, XQST0049, XQST0054, XQST0057, XQST0058, XQST0059, XQST0070, XQST0071, XQST0085, XQST0089, GLXS0004}
use Rattle.gx_base.specs.Code.{is_static}
use Rattle.gx_ast.specs.declared.name.QName.{QName}
use Rattle.gx_ast.specs.declared.name.Variable.{Variable}
use Rattle.gx_ast.specs.declared.name.NameTest.{NameTest as WrittenName}
use Rattle.gx_ast.specs.declared.name.NameTest.TheVariants as named
use Rattle.gx_ast.specs.declared.query.Definition.{Definition}
use Rattle.gx_ast.specs.declared.query.DefinitionNode.{DefinitionNode}
use Rattle.gx_ast.specs.declared.query.DefinitionNode.TheVariants as definitions
use Rattle.gx_ast.specs.declared.query.Initialiser.TheVariants as initial
use Rattle.gx_ast.specs.declared.query.Parameter.{Parameter}
use Rattle.gx_ast.specs.declared.query.SchemaPrefix.{SchemaPrefix}
use Rattle.gx_ast.specs.declared.query.SchemaPrefix.TheVariants as bound
use Rattle.gx_ast.specs.declared.query.Setting.{Setting}
use Rattle.gx_ast.specs.declared.query.SettingNode.{SettingNode}
use Rattle.gx_ast.specs.declared.query.SettingNode.TheVariants as settings
use Rattle.gx_ast.specs.declared.sequence_type.BoundVariable.{BoundVariable}
use Rattle.gx_ast.specs.declared.sequence_type.CaseHead.{CaseHead}
use Rattle.gx_ast.specs.declared.sequence_type.KindTest.{KindTest}
use Rattle.gx_ast.specs.declared.sequence_type.KindTest.TheVariants as kinds
use Rattle.gx_ast.specs.declared.sequence_type.ItemType.{ItemType}
use Rattle.gx_ast.specs.declared.sequence_type.ItemType.TheVariants as written
use Rattle.gx_ast.specs.declared.sequence_type.NodeTest.{NodeTest}
use Rattle.gx_ast.specs.declared.sequence_type.NodeTest.TheVariants as nodes
use Rattle.gx_ast.specs.declared.sequence_type.SequenceType.{SequenceType as WrittenType}
use Rattle.gx_ast.specs.declared.sequence_type.SequenceType.TheVariants as sequences
use Rattle.gx_ast.specs.declared.sequence_type.TestedName.{TestedName}
use Rattle.gx_ast.specs.SyntaxTree.{SyntaxTree, SyntaxForm, SyntaxTrees, Bindings, Clauses, Keys, Cases, Attributes, AttributeParts, Parts, at, number, string, variable, parenthesised, empty_sequence, context_item, call, comma, flwor, quantified, typeswitch, conditional, binary, instance_of, treat_as, castable_as, cast_as, signed, path, axis_step, parent_step, filtered, direct, document_node, text_node, element_node, empty_element, attribute_node, empty_attribute, no_tree, a_tree, no_binding, a_binding, no_clause, for_clause, let_clause, where_clause, no_key, a_key, no_case, a_case, no_attribute, an_attribute, no_attribute_part, attribute_text, attribute_enclosed, no_part, blank_part, text_part, element_part, enclosed_part}
use Rattle.gx_types.specs.SchemaSet.{global_type}
use Rattle.gx_types.specs.declared.step.Axis.{Axis}
use Rattle.gx_typetext.specs.KnownNames.{type_with_name, atomic_with_name}
use Rattle.gx_resolved.specs.NestedMap.{innermost_value}
use Rattle.gx_names_scope.specs.declared.refusal.Refusal.{Refusal}
use Rattle.gx_names_scope.specs.Signature.{same_signature}
use Rattle.gx_names_scope.specs.Environment.{Variables, Functions, Environment, is_word, uri_of, plain_name, element_name, called_name, binder_of, with_optional, with_bound}
use Rattle.gx_names_scope.specs.Prefixes.{DeclaredPrefixes, is_reserved_prefix, is_reserved_uri}
use Rattle.gx_names_scope.specs.Refusing.{refused_if, where_named, unless_found, prefix_refusals}
use Rattle.gx_names_scope.specs.StartTags.{is_xmlns, declared_prefix, declares_namespace, literal_value, has_enclosed, is_unbinding, namespace_refusals, prefixes_with, namespaces_refusals, with_namespaces}
use Rattle.gx_names_scope.specs.TreeCounts.{count_trees}
use Rattle.gx_names_types.specs.TypeNames.{kind_refusals, uri_refusals, tested_element_refusals, tested_attribute_refusals, element_test_refusals, attribute_test_refusals, declared_refusals, test_refusals, item_refusals, type_refusals, written_type_refusals, is_any_atomic, target_refusals}
use Rattle.gx_names_types.specs.Steps.{axis_of_step, node_name, name_refusals, node_test_refusals}
use Rattle.gx_names_trees.specs.Calls.{called_construct}
use Rattle.gx_names_trees.specs.TreeRefusals.{AttributeNames, binder_refusals, optional_refusals, same_variable, position_refusals, bound_refusals, case_refusals, attribute_refusals, attribute_names_with, direct_attribute_refusals, use_refusals, call_refusals, tree_refusals, form_refusals, trees_refusals, bindings_refusals, clauses_refusals, keys_refusals, cases_refusals, attributes_refusals, attribute_parts_refusals, parts_refusals}
use Rattle.gx_names_uses.specs.Uses.{tree_uses}
use Rattle.gx_names_uses.specs.Reaching.{Bodies, calls_are_settled}
use Rattle.gx_names.specs.Laws.{IsOfStaticCode, NamesAreRefusedWithStaticCodes}
use Rattle.gx_names.specs.Refusals.{doubled_name, doubled_variable, is_document_type, external_refusals, is_kept_namespace, function_refusals, doubled_parameter, seen_with, parameters_refusals, heading_refusals, with_parameters, call_order_refusals, definition_refusals, definition_scope, definitions_refusals, functions_with, with_functions, scope_after, bodies_after, query_refusals}
use Rattle.gx_names.specs.SettingRefusals.{ImportedNamespaces, Targets, has_other_target, declared_prefix_refusals, import_prefix_refusals, import_refusals, setting_refusals, declared_with, imported_with, targets_behind, settings_refusals, prolog_environment}

-- the same by recursion
abbrev AreStatic : List Refusal → Type 0
AreStatic [] = Unit {0}
AreStatic (refusal ∷ refusals) = IsOfStaticCode refusal × AreStatic refusals

all_static : (rs : List Refusal) → AreStatic rs → All IsOfStaticCode rs
all_static [] h = All-nil IsOfStaticCode
all_static (r ∷ rs) h = All-cons IsOfStaticCode r rs h.0 (all_static rs h.1)

both_static : (rs ss : List Refusal) → AreStatic rs → AreStatic ss → AreStatic (rs ++ ss)
both_static [] ss h k = k
both_static (r ∷ rs) ss h k = (h.0, both_static rs ss h.1 k)

-- ---- what is refused at a place

static_if : (wrong : Bool) (place : Place) (code : Code) → is_static code ≡ true → AreStatic (refused_if wrong place code)
static_if true place code h = (h, tt)
static_if false place code h = tt

static_named : (name : Option Name) (place : Place) (refusals : Name → List Refusal) → ((n : Name) → AreStatic (refusals n)) → AreStatic (where_named name place refusals)
static_named None place refusals k = (refl, tt)
static_named (Some name) place refusals k = k name

static_found : {A : Type 0} (found : Option A) (place : Place) (code : Code) → is_static code ≡ true → AreStatic (unless_found found place code)
static_found None place code h = (h, tt)
static_found (Some a) place code h = tt

static_prefix : (name : Option Name) (place : Place) → AreStatic (prefix_refusals name place)
static_prefix None place = (refl, tt)
static_prefix (Some name) place = tt

-- ---- types

static_kind : (environment : Environment) (kind : Option QName) → AreStatic (kind_refusals environment kind)
static_kind environment None = tt
static_kind environment (Some kind) =
    static_named (element_name environment kind) kind.place (λ name. unless_found (type_with_name environment.schemas name) kind.place XPST0008)
    (λ name. static_found (type_with_name environment.schemas name) kind.place XPST0008 refl)

static_uri : (uri : Option (List ℕ)) (place : Place) → AreStatic (uri_refusals uri place)
static_uri None place = (refl, tt)
static_uri (Some uri) place = tt

static_tested_element : (environment : Environment) (name : Option QName) → AreStatic (tested_element_refusals environment name)
static_tested_element environment None = tt
static_tested_element environment (Some name) = static_prefix (element_name environment name) name.place

static_tested_attribute : (environment : Environment) (name : Option QName) → AreStatic (tested_attribute_refusals environment name)
static_tested_attribute environment None = tt
static_tested_attribute environment (Some name) = static_prefix (plain_name environment name) name.place

static_element_test : (environment : Environment) (tested : Option TestedName) → AreStatic (element_test_refusals environment tested)
static_element_test environment None = tt
static_element_test environment (Some tested) =
    both_static (tested_element_refusals environment tested.name) (kind_refusals environment tested.kind) (static_tested_element environment tested.name) (static_kind environment tested.kind)

static_attribute_test : (environment : Environment) (tested : Option TestedName) → AreStatic (attribute_test_refusals environment tested)
static_attribute_test environment None = tt
static_attribute_test environment (Some tested) =
    both_static (tested_attribute_refusals environment tested.name) (kind_refusals environment tested.kind) (static_tested_attribute environment tested.name) (static_kind environment tested.kind)

static_declared : (environment : Environment) (name : QName) → AreStatic (declared_refusals environment name)
static_declared environment name =
    static_named (element_name environment name) name.place (λ n. unless_found (global_type environment.schemas n) name.place XPST0008)
    (λ n. static_found (global_type environment.schemas n) name.place XPST0008 refl)

static_test : (environment : Environment) (test : KindTest) → AreStatic (test_refusals environment test)
static_test environment (kinds.Node place) = tt
static_test environment (kinds.Text place) = tt
static_test environment (kinds.Document place) = tt
static_test environment (kinds.DocumentOf place inner tested) = static_element_test environment tested
static_test environment (kinds.DocumentOfDeclared place inner name) = static_declared environment name
static_test environment (kinds.Element place tested) = static_element_test environment tested
static_test environment (kinds.Attribute place tested) = static_attribute_test environment tested
static_test environment (kinds.Declared place name) = static_declared environment name

static_item : (environment : Environment) (kind : ItemType) → AreStatic (item_refusals environment kind)
static_item environment (written.Item place) = tt
static_item environment (written.Kind test) = static_test environment test
static_item environment (written.Atomic name) =
    static_named (element_name environment name) name.place (λ n. unless_found (atomic_with_name environment.schemas n) name.place XPST0051)
    (λ n. static_found (atomic_with_name environment.schemas n) name.place XPST0051 refl)

static_type : (environment : Environment) (kind : WrittenType) → AreStatic (type_refusals environment kind)
static_type environment (sequences.Empty place) = tt
static_type environment (sequences.Items kind indicator) = static_item environment kind

static_written : (environment : Environment) (kind : Option WrittenType) → AreStatic (written_type_refusals environment kind)
static_written environment None = tt
static_written environment (Some kind) = static_type environment kind

static_choice : (b : Bool) (chosen otherwise : List Refusal) → AreStatic chosen → AreStatic otherwise → AreStatic (if b then chosen else otherwise)
static_choice true chosen otherwise h k = h
static_choice false chosen otherwise h k = k

static_target : (environment : Environment) (target : QName) → AreStatic (target_refusals environment target)
static_target environment target =
    let any : Name → List Refusal = λ name. (record { code = XPST0080; place = target.place }) ∷ [] in
    let other : Name → List Refusal = λ name. unless_found (atomic_with_name environment.schemas name) target.place XPST0051 in
    static_named (element_name environment target) target.place (λ name. if is_any_atomic (atomic_with_name environment.schemas name) then any name else other name)
    (λ name. static_choice (is_any_atomic (atomic_with_name environment.schemas name)) (any name) (other name) (refl, tt) (static_found (atomic_with_name environment.schemas name) target.place XPST0051 refl))

static_name : (environment : Environment) (axis : Axis) (name : WrittenName) → AreStatic (name_refusals environment axis name)
static_name environment axis (named.Named name) = static_prefix (node_name environment axis name) name.place
static_name environment axis (named.Any place) = tt
static_name environment axis (named.AnyInNamespace place prefix) = static_uri (uri_of environment.namespaces [] prefix) place
static_name environment axis (named.AnyNamespace place local) = tt

static_node_test : (environment : Environment) (axis : Axis) (test : NodeTest) → AreStatic (node_test_refusals environment axis test)
static_node_test environment axis (nodes.Kind test) = static_test environment test
static_node_test environment axis (nodes.Name test) = static_name environment axis test

-- ---- binders, uses and calls

static_use : (environment : Environment) (place : Place) (name : QName) → AreStatic (use_refusals environment place name)
static_use environment place name =
    static_named (plain_name environment name) place (λ n. unless_found (binder_of environment.variables n) place XPST0008) (λ n. static_found (binder_of environment.variables n) place XPST0008 refl)

static_call : (environment : Environment) (place : Place) (name : QName) (arity : ℕ) → AreStatic (call_refusals environment place name arity)
static_call environment place name arity =
    static_named (called_name environment name) place (λ n. unless_found (called_construct environment n arity) place XPST0017) (λ n. static_found (called_construct environment n arity) place XPST0017 refl)

static_binder : (environment : Environment) (binder : Variable) (kind : Option WrittenType) → AreStatic (binder_refusals environment binder kind)
static_binder environment binder kind =
    both_static (prefix_refusals (plain_name environment binder.name) binder.place) (written_type_refusals environment kind) (static_prefix (plain_name environment binder.name) binder.place) (static_written environment kind)

static_optional : (environment : Environment) (binder : Option Variable) → AreStatic (optional_refusals environment binder)
static_optional environment None = tt
static_optional environment (Some binder) = static_binder environment binder None

static_position : (environment : Environment) (binder : Variable) (position : Option Variable) → AreStatic (position_refusals environment binder position)
static_position environment binder None = tt
static_position environment binder (Some position) =
    both_static (binder_refusals environment position None) (refused_if (same_variable (plain_name environment binder.name) (plain_name environment position.name)) position.place XQST0089)
    (static_binder environment position None) (static_if (same_variable (plain_name environment binder.name) (plain_name environment position.name)) position.place XQST0089 refl)

static_bound : (environment : Environment) (bound : BoundVariable) → AreStatic (bound_refusals environment bound)
static_bound environment bound =
    both_static (binder_refusals environment bound.variable bound.kind) (position_refusals environment bound.variable bound.position)
    (static_binder environment bound.variable bound.kind) (static_position environment bound.variable bound.position)

static_case : (environment : Environment) (heading : CaseHead) → AreStatic (case_refusals environment heading)
static_case environment heading =
    both_static (optional_refusals environment heading.variable) (type_refusals environment heading.kind) (static_optional environment heading.variable) (static_type environment heading.kind)

-- ---- constructors

static_attribute : (environment : Environment) (place : Place) (name : QName) → AreStatic (attribute_refusals environment place name)
static_attribute environment place name =
    both_static (refused_if (is_xmlns name) place XQDY0044) (prefix_refusals (plain_name environment name) name.place) (static_if (is_xmlns name) place XQDY0044 refl) (static_prefix (plain_name environment name) name.place)

static_direct_attribute : (environment : Environment) (earlier : AttributeNames) (name : QName) → AreStatic (direct_attribute_refusals environment earlier name)
static_direct_attribute environment earlier name =
    static_named (plain_name environment name) name.place (λ n. refused_if (is_some (innermost_value same_name earlier n)) name.place XQST0040)
    (λ n. static_if (is_some (innermost_value same_name earlier n)) name.place XQST0040 refl)

static_namespace : (earlier : DeclaredPrefixes) (place : Place) (prefix : Option (List ℕ)) (value : AttributeParts) → AreStatic (namespace_refusals earlier place prefix value)
static_namespace earlier place None value = tt
static_namespace earlier place (Some prefix) value =
    let reserved : Bool = is_reserved_prefix prefix || is_reserved_uri (literal_value value) in
    let unbinding : Bool = is_unbinding prefix (literal_value value) in
    let doubled : Bool = is_some (innermost_value same_text earlier prefix) in
    both_static (refused_if (has_enclosed value) place XQST0022) (refused_if reserved place XQST0070 ++ (refused_if unbinding place XQST0085 ++ refused_if doubled place XQST0071))
    (static_if (has_enclosed value) place XQST0022 refl)
    (both_static (refused_if reserved place XQST0070) (refused_if unbinding place XQST0085 ++ refused_if doubled place XQST0071) (static_if reserved place XQST0070 refl)
    (both_static (refused_if unbinding place XQST0085) (refused_if doubled place XQST0071) (static_if unbinding place XQST0085 refl) (static_if doubled place XQST0071 refl)))

static_namespaces : (earlier : DeclaredPrefixes) (attributes : Attributes) → AreStatic (namespaces_refusals earlier attributes)
static_namespaces earlier no_attribute = tt
static_namespaces earlier (an_attribute name value others) =
    both_static (namespace_refusals earlier name.place (declared_prefix name) value) (namespaces_refusals (prefixes_with name.place (declared_prefix name) earlier) others)
    (static_namespace earlier name.place (declared_prefix name) value) (static_namespaces (prefixes_with name.place (declared_prefix name) earlier) others)

-- ---- expressions

mutual
  static_tree : (environment : Environment) (tree : SyntaxTree) → AreStatic (tree_refusals environment tree)
  static_tree environment (at place form) = static_form environment place form

  static_form : (environment : Environment) (place : Place) (form : SyntaxForm) → AreStatic (form_refusals environment place form)
  static_form environment place (number value) = tt
  static_form environment place (string characters) = tt
  static_form environment place (variable name) = static_use environment place name
  static_form environment place (parenthesised inner) = static_tree environment inner
  static_form environment place empty_sequence = tt
  static_form environment place context_item = tt
  static_form environment place (call name arguments) =
      both_static (call_refusals environment place name (count_trees arguments)) (trees_refusals environment arguments) (static_call environment place name (count_trees arguments)) (static_trees environment arguments)
  static_form environment place (comma first second) = both_static (tree_refusals environment first) (tree_refusals environment second) (static_tree environment first) (static_tree environment second)
  static_form environment place (flwor clauses order stable keys returned) =
      static_clauses clauses (λ inner. keys_refusals inner keys ++ tree_refusals inner returned) environment
      (λ inner. both_static (keys_refusals inner keys) (tree_refusals inner returned) (static_keys inner keys) (static_tree inner returned))
  static_form environment place (quantified every bindings condition) =
      static_bindings bindings (λ inner. tree_refusals inner condition) environment (λ inner. static_tree inner condition)
  static_form environment place (typeswitch operand cases default otherwise) =
      let behind : List Refusal = optional_refusals environment default.variable ++ tree_refusals (with_optional default.variable environment) otherwise in
      both_static (tree_refusals environment operand) (cases_refusals environment cases ++ behind) (static_tree environment operand)
      (both_static (cases_refusals environment cases) behind (static_cases environment cases)
      (both_static (optional_refusals environment default.variable) (tree_refusals (with_optional default.variable environment) otherwise)
      (static_optional environment default.variable) (static_tree (with_optional default.variable environment) otherwise)))
  static_form environment place (conditional test chosen otherwise) =
      both_static (tree_refusals environment test) (tree_refusals environment chosen ++ tree_refusals environment otherwise) (static_tree environment test)
      (both_static (tree_refusals environment chosen) (tree_refusals environment otherwise) (static_tree environment chosen) (static_tree environment otherwise))
  static_form environment place (binary operator left right) = both_static (tree_refusals environment left) (tree_refusals environment right) (static_tree environment left) (static_tree environment right)
  static_form environment place (instance_of operand kind) = both_static (tree_refusals environment operand) (type_refusals environment kind) (static_tree environment operand) (static_type environment kind)
  static_form environment place (treat_as operand kind) = both_static (tree_refusals environment operand) (type_refusals environment kind) (static_tree environment operand) (static_type environment kind)
  static_form environment place (castable_as operand kind) =
      both_static (tree_refusals environment operand) (target_refusals environment kind.name) (static_tree environment operand) (static_target environment kind.name)
  static_form environment place (cast_as operand kind) =
      both_static (tree_refusals environment operand) (target_refusals environment kind.name) (static_tree environment operand) (static_target environment kind.name)
  static_form environment place (signed minus operand) = static_tree environment operand
  static_form environment place (path descendants left right) = both_static (tree_refusals environment left) (tree_refusals environment right) (static_tree environment left) (static_tree environment right)
  static_form environment place (axis_step step) = static_node_test environment (axis_of_step step) step.test
  static_form environment place parent_step = tt
  static_form environment place (filtered bracket operand predicates) =
      both_static (tree_refusals environment operand) (trees_refusals environment predicates) (static_tree environment operand) (static_trees environment predicates)
  static_form environment place (direct name attributes content) =
      let inner : Environment = with_namespaces attributes environment in
      both_static (namespaces_refusals [] attributes) (prefix_refusals (element_name inner name) name.place ++ (attributes_refusals inner [] attributes ++ parts_refusals inner content))
      (static_namespaces [] attributes)
      (both_static (prefix_refusals (element_name inner name) name.place) (attributes_refusals inner [] attributes ++ parts_refusals inner content) (static_prefix (element_name inner name) name.place)
      (both_static (attributes_refusals inner [] attributes) (parts_refusals inner content) (static_attributes inner [] attributes) (static_parts inner content)))
  static_form environment place (document_node content) = static_tree environment content
  static_form environment place (text_node content) = static_tree environment content
  static_form environment place (element_node name content) =
      both_static (prefix_refusals (element_name environment name) name.place) (tree_refusals environment content) (static_prefix (element_name environment name) name.place) (static_tree environment content)
  static_form environment place (empty_element name) = static_prefix (element_name environment name) name.place
  static_form environment place (attribute_node name content) =
      both_static (attribute_refusals environment place name) (tree_refusals environment content) (static_attribute environment place name) (static_tree environment content)
  static_form environment place (empty_attribute name) = static_attribute environment place name

  static_trees : (environment : Environment) (trees : SyntaxTrees) → AreStatic (trees_refusals environment trees)
  static_trees environment no_tree = tt
  static_trees environment (a_tree first others) = both_static (tree_refusals environment first) (trees_refusals environment others) (static_tree environment first) (static_trees environment others)

  static_bindings : (bindings : Bindings) (next : Environment → List Refusal) (environment : Environment) → ((inner : Environment) → AreStatic (next inner)) → AreStatic (bindings_refusals bindings next environment)
  static_bindings no_binding next environment k = k environment
  static_bindings (a_binding bound value others) next environment k =
      both_static (bound_refusals environment bound) (tree_refusals environment value ++ bindings_refusals others next (with_bound bound environment)) (static_bound environment bound)
      (both_static (tree_refusals environment value) (bindings_refusals others next (with_bound bound environment)) (static_tree environment value) (static_bindings others next (with_bound bound environment) k))

  static_clauses : (clauses : Clauses) (next : Environment → List Refusal) (environment : Environment) → ((inner : Environment) → AreStatic (next inner)) → AreStatic (clauses_refusals clauses next environment)
  static_clauses no_clause next environment k = k environment
  static_clauses (for_clause place bindings others) next environment k = static_bindings bindings (clauses_refusals others next) environment (λ inner. static_clauses others next inner k)
  static_clauses (let_clause place bindings others) next environment k = static_bindings bindings (clauses_refusals others next) environment (λ inner. static_clauses others next inner k)
  static_clauses (where_clause place condition others) next environment k =
      both_static (tree_refusals environment condition) (clauses_refusals others next environment) (static_tree environment condition) (static_clauses others next environment k)

  static_keys : (environment : Environment) (keys : Keys) → AreStatic (keys_refusals environment keys)
  static_keys environment no_key = tt
  static_keys environment (a_key value order others) = both_static (tree_refusals environment value) (keys_refusals environment others) (static_tree environment value) (static_keys environment others)

  static_cases : (environment : Environment) (cases : Cases) → AreStatic (cases_refusals environment cases)
  static_cases environment no_case = tt
  static_cases environment (a_case heading body others) =
      both_static (case_refusals environment heading) (tree_refusals (with_optional heading.variable environment) body ++ cases_refusals environment others) (static_case environment heading)
      (both_static (tree_refusals (with_optional heading.variable environment) body) (cases_refusals environment others) (static_tree (with_optional heading.variable environment) body) (static_cases environment others))

  static_attributes : (environment : Environment) (earlier : AttributeNames) (attributes : Attributes) → AreStatic (attributes_refusals environment earlier attributes)
  static_attributes environment earlier no_attribute = tt
  static_attributes environment earlier (an_attribute name value others) =
      let behind : List Refusal = attribute_parts_refusals environment value ++ attributes_refusals environment (attribute_names_with environment name earlier) others in
      static_choice (declares_namespace name) (attributes_refusals environment earlier others) (direct_attribute_refusals environment earlier name ++ behind) (static_attributes environment earlier others)
      (both_static (direct_attribute_refusals environment earlier name) behind (static_direct_attribute environment earlier name)
      (both_static (attribute_parts_refusals environment value) (attributes_refusals environment (attribute_names_with environment name earlier) others)
      (static_attribute_parts environment value) (static_attributes environment (attribute_names_with environment name earlier) others)))

  static_attribute_parts : (environment : Environment) (parts : AttributeParts) → AreStatic (attribute_parts_refusals environment parts)
  static_attribute_parts environment no_attribute_part = tt
  static_attribute_parts environment (attribute_text characters others) = static_attribute_parts environment others
  static_attribute_parts environment (attribute_enclosed value others) =
      both_static (tree_refusals environment value) (attribute_parts_refusals environment others) (static_tree environment value) (static_attribute_parts environment others)

  static_parts : (environment : Environment) (parts : Parts) → AreStatic (parts_refusals environment parts)
  static_parts environment no_part = tt
  static_parts environment (blank_part characters others) = static_parts environment others
  static_parts environment (text_part characters others) = static_parts environment others
  static_parts environment (element_part element others) = both_static (tree_refusals environment element) (parts_refusals environment others) (static_tree environment element) (static_parts environment others)
  static_parts environment (enclosed_part value others) = both_static (tree_refusals environment value) (parts_refusals environment others) (static_tree environment value) (static_parts environment others)

-- ---- the first part of the prolog

static_declared_prefix : (declared : DeclaredPrefixes) (place : Place) (prefix uri : List ℕ) → AreStatic (declared_prefix_refusals declared place prefix uri)
static_declared_prefix declared place prefix uri =
    let reserved : Bool = is_reserved_prefix prefix || is_reserved_uri uri in
    let doubled : Bool = is_some (innermost_value same_text declared prefix) in
    both_static (refused_if reserved place XQST0070) (refused_if doubled place XQST0033) (static_if reserved place XQST0070 refl) (static_if doubled place XQST0033 refl)

static_import_prefix : (declared : DeclaredPrefixes) (place : Place) (prefix : SchemaPrefix) (uri : List ℕ) → AreStatic (import_prefix_refusals declared place prefix uri)
static_import_prefix declared place bound.Unnamed uri = tt
static_import_prefix declared place (bound.Named prefix) uri =
    both_static (declared_prefix_refusals declared place prefix.name uri) (refused_if (is_word uri (codes "")) place XQST0057)
    (static_declared_prefix declared place prefix.name uri) (static_if (is_word uri (codes "")) place XQST0057 refl)
static_import_prefix declared place bound.Default uri = static_if (is_reserved_uri uri) place XQST0070 refl

static_import : (imported : ImportedNamespaces) (targets : Targets) (place : Place) (uri : List ℕ) (locations : List (List ℕ)) → AreStatic (import_refusals imported targets place uri locations)
static_import imported targets place uri locations =
    let doubled : Bool = is_some (innermost_value same_text imported uri) in
    both_static (refused_if doubled place XQST0058) (refused_if (has_other_target uri locations targets) place XQST0059)
    (static_if doubled place XQST0058 refl) (static_if (has_other_target uri locations targets) place XQST0059 refl)

static_setting : (declared : DeclaredPrefixes) (imported : ImportedNamespaces) (targets : Targets) (place : Place) (node : SettingNode) → AreStatic (setting_refusals declared imported targets place node)
static_setting declared imported targets place (settings.Namespace prefix uri) = static_declared_prefix declared place prefix.name uri
static_setting declared imported targets place (settings.DefaultElementNamespace uri) = static_if (is_reserved_uri uri) place XQST0070 refl
static_setting declared imported targets place (settings.BoundarySpace preserved) = tt
static_setting declared imported targets place settings.Construction = tt
static_setting declared imported targets place settings.Ordering = tt
static_setting declared imported targets place (settings.EmptyOrder order) = tt
static_setting declared imported targets place settings.CopyNamespaces = tt
static_setting declared imported targets place (settings.Schema prefix uri locations) =
    both_static (import_prefix_refusals declared place prefix uri) (import_refusals imported targets place uri locations)
    (static_import_prefix declared place prefix uri) (static_import imported targets place uri locations)

static_settings : (declared : DeclaredPrefixes) (imported : ImportedNamespaces) (targets : Targets) (settings : List Setting) → AreStatic (settings_refusals declared imported targets settings)
static_settings declared imported targets [] = tt
static_settings declared imported targets (setting ∷ others) =
    let inner = declared_with setting.place setting.node declared in
    let known = imported_with setting.place setting.node imported in
    let left = targets_behind setting.node targets in
    both_static (setting_refusals declared imported targets setting.place setting.node) (settings_refusals inner known left others)
    (static_setting declared imported targets setting.place setting.node) (static_settings inner known left others)

-- ---- the second part

static_doubled_name : (place : Place) (variables : Variables) (name : Option Name) → AreStatic (doubled_name place variables name)
static_doubled_name place variables None = tt
static_doubled_name place variables (Some name) = static_if (is_some (binder_of variables name)) place XQST0049 refl

static_external : (environment : Environment) (place : Place) (binder : Variable) (kind : Option WrittenType) → AreStatic (external_refusals environment place binder kind)
static_external environment place binder kind =
    both_static (doubled_variable environment place binder) (refused_if (not (is_document_type environment kind)) place GLXS0004)
    (static_doubled_name place environment.variables (plain_name environment binder.name)) (static_if (not (is_document_type environment kind)) place GLXS0004 refl)

static_function : (earlier : Functions) (place : Place) (name : Option Name) (arity : ℕ) → AreStatic (function_refusals earlier place name arity)
static_function earlier place None arity = tt
static_function earlier place (Some name) arity =
    let doubled : Bool = is_some (innermost_value same_signature earlier (record { name = name; arity = arity })) in
    both_static (refused_if doubled place XQST0034) (refused_if (is_kept_namespace name.uri) place XQST0045) (static_if doubled place XQST0034 refl) (static_if (is_kept_namespace name.uri) place XQST0045 refl)

static_doubled_parameter : (place : Place) (seen : Variables) (name : Option Name) → AreStatic (doubled_parameter place seen name)
static_doubled_parameter place seen None = tt
static_doubled_parameter place seen (Some name) = static_if (is_some (binder_of seen name)) place XQST0039 refl

static_parameters : (environment : Environment) (seen : Variables) (parameters : List Parameter) → AreStatic (parameters_refusals environment seen parameters)
static_parameters environment seen [] = tt
static_parameters environment seen (p ∷ ps) =
    both_static (doubled_parameter p.variable.place seen (plain_name environment p.variable.name) ++ binder_refusals environment p.variable p.kind) (parameters_refusals environment (seen_with environment p.variable seen) ps)
    (both_static (doubled_parameter p.variable.place seen (plain_name environment p.variable.name)) (binder_refusals environment p.variable p.kind)
    (static_doubled_parameter p.variable.place seen (plain_name environment p.variable.name)) (static_binder environment p.variable p.kind))
    (static_parameters environment (seen_with environment p.variable seen) ps)

static_heading : (environment : Environment) (name : QName) (parameters : List Parameter) (result : Option WrittenType) → AreStatic (heading_refusals environment name parameters result)
static_heading environment name parameters result =
    both_static (prefix_refusals (called_name environment name) name.place) (parameters_refusals environment [] parameters ++ written_type_refusals environment result) (static_prefix (called_name environment name) name.place)
    (both_static (parameters_refusals environment [] parameters) (written_type_refusals environment result) (static_parameters environment [] parameters) (static_written environment result))

static_definition : (environment : Environment) (bodies : Bodies) (earlier : Functions) (place : Place) (node : DefinitionNode) → AreStatic (definition_refusals environment bodies earlier place node)
static_definition environment bodies earlier place (definitions.Variable binder kind (initial.Value value)) =
    let unsettled : Bool = not (calls_are_settled environment.variables bodies (tree_uses environment value)) in
    both_static (doubled_variable environment place binder ++ call_order_refusals environment bodies place value) (binder_refusals environment binder kind ++ tree_refusals environment value)
    (both_static (doubled_variable environment place binder) (refused_if unsettled place XQST0054)
    (static_doubled_name place environment.variables (plain_name environment binder.name)) (static_if unsettled place XQST0054 refl))
    (both_static (binder_refusals environment binder kind) (tree_refusals environment value) (static_binder environment binder kind) (static_tree environment value))
static_definition environment bodies earlier place (definitions.Variable binder kind initial.External) =
    both_static (external_refusals environment place binder kind) (binder_refusals environment binder kind) (static_external environment place binder kind) (static_binder environment binder kind)
static_definition environment bodies earlier place (definitions.Function name parameters result body) =
    let inner = with_parameters parameters environment in
    both_static (function_refusals earlier place (called_name environment name) (length parameters)) (heading_refusals environment name parameters result ++ tree_refusals inner body)
    (static_function earlier place (called_name environment name) (length parameters))
    (both_static (heading_refusals environment name parameters result) (tree_refusals inner body) (static_heading environment name parameters result) (static_tree inner body))

static_definitions : (definitions : List Definition) (bodies : Bodies) (earlier : Functions) (environment : Environment) → AreStatic (definitions_refusals definitions bodies earlier environment)
static_definitions [] bodies earlier environment = tt
static_definitions (definition ∷ others) bodies earlier environment =
    let known = functions_with environment.namespaces definition.place definition.node earlier in
    let inner = definition_scope definition.node environment in
    both_static (definition_refusals environment bodies earlier definition.place definition.node) (definitions_refusals others bodies known inner)
    (static_definition environment bodies earlier definition.place definition.node) (static_definitions others bodies known inner)

pub names_are_refused_with_static_codes : NamesAreRefusedWithStaticCodes
names_are_refused_with_static_codes schemas query =
    let environment : Environment = with_functions query.definitions (prolog_environment schemas query.settings) in
    let first = settings_refusals [] [] schemas.targets query.settings in
    let second = definitions_refusals query.definitions (bodies_after environment query.definitions []) [] environment in
    let body = tree_refusals (scope_after query.definitions environment) query.body in
    all_static (query_refusals schemas query)
    (both_static first (second ++ body) (static_settings [] [] schemas.targets query.settings)
    (both_static second body (static_definitions query.definitions (bodies_after environment query.definitions []) [] environment) (static_tree (scope_after query.definitions environment) query.body)))
