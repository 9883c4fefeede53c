-- The types that a query names are known, and so it is judged by inclusion.
use Rattle.std.proofs.Common.{◌≡◌, ℕ, ◌+◌, ◌==◌, length, Bool, true, false, ◌&&◌, List, [], ◌∷◌, ◌++◌, Option, Some, None, option_map, inl, inr, refl, sym, ◌∙◌, subst, if◌then◌else◌}
use Rattle.std.specs.Prelude.{unwrap_or}
use Rattle.std.specs.Bool.{IsTrue}
use Rattle.gx_base.specs.Name.{same_name}
use Rattle.gx_base.specs.Text.{same_text}
use Rattle.gx_base.specs.declared.name.Name.{Name}
use Rattle.gx_base.specs.declared.place.Place.{Place}
use Rattle.gx_base.specs.declared.type_name.Builtin.TheVariants.{AnyAtomic}
use Rattle.gx_base.specs.declared.type_name.TypeName.{TypeName}
use Rattle.gx_base.specs.declared.type_name.TypeName.TheVariants as names
use Rattle.gx_ast.specs.declared.expression.BinaryOperator.{BinaryOperator}
use Rattle.gx_ast.specs.declared.expression.BinaryOperator.TheVariants as operator
use Rattle.gx_ast.specs.declared.name.QName.{QName}
use Rattle.gx_ast.specs.declared.name.Variable.{Variable}
use Rattle.gx_ast.specs.declared.query.Definition.{Definition}
use Rattle.gx_ast.specs.declared.query.DefinitionNode.{DefinitionNode}
use Rattle.gx_ast.specs.declared.query.DefinitionNode.TheVariants as definitions
use Rattle.gx_ast.specs.declared.query.Initialiser.TheVariants as initial
use Rattle.gx_ast.specs.declared.query.Query.{Query}
use Rattle.gx_ast.specs.declared.sequence_type.BoundVariable.{BoundVariable}
use Rattle.gx_ast.specs.declared.sequence_type.Indicator.{Indicator}
use Rattle.gx_ast.specs.declared.sequence_type.Indicator.TheVariants as indicated
use Rattle.gx_ast.specs.declared.sequence_type.ItemType.TheVariants as named
use Rattle.gx_ast.specs.declared.sequence_type.KindTest.{KindTest}
use Rattle.gx_ast.specs.declared.sequence_type.KindTest.TheVariants as tested
use Rattle.gx_ast.specs.declared.sequence_type.SequenceType.{SequenceType as WrittenType}
use Rattle.gx_ast.specs.declared.sequence_type.SequenceType.TheVariants as sequences
use Rattle.gx_ast.specs.SyntaxTree.{SyntaxTree, SyntaxForm, SyntaxTrees, Bindings, Clauses, Keys, Cases, Attributes, AttributeParts, Parts, at, number, string, variable, parenthesised, empty_sequence, context_item, call, comma, flwor, quantified, typeswitch, conditional, binary, instance_of, treat_as, castable_as, cast_as, signed, path, axis_step, parent_step, filtered, direct, document_node, text_node, element_node, empty_element, attribute_node, empty_attribute, no_tree, a_tree, no_binding, a_binding, no_clause, for_clause, let_clause, where_clause, no_key, a_key, no_case, a_case, no_attribute, an_attribute, no_attribute_part, attribute_text, attribute_enclosed, no_part, blank_part, text_part, element_part, enclosed_part}
use Rattle.gx_types.specs.declared.declaration.GlobalElement.{GlobalElement}
use Rattle.gx_types.specs.SchemaSet.{SchemaSet, type_of_element}
use Rattle.gx_types.specs.SchemaInvariant.{HoldsOfEach, IsSchemaSet, is_named_type}
use Rattle.gx_types.specs.declared.item_type.ItemType.{ItemType}
use Rattle.gx_types.specs.declared.item_type.ItemType.TheVariants as items
use Rattle.gx_types.specs.Choice.{choice_among}
use Rattle.gx_types.specs.SequenceType.{SequenceType, item}
use Rattle.gx_types.specs.declared.step.Axis.{Axis}
use Rattle.gx_types.specs.declared.step.Axis.TheVariants as axes
use Rattle.gx_types.specs.declared.step.Test.{Test}
use Rattle.gx_types.specs.declared.step.Test.TheVariants as tests
use Rattle.gx_types.specs.BuiltinOrder.{same_builtin}
use Rattle.gx_types.proofs.DerivationTest.{derives_when_tested}
use Rattle.gx_types.proofs.EqualNames.{type_name_symm}
use Rattle.gx_typetext.specs.KnownNames.{node_types, item_types, is_atomic_name, type_with_name, if_atomic, atomic_with_name}
use Rattle.gx_funcs.specs.declared.function.Function.{Function}
use Rattle.gx_funcs.specs.declared.function.Function.TheVariants as functions
use Rattle.gx_funcs.specs.Function.{arity_of}
use Rattle.gx_resolved.specs.declared.tree.BindingWord.{BindingWord}
use Rattle.gx_resolved.specs.declared.tree.BindingWord.TheVariants as words
use Rattle.gx_resolved.specs.declared.tree.BoundName.{BoundName}
use Rattle.gx_resolved.specs.declared.tree.Construct.{Construct}
use Rattle.gx_resolved.specs.declared.tree.Construct.TheVariants as constructs
use Rattle.gx_resolved.specs.declared.tree.Declaration.{Declaration}
use Rattle.gx_resolved.specs.ResolvedTree.{ResolvedTree, ResolvedTrees, resolved_at, no_resolved, a_resolved, one_resolved, and_parts}
use Rattle.gx_names_scope.specs.Environment.{Environment, function_uri, is_declared_function, element_name, called_name, or_nameless, with_variable, with_optional, with_bound}
use Rattle.gx_names_scope.specs.StartTags.{declared_prefix, declares_namespace, with_namespace, with_namespaces}
use Rattle.gx_names_scope.specs.TreeCounts.{count_trees}
use Rattle.gx_names_types.specs.TypeNames.{atomic_named, element_tested, attribute_tested, element_declared, test_type, indicated_type, type_written}
use Rattle.gx_names_trees.specs.Calls.{standard_function, built_in_call, with_constructor, type_constructed, constructor_call, is_string_call, context_argument}
use Rattle.gx_names_trees.specs.TreeResolution.{binder_resolved, optional_resolved, binding_resolved, call_resolved, direct_attribute_resolved, tree_resolved, form_resolved, trees_resolved, bindings_resolved, clauses_resolved, keys_resolved, cases_resolved, attributes_resolved, attribute_parts_resolved, parts_resolved}
use Rattle.gx_names.specs.Refusals.{definition_scope, scope_after, with_functions, query_refusals, with_parameters}
use Rattle.gx_names.specs.Resolution.{declaration_resolved, declarations_resolved, function_resolved, query_resolved}
use Rattle.gx_ast.specs.declared.query.Parameter.{Parameter}
use Rattle.gx_names.specs.SettingRefusals.{prolog_environment}
use Rattle.gx_core.specs.declared.expression.BinaryOp.{BinaryOp}
use Rattle.gx_core.specs.declared.expression.BinaryClass.{BinaryClass}
use Rattle.gx_core.specs.declared.expression.BinaryClass.TheVariants.{Nodes, Combination}
use Rattle.gx_core.specs.BinaryOperators.{class_of}
use Rattle.gx_sorting.specs.declared.keys.KeyOrder.{KeyOrder}
use Rattle.gx_core.specs.declared.operator.ClauseKind.{ClauseKind}
use Rattle.gx_core.specs.declared.operator.ClauseKind.TheVariants as kinds
use Rattle.gx_core.specs.declared.operator.Operator.TheVariants as operators
use Rattle.gx_core.specs.declared.operator.Operator.{Operator}
use Rattle.gx_core.specs.declared.expression.Declaration.TheVariants.{Global, Function as CoreFunction}
use Rattle.gx_core.specs.Queries.{Core, CoreDeclaration}
use Rattle.gx_core.specs.Instances.{IsWrittenType}
use Rattle.gx_core.specs.WrittenTypes.{AreWrittenCases, IsOverWrittenTypes, NamesWrittenTypes, PartsNameWrittenTypes, ValuesNameWrittenTypes}
use Rattle.gx_core.specs.Expression.{CoreExpression, At, Parts as CoreParts, no_parts, a_part, all_parts, outer_of}
use Rattle.gx_normal.specs.Constructs.{within, core_sequence, operator_at, call_at, counted_call, call_of, empty_at, of_one, data_at, conditional_at, and_at, or_at, signed_at, cast_at, castable_at, operator_in_core, joined_by, joining, context_item_at, step_at, nodes_at, operand_of, boolean_around, data_around}
use Rattle.gx_normal.specs.Switches.{instance_at, treat_at, branch_at, case_in_front, branches_joined, over_operand, typeswitch_at, branch_or}
use Rattle.gx_normal.specs.declared.focus.Focus.{Focus}
use Rattle.gx_normal.specs.declared.clauses.Ending.{Ending}
use Rattle.gx_normal.specs.declared.clauses.Ending.TheVariants.{Returned, Condition, Sorted}
use Rattle.gx_normal.specs.Clauses.{Numbers, clause_numbers, behind_clause, numbered_binder, clause_in_front, key_in_front, key_order, is_empty_greatest, ending_of_clauses}
use Rattle.gx_normal.specs.declared.contexts.Asked.TheVariants as asked
use Rattle.gx_normal.specs.declared.contexts.ContextUse.{ContextUse}
use Rattle.gx_normal.specs.declared.contexts.ContextUse.TheVariants as uses
use Rattle.gx_normal.specs.declared.contexts.ContextNumbers.{ContextNumbers}
use Rattle.gx_normal.specs.declared.filters.Predicate.{Predicate}
use Rattle.gx_normal.specs.declared.filters.Predicate.TheVariants as predicates
use Rattle.gx_normal.specs.Contexts.{asks_context, path_use, predicate_use, no_focus, focus_with, behind_context, hidden_variable, hidden_let, hidden_for, ordered_if, with_size, position_from_end, loop_at, context_numbers}
use Rattle.gx_normal.specs.Filters.{predicate_of, is_reverse_step, kept_at, filtered_by}
use Rattle.gx_normal.specs.Normalisation.{number_at, variable_at, of_two, of_three, joined_at, constructed, construct_core, is_to_descendants, left_of_path, core_of, cores_of, is_kept_part, parts_with, clauses_core, branch_core, path_core, predicates_core, filtered_core, declared_type, declarations_of, behind_declarations, query_core}
use Rattle.gx_static.specs.NormalTypes.{CastsToAtomicType, CastsToAtomicTypes, PartsCastToAtomicTypes}
use Rattle.gx_static.specs.ByInclusion.{IsNormalIfWritten, NameKnownTypes}
use Rattle.gx_static.proofs.AtomicTypes.{IsAtomic, top}
use Rattle.gx_static.proofs.NormalData.{atomic_is_derived}
use Rattle.gx_static.proofs.NormalSteps.{known_below, named_is_known}
use Rattle.gx_static.proofs.JudgedByInclusion.{queries_are_judged_by_inclusion}
use Rattle.gx_processor.specs.ExternalDocuments.{IsDocumentType, ExternalsAreDocuments}
use Rattle.gx_processor.specs.NamedQuery.{named_query, query_named}
use Rattle.gx_processor.specs.JudgedQueries.{IsOverNormalTypes, NamesNormalTypes, PartsNameNormalTypes, ValuesNameNormalTypes, NamedQueriesNameWrittenTypes, NamedQueriesAreJudgedByInclusion}
use Rattle.gx_processor.proofs.WholeQueries.{named_queries_have_documents, same_schemas, whole_named}
use Rattle.gx_core.specs.declared.signature.FunctionSignature.{FunctionSignature}
use Rattle.gx_normal.specs.declared.signatures.Signatures.{Signatures}
use Rattle.gx_normal.specs.Signatures.{inside_parameters, signature_called, signatures_of, user_call_at}

-- ---- the types that are written in a query

indicated_item : (indicator : Indicator) (kind : ItemType) → IsWrittenType (indicated_type indicator (item kind))
indicated_item indicated.Once kind = tt
indicated_item indicated.Optional kind = tt
indicated_item indicated.Star kind = tt
indicated_item indicated.Plus kind = tt

indicated_nodes : (indicator : Indicator) → IsWrittenType (indicated_type indicator (choice_among node_types))
indicated_nodes indicated.Once = (((tt, tt), tt), tt)
indicated_nodes indicated.Optional = (((tt, tt), tt), tt)
indicated_nodes indicated.Star = (((tt, tt), tt), tt)
indicated_nodes indicated.Plus = (((tt, tt), tt), tt)

indicated_items : (indicator : Indicator) → IsWrittenType (indicated_type indicator (choice_among item_types))
indicated_items indicated.Once = ((((tt, tt), tt), tt), tt)
indicated_items indicated.Optional = ((((tt, tt), tt), tt), tt)
indicated_items indicated.Star = ((((tt, tt), tt), tt), tt)
indicated_items indicated.Plus = ((((tt, tt), tt), tt), tt)

tested_is_written : (environment : Environment) (indicator : Indicator) (test : KindTest) → IsWrittenType (indicated_type indicator (test_type environment test))
tested_is_written environment indicator (tested.Node place) = indicated_nodes indicator
tested_is_written environment indicator (tested.Text place) = indicated_item indicator items.Text
tested_is_written environment indicator (tested.Document place) = indicated_item indicator (items.Document None)
tested_is_written environment indicator (tested.DocumentOf place inner element) =
    let e = element_tested environment element in indicated_item indicator (items.Document (Some (e.0, e.1)))
tested_is_written environment indicator (tested.DocumentOfDeclared place inner name) =
    let e = element_declared environment name in indicated_item indicator (items.Document (Some (e.0, e.1)))
tested_is_written environment indicator (tested.Element place element) =
    let e = element_tested environment element in indicated_item indicator (items.Element e.0 e.1)
tested_is_written environment indicator (tested.Attribute place attribute) =
    let e = attribute_tested environment attribute in indicated_item indicator (items.Attribute e.0 e.1)
tested_is_written environment indicator (tested.Declared place name) =
    let e = element_declared environment name in indicated_item indicator (items.Element e.0 e.1)

type_is_written : (environment : Environment) (kind : WrittenType) → IsWrittenType (type_written environment kind)
type_is_written environment (sequences.Empty place) = tt
type_is_written environment (sequences.Items (named.Item place) indicator) = indicated_items indicator
type_is_written environment (sequences.Items (named.Kind test) indicator) = tested_is_written environment indicator test
type_is_written environment (sequences.Items (named.Atomic name) indicator) = indicated_item indicator (items.Atom (atomic_named environment name))

-- ---- what is so of each expression of a query

-- a cast is to an atomic type, and the types of cases and of `treat as` are such as can be written
abbrev IsNamedWell : SchemaSet → Operator → Type 0
IsNamedWell s (operators.Cast kind allows_empty) = IsAtomic s kind
IsNamedWell s (operators.Switch cases default) = AreWrittenCases cases
IsNamedWell s (operators.Treat kind) = IsWrittenType kind
IsNamedWell s _ = Unit {0}

abbrev mutual
  NamesWell : SchemaSet → CoreExpression → Type 0
  NamesWell s (At place outer annotation operator parts) = IsNamedWell s operator × PartsNameWell s parts

  PartsNameWell : SchemaSet → CoreParts (Unit {0}) → Type 0
  PartsNameWell s no_parts = Unit {0}
  PartsNameWell s (a_part first others) = NamesWell s first × PartsNameWell s others

abbrev AreNamedWell : SchemaSet → List CoreDeclaration → Type 0
AreNamedWell s [] = Unit {0}
AreNamedWell s (Global name binder None ∷ others) = IsNormalIfWritten s binder.kind × AreNamedWell s others
AreNamedWell s (Global name binder (Some value) ∷ others) = NamesWell s value × AreNamedWell s others
AreNamedWell s (CoreFunction f ∷ others) = NamesWell s f.body × AreNamedWell s others

-- the types of cases and of `treat as` can be written
operator_written : (s : SchemaSet) (operator : Operator) → IsNamedWell s operator → IsOverWrittenTypes operator
operator_written s (operators.Switch cases default) h = h
operator_written s (operators.Treat kind) h = h
operator_written s _ h = tt

mutual
  names_written : (s : SchemaSet) (e : CoreExpression) → NamesWell s e → NamesWrittenTypes e
  names_written s (At place outer annotation operator parts) h = (operator_written s operator h.0, parts_name_written s parts h.1)

  parts_name_written : (s : SchemaSet) (parts : CoreParts (Unit {0})) → PartsNameWell s parts → PartsNameWrittenTypes parts
  parts_name_written s no_parts h = tt
  parts_name_written s (a_part first others) h = (names_written s first h.0, parts_name_written s others h.1)

values_written : (s : SchemaSet) (ds : List CoreDeclaration) → AreNamedWell s ds → ValuesNameWrittenTypes ds
values_written s [] h = tt
values_written s (Global name binder None ∷ ds) h = values_written s ds h.1
values_written s (Global name binder (Some value) ∷ ds) h = (names_written s value h.0, values_written s ds h.1)
values_written s (CoreFunction f ∷ ds) h = (names_written s f.body h.0, values_written s ds h.1)

-- where they are normal too, the types that an expression names are known
operator_known : (s : SchemaSet) (operator : Operator) → IsNamedWell s operator → IsOverNormalTypes s operator → CastsToAtomicType s operator
operator_known s (operators.Cast kind allows_empty) h n = h
operator_known s (operators.Switch cases default) h n = n
operator_known s (operators.Treat kind) h n = n
operator_known s (operators.User signature count) h n = n
operator_known s _ h n = tt

mutual
  names_known : (s : SchemaSet) (e : CoreExpression) → NamesWell s e → NamesNormalTypes s e → CastsToAtomicTypes s e
  names_known s (At place outer annotation operator parts) h n = (operator_known s operator h.0 n.0, parts_name_known s parts h.1 n.1)

  parts_name_known : (s : SchemaSet) (parts : CoreParts (Unit {0})) → PartsNameWell s parts → PartsNameNormalTypes s parts → PartsCastToAtomicTypes s parts
  parts_name_known s no_parts h n = tt
  parts_name_known s (a_part first others) h n = (names_known s first h.0 n.0, parts_name_known s others h.1 n.1)

values_known : (s : SchemaSet) (ds : List CoreDeclaration) → AreNamedWell s ds → ValuesNameNormalTypes s ds → NameKnownTypes s ds
values_known s [] h n = tt
values_known s (Global name binder None ∷ ds) h n = (h.0, values_known s ds h.1 n)
values_known s (Global name binder (Some value) ∷ ds) h n = (names_known s value h.0 n.0, values_known s ds h.1 n.1)
values_known s (CoreFunction f ∷ ds) h n = (n.0, names_known s f.body h.0 n.1, values_known s ds h.1 n.2)

-- ---- casts and written types of resolved trees

abbrev CastsAtomically : SchemaSet → Construct → Type 0
CastsAtomically s (constructs.CastAs kind optional) = IsAtomic s kind
CastsAtomically s (constructs.InstanceOf kind) = IsWrittenType kind
CastsAtomically s (constructs.TreatAs kind) = IsWrittenType kind
CastsAtomically s (constructs.Case bound kind) = IsWrittenType kind
CastsAtomically s _ = Unit {0}

abbrev mutual
  AreCastsAtomic : SchemaSet → ResolvedTree → Type 0
  AreCastsAtomic s (resolved_at place construct parts) = CastsAtomically s construct × AreAllCastsAtomic s parts

  AreAllCastsAtomic : SchemaSet → ResolvedTrees → Type 0
  AreAllCastsAtomic s no_resolved = Unit {0}
  AreAllCastsAtomic s (a_resolved first others) = AreCastsAtomic s first × AreAllCastsAtomic s others

both_atomic : (s : SchemaSet) (ts us : ResolvedTrees) → AreAllCastsAtomic s ts → AreAllCastsAtomic s us → AreAllCastsAtomic s (and_parts ts us)
both_atomic s no_resolved us h k = k
both_atomic s (a_resolved t ts) us h k = (h.0, both_atomic s ts us h.1 k)

-- ---- the name of a type that a cast names

name_is_atomic : (s : SchemaSet) → IsSchemaSet s → (t : TypeName) → is_atomic_name s t ≡ true → IsAtomic s t
name_is_atomic s is (names.Builtin b) h = derives_when_tested s (names.Builtin b) (names.Builtin AnyAtomic) h
name_is_atomic s is (names.Named n) h = atomic_is_derived s (names.Named n) is h
name_is_atomic s is (names.Anonymous n) h = atomic_is_derived s (names.Anonymous n) is h

if_atomic_is : (s : SchemaSet) → IsSchemaSet s → (found : Option TypeName) → IsAtomic s (unwrap_or (if_atomic s found) (names.Builtin AnyAtomic))
if_atomic_is s is None = top s
if_atomic_is s is (Some t) = by (is_atomic_name s t) refl
  where
    by : (b : Bool) → is_atomic_name s t ≡ b → IsAtomic s (unwrap_or (if b then Some t else None) (names.Builtin AnyAtomic))
    by true h = name_is_atomic s is t h
    by false h = top s

named_is_atomic : (s : SchemaSet) → IsSchemaSet s → (environment : Environment) (name : QName) → environment.schemas ≡ s → IsAtomic s (atomic_named environment name)
named_is_atomic s is environment name e =
    subst (λ (schemas : SchemaSet). IsAtomic s (unwrap_or (atomic_with_name schemas (or_nameless (element_name environment name))) (names.Builtin AnyAtomic))) (sym e)
    (if_atomic_is s is (type_with_name s (or_nameless (element_name environment name))))

-- ---- what names stand for looks at the same schemas everywhere

optional_same : (binder : Option Variable) (environment : Environment) → (with_optional binder environment).schemas ≡ environment.schemas
optional_same None environment = refl
optional_same (Some binder) environment = refl

bound_same : (bound : BoundVariable) (environment : Environment) → (with_bound bound environment).schemas ≡ environment.schemas
bound_same bound environment = optional_same bound.position (with_variable bound.variable environment)

namespace_same : (prefix : Option (List ℕ)) (value : AttributeParts) (environment : Environment) → (with_namespace prefix value environment).schemas ≡ environment.schemas
namespace_same None value environment = refl
namespace_same (Some prefix) value environment = refl

namespaces_same : (attributes : Attributes) (environment : Environment) → (with_namespaces attributes environment).schemas ≡ environment.schemas
namespaces_same no_attribute environment = refl
namespaces_same (an_attribute name value others) environment =
    namespaces_same others (with_namespace (declared_prefix name) value environment) ∙ namespace_same (declared_prefix name) value environment

-- ---- constructs that are no casts, and calls, which cast where they are of constructor functions

built_in_is_no_cast : (s : SchemaSet) (found : Option Function) → CastsAtomically s (unwrap_or (built_in_call found) (constructs.Call functions.True))
built_in_is_no_cast s None = tt
built_in_is_no_cast s (Some function) = tt

atomic_is_constructed : (s : SchemaSet) (t : TypeName) → IsAtomic s t → CastsAtomically s (unwrap_or (constructor_call (with_constructor (Some t))) (constructs.Call functions.True))
atomic_is_constructed s (names.Builtin b) h =
    elim (same_builtin b AnyAtomic) as (λ (any : Bool). CastsAtomically s (unwrap_or (constructor_call (if any then None else Some b)) (constructs.Call functions.True))) [
      | true ↦ tt
      | false ↦ h
    ]
atomic_is_constructed s (names.Named n) h = tt
atomic_is_constructed s (names.Anonymous n) h = tt

constructed_is_atomic : (s : SchemaSet) → IsSchemaSet s → (found : Option TypeName)
    → CastsAtomically s (unwrap_or (constructor_call (with_constructor (if_atomic s found))) (constructs.Call functions.True))
constructed_is_atomic s is None = tt
constructed_is_atomic s is (Some t) = by (is_atomic_name s t) refl
  where
    by : (b : Bool) → is_atomic_name s t ≡ b → CastsAtomically s (unwrap_or (constructor_call (with_constructor (if b then Some t else None))) (constructs.Call functions.True))
    by true h = atomic_is_constructed s t (name_is_atomic s is t h)
    by false h = tt

constructor_casts : (s : SchemaSet) → IsSchemaSet s → (environment : Environment) (name : Name) (arity : ℕ) → environment.schemas ≡ s
    → CastsAtomically s (unwrap_or (constructor_call (type_constructed environment name arity)) (constructs.Call functions.True))
constructor_casts s is environment name arity e =
    subst (λ (schemas : SchemaSet). CastsAtomically s (unwrap_or (constructor_call (if arity == 1 then with_constructor (atomic_with_name schemas name) else None)) (constructs.Call functions.True))) (sym e)
    (elim (arity == 1) as (λ (one : Bool). CastsAtomically s (unwrap_or (constructor_call (if one then with_constructor (atomic_with_name s name) else None)) (constructs.Call functions.True))) [
      | true ↦ constructed_is_atomic s is (type_with_name s name)
      | false ↦ tt
    ])

called_casts : (s : SchemaSet) → IsSchemaSet s → (environment : Environment) (name : Name) (arity : ℕ) → environment.schemas ≡ s → (standard declared : Bool)
    → CastsAtomically s (unwrap_or (if standard then built_in_call (standard_function name.local arity) else if declared then Some (constructs.CallDeclared name)
    else constructor_call (type_constructed environment name arity)) (constructs.Call functions.True))
called_casts s is environment name arity e true declared = built_in_is_no_cast s (standard_function name.local arity)
called_casts s is environment name arity e false true = tt
called_casts s is environment name arity e false false = constructor_casts s is environment name arity e

resolved_call_casts : (s : SchemaSet) → IsSchemaSet s → (environment : Environment) (name : QName) (arity : ℕ) → environment.schemas ≡ s → CastsAtomically s (call_resolved environment name arity)
resolved_call_casts s is environment name arity e =
    let called = or_nameless (called_name environment name) in
    called_casts s is environment called arity e (same_text called.uri function_uri) (is_declared_function environment called arity)

context_argument_casts : (s : SchemaSet) (place : Place) (construct : Construct) (arity : ℕ) → AreAllCastsAtomic s (context_argument place construct arity)
context_argument_casts s place construct arity =
    elim (arity == 0 && is_string_call construct) as (λ (b : Bool). AreAllCastsAtomic s (if b then one_resolved (resolved_at place constructs.Context no_resolved) else no_resolved)) [
      | true ↦ ((tt, tt), tt)
      | false ↦ tt
    ]

binding_is_no_cast : (s : SchemaSet) (word : BindingWord) (bound : BoundName) (position : Option BoundName) → CastsAtomically s (binding_resolved word bound position)
binding_is_no_cast s words.Let bound position = tt
binding_is_no_cast s words.For bound position = tt
binding_is_no_cast s words.Satisfies bound position = tt

-- ---- resolved trees

module _ (s : SchemaSet) (is : IsSchemaSet s) (signatures : Signatures) where
  abbrev Under : Environment → Type 0
  Under environment = environment.schemas ≡ s

  mutual
    atomic_tree : (environment : Environment) (tree : SyntaxTree) → Under environment → AreCastsAtomic s (tree_resolved environment tree)
    atomic_tree environment (at place form) e = atomic_form environment place form e

    atomic_form : (environment : Environment) (place : Place) (form : SyntaxForm) → Under environment → AreCastsAtomic s (form_resolved environment place form)
    atomic_form environment place (number value) e = (tt, tt)
    atomic_form environment place (string characters) e = (tt, tt)
    atomic_form environment place (variable name) e = (tt, tt)
    atomic_form environment place (parenthesised inner) e = (tt, (atomic_tree environment inner e, tt))
    atomic_form environment place empty_sequence e = (tt, tt)
    atomic_form environment place context_item e = (tt, tt)
    atomic_form environment place (call name arguments) e =
        let arity = count_trees arguments in
        let construct = call_resolved environment name arity in
        (resolved_call_casts s is environment name arity e, both_atomic s (context_argument place construct arity) (trees_resolved environment arguments) (context_argument_casts s place construct arity) (atomic_trees environment arguments e))
    atomic_form environment place (comma first second) e = (tt, (atomic_tree environment first e, (atomic_tree environment second e, tt)))
    atomic_form environment place (flwor clauses order stable keys returned) e = (
      tt,
      atomic_clauses clauses (λ inner. and_parts (keys_resolved inner keys) (one_resolved (tree_resolved inner returned))) environment
          (λ inner f. both_atomic s (keys_resolved inner keys) (one_resolved (tree_resolved inner returned)) (atomic_keys inner keys f) (atomic_tree inner returned f, tt)) e,
    )
    atomic_form environment place (quantified every bindings condition) e =
        (tt, atomic_bindings words.Satisfies bindings (λ inner. one_resolved (tree_resolved inner condition)) environment (λ inner f. (atomic_tree inner condition f, tt)) e)
    atomic_form environment place (typeswitch operand cases default otherwise) e =
        let last : ResolvedTrees = one_resolved (resolved_at default.place (constructs.Default (optional_resolved environment default.variable)) (one_resolved (tree_resolved (with_optional default.variable environment) otherwise))) in (
          tt,
          (
            atomic_tree environment operand e,
            both_atomic s (cases_resolved environment cases) last (atomic_cases environment cases e)
                ((tt, (atomic_tree (with_optional default.variable environment) otherwise (optional_same default.variable environment ∙ e), tt)), tt),
          ),
        )
    atomic_form environment place (conditional test chosen otherwise) e =
        (tt, (atomic_tree environment test e, (atomic_tree environment chosen e, (atomic_tree environment otherwise e, tt))))
    atomic_form environment place (binary operator left right) e = (tt, (atomic_tree environment left e, (atomic_tree environment right e, tt)))
    atomic_form environment place (instance_of operand kind) e = (type_is_written environment kind, (atomic_tree environment operand e, tt))
    atomic_form environment place (treat_as operand kind) e = (type_is_written environment kind, (atomic_tree environment operand e, tt))
    atomic_form environment place (castable_as operand kind) e = (tt, (atomic_tree environment operand e, tt))
    atomic_form environment place (cast_as operand kind) e = (named_is_atomic s is environment kind.name e, (atomic_tree environment operand e, tt))
    atomic_form environment place (signed minus operand) e = (tt, (atomic_tree environment operand e, tt))
    atomic_form environment place (path descendants left right) e = (tt, (atomic_tree environment left e, (atomic_tree environment right e, tt)))
    atomic_form environment place (axis_step step) e = (tt, tt)
    atomic_form environment place parent_step e = (tt, tt)
    atomic_form environment place (filtered bracket operand predicates) e = (tt, (atomic_tree environment operand e, atomic_trees environment predicates e))
    atomic_form environment place (direct name attributes content) e =
        let inner : Environment = with_namespaces attributes environment in
        let f : Under inner = namespaces_same attributes environment ∙ e in
        (tt, both_atomic s (attributes_resolved inner attributes) (parts_resolved inner place content) (atomic_attributes inner attributes f) (atomic_parts inner place content f))
    atomic_form environment place (document_node content) e = (tt, (atomic_tree environment content e, tt))
    atomic_form environment place (text_node content) e = (tt, (atomic_tree environment content e, tt))
    atomic_form environment place (element_node name content) e = (tt, (atomic_tree environment content e, tt))
    atomic_form environment place (empty_element name) e = (tt, tt)
    atomic_form environment place (attribute_node name content) e = (tt, (atomic_tree environment content e, tt))
    atomic_form environment place (empty_attribute name) e = (tt, tt)

    atomic_trees : (environment : Environment) (trees : SyntaxTrees) → Under environment → AreAllCastsAtomic s (trees_resolved environment trees)
    atomic_trees environment no_tree e = tt
    atomic_trees environment (a_tree first others) e = (atomic_tree environment first e, atomic_trees environment others e)

    atomic_bindings : (word : BindingWord) (bindings : Bindings) (next : Environment → ResolvedTrees) (environment : Environment)
        → ((inner : Environment) → Under inner → AreAllCastsAtomic s (next inner)) → Under environment → AreAllCastsAtomic s (bindings_resolved word bindings next environment)
    atomic_bindings word no_binding next environment k e = k environment e
    atomic_bindings word (a_binding bound value others) next environment k e =
        ((binding_is_no_cast s word (binder_resolved environment bound.variable bound.kind) (optional_resolved environment bound.position), (atomic_tree environment value e, tt)), atomic_bindings word others next (with_bound bound environment) k (bound_same bound environment ∙ e))

    atomic_clauses : (clauses : Clauses) (next : Environment → ResolvedTrees) (environment : Environment)
        → ((inner : Environment) → Under inner → AreAllCastsAtomic s (next inner)) → Under environment → AreAllCastsAtomic s (clauses_resolved clauses next environment)
    atomic_clauses no_clause next environment k e = k environment e
    atomic_clauses (for_clause place bindings others) next environment k e = atomic_bindings words.For bindings (clauses_resolved others next) environment (λ inner f. atomic_clauses others next inner k f) e
    atomic_clauses (let_clause place bindings others) next environment k e = atomic_bindings words.Let bindings (clauses_resolved others next) environment (λ inner f. atomic_clauses others next inner k f) e
    atomic_clauses (where_clause place condition others) next environment k e = ((tt, (atomic_tree environment condition e, tt)), atomic_clauses others next environment k e)

    atomic_keys : (environment : Environment) (keys : Keys) → Under environment → AreAllCastsAtomic s (keys_resolved environment keys)
    atomic_keys environment no_key e = tt
    atomic_keys environment (a_key value order others) e = ((tt, (atomic_tree environment value e, tt)), atomic_keys environment others e)

    atomic_cases : (environment : Environment) (cases : Cases) → Under environment → AreAllCastsAtomic s (cases_resolved environment cases)
    atomic_cases environment no_case e = tt
    atomic_cases environment (a_case heading body others) e =
        ((type_is_written environment heading.kind, (atomic_tree (with_optional heading.variable environment) body (optional_same heading.variable environment ∙ e), tt)), atomic_cases environment others e)

    atomic_attributes : (environment : Environment) (attributes : Attributes) → Under environment → AreAllCastsAtomic s (attributes_resolved environment attributes)
    atomic_attributes environment no_attribute e = tt
    atomic_attributes environment (an_attribute name value others) e =
        let rest = atomic_attributes environment others e in
        let here = atomic_attribute_parts environment name.place value e in
        elim (declares_namespace name) as (λ (b : Bool). AreAllCastsAtomic s (if b then attributes_resolved environment others
        else a_resolved (resolved_at name.place (direct_attribute_resolved environment name) (attribute_parts_resolved environment name.place value)) (attributes_resolved environment others))) [
          | true ↦ rest
          | false ↦ ((tt, here), rest)
        ]

    atomic_attribute_parts : (environment : Environment) (place : Place) (parts : AttributeParts) → Under environment → AreAllCastsAtomic s (attribute_parts_resolved environment place parts)
    atomic_attribute_parts environment place no_attribute_part e = tt
    atomic_attribute_parts environment place (attribute_text characters others) e = ((tt, tt), atomic_attribute_parts environment place others e)
    atomic_attribute_parts environment place (attribute_enclosed value others) e = (atomic_tree environment value e, atomic_attribute_parts environment place others e)

    atomic_parts : (environment : Environment) (place : Place) (parts : Parts) → Under environment → AreAllCastsAtomic s (parts_resolved environment place parts)
    atomic_parts environment place no_part e = tt
    atomic_parts environment place (blank_part characters others) e = ((tt, tt), atomic_parts environment place others e)
    atomic_parts environment place (text_part characters others) e = ((tt, tt), atomic_parts environment place others e)
    atomic_parts environment place (element_part element others) e = (atomic_tree environment element e, atomic_parts environment place others e)
    atomic_parts environment place (enclosed_part value others) e = (atomic_tree environment value e, atomic_parts environment place others e)

  -- ---- Core over parts whose casts are atomic

  abbrev Casts : CoreExpression → Type 0
  Casts e = NamesWell s e

  abbrev AllCast : List CoreExpression → Type 0
  AllCast [] = Unit {0}
  AllCast (e ∷ es) = Casts e × AllCast es

  one_casts : (place : Place) (make : CoreExpression → CoreExpression) → ((e : CoreExpression) → Casts e → Casts (make e)) → (es : List CoreExpression) → AllCast es → Casts (of_one place make es)
  one_casts place make f [] h = (tt, tt)
  one_casts place make f (a ∷ []) h = f a h.0
  one_casts place make f (a ∷ b ∷ es) h = (tt, tt)

  two_cast : (place : Place) (make : CoreExpression → CoreExpression → CoreExpression) → ((a b : CoreExpression) → Casts a → Casts b → Casts (make a b)) → (es : List CoreExpression) → AllCast es → Casts (of_two place make es)
  two_cast place make f [] h = (tt, tt)
  two_cast place make f (a ∷ []) h = (tt, tt)
  two_cast place make f (a ∷ b ∷ []) h = f a b h.0 h.1.0
  two_cast place make f (a ∷ b ∷ c ∷ es) h = (tt, tt)

  conditional_casts : (place : Place) (a b c : CoreExpression) → Casts a → Casts b → Casts c → Casts (conditional_at place a b c)
  conditional_casts place a b c h k l = (tt, ((tt, (h, tt)), (k, (l, tt))))

  three_cast : (place : Place) (es : List CoreExpression) → AllCast es → Casts (of_three place (conditional_at place) es)
  three_cast place [] h = (tt, tt)
  three_cast place (a ∷ []) h = (tt, tt)
  three_cast place (a ∷ b ∷ []) h = (tt, tt)
  three_cast place (a ∷ b ∷ c ∷ []) h = conditional_casts place a b c h.0 h.1.0 h.1.1.0
  three_cast place (a ∷ b ∷ c ∷ d ∷ es) h = (tt, tt)

  within_casts : (place : Place) (e : CoreExpression) → Casts e → Casts (within place e)
  within_casts place (At own outer tt operator parts) h = h

  signed_casts : (place : Place) (minus : Bool) (e : CoreExpression) → Casts e → Casts (signed_at place minus e)
  signed_casts place true e h = (tt, ((tt, (h, tt)), tt))
  signed_casts place false e h = (tt, ((tt, (h, tt)), ((tt, tt), tt)))

  operand_casts : (class : BinaryClass) (e : CoreExpression) → Casts e → Casts (operand_of class e)
  operand_casts (Nodes op) e h = h
  operand_casts (Combination op) e h = h
  operand_casts _ e h = (tt, (h, tt))

  joined_cast : (place : Place) (found : Option BinaryOp) (es : List CoreExpression) → AllCast es → Casts (joined_at place (joined_by place found) es)
  joined_cast place None es h = (tt, tt)
  joined_cast place (Some op) es h = two_cast place (operator_at place op) (λ a b k l. (tt, (operand_casts (class_of op) a k, (operand_casts (class_of op) b l, tt)))) es h

  joining_casts : (place : Place) (o : BinaryOperator) (es : List CoreExpression) → AllCast es → Casts (joined_at place (joining place o) es)
  joining_casts place operator.And es h = two_cast place (and_at place) (λ a b k l. (tt, ((tt, (k, tt)), ((tt, (l, tt)), ((tt, tt), tt))))) es h
  joining_casts place operator.Or es h = two_cast place (or_at place) (λ a b k l. (tt, ((tt, (k, tt)), ((tt, tt), ((tt, (l, tt)), tt))))) es h
  joining_casts place o es h = joined_cast place (operator_in_core o) es h

  all_cast : (es : List CoreExpression) → AllCast es → PartsNameWell s (all_parts es)
  all_cast [] h = tt
  all_cast (e ∷ es) h = (h.0, all_cast es h.1)

  counted_casts : (place : Place) (function : Function) (es : List CoreExpression) → AllCast es → Casts (counted_call place function es)
  counted_casts place function es h =
      elim (length es == arity_of function) as (λ (b : Bool). Casts (if b then call_at place function (all_parts es) else empty_at place)) [
        | true ↦ (tt, all_cast es h)
        | false ↦ (tt, tt)
      ]

  call_casts : (place : Place) (function : Function) (es : List CoreExpression) → AllCast es → Casts (call_of place function es)
  call_casts place functions.Data es h = one_casts place (data_at place) (λ e k. (tt, (k, tt))) es h
  call_casts place functions.Position es h = (tt, tt)
  call_casts place functions.Last es h = (tt, tt)
  call_casts place function es h = counted_casts place function es h

  case_in_front_casts : (place : Place) (a b : CoreExpression) → Casts a → Casts b → Casts (case_in_front place a b)
  case_in_front_casts place (At there outer mark (operators.Switch (case ∷ more) count) (a_part nothing (a_part body others))) (At behind other unit (operators.Switch cases default) (a_part none branches)) h k =
      ((h.0.0, k.0), (h.1.0, (h.1.1.0, k.1.1)))
  case_in_front_casts place (At there outer mark operator parts) (At behind other unit another others) h k = (tt, tt)

  branches_cast : (place : Place) (es : List CoreExpression) → AllCast es → Casts (branches_joined place es)
  branches_cast place [] h = (tt, tt)
  branches_cast place (a ∷ []) h = h.0
  branches_cast place (a ∷ b ∷ es) h = case_in_front_casts place a (branches_joined place (b ∷ es)) h.0 (branches_cast place (b ∷ es) h.1)

  over_operand_casts : (place : Place) (operand branches : CoreExpression) → Casts operand → Casts branches → Casts (over_operand place operand branches)
  over_operand_casts place operand (At there outer mark (operators.Switch cases default) (a_part nothing branches)) h k = (k.0, (h, k.1.1))
  over_operand_casts place operand (At there outer mark operator parts) h k = (tt, tt)

  typeswitch_casts : (place : Place) (es : List CoreExpression) → AllCast es → Casts (typeswitch_at place es)
  typeswitch_casts place [] h = (tt, tt)
  typeswitch_casts place (operand ∷ branches) h = over_operand_casts place operand (branches_joined place branches) h.0 (branches_cast place branches h.1)

  branch_casts : (place : Place) (construct : Construct) (free : ℕ) (body : CoreExpression) → CastsAtomically s construct → Casts body → Casts (branch_at place construct free body)
  branch_casts place (constructs.Case bound kind) free body c h = ((c, tt), ((tt, tt), (h, ((tt, tt), tt))))
  branch_casts place (constructs.Default bound) free body c h = (tt, ((tt, tt), (h, tt)))
  branch_casts place _ free body c h = (tt, tt)

  branch_or_casts : (construct : Construct) (branch other : CoreExpression × ℕ) → Casts branch.0 → Casts other.0 → Casts (branch_or construct branch other).0
  branch_or_casts (constructs.Case bound kind) branch other h k = h
  branch_or_casts (constructs.Default bound) branch other h k = h
  branch_or_casts construct branch other h k = k

  user_call_casts : (place : Place) (found : Option FunctionSignature) (es : List CoreExpression) → AllCast es → Casts (user_call_at place found es)
  user_call_casts place None es h = (tt, tt)
  user_call_casts place (Some signature) es h = (tt, all_cast es h)

  constructed_casts : (place : Place) (construct : Construct) (es : List CoreExpression) → CastsAtomically s construct → AllCast es → Casts (constructed signatures place construct es)
  constructed_casts place (constructs.Number value) es c h = (tt, tt)
  constructed_casts place (constructs.String characters) es c h = (tt, tt)
  constructed_casts place constructs.Parenthesised es c h = one_casts place (within place) (within_casts place) es h
  constructed_casts place (constructs.CallDeclared name) es c h = user_call_casts place (signature_called signatures name (length es)) es h
  constructed_casts place (constructs.Call function) es c h = call_casts place function es h
  constructed_casts place constructs.Sequence es c h = two_cast place core_sequence (λ a b k l. (tt, (k, (l, tt)))) es h
  constructed_casts place constructs.If es c h = three_cast place es h
  constructed_casts place (constructs.Binary o) es c h = joining_casts place o es h
  constructed_casts place (constructs.CastableAs kind optional) es c h = one_casts place (castable_at place kind optional) (λ e k. (tt, ((tt, (k, tt)), tt))) es h
  constructed_casts place (constructs.CastAs kind optional) es c h = one_casts place (cast_at place kind optional) (λ e k. (c, ((tt, (k, tt)), tt))) es h
  constructed_casts place (constructs.InstanceOf kind) es c h = one_casts place (instance_at place kind) (λ e k. ((c, tt), (k, ((tt, tt), ((tt, tt), tt))))) es h
  constructed_casts place (constructs.TreatAs kind) es c h = one_casts place (treat_at place kind) (λ e k. (c, (k, tt))) es h
  constructed_casts place constructs.Typeswitch es c h = typeswitch_casts place es h
  constructed_casts place (constructs.Signed minus) es c h = one_casts place (signed_at place minus) (signed_casts place minus) es h
  constructed_casts place constructs.Document es c h = (tt, all_cast es h)
  constructed_casts place constructs.TextNode es c h = (tt, all_cast es h)
  constructed_casts place (constructs.Element name) es c h = (tt, all_cast es h)
  constructed_casts place (constructs.Attribute name) es c h = (tt, all_cast es h)
  constructed_casts place (constructs.DirectElement name) es c h = (tt, all_cast es h)
  constructed_casts place (constructs.DirectAttribute name) es c h = (tt, all_cast es h)
  constructed_casts place (constructs.Blank characters) es c h = (tt, tt)
  constructed_casts place _ es c h = (tt, tt)

  variable_casts : (place : Place) (found : Option ℕ) → Casts (variable_at place found)
  variable_casts place None = (tt, tt)
  variable_casts place (Some bound) = (tt, tt)

  context_casts : (place : Place) (found : Option ℕ) → Casts (context_item_at place found)
  context_casts place None = (tt, tt)
  context_casts place (Some bound) = (tt, tt)

  step_casts : (place : Place) (found : Option ℕ) (axis : Axis) (of_test : Test) → Casts (step_at place found axis of_test)
  step_casts place None axis of_test = (tt, tt)
  step_casts place (Some bound) axis of_test = (tt, tt)

  -- contexts and predicates

  ordered_casts : (ordered : Bool) (place : Place) (e : CoreExpression) → Casts e → Casts (ordered_if ordered place e)
  ordered_casts true place e h = (tt, (h, tt))
  ordered_casts false place e h = h

  size_casts : (place : Place) (free : ℕ) (source body : CoreExpression) → Casts source → Casts body → Casts (with_size place free source body)
  size_casts place free source body h k = (tt, (h, ((tt, ((tt, ((tt, tt), tt)), (k, tt))), tt)))

  for_casts : (place : Place) (one position : ℕ) (source body : CoreExpression) → Casts source → Casts body → Casts (hidden_for place one position source body)
  for_casts place one position source body h k = (tt, (h, (k, tt)))

  loop_casts : (use' : ContextUse) (ordered : Bool) (place : Place) (free : ℕ) (source body : CoreExpression) → Casts source → Casts body → Casts (loop_at use' ordered place free source body)
  loop_casts uses.Item ordered place free source body h k = ordered_casts ordered place (hidden_for place free 0 source body) (for_casts place free 0 source body h k)
  loop_casts uses.Position ordered place free source body h k = ordered_casts ordered place (hidden_for place free (free + 1) source body) (for_casts place free (free + 1) source body h k)
  loop_casts uses.Size ordered place free source body h k =
      let each : CoreExpression = hidden_for place (free + 2) 0 (hidden_variable place free) body in
      size_casts place free source (ordered_if ordered place each) h (ordered_casts ordered place each (for_casts place (free + 2) 0 (hidden_variable place free) body (tt, tt) k))
  loop_casts uses.PositionAndSize ordered place free source body h k =
      let each : CoreExpression = hidden_for place (free + 2) (free + 3) (hidden_variable place free) body in
      size_casts place free source (ordered_if ordered place each) h (ordered_casts ordered place each (for_casts place (free + 2) (free + 3) (hidden_variable place free) body (tt, tt) k))
  loop_casts uses.Backwards ordered place free source body h k =
      let turned : CoreExpression = hidden_let place (free + 4) (position_from_end place (free + 1) (free + 3)) body in
      let each : CoreExpression = hidden_for place (free + 2) (free + 3) (hidden_variable place free) turned in
      size_casts place free source (ordered_if ordered place each) h (ordered_casts ordered place each (for_casts place (free + 2) (free + 3) (hidden_variable place free) turned (tt, tt)
      (tt, ((tt, ((tt, ((tt, tt), ((tt, tt), tt))), ((tt, tt), tt))), (k, tt)))))

  kept_casts : (place : Place) (focus : ContextNumbers) (free : ℕ) (condition : CoreExpression) → Casts condition → Casts (kept_at place focus free condition)
  kept_casts place focus free condition h =
      (tt, (((tt, tt), (h, ((tt, ((tt, tt), (context_casts place focus.position, tt))), ((tt, ((tt, tt), tt)), tt)))), (context_casts place focus.item, ((tt, tt), tt))))

  filtered_by_casts : (predicate : Predicate) (reverse : Bool) (use' : ContextUse) (place : Place) (free : ℕ) (e : CoreExpression) (condition : CoreExpression × ℕ) → Casts e → Casts condition.0
      → Casts (filtered_by predicate reverse use' place free e condition).0
  filtered_by_casts (predicates.Numbered chosen) reverse use' place free e condition h k = (tt, (h, tt))
  filtered_by_casts predicates.Last reverse use' place free e condition h k = (tt, (h, tt))
  filtered_by_casts predicates.Condition reverse use' place free e condition h k =
      loop_casts use' false place free e (kept_at (outer_of condition.0) (context_numbers use' free) condition.1 condition.0) h (kept_casts (outer_of condition.0) (context_numbers use' free) condition.1 condition.0 k)

  left_casts : (descendants : Bool) (place : Place) (left : CoreExpression × ℕ) → Casts left.0 → Casts (left_of_path descendants place left).0
  left_casts false place left h = h
  left_casts true place left h = (tt, ((tt, ((tt, (h, tt)), ((tt, tt), tt))), tt))

  parts_with_cast : (stays : Bool) (e : CoreExpression × ℕ) (others : ℕ → List CoreExpression × ℕ) (free : ℕ) → Casts e.0 → ((n : ℕ) → AllCast (others n).0) → AllCast (parts_with stays e others free).0
  parts_with_cast true e others free h k = (h, k e.1)
  parts_with_cast false e others free h k = k free

  construct_casts : (place : Place) (construct : Construct) (numbers : Numbers) (focus : Focus) (free : ℕ) (parts : List CoreExpression × ℕ) (clauses steps picked : CoreExpression × ℕ)
      → CastsAtomically s construct → AllCast parts.0 → Casts clauses.0 → Casts steps.0 → Casts picked.0 → Casts (construct_core signatures place construct numbers focus free parts clauses steps picked).0
  construct_casts place (constructs.Variable name binder) numbers focus free parts clauses steps picked c h k l m = variable_casts place (number_at numbers binder)
  construct_casts place constructs.Context numbers focus free parts clauses steps picked c h k l m = context_casts place focus.context.item
  construct_casts place (constructs.Call functions.Position) numbers focus free parts clauses steps picked c h k l m = context_casts place focus.context.position
  construct_casts place (constructs.Call functions.Last) numbers focus free parts clauses steps picked c h k l m = context_casts place focus.context.size
  construct_casts place (constructs.Step axis asks) numbers focus free parts clauses steps picked c h k l m = step_casts place focus.context.item axis asks
  construct_casts place constructs.ParentStep numbers focus free parts clauses steps picked c h k l m = step_casts place focus.context.item axes.Parent tests.Node
  construct_casts place constructs.Flwor numbers focus free parts clauses steps picked c h k l m = k
  construct_casts place (constructs.Quantified every) numbers focus free parts clauses steps picked c h k l m = k
  construct_casts place (constructs.Path descendants) numbers focus free parts clauses steps picked c h k l m = l
  construct_casts place constructs.Filtered numbers focus free parts clauses steps picked c h k l m = m
  construct_casts place construct numbers focus free parts clauses steps picked c h k l m = constructed_casts place construct parts.0 c h

  clause_in_front_casts : (place : Place) (kind : ClauseKind) (part block : CoreExpression) → Casts part → Casts block → Casts (clause_in_front place kind part block)
  clause_in_front_casts place kind part (At there outer tt (operators.Block kinds orders) parts) h k = (tt, (h, k.1))
  clause_in_front_casts place kind part (At there outer tt operator parts) h k = (tt, tt)

  key_in_front_casts : (place : Place) (order : KeyOrder) (part block : CoreExpression) → Casts part → Casts block → Casts (key_in_front place order part block)
  key_in_front_casts place order part (At there outer tt (operators.Block [] orders) parts) h k = (tt, (h, k.1))
  key_in_front_casts place order part (At there outer tt operator parts) h k = (tt, tt)

  mutual
    core_casts : (tree : ResolvedTree) (numbers : Numbers) (focus : Focus) (free : ℕ) → AreCastsAtomic s tree → Casts (core_of signatures tree numbers focus free).0
    core_casts (resolved_at place construct parts) numbers focus free c =
        branch_or_casts construct (branch_core signatures place construct parts numbers focus free)
        (construct_core signatures place construct numbers focus free (cores_of signatures parts numbers focus free) (clauses_core signatures (ending_of_clauses construct parts focus.greatest) place parts numbers focus free) (path_core signatures (is_to_descendants construct) place parts numbers focus free) (predicates_core signatures place parts numbers focus free))
        (branch_core_casts place construct parts numbers focus free c.0 c.1)
        (construct_casts place construct numbers focus free (cores_of signatures parts numbers focus free) (clauses_core signatures (ending_of_clauses construct parts focus.greatest) place parts numbers focus free) (path_core signatures (is_to_descendants construct) place parts numbers focus free)
        (predicates_core signatures place parts numbers focus free) c.0
        (cores_cast parts numbers focus free c.1) (clauses_cast (ending_of_clauses construct parts focus.greatest) place parts numbers focus free c.1) (path_casts (is_to_descendants construct) place parts numbers focus free c.1)
        (predicates_cast place parts numbers focus free c.1))

    cores_cast : (parts : ResolvedTrees) (numbers : Numbers) (focus : Focus) (free : ℕ) → AreAllCastsAtomic s parts → AllCast (cores_of signatures parts numbers focus free).0
    cores_cast no_resolved numbers focus free c = tt
    cores_cast (a_resolved first others) numbers focus free c =
        parts_with_cast (is_kept_part focus first) (core_of signatures first numbers focus free) (cores_of signatures others numbers focus) free (core_casts first numbers focus free c.0) (λ n. cores_cast others numbers focus n c.1)

    clauses_cast : (ending : Ending) (place : Place) (parts : ResolvedTrees) (numbers : Numbers) (focus : Focus) (free : ℕ) → AreAllCastsAtomic s parts → Casts (clauses_core signatures ending place parts numbers focus free).0
    clauses_cast ending place no_resolved numbers focus free c = (tt, tt)
    clauses_cast (Sorted greatest) place (a_resolved (resolved_at there (constructs.For bound None) (a_resolved source more)) others) numbers focus free c =
        let middle = (core_of signatures source numbers focus free).1 in
        let inner : Numbers = (bound.place, middle) ∷ numbers in
        clause_in_front_casts place (kinds.For (numbered_binder bound middle) 0) (core_of signatures source numbers focus free).0 (clauses_core signatures (Sorted greatest) place others inner focus (middle + 1)).0
        (core_casts source numbers focus free c.0.1.0) (clauses_cast (Sorted greatest) place others inner focus (middle + 1) c.1)
    clauses_cast (Sorted greatest) place (a_resolved (resolved_at there (constructs.For bound (Some position)) (a_resolved source more)) others) numbers focus free c =
        let middle = (core_of signatures source numbers focus free).1 in
        let inner : Numbers = (position.place, middle + 1) ∷ (bound.place, middle) ∷ numbers in
        clause_in_front_casts place (kinds.For (numbered_binder bound middle) (middle + 1)) (core_of signatures source numbers focus free).0 (clauses_core signatures (Sorted greatest) place others inner focus (middle + 2)).0
        (core_casts source numbers focus free c.0.1.0) (clauses_cast (Sorted greatest) place others inner focus (middle + 2) c.1)
    clauses_cast (Sorted greatest) place (a_resolved (resolved_at there (constructs.Let bound) (a_resolved value more)) others) numbers focus free c =
        let middle = (core_of signatures value numbers focus free).1 in
        let inner : Numbers = (bound.place, middle) ∷ numbers in
        clause_in_front_casts place (kinds.Let (numbered_binder bound middle)) (core_of signatures value numbers focus free).0 (clauses_core signatures (Sorted greatest) place others inner focus (middle + 1)).0
        (core_casts value numbers focus free c.0.1.0) (clauses_cast (Sorted greatest) place others inner focus (middle + 1) c.1)
    clauses_cast (Sorted greatest) place (a_resolved (resolved_at there constructs.Where (a_resolved condition more)) others) numbers focus free c =
        let middle = (core_of signatures condition numbers focus free).1 in
        clause_in_front_casts place kinds.Where (boolean_around (core_of signatures condition numbers focus free).0) (clauses_core signatures (Sorted greatest) place others numbers focus middle).0
        (tt, (core_casts condition numbers focus free c.0.1.0, tt)) (clauses_cast (Sorted greatest) place others numbers focus middle c.1)
    clauses_cast (Sorted greatest) place (a_resolved (resolved_at there (constructs.Key order) (a_resolved key more)) others) numbers focus free c =
        let middle = (core_of signatures key numbers focus free).1 in
        key_in_front_casts place (key_order greatest order) (data_around (core_of signatures key numbers focus free).0) (clauses_core signatures (Sorted greatest) place others numbers focus middle).0
        (tt, (core_casts key numbers focus free c.0.1.0, tt)) (clauses_cast (Sorted greatest) place others numbers focus middle c.1)
    clauses_cast ending place (a_resolved (resolved_at there (constructs.Key order) (a_resolved key more)) others) numbers focus free c = (tt, tt)
    clauses_cast ending place (a_resolved (resolved_at there (constructs.For bound None) (a_resolved source more)) others) numbers focus free c =
        let middle = (core_of signatures source numbers focus free).1 in
        (tt, (core_casts source numbers focus free c.0.1.0, (clauses_cast ending place others ((bound.place, middle) ∷ numbers) focus (middle + 1) c.1, tt)))
    clauses_cast ending place (a_resolved (resolved_at there (constructs.For bound (Some position)) (a_resolved source more)) others) numbers focus free c =
        let middle = (core_of signatures source numbers focus free).1 in
        (tt, (core_casts source numbers focus free c.0.1.0, (clauses_cast ending place others ((position.place, middle + 1) ∷ (bound.place, middle) ∷ numbers) focus (middle + 2) c.1, tt)))
    clauses_cast ending place (a_resolved (resolved_at there (constructs.Let bound) (a_resolved value more)) others) numbers focus free c =
        let middle = (core_of signatures value numbers focus free).1 in
        (tt, (core_casts value numbers focus free c.0.1.0, (clauses_cast ending place others ((bound.place, middle) ∷ numbers) focus (middle + 1) c.1, tt)))
    clauses_cast ending place (a_resolved (resolved_at there constructs.Where (a_resolved condition more)) others) numbers focus free c =
        let middle = (core_of signatures condition numbers focus free).1 in
        (tt, ((tt, (core_casts condition numbers focus free c.0.1.0, tt)), (clauses_cast ending place others numbers focus middle c.1, ((tt, tt), tt))))
    clauses_cast Returned place (a_resolved (resolved_at there (constructs.In bound) (a_resolved source more)) others) numbers focus free c = (tt, tt)
    clauses_cast (Sorted greatest) place (a_resolved (resolved_at there (constructs.In bound) (a_resolved source more)) others) numbers focus free c = (tt, tt)
    clauses_cast (Condition true) place (a_resolved (resolved_at there (constructs.In bound) (a_resolved source more)) others) numbers focus free c =
        let middle = (core_of signatures source numbers focus free).1 in
        (tt, (core_casts source numbers focus free c.0.1.0, (clauses_cast (Condition true) place others ((bound.place, middle) ∷ numbers) focus (middle + 1) c.1, tt)))
    clauses_cast (Condition false) place (a_resolved (resolved_at there (constructs.In bound) (a_resolved source more)) others) numbers focus free c =
        let middle = (core_of signatures source numbers focus free).1 in
        (tt, (core_casts source numbers focus free c.0.1.0, (clauses_cast (Condition false) place others ((bound.place, middle) ∷ numbers) focus (middle + 1) c.1, tt)))
    clauses_cast Returned place (a_resolved last others) numbers focus free c = core_casts last numbers focus free c.0
    clauses_cast (Sorted greatest) place (a_resolved last others) numbers focus free c = (tt, (core_casts last numbers focus free c.0, tt))
    clauses_cast (Condition every) place (a_resolved last others) numbers focus free c = (tt, (core_casts last numbers focus free c.0, tt))

    branch_core_casts : (place : Place) (construct : Construct) (parts : ResolvedTrees) (numbers : Numbers) (focus : Focus) (free : ℕ) → CastsAtomically s construct → AreAllCastsAtomic s parts
        → Casts (branch_core signatures place construct parts numbers focus free).0
    branch_core_casts place construct (a_resolved body no_resolved) numbers focus free k c =
        let b = core_of signatures body (clause_numbers construct free ++ numbers) focus (behind_clause construct free) in
        branch_casts place construct free b.0 k (core_casts body (clause_numbers construct free ++ numbers) focus (behind_clause construct free) c.0)
    branch_core_casts place construct _ numbers focus free k c = (tt, tt)

    path_casts : (descendants : Bool) (place : Place) (parts : ResolvedTrees) (numbers : Numbers) (focus : Focus) (free : ℕ) → AreAllCastsAtomic s parts → Casts (path_core signatures descendants place parts numbers focus free).0
    path_casts descendants place (a_resolved first (a_resolved second no_resolved)) numbers focus free c =
        let a = left_of_path descendants place (core_of signatures first numbers focus free) in
        let use' = path_use (asks_context asked.Position second) (asks_context asked.Last second) in
        let b = core_of signatures second numbers (focus_with focus use' a.1) (behind_context use' a.1) in
        loop_casts use' true place a.1 (nodes_at place a.0) b.0 (tt, (left_casts descendants place (core_of signatures first numbers focus free) (core_casts first numbers focus free c.0), tt))
        (core_casts second numbers (focus_with focus use' a.1) (behind_context use' a.1) c.1.0)
    path_casts descendants place _ numbers focus free c = (tt, tt)

    predicates_cast : (place : Place) (parts : ResolvedTrees) (numbers : Numbers) (focus : Focus) (free : ℕ) → AreAllCastsAtomic s parts → Casts (predicates_core signatures place parts numbers focus free).0
    predicates_cast place no_resolved numbers focus free c = (tt, tt)
    predicates_cast place (a_resolved operand predicates) numbers focus free c =
        let e = core_of signatures operand numbers focus free in
        filtered_cast (is_reverse_step operand) place e.0 predicates numbers focus e.1 (core_casts operand numbers focus free c.0) c.1

    filtered_cast : (reverse : Bool) (place : Place) (e : CoreExpression) (predicates : ResolvedTrees) (numbers : Numbers) (focus : Focus) (free : ℕ) → Casts e → AreAllCastsAtomic s predicates
        → Casts (filtered_core signatures reverse place e predicates numbers focus free).0
    filtered_cast reverse place e no_resolved numbers focus free h c = h
    filtered_cast reverse place e (a_resolved predicate others) numbers focus free h c =
        let use' = predicate_use reverse (asks_context asked.Last predicate) in
        let condition = core_of signatures predicate numbers (focus_with focus use' free) (behind_context use' free) in
        let f = filtered_by (predicate_of predicate) reverse use' place free e condition in
        filtered_cast reverse place f.0 others numbers focus f.1
        (filtered_by_casts (predicate_of predicate) reverse use' place free e condition h (core_casts predicate numbers (focus_with focus use' free) (behind_context use' free) c.0)) c.1

  -- ---- types of external variables

  element_is_named : (elements : List GlobalElement) (name : Name) (t : TypeName) → HoldsOfEach (λ (element : GlobalElement). IsTrue (is_named_type s element.kind)) elements → type_of_element elements name ≡ Some t
      → is_named_type s t ≡ true
  element_is_named [] name t h e = absurd (cc)
  element_is_named (x ∷ xs) name t h e =
      elim (same_name x.name name) as (λ (same : Bool). (if same then Some x.kind else type_of_element xs name) ≡ Some t → is_named_type s t ≡ true) [
        | true ↦ λ f. let same : x.kind ≡ t = cc in subst (λ (u : TypeName). is_named_type s u ≡ true) same h.0
        | false ↦ λ f. element_is_named xs name t h.1 f
      ] e

  document_is_normal : (kind : Option SequenceType) → IsDocumentType s kind → IsNormalIfWritten s kind
  document_is_normal kind (inl e) = subst (λ (o : Option SequenceType). IsNormalIfWritten s o) (sym e) tt
  document_is_normal kind (inr (inl e)) = subst (λ (o : Option SequenceType). IsNormalIfWritten s o) (sym e) refl
  document_is_normal kind (inr (inr (root, found, written, f, same, e))) =
      subst (λ (o : Option SequenceType). IsNormalIfWritten s o) (sym e)
      (known_below s written found (0, type_name_symm found written same) (named_is_known s found (element_is_named s.elements root found is.elements f)))

  -- ---- declarations

  abbrev AllKnown : List Declaration → Type 0
  AllKnown declarations = (focus : Focus) (numbers : Numbers) (free : ℕ) → ExternalsAreDocuments s (declarations_of signatures focus declarations numbers free) → AreNamedWell s (declarations_of signatures focus declarations numbers free)

  parameters_same : (parameters : List Parameter) (environment : Environment) → (with_parameters parameters environment).schemas ≡ environment.schemas
  parameters_same [] environment = refl
  parameters_same (parameter ∷ parameters) environment = parameters_same parameters (with_variable parameter.variable environment)

  one_known : (environment : Environment) (place : Place) (node : DefinitionNode) (others : List Declaration) → Under environment → AllKnown others → AllKnown (declaration_resolved environment place node ∷ others)
  one_known environment place (definitions.Variable binder kind (initial.Value value)) others e rest focus numbers free h =
      (core_casts (tree_resolved environment value) numbers focus free (atomic_tree environment value e), rest focus _ _ h)
  one_known environment place (definitions.Variable binder kind initial.External) others e rest focus numbers free h =
      (document_is_normal (Some (declared_type (option_map (type_written environment) kind))) h.0, rest focus _ _ h.1)
  one_known environment place (definitions.Function name parameters result body) others e rest focus numbers free h =
      let f = function_resolved environment place name parameters result body in
      (core_casts f.body (inside_parameters f.parameters free numbers) focus (free + length f.parameters) (atomic_tree (with_parameters parameters environment) body (parameters_same parameters environment ∙ e)), rest focus numbers _ h)

  declarations_known : (ds : List Definition) (environment : Environment) → Under environment → AllKnown (declarations_resolved ds environment)
  declarations_known [] environment e focus numbers free h = tt
  declarations_known (d ∷ ds) environment e focus numbers free h =
      let inner = definition_scope d.node environment in
      one_known environment d.place d.node (declarations_resolved ds inner) e (declarations_known ds inner (same_schemas d.node environment ∙ e)) focus numbers free h

-- ---- whole queries

scope_same : (ds : List Definition) (environment : Environment) → (scope_after ds environment).schemas ≡ environment.schemas
scope_same [] environment = refl
scope_same (d ∷ ds) environment = scope_same ds (definition_scope d.node environment) ∙ same_schemas d.node environment

record IsWholeNamedWell (s : SchemaSet) (core : Core) : Type 0 where
  values : AreNamedWell s core.declarations
  body : NamesWell s core.body

named_well : (s : SchemaSet) (query : Query) (core : Core) → IsSchemaSet s → query_named s query ≡ named_query core → IsWholeNamedWell s core
named_well s query core is e =
    let environment : Environment = with_functions query.definitions (prolog_environment s query.settings) in
    let resolved = query_resolved s query in
    let focus = no_focus (is_empty_greatest false resolved.settings.empty_order) resolved.settings.preserves_boundary_space in
    let signatures = signatures_of resolved.declarations in
    let behind = behind_declarations signatures focus resolved.declarations [] 1 in
    let whole = query_core resolved in
    let same = whole_named (query_refusals s query) whole core e in
    let documents : ExternalsAreDocuments s whole.declarations = subst (λ (c : Core). ExternalsAreDocuments s c.declarations) (sym same) (named_queries_have_documents s query core e) in
    let body = atomic_tree s is signatures (scope_after query.definitions environment) query.body (scope_same query.definitions environment) in
    let well : IsWholeNamedWell s whole = record {
      values = declarations_known s is signatures query.definitions environment refl focus [] 1 documents;
      body = core_casts s is signatures (tree_resolved (scope_after query.definitions environment) query.body) behind.0 focus behind.1 body;
    } in
    subst (λ (c : Core). IsWholeNamedWell s c) same well

pub named_queries_name_written_types : NamedQueriesNameWrittenTypes
named_queries_name_written_types s query core is e =
    let well = named_well s query core is e in record { values = values_written s core.declarations well.values; body = names_written s core.body well.body }

pub named_queries_are_judged_by_inclusion : NamedQueriesAreJudgedByInclusion
named_queries_are_judged_by_inclusion s query core is e normal =
    let well = named_well s query core is e in
    queries_are_judged_by_inclusion s core is
    (record { declarations = values_known s core.declarations well.values normal.values; body = names_known s core.body well.body normal.body })
