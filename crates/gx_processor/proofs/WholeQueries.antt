-- The external variables of whole queries in Core.
use Rattle.std.proofs.Common.{◌≡◌, ℕ, ◌+◌, Bool, true, false, not, List, [], ◌∷◌, ◌++◌, Option, Some, None, option_map, inl, inr, refl, sym, ap, subst}
use Rattle.std.specs.Prelude.{unwrap_or}
use Rattle.std.specs.Bool.{IsTrue}
use Rattle.gx_base.specs.declared.place.Place.{Place}
use Rattle.gx_base.specs.declared.code.Code.{Code}
use Rattle.gx_base.specs.declared.code.Code.TheVariants.{GLXS0004, XPST0008}
use Rattle.gx_base.specs.declared.name.Name.{Name}
use Rattle.gx_base.specs.declared.type_name.Builtin.TheVariants.{Untyped, AnyType}
use Rattle.gx_base.specs.declared.type_name.TypeName.{TypeName}
use Rattle.gx_base.specs.declared.type_name.TypeName.TheVariants as names
use Rattle.gx_ast.specs.declared.query.Query.{Query}
use Rattle.gx_ast.specs.declared.query.Definition.{Definition}
use Rattle.gx_ast.specs.declared.query.DefinitionNode.{DefinitionNode}
use Rattle.gx_ast.specs.declared.query.DefinitionNode.TheVariants as definitions
use Rattle.gx_ast.specs.declared.query.Initialiser.TheVariants as initial
use Rattle.gx_ast.specs.declared.sequence_type.Indicator.TheVariants as indicated
use Rattle.gx_ast.specs.declared.sequence_type.ItemType.TheVariants as written
use Rattle.gx_ast.specs.declared.sequence_type.KindTest.{KindTest}
use Rattle.gx_ast.specs.declared.sequence_type.KindTest.TheVariants as kinds
use Rattle.gx_ast.specs.declared.sequence_type.SequenceType.{SequenceType as WrittenType}
use Rattle.gx_ast.specs.declared.sequence_type.SequenceType.TheVariants as sequences
use Rattle.gx_ast.specs.declared.name.QName.{QName}
use Rattle.gx_types.specs.SameItemType.{same_type_name}
use Rattle.gx_types.specs.SchemaSet.{SchemaSet, global_type}
use Rattle.gx_types.proofs.EqualNames.{builtins_are_one, type_name_itself}
use Rattle.gx_core.specs.Queries.{Core}
use Rattle.gx_names_scope.specs.declared.refusal.Refusal.{Refusal}
use Rattle.gx_resolved.specs.declared.tree.Declaration.{Declaration}
use Rattle.gx_names_scope.specs.Environment.{Environment, Functions, element_name, or_nameless, plain_name}
use Rattle.gx_names.specs.Refusals.{is_declared_type, is_document_element, is_document_test, is_document_type, doubled_variable, external_refusals, definition_refusals, definition_scope, scope_after, definitions_refusals, functions_with, main_refusals, with_functions, bodies_after, query_refusals}
use Rattle.gx_names_uses.specs.Reaching.{Bodies}
use Rattle.gx_names_trees.specs.TreeRefusals.{binder_refusals, tree_refusals}
use Rattle.gx_names.specs.Resolution.{declaration_resolved, declarations_resolved, query_resolved}
use Rattle.gx_names.specs.SettingRefusals.{prolog_environment, settings_refusals}
use Rattle.gx_names_scope.specs.Refusing.{refused_if, where_named, unless_found, prefix_refusals}
use Rattle.gx_names_types.specs.TypeNames.{declared_refusals, test_refusals, written_type_refusals, element_tested, element_declared, type_written, document_item}
use Rattle.gx_processor.specs.ExternalDocuments.{IsDocumentType, ExternalsAreDocuments, NamedQueriesHaveDocuments}
use Rattle.gx_core.specs.Invariant.{HasQueryVariablesInOrder, CallsDeclaredFunctions}
use Rattle.gx_normal.specs.declared.signatures.Signatures.{Signatures}
use Rattle.gx_normal.proofs.PublicLaws.{cores_have_variables_in_order, cores_call_declared_functions}
use Rattle.gx_normal.specs.Clauses.{Numbers}
use Rattle.gx_normal.specs.declared.focus.Focus.{Focus}
use Rattle.gx_normal.specs.Normalisation.{declared_type, declarations_of, query_core}
use Rattle.gx_processor.specs.NamedQuery.{query_named, named_query, unless_refused}

-- ---- lists of which nothing is there

front_is_empty : {A : Type 0} (xs ys : List A) → xs ++ ys ≡ [] → xs ≡ []
front_is_empty [] ys h = refl
front_is_empty (x ∷ xs) ys h = absurd (cc)

rest_is_empty : {A : Type 0} (xs ys : List A) → xs ++ ys ≡ [] → ys ≡ []
rest_is_empty [] ys h = h
rest_is_empty (x ∷ xs) ys h = absurd (cc)

not_refused : (right : Bool) (place : Place) (code : Code) → refused_if (not right) place code ≡ [] → right ≡ true
not_refused true place code h = refl
not_refused false place code h = absurd (cc)

-- ---- types of external variables

untyped_alone : (kind : TypeName) → same_type_name kind (names.Builtin Untyped) ≡ true → kind ≡ names.Builtin Untyped
untyped_alone (names.Builtin b) h = ap (λ b. names.Builtin b) (builtins_are_one b Untyped h)
untyped_alone (names.Named n) h = absurd (cc)
untyped_alone (names.Anonymous n) h = absurd (cc)

-- an element that is found
found : (declared : Option TypeName) (place : Place) → unless_found declared place XPST0008 ≡ [] → (t : TypeName) × (declared ≡ Some t)
found None place h = absurd (cc h)
found (Some t) place h = (t, refl)

where_found : (schemas : SchemaSet) (name : Option Name) (place : Place) → where_named name place (λ n. unless_found (global_type schemas n) place XPST0008) ≡ [] → (t : TypeName) × (global_type schemas (or_nameless name) ≡ Some t)
where_found schemas None place h = absurd (cc h)
where_found schemas (Some name) place h = found (global_type schemas name) place h

-- a declared type
declared_is : (declared : Option TypeName) (kind : TypeName) → is_declared_type declared kind ≡ true → (t : TypeName) × (declared ≡ Some t) × IsTrue (same_type_name t kind)
declared_is None kind h = absurd (cc h)
declared_is (Some t) kind h = (t, refl, h)

element_is_document : (environment : Environment) (tested : Option Name × TypeName) → is_document_element environment tested ≡ true → IsDocumentType environment.schemas (Some (document_item tested))
element_is_document environment (None, kind) h = inr (inl (ap (λ (t : TypeName). Some (document_item (None, t))) (untyped_alone kind h)))
element_is_document environment (Some name, kind) h =
    let d = declared_is (global_type environment.schemas name) kind h in inr (inr (name, d.0, kind, d.1, d.2, refl))

declared_is_document : (environment : Environment) (name : QName) → declared_refusals environment name ≡ [] → IsDocumentType environment.schemas (Some (document_item (element_declared environment name)))
declared_is_document environment name none =
    let n = or_nameless (element_name environment name) in
    let d = where_found environment.schemas (element_name environment name) name.place none in
    inr (inr (
      n,
      d.0,
      unwrap_or (global_type environment.schemas n) (names.Builtin AnyType),
      d.1,
      subst (λ (o : Option TypeName). IsTrue (same_type_name d.0 (unwrap_or o (names.Builtin AnyType)))) (sym d.1) (type_name_itself d.0),
      refl,
    ))

test_is_document : (environment : Environment) (test : KindTest) → test_refusals environment test ≡ [] → is_document_test environment test ≡ true
    → IsDocumentType environment.schemas (Some (type_written environment (sequences.Items (written.Kind test) indicated.Once)))
test_is_document environment (kinds.Document place) none h = inl refl
test_is_document environment (kinds.DocumentOf place inner tested) none h = element_is_document environment (element_tested environment tested) h
test_is_document environment (kinds.DocumentOfDeclared place inner name) none h = declared_is_document environment name none
test_is_document environment (kinds.Node place) none h = absurd (cc h)
test_is_document environment (kinds.Text place) none h = absurd (cc h)
test_is_document environment (kinds.Element place tested) none h = absurd (cc h)
test_is_document environment (kinds.Attribute place tested) none h = absurd (cc h)
test_is_document environment (kinds.Declared place name) none h = absurd (cc h)

kind_is_document : (environment : Environment) (kind : Option WrittenType) → written_type_refusals environment kind ≡ [] → is_document_type environment kind ≡ true
    → IsDocumentType environment.schemas (Some (declared_type (option_map (type_written environment) kind)))
kind_is_document environment None none h = absurd (cc h)
kind_is_document environment (Some (sequences.Empty place)) none h = absurd (cc h)
kind_is_document environment (Some (sequences.Items (written.Item place) indicator)) none h = absurd (cc h)
kind_is_document environment (Some (sequences.Items (written.Atomic name) indicator)) none h = absurd (cc h)
kind_is_document environment (Some (sequences.Items (written.Kind test) indicated.Once)) none h = test_is_document environment test none h
kind_is_document environment (Some (sequences.Items (written.Kind test) indicated.Optional)) none h = absurd (cc h)
kind_is_document environment (Some (sequences.Items (written.Kind test) indicated.Star)) none h = absurd (cc h)
kind_is_document environment (Some (sequences.Items (written.Kind test) indicated.Plus)) none h = absurd (cc h)

-- ---- declarations

abbrev AreDocuments : SchemaSet → List Declaration → Type 0
AreDocuments schemas declarations = (signatures : Signatures) (focus : Focus) (numbers : Numbers) (free : ℕ) → ExternalsAreDocuments schemas (declarations_of signatures focus declarations numbers free)

one_more : (environment : Environment) (bodies : Bodies) (earlier : Functions) (place : Place) (node : DefinitionNode) (others : List Declaration) → definition_refusals environment bodies earlier place node ≡ []
    → AreDocuments environment.schemas others → AreDocuments environment.schemas (declaration_resolved environment place node ∷ others)
one_more environment bodies earlier place (definitions.Variable binder kind (initial.Value value)) others h rest signatures focus numbers free = rest signatures focus _ _
one_more environment bodies earlier place (definitions.Variable binder kind initial.External) others h rest signatures focus numbers free =
    let external = front_is_empty (external_refusals environment place binder kind) (binder_refusals environment binder kind) h in
    let asked = rest_is_empty (doubled_variable environment place binder) (refused_if (not (is_document_type environment kind)) place GLXS0004) external in
    let bound = rest_is_empty (external_refusals environment place binder kind) (binder_refusals environment binder kind) h in
    let written = rest_is_empty (prefix_refusals (plain_name environment binder.name) binder.place) (written_type_refusals environment kind) bound in
    (kind_is_document environment kind written (not_refused (is_document_type environment kind) place GLXS0004 asked), rest signatures focus _ _)
one_more environment bodies earlier place (definitions.Function name parameters result body) others h rest signatures focus numbers free = rest signatures focus numbers _

-- a definition leaves the schemas as they are
pub same_schemas : (node : DefinitionNode) (environment : Environment) → (definition_scope node environment).schemas ≡ environment.schemas
same_schemas (definitions.Variable binder kind initialiser) environment = refl
same_schemas (definitions.Function name parameters result body) environment = refl

all_documents : (ds : List Definition) (bodies : Bodies) (earlier : Functions) (environment : Environment) → definitions_refusals ds bodies earlier environment ≡ [] → AreDocuments environment.schemas (declarations_resolved ds environment)
all_documents [] bodies earlier environment h signatures focus numbers free = tt
all_documents (d ∷ ds) bodies earlier environment h signatures focus numbers free =
    let after = functions_with environment.namespaces d.place d.node earlier in
    let scope = definition_scope d.node environment in
    let others = all_documents ds bodies after scope (rest_is_empty (definition_refusals environment bodies earlier d.place d.node) (definitions_refusals ds bodies after scope) h) in
    one_more environment bodies earlier d.place d.node (declarations_resolved ds scope)
    (front_is_empty (definition_refusals environment bodies earlier d.place d.node) (definitions_refusals ds bodies after scope) h)
    (subst (λ (schemas : SchemaSet). AreDocuments schemas (declarations_resolved ds scope)) (same_schemas d.node environment) others)
    signatures focus numbers free

-- ---- whole queries

pub none_refused : (refusals : List Refusal) (whole core : Core) → unless_refused refusals whole ≡ named_query core → refusals ≡ []
none_refused [] whole core e = refl
none_refused (refusal ∷ others) whole core e = absurd (cc)

pub whole_named : (refusals : List Refusal) (whole core : Core) → unless_refused refusals whole ≡ named_query core → whole ≡ core
whole_named [] whole core e = cc
whole_named (refusal ∷ others) whole core e = absurd (cc)

pub named_queries_have_documents : NamedQueriesHaveDocuments
named_queries_have_documents schemas query core e =
    let environment = with_functions query.definitions (prolog_environment schemas query.settings) in
    let bodies = bodies_after environment query.definitions [] in
    let whole = query_core (query_resolved schemas query) in
    let none = none_refused (query_refusals schemas query) whole core e in
    let main = rest_is_empty (settings_refusals [] [] schemas.targets query.settings) (main_refusals environment query.definitions query.body) none in
    let variables = front_is_empty (definitions_refusals query.definitions bodies [] environment) (tree_refusals (scope_after query.definitions environment) query.body) main in
    subst (λ (c : Core). ExternalsAreDocuments schemas c.declarations) (whole_named (query_refusals schemas query) whole core e)
    (all_documents query.definitions bodies [] environment variables _ _ [] 1)

-- the Core of a query whose names are resolved keeps to what the Core of every query keeps to
pub named_in_order : (schemas : SchemaSet) (query : Query) (core : Core) → query_named schemas query ≡ named_query core → HasQueryVariablesInOrder core
named_in_order schemas query core e =
    subst (λ (c : Core). HasQueryVariablesInOrder c) (whole_named (query_refusals schemas query) (query_core (query_resolved schemas query)) core e)
    (cores_have_variables_in_order (query_resolved schemas query))

pub named_calls : (schemas : SchemaSet) (query : Query) (core : Core) → query_named schemas query ≡ named_query core → CallsDeclaredFunctions core
named_calls schemas query core e =
    subst (λ (c : Core). CallsDeclaredFunctions c) (whole_named (query_refusals schemas query) (query_core (query_resolved schemas query)) core e)
    (cores_call_declared_functions (query_resolved schemas query))
