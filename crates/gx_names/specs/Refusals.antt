-- What is refused of a query, in the order of the text; at one place in the order of the rules (XQuery 1.0, sections 2.3.2 and 4).
use Rattle.std.specs.Prelude.{ℕ, Bool, true, false, not, ◌||◌, List, [], ◌∷◌, ◌++◌, codes, length, Option, None, Some, is_some}
use Rattle.gx_base.specs.declared.name.Name.{Name}
use Rattle.gx_base.specs.declared.place.Place.{Place}
use Rattle.gx_base.specs.declared.code.Code.TheVariants.{XQST0034, XQST0039, XQST0045, XQST0049, XQST0054, GLXS0004}
use Rattle.gx_base.specs.declared.type_name.Builtin.TheVariants as builtins
use Rattle.gx_base.specs.declared.type_name.TypeName.{TypeName}
use Rattle.gx_base.specs.declared.type_name.TypeName.TheVariants as names
use Rattle.gx_ast.specs.declared.name.QName.{QName}
use Rattle.gx_ast.specs.declared.name.Variable.{Variable}
use Rattle.gx_ast.specs.declared.query.Definition.{Definition}
use Rattle.gx_ast.specs.declared.query.DefinitionNode.{DefinitionNode}
use Rattle.gx_ast.specs.declared.query.DefinitionNode.TheVariants as definitions
use Rattle.gx_ast.specs.declared.query.Initialiser.TheVariants as initial
use Rattle.gx_ast.specs.declared.query.Parameter.{Parameter}
use Rattle.gx_ast.specs.declared.query.Query.{Query}
use Rattle.gx_ast.specs.declared.sequence_type.Indicator.TheVariants as indicated
use Rattle.gx_ast.specs.declared.sequence_type.KindTest.{KindTest}
use Rattle.gx_ast.specs.declared.sequence_type.KindTest.TheVariants as kinds
use Rattle.gx_ast.specs.declared.sequence_type.ItemType.TheVariants as written
use Rattle.gx_ast.specs.declared.sequence_type.SequenceType.{SequenceType as WrittenType}
use Rattle.gx_ast.specs.declared.sequence_type.SequenceType.TheVariants as sequences
use Rattle.gx_ast.specs.SyntaxTree.{SyntaxTree}
use Rattle.gx_types.specs.SameItemType.{same_type_name}
use Rattle.gx_types.specs.SchemaSet.{SchemaSet, global_type}
use Rattle.gx_names_scope.specs.declared.refusal.Refusal.{Refusal}
use Rattle.gx_resolved.specs.NestedMap.{innermost_value}
use Rattle.gx_names_scope.specs.declared.signature.Signature.{Signature}
use Rattle.gx_names_scope.specs.Signature.{same_signature}
use Rattle.gx_names_uses.specs.declared.uses.Use.{Use}
use Rattle.gx_names_scope.specs.Environment.{Namespaces, Functions, Variables, Environment, is_word, plain_name, called_name, called_in, or_nameless, binder_of, with_variable, without_variable}
use Rattle.gx_names_scope.specs.Refusing.{refused_if, prefix_refusals}
use Rattle.gx_names_types.specs.TypeNames.{written_type_refusals, element_tested}
use Rattle.gx_names_trees.specs.TreeRefusals.{binder_refusals, tree_refusals}
use Rattle.gx_names_uses.specs.Uses.{tree_uses}
use Rattle.gx_names_uses.specs.Reaching.{Bodies, calls_are_settled}
use Rattle.gx_names.specs.SettingRefusals.{settings_refusals, prolog_environment}

-- ---- the functions that are declared, which are in scope everywhere

abbrev pub with_function : Option Name → (arity : ℕ) → Place → Functions → Functions
with_function None arity place functions = functions
with_function (Some name) arity place functions = (record { name = name; arity = arity }, place) ∷ functions

abbrev pub with_signature : Option Signature → Place → Functions → Functions
with_signature None place functions = functions
with_signature (Some signature) place functions = (signature, place) ∷ functions

abbrev pub functions_with : Namespaces → Place → DefinitionNode → Functions → Functions
functions_with namespaces place (definitions.Function name parameters result body) functions =
    with_function (called_in namespaces name) (length parameters) place functions
functions_with namespaces place _ functions = functions

abbrev pub functions_after : Namespaces → List Definition → Functions → Functions
functions_after namespaces [] functions = functions
functions_after namespaces (definition ∷ others) functions =
    functions_after namespaces others (functions_with namespaces definition.place definition.node functions)

abbrev pub with_functions : List Definition → Environment → Environment
with_functions definitions environment = record environment { functions = functions_after environment.namespaces definitions environment.functions }

-- ---- variables

-- a variable that is declared twice
abbrev pub doubled_name : Place → Variables → Option Name → List Refusal
doubled_name place variables None = []
doubled_name place variables (Some name) = refused_if (is_some (binder_of variables name)) place XQST0049

abbrev pub doubled_variable : Environment → Place → Variable → List Refusal
doubled_variable environment place binder = doubled_name place environment.variables (plain_name environment binder.name)

-- an external variable is a document: one whose element is global and of its declared type, or untyped, or of any element
abbrev pub is_declared_type : Option TypeName → TypeName → Bool
is_declared_type None kind = false
is_declared_type (Some declared) kind = same_type_name declared kind

abbrev pub is_document_element : Environment → Option Name × TypeName → Bool
is_document_element environment (None, kind) = same_type_name kind (names.Builtin builtins.Untyped)
is_document_element environment (Some name, kind) = is_declared_type (global_type environment.schemas name) kind

abbrev pub is_document_test : Environment → KindTest → Bool
is_document_test environment (kinds.Document place) = true
is_document_test environment (kinds.DocumentOf place inner tested) = is_document_element environment (element_tested environment tested)
is_document_test environment (kinds.DocumentOfDeclared place inner name) = true
is_document_test environment _ = false

abbrev pub is_document_type : Environment → Option WrittenType → Bool
is_document_type environment (Some (sequences.Items (written.Kind test) indicated.Once)) = is_document_test environment test
is_document_type environment _ = false

abbrev pub external_refusals : Environment → Place → Variable → Option WrittenType → List Refusal
external_refusals environment place binder kind =
    doubled_variable environment place binder ++ refused_if (not (is_document_type environment kind)) place GLXS0004

-- ---- functions

-- the namespaces of schemas
unfoldable pub is_schema_namespace : List ℕ → Bool
is_schema_namespace uri = is_word uri (codes "http://www.w3.org/2001/XMLSchema") || is_word uri (codes "http://www.w3.org/2001/XMLSchema-instance")

-- those of XML and of the functions of the standard
unfoldable pub is_standard_namespace : List ℕ → Bool
is_standard_namespace uri = is_word uri (codes "http://www.w3.org/XML/1998/namespace") || is_word uri (codes "http://www.w3.org/2005/xpath-functions")

-- no function is declared in these namespaces
unfoldable pub is_kept_namespace : List ℕ → Bool
is_kept_namespace uri = is_schema_namespace uri || is_standard_namespace uri

-- a function that is declared twice, or in one of these namespaces
abbrev pub function_refusals : Functions → Place → Option Name → (arity : ℕ) → List Refusal
function_refusals earlier place None arity = []
function_refusals earlier place (Some name) arity =
    refused_if (is_some (innermost_value same_signature earlier (record { name = name; arity = arity }))) place XQST0034
    ++ refused_if (is_kept_namespace name.uri) place XQST0045

-- a parameter that is declared twice
abbrev pub doubled_parameter : Place → Variables → Option Name → List Refusal
doubled_parameter place seen None = []
doubled_parameter place seen (Some name) = refused_if (is_some (binder_of seen name)) place XQST0039

abbrev pub seen_with : Environment → Variable → Variables → Variables
seen_with environment binder seen = (or_nameless (plain_name environment binder.name), binder.place) ∷ seen

abbrev pub parameters_refusals : Environment → Variables → List Parameter → List Refusal
parameters_refusals environment seen [] = []
parameters_refusals environment seen (p ∷ ps) =
    (doubled_parameter p.variable.place seen (plain_name environment p.variable.name) ++ binder_refusals environment p.variable p.kind)
    ++ parameters_refusals environment (seen_with environment p.variable seen) ps

-- the name, the parameters and the type of the result
abbrev pub heading_refusals : Environment → QName → List Parameter → Option WrittenType → List Refusal
heading_refusals environment name parameters result =
    prefix_refusals (called_name environment name) name.place ++ (parameters_refusals environment [] parameters ++ written_type_refusals environment result)

abbrev pub with_parameters : List Parameter → Environment → Environment
with_parameters [] environment = environment
with_parameters (p ∷ ps) environment = with_parameters ps (with_variable p.variable environment)

abbrev pub without_parameters : List Parameter → Environment → Environment
without_parameters [] environment = environment
without_parameters (p ∷ ps) environment = without_parameters ps (without_variable environment)

-- ---- values

abbrev pub with_body : Option Name → (arity : ℕ) → List Use → Bodies → Bodies
with_body None arity used bodies = bodies
with_body (Some name) arity used bodies = (record { name = name; arity = arity }, used) ∷ bodies

-- what the bodies of functions use; no variable is in scope but their parameters
abbrev pub bodies_with : Environment → DefinitionNode → Bodies → Bodies
bodies_with environment (definitions.Function name parameters result body) bodies =
    with_body (called_name environment name) (length parameters) (tree_uses (with_parameters parameters environment) body) bodies
bodies_with environment _ bodies = bodies

abbrev pub bodies_after : Environment → List Definition → Bodies → Bodies
bodies_after environment [] bodies = bodies
bodies_after environment (definition ∷ others) bodies = bodies_after environment others (bodies_with environment definition.node bodies)

-- a value that calls, itself or through functions, one whose body names a variable that is not declared before
abbrev pub call_order_refusals : Environment → Bodies → Place → SyntaxTree → List Refusal
call_order_refusals environment bodies place value =
    refused_if (not (calls_are_settled environment.variables bodies (tree_uses environment value))) place XQST0054

-- ---- declarations of the second part: the variables in scope are those that are declared before

abbrev pub definition_refusals : Environment → Bodies → (earlier : Functions) → Place → DefinitionNode → List Refusal
definition_refusals environment bodies earlier place (definitions.Variable binder kind (initial.Value value)) =
    (doubled_variable environment place binder ++ call_order_refusals environment bodies place value)
    ++ (binder_refusals environment binder kind ++ tree_refusals environment value)
definition_refusals environment bodies earlier place (definitions.Variable binder kind initial.External) =
    external_refusals environment place binder kind ++ binder_refusals environment binder kind
definition_refusals environment bodies earlier place (definitions.Function name parameters result body) =
    function_refusals earlier place (called_name environment name) (length parameters)
    ++ (heading_refusals environment name parameters result ++ tree_refusals (with_parameters parameters environment) body)

-- what names stand for behind a declaration
abbrev pub definition_scope : DefinitionNode → Environment → Environment
definition_scope (definitions.Variable binder kind initialiser) environment = with_variable binder environment
definition_scope (definitions.Function name parameters result body) environment = environment

abbrev pub scope_after : List Definition → Environment → Environment
scope_after [] environment = environment
scope_after (definition ∷ others) environment = scope_after others (definition_scope definition.node environment)

abbrev pub definitions_refusals : List Definition → Bodies → (earlier : Functions) → Environment → List Refusal
definitions_refusals [] bodies earlier environment = []
definitions_refusals (definition ∷ others) bodies earlier environment =
    definition_refusals environment bodies earlier definition.place definition.node
    ++ definitions_refusals others bodies (functions_with environment.namespaces definition.place definition.node earlier) (definition_scope definition.node environment)

-- the second part of the prolog, and then the body
abbrev pub main_refusals : Environment → List Definition → SyntaxTree → List Refusal
main_refusals environment definitions body =
    definitions_refusals definitions (bodies_after environment definitions []) [] environment ++ tree_refusals (scope_after definitions environment) body

-- a whole query
abbrev pub query_refusals : SchemaSet → Query → List Refusal
query_refusals schemas query =
    settings_refusals [] [] schemas.targets query.settings
    ++ main_refusals (with_functions query.definitions (prolog_environment schemas query.settings)) query.definitions query.body
