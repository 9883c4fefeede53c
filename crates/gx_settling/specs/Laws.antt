-- Laws of the functions that the evaluation of an expression reaches.
use Rattle.std.specs.Prelude.{◌≡◌, ℕ, true, false, List, [], ◌∷◌, ◌++◌, Some, is_some, map, Contains}
use Rattle.std.specs.List.{slice_get}
use Rattle.gx_types.specs.SequenceType.{SequenceType}
use Rattle.gx_core.specs.declared.expression.Declaration.TheVariants.{Global, Function}
use Rattle.gx_core.specs.declared.signature.FunctionSignature.{FunctionSignature}
use Rattle.gx_core.specs.Expression.{Expression, plain}
use Rattle.gx_core.specs.Queries.{CoreFunction, TypedFunction, CoreDeclaration, TypedDeclaration}
use Rattle.gx_core.specs.Bindings.{look_up, Types}
use Rattle.gx_core.specs.Functions.{functions_of}
use Rattle.gx_core.specs.Invariant.{is_among, scope_behind, AreDistinct, declared_numbers, CallsInDeclarations}
use Rattle.gx_core.specs.CalledFunctions.{signature_of, signatures_from, AllCalls}
use Rattle.gx_core.specs.FreeVariables.{is_free_in}
use Rattle.gx_core.specs.Soundness.{TypedExpression}
use Rattle.gx_core.specs.QueryMeaning.{plain_declaration, global_types, types_declared, functions_declared, CallsCallable}
use Rattle.gx_settling.specs.Uses.{called_by, variables_named}
use Rattle.gx_settling.specs.Reaching.{function_uses, may_be_evaluated}

-- a function calls known functions alone, and the global variables that its body names are in scope
pub record IsSettledFunction (functions : List CoreFunction) (globals : List ℕ) (types : Types) (known : List FunctionSignature)
    (signature : FunctionSignature) : Type 0 where
  pub function : CoreFunction
  pub declared : slice_get functions signature.number ≡ Some function
  pub is : signature ≡ signature_of signature.number function
  pub calls : AllCalls known function.body
  pub named : (number : ℕ) → is_free_in function.body number ≡ true → is_among globals number ≡ true → is_some (look_up types number) ≡ true

-- an expression calls functions alone that are settled so
pub record CallsSettled {A : Type 0} (declarations : List CoreDeclaration) (types : Types) (e : Expression A) : Type 0 where
  pub known : List FunctionSignature
  pub calls : AllCalls known e
  pub settled : (signature : FunctionSignature) → Contains known signature
      → IsSettledFunction (functions_of declarations) (scope_behind declarations []) types known signature

abbrev pub declared_signatures : List CoreDeclaration → List FunctionSignature
declared_signatures declarations = signatures_from 0 (functions_of declarations)

-- in a query whose calls name its functions, an expression that may be evaluated calls settled functions alone
abbrev pub EvaluationIsSettled : Type 0 → Type 0
EvaluationIsSettled A =
    (declarations : List CoreDeclaration) (types : Types) (e : Expression A) → CallsInDeclarations (declared_signatures declarations) declarations
    → AllCalls (declared_signatures declarations) e → may_be_evaluated (function_uses declarations) types e ≡ true
    → CallsSettled declarations types e

-- a global variable that is in scope has the type that it has where a function is declared
abbrev pub KeepTheirTypes : List (TypedFunction × Types) → Types → Type 0
KeepTheirTypes functions types =
    (at : ℕ) (function : TypedFunction) (before : Types) → slice_get functions at ≡ Some (function, before)
    → (number : ℕ) (t : SequenceType) → look_up before number ≡ Some t → is_some (look_up types number) ≡ true → look_up types number ≡ Some t

-- and the functions may be called
abbrev pub EvaluationCallsCallable : Type 0
EvaluationCallsCallable =
    (declarations : List TypedDeclaration) (types : Types) (e : TypedExpression)
    → CallsInDeclarations (declared_signatures (map plain_declaration declarations)) (map plain_declaration declarations)
    → AllCalls (declared_signatures (map plain_declaration declarations)) e
    → may_be_evaluated (function_uses (map plain_declaration declarations)) types e ≡ true
    → KeepTheirTypes (functions_declared declarations []) types → CallsCallable (functions_declared declarations []) types e

-- ---- the types of global variables

abbrev pub global_numbers : List TypedDeclaration → List ℕ
global_numbers [] = []
global_numbers (Global name binder value ∷ others) = binder.variable ∷ global_numbers others
global_numbers (Function function ∷ others) = global_numbers others

-- none of the global variables is declared twice, and none of them has a type already
pub record AreNew (declarations : List TypedDeclaration) (types : Types) : Type 0 where
  pub once : AreDistinct (global_numbers declarations)
  pub fresh : (number : ℕ) → is_some (look_up types number) ≡ true → is_among (global_numbers declarations) number ≡ false

-- where no number is bound twice
abbrev pub GlobalsAreNew : Type 0
GlobalsAreNew =
    (declarations : List TypedDeclaration) (more : List ℕ) → AreDistinct (declared_numbers (map plain_declaration declarations) ++ more)
    → AreNew declarations []

-- those behind the first declaration are new still
abbrev pub OthersAreNew : Type 0
OthersAreNew =
    (declaration : TypedDeclaration) (others : List TypedDeclaration) (types : Types) → AreNew (declaration ∷ others) types
    → AreNew others (global_types declaration ++ types)

-- behind some of the declarations of a query, each global variable in scope has the type that it has where a function is declared
abbrev pub NewKeepTheirTypes : Type 0
NewKeepTheirTypes =
    (declarations rest : List TypedDeclaration) (types : Types) → AreNew declarations [] → AreNew rest types
    → types_declared declarations [] ≡ types_declared rest types → KeepTheirTypes (functions_declared declarations []) types

-- behind all declarations, each function may be called
abbrev pub BodyCallsCallable : Type 0
BodyCallsCallable =
    (declarations : List TypedDeclaration) (body : TypedExpression)
    → CallsInDeclarations (declared_signatures (map plain_declaration declarations)) (map plain_declaration declarations)
    → AllCalls (declared_signatures (map plain_declaration declarations)) body → AreNew declarations []
    → CallsCallable (functions_declared declarations []) (types_declared declarations []) body

-- ---- what an expression uses

-- what it carries is not looked at
pub record LooksAtNoAnnotation {A : Type 0} (e : Expression A) : Type 0 where
  pub called : called_by (plain e) ≡ called_by e
  pub named : variables_named (plain e) ≡ variables_named e
  pub free : (number : ℕ) → is_free_in (plain e) number ≡ is_free_in e number
  pub without : (known : List FunctionSignature) → AllCalls known e → AllCalls known (plain e)
  pub with : (known : List FunctionSignature) → AllCalls known (plain e) → AllCalls known e

abbrev pub UsesLookAtNoAnnotation : Type 0 → Type 0
UsesLookAtNoAnnotation A = (e : Expression A) → LooksAtNoAnnotation e

-- a variable that an expression names and does not bind is one that it names
abbrev pub FreeAreNamed : Type 0 → Type 0
FreeAreNamed A = (e : Expression A) (number : ℕ) → is_free_in e number ≡ true → is_among (variables_named e) number ≡ true
