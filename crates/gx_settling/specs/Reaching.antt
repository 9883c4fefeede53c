-- The functions that the evaluation of an expression reaches, and the global variables that these name (XQuery 1.0, section 4.14).
use Rattle.std.specs.Prelude.{ℕ, nat_eq, Bool, false, List, [], ◌++◌, map, Option, None, Some, is_some}
use Rattle.std.specs.List.{slice_get, filter, list_all, flat_map}
use Rattle.indexmap.specs.IndexSet.{insert_all}
use Rattle.gx_closure.specs.Closure.{closure_from}
use Rattle.gx_core.specs.declared.expression.DeclaredFunction.{DeclaredFunction}
use Rattle.gx_core.specs.Expression.{Expression}
use Rattle.gx_core.specs.Queries.{CoreDeclaration}
use Rattle.gx_core.specs.Bindings.{look_up, Types}
use Rattle.gx_core.specs.Functions.{functions_of}
use Rattle.gx_core.specs.Invariant.{is_among, scope_behind}
use Rattle.gx_settling.specs.declared.functions.FunctionUse.{FunctionUse}
use Rattle.gx_settling.specs.Uses.{called_by, variables_named}

-- without those that stand before
abbrev pub numbers_once : List ℕ → List ℕ
numbers_once numbers = insert_all nat_eq [] numbers

-- the functions that the body of a function calls, and those of these global variables that it names
abbrev pub function_use : {A : Type 0} → (globals : List ℕ) → DeclaredFunction A → FunctionUse
function_use globals function =
    record { calls = numbers_once (called_by function.body); globals = numbers_once (filter (is_among globals) (variables_named function.body)) }

-- of each function of a query, in the order of their declarations
unfoldable pub function_uses : List CoreDeclaration → List FunctionUse
function_uses declarations = map (function_use (scope_behind declarations [])) (functions_of declarations)

-- the functions that the function with this number calls
abbrev pub called_in_body : Option FunctionUse → List ℕ
called_in_body None = []
called_in_body (Some used) = used.calls

abbrev pub called_from : List FunctionUse → ℕ → List ℕ
called_from uses number = called_in_body (slice_get uses number)

-- the functions that are called first, and all that these call in turn
abbrev pub functions_reached : List FunctionUse → (first : List ℕ) → List ℕ
functions_reached uses first =
    closure_from nat_eq (called_from uses) (first ++ flat_map (λ (used : FunctionUse). used.calls) uses) first

-- the global variables that a function names are in scope
abbrev pub names_bound : Types → Option FunctionUse → Bool
names_bound types None = false
names_bound types (Some used) = list_all (λ number. is_some (look_up types number)) used.globals

-- each function that the evaluation of an expression reaches, directly or through functions, is declared, and names global variables
-- in scope alone
unfoldable pub may_be_evaluated : {A : Type 0} → List FunctionUse → Types → Expression A → Bool
may_be_evaluated uses types e = list_all (λ number. names_bound types (slice_get uses number)) (functions_reached uses (called_by e))
