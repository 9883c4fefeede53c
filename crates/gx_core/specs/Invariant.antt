-- What a Core keeps to: each variable stands in the scope of its binder, and no number is bound twice; each literal is a string or a
-- number, each call has the arguments of a function of the table, and each switch a branch for each case and for the default.
use Rattle.std.specs.Prelude.{◌≡◌, ◌≢◌, ℕ, ◌+◌, nat_eq, Bool, true, false, List, [], ◌∷◌, ◌++◌, length, map, Option, None, Some, is_some, All}
use Rattle.std.specs.Bool.{IsTrue}
use Rattle.std.specs.List.{list_any}
use Rattle.gx_base.specs.declared.type_name.Builtin.TheVariants as builtins
use Rattle.gx_base.specs.declared.type_name.TypeName.{TypeName}
use Rattle.gx_base.specs.declared.type_name.TypeName.TheVariants as names
use Rattle.gx_num.specs.declared.Number.TheVariants.{Int, Dec}
use Rattle.gx_facets.specs.declared.Atomic.{Atomic}
use Rattle.gx_facets.specs.declared.AtomValue.{AtomValue}
use Rattle.gx_facets.specs.declared.AtomValue.TheVariants.{Untyped, Str, Truth, Num}
use Rattle.gx_funcs.specs.declared.function.Function.{Function}
use Rattle.gx_funcs.specs.declared.function.Function.TheVariants as functions
use Rattle.gx_funcs.specs.Function.{arity_of}
use Rattle.gx_core.specs.declared.operator.Operator.{Operator}
use Rattle.gx_core.specs.declared.operator.Operator.TheVariants as operators
use Rattle.gx_core.specs.Queries.{Core, CoreDeclaration}
use Rattle.gx_core.specs.declared.expression.Binder.{Binder}
use Rattle.gx_core.specs.declared.expression.Declaration.TheVariants.{Global}
use Rattle.gx_core.specs.declared.expression.Declaration.TheVariants as declarations
use Rattle.gx_core.specs.declared.signature.FunctionSignature.{FunctionSignature}
use Rattle.gx_core.specs.CalledFunctions.{IsCallOf, AllCalls, signatures_from}
use Rattle.gx_core.specs.Functions.{functions_of}
use Rattle.gx_core.specs.Expression.{Expression, At, Parts, no_parts, a_part, CoreExpression}
use Rattle.gx_core.specs.Bindings.{numbers_bound_by, numbers_new_in}

abbrev pub is_among : List ℕ → ℕ → Bool
is_among numbers number = list_any (λ other. nat_eq other number) numbers

-- an operator that is a variable is one of those in scope
abbrev pub IsInScope : List ℕ → Operator → Type 0
IsInScope scope (operators.Var number) = is_among scope number ≡ true
IsInScope scope (operators.Step axis asks number) = is_among scope number ≡ true
IsInScope scope _ = Unit {0}

-- each variable is one of those in scope, or stands in the scope of its binder
abbrev mutual
  pub IsScoped : {A : Type 0} → List ℕ → Expression A → Type 0
  IsScoped scope (At place outer annotation operator parts) = IsInScope scope operator × ArePartsScoped scope operator [] parts

  pub ArePartsScoped : {A : Type 0} → List ℕ → Operator → (before : List (Unit {0})) → Parts A → Type 0
  ArePartsScoped scope operator before no_parts = Unit {0}
  ArePartsScoped scope operator before (a_part first others) =
      IsScoped (numbers_bound_by operator before ++ scope) first × ArePartsScoped scope operator (before ++ tt ∷ []) others

-- the numbers that an expression binds
abbrev mutual
  pub numbers_bound : {A : Type 0} → Expression A → List ℕ
  numbers_bound (At place outer annotation operator parts) = numbers_bound_in operator [] parts

  pub numbers_bound_in : {A : Type 0} → Operator → (before : List (Unit {0})) → Parts A → List ℕ
  numbers_bound_in operator before no_parts = []
  numbers_bound_in operator before (a_part first others) =
      numbers_new_in operator before ++ numbers_bound first ++ numbers_bound_in operator (before ++ tt ∷ []) others

-- none of the numbers stands twice
abbrev pub AreDistinct : List ℕ → Type 0
AreDistinct [] = Unit {0}
AreDistinct (number ∷ numbers) = (is_among numbers number ≡ false) × AreDistinct numbers

-- the variables of a whole Core
pub record HasVariablesInOrder {A : Type 0} (e : Expression A) : Type 0 where
  pub scoped : IsScoped [] e
  pub once : AreDistinct (numbers_bound e)

-- ---- whole queries

-- the numbers in scope behind declarations
abbrev pub scope_behind : List CoreDeclaration → List ℕ → List ℕ
scope_behind [] scope = scope
scope_behind (Global name binder value ∷ others) scope = scope_behind others (binder.variable ∷ scope)
scope_behind (declarations.Function function ∷ others) scope = scope_behind others scope

-- the numbers of parameters
abbrev pub parameter_numbers : List Binder → List ℕ
parameter_numbers parameters = map (λ (parameter : Binder). parameter.variable) parameters

abbrev pub IsScopedValue : List ℕ → Option CoreExpression → Type 0
IsScopedValue scope None = Unit {0}
IsScopedValue scope (Some value) = IsScoped scope value

-- each value stands in the scope of the globals before it, and each body in that of its parameters besides
abbrev pub AreValuesScoped : List ℕ → List CoreDeclaration → Type 0
AreValuesScoped scope [] = Unit {0}
AreValuesScoped scope (Global name binder value ∷ others) = IsScopedValue scope value × AreValuesScoped (binder.variable ∷ scope) others
AreValuesScoped scope (declarations.Function function ∷ others) =
    IsScoped (parameter_numbers function.parameters ++ scope) function.body × AreValuesScoped scope others

abbrev pub value_numbers : Option CoreExpression → List ℕ
value_numbers None = []
value_numbers (Some value) = numbers_bound value

-- the numbers that declarations bind, and their values and bodies
abbrev pub declared_numbers : List CoreDeclaration → List ℕ
declared_numbers [] = []
declared_numbers (Global name binder value ∷ others) = value_numbers value ++ binder.variable ∷ declared_numbers others
declared_numbers (declarations.Function function ∷ others) = parameter_numbers function.parameters ++ numbers_bound function.body ++ declared_numbers others

-- a global variable has a value, or its declaration has a type; each parameter has one
abbrev pub HasValueOrType : CoreDeclaration → Type 0
HasValueOrType (Global name binder (Some value)) = Unit {0}
HasValueOrType (Global name binder None) = IsTrue (is_some binder.kind)
HasValueOrType (declarations.Function function) = All (λ (parameter : Binder). IsTrue (is_some parameter.kind)) function.parameters

-- the variables of a whole query; 0 is none of them
pub record HasQueryVariablesInOrder (core : Core) : Type 0 where
  pub values : AreValuesScoped [] core.declarations
  pub body : IsScoped (scope_behind core.declarations []) core.body
  pub once : AreDistinct (declared_numbers core.declarations ++ numbers_bound core.body)
  pub none : is_among (declared_numbers core.declarations ++ numbers_bound core.body) 0 ≡ false
  pub externals : All HasValueOrType core.declarations

-- ---- literals, calls and cases

-- the value of a literal is a string, an integer or a decimal, and the type is that of the value
abbrev pub IsCoreLiteralOf : AtomValue → TypeName → Type 0
IsCoreLiteralOf (Str text) kind = kind ≡ names.Builtin builtins.Str
IsCoreLiteralOf (Num (Int i)) kind = kind ≡ names.Builtin builtins.Integer
IsCoreLiteralOf (Num (Dec units)) kind = kind ≡ names.Builtin builtins.Decimal
IsCoreLiteralOf (Untyped text) kind = ⊥
IsCoreLiteralOf (Truth truth) kind = ⊥

abbrev pub IsCoreLiteral : Atomic → Type 0
IsCoreLiteral literal = IsCoreLiteralOf literal.value literal.kind

-- a call of a function of the table with its number of arguments; `data` is an operator of its own, and `position` and `last` are
-- variables
pub record IsTableCall (function : Function) (arguments : ℕ) : Type 0 where
  pub not_data : function ≢ functions.Data
  pub not_position : function ≢ functions.Position
  pub not_last : function ≢ functions.Last
  pub all : arguments ≡ arity_of function

-- an operator over this number of parts, where these functions are declared
abbrev pub IsWellFormedOver : List FunctionSignature → Operator → (parts : ℕ) → Type 0
IsWellFormedOver known (operators.Lit value) parts = IsCoreLiteral value
IsWellFormedOver known (operators.Call function) parts = IsTableCall function parts
IsWellFormedOver known (operators.Switch cases default) parts = parts ≡ 2 + length cases
IsWellFormedOver known (operators.User signature count) parts = IsCallOf known (operators.User signature count)
IsWellFormedOver known _ parts = Unit {0}

abbrev pub number_of_parts : {A : Type 0} → Parts A → ℕ
number_of_parts no_parts = 0
number_of_parts (a_part first others) = 1 + number_of_parts others

-- an expression and all that stand in it
abbrev mutual
  pub IsWellFormedExpression : {A : Type 0} → List FunctionSignature → Expression A → Type 0
  IsWellFormedExpression known (At place outer annotation operator parts) =
      IsWellFormedOver known operator (number_of_parts parts) × ArePartsWellFormed known parts

  pub ArePartsWellFormed : {A : Type 0} → List FunctionSignature → Parts A → Type 0
  ArePartsWellFormed known no_parts = Unit {0}
  ArePartsWellFormed known (a_part first others) = IsWellFormedExpression known first × ArePartsWellFormed known others

abbrev pub AreValuesWellFormed : List FunctionSignature → List CoreDeclaration → Type 0
AreValuesWellFormed known [] = Unit {0}
AreValuesWellFormed known (Global name binder None ∷ others) = AreValuesWellFormed known others
AreValuesWellFormed known (Global name binder (Some value) ∷ others) = IsWellFormedExpression known value × AreValuesWellFormed known others
AreValuesWellFormed known (declarations.Function function ∷ others) =
    IsWellFormedExpression known function.body × AreValuesWellFormed known others

-- each value and each body calls functions of the query alone
abbrev pub CallsInDeclarations : (known : List FunctionSignature) → List CoreDeclaration → Type 0
CallsInDeclarations known [] = Unit {0}
CallsInDeclarations known (Global name binder None ∷ others) = CallsInDeclarations known others
CallsInDeclarations known (Global name binder (Some value) ∷ others) = AllCalls known value × CallsInDeclarations known others
CallsInDeclarations known (declarations.Function function ∷ others) = AllCalls known function.body × CallsInDeclarations known others

-- the signatures of the functions of a query
abbrev pub query_signatures : Core → List FunctionSignature
query_signatures core = signatures_from 0 (functions_of core.declarations)

-- the literals, the calls and the cases of a whole query; each call of a declared function names one of the query, with all its arguments
pub record IsWellFormedQuery (core : Core) : Type 0 where
  pub values : AreValuesWellFormed (query_signatures core) core.declarations
  pub body : IsWellFormedExpression (query_signatures core) core.body

-- each call of a declared function names one of the query, with all its arguments
pub record CallsDeclaredFunctions (core : Core) : Type 0 where
  pub declarations : CallsInDeclarations (query_signatures core) core.declarations
  pub body : AllCalls (query_signatures core) core.body
