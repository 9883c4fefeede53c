-- Soundness where variables have types of their own: no expression goes wrong, each value belongs to its type, what operators bind belongs to
-- the types of the variables, and arguments to those of the parameters.
use Rattle.std.specs.Prelude.{List, [], ◌∷◌, ◌++◌, None, Some, if◌then◌else◌}
use Rattle.gx_types.specs.SchemaSet.{SchemaSet}
use Rattle.gx_types.specs.SequenceType.{SequenceType}
use Rattle.gx_model.specs.Forest.{Forest}
use Rattle.gx_model.specs.Honest.{IsHonest}
use Rattle.gx_model.specs.Item.{Items}
use Rattle.gx_model.specs.Belongs.{Belongs}
use Rattle.gx_core.specs.declared.expression.Declaration.TheVariants.{Global, Function}
use Rattle.gx_core.specs.declared.operator.Operator.{Operator}
use Rattle.gx_core.specs.declared.operator.Operator.TheVariants as operators
use Rattle.gx_core.specs.declared.signature.FunctionSignature.{FunctionSignature}
use Rattle.gx_core.specs.Queries.{TypedCore, TypedDeclaration, TypedFunction}
use Rattle.gx_core.specs.CalledFunctions.{AllCalls}
use Rattle.gx_core.specs.Converting.{converted, arguments_converted}
use Rattle.gx_core.specs.Expression.{Expression, At, Parts, no_parts, a_part, each_of, annotation_of}
use Rattle.gx_core.specs.Bindings.{Types}
use Rattle.gx_core.specs.FreeVariables.{is_free_in}
use Rattle.gx_core.specs.Meaning.{CallOutcomes}
use Rattle.gx_core.specs.QueryMeaning.{global_types, types_declared, parameter_types, functions_declared, CallsCallable}
use Rattle.gx_core.specs.Soundness.{TypedExpression, Setting, typed_setting, KeepsFact, AreOfTypes, Keeps, IsSound}
use Rattle.gx_plan.specs.Fitting.{IsWellBound}

-- ---- expressions

-- the types that an operator gives the variables which it binds for its next part, from the types of the parts before that one
abbrev pub Binders : Type 0
Binders = Operator → List SequenceType → Types

-- the setting of an expression whose variables have these types
abbrev pub carrying_setting : SchemaSet → Binders → (known : List FunctionSignature) → CallOutcomes → Setting
carrying_setting schemas binders known calls = record { schemas = schemas; binders = binders; known = known; calls = calls }

-- the values of the operands of a call are converted to values of the types of the parameters
abbrev pub TakesItsArguments : SchemaSet → Operator → (operands : List SequenceType) → Type 0
TakesItsArguments schemas (operators.User signature count) operands =
    (forest : Forest) (values : List Items) → IsHonest schemas forest → AreOfTypes schemas operands forest values
    → KeepsFact (typed_setting schemas) forest (AreOfTypes schemas signature.parameters)
    (arguments_converted schemas signature.parameters values forest)
TakesItsArguments schemas operator operands = Unit {0}

-- so are those of each call in an expression
abbrev mutual
  pub CallsTakeTheirArguments : SchemaSet → TypedExpression → Type 0
  CallsTakeTheirArguments schemas (At place outer kind operator parts) =
      TakesItsArguments schemas operator (each_of annotation_of parts) × CallsInPartsTakeTheirArguments schemas parts

  pub CallsInPartsTakeTheirArguments : SchemaSet → Parts SequenceType → Type 0
  CallsInPartsTakeTheirArguments schemas no_parts = Unit {0}
  CallsInPartsTakeTheirArguments schemas (a_part first others) =
      CallsTakeTheirArguments schemas first × CallsInPartsTakeTheirArguments schemas others

-- whatever functions an expression may call, where calls of these keep their types, it is sound and what it binds fits; and its calls take
-- their arguments
pub record IsFullySound (schemas : SchemaSet) (binders : Binders) (e : TypedExpression) (types : Types) : Type 0 where
  pub arguments : CallsTakeTheirArguments schemas e
  pub sound : (known : List FunctionSignature) (calls : CallOutcomes) → AllCalls known e
      → IsSound (carrying_setting schemas binders known calls) e types
  pub well_bound : (known : List FunctionSignature) (calls : CallOutcomes) → AllCalls known e
      → IsWellBound (carrying_setting schemas binders known calls) e types

-- ---- whole queries

-- the types of those variables that an expression names and does not bind
abbrev pub types_named : {A : Type 0} → Expression A → Types → Types
types_named e [] = []
types_named e (binding ∷ types) = if is_free_in e binding.0 then binding ∷ types_named e types else types_named e types

-- the types of the variables that the body of a function names, where globals of these types are declared before it
abbrev pub body_types : TypedFunction → (before : Types) → Types
body_types function before = types_named function.body (parameter_types function.parameters ++ before)

-- the value of the body of a function can be converted to the type of the result
abbrev pub ConvertsItsResult : SchemaSet → TypedFunction → Type 0
ConvertsItsResult schemas function =
    (forest : Forest) (value : Items) → IsHonest schemas forest → Belongs schemas forest value (annotation_of function.body)
    → Keeps (typed_setting schemas) forest function.result (converted schemas function.result value forest)

-- the body of a function is sound where those variables alone that it names have types
pub record IsFullySoundFunction (schemas : SchemaSet) (binders : Binders) (function : TypedFunction) (before : Types) : Type 0 where
  pub body : IsFullySound schemas binders function.body (body_types function before)
  pub converts : ConvertsItsResult schemas function

abbrev pub IsFullySoundDeclaration : SchemaSet → Binders → List (TypedFunction × Types) → TypedDeclaration → Types → Type 0
IsFullySoundDeclaration schemas binders functions (Global name binder (Some value)) types =
    IsFullySound schemas binders value types × CallsCallable functions types value
IsFullySoundDeclaration schemas binders functions (Global name binder None) types = Unit {0}
IsFullySoundDeclaration schemas binders functions (Function function) types = IsFullySoundFunction schemas binders function types

-- each declaration, under the types of the globals before it
abbrev pub DeclarationsAreFullySound : SchemaSet → Binders → List (TypedFunction × Types) → List TypedDeclaration → Types → Type 0
DeclarationsAreFullySound schemas binders functions [] types = Unit {0}
DeclarationsAreFullySound schemas binders functions (declaration ∷ others) types =
    IsFullySoundDeclaration schemas binders functions declaration types
    × DeclarationsAreFullySound schemas binders functions others (global_types declaration ++ types)

pub record IsFullySoundQuery (schemas : SchemaSet) (binders : Binders) (query : TypedCore) : Type 0 where
  pub declarations : DeclarationsAreFullySound schemas binders (functions_declared query.declarations []) query.declarations []
  pub body : IsFullySound schemas binders query.body (types_declared query.declarations [])
  pub calls : CallsCallable (functions_declared query.declarations []) (types_declared query.declarations []) query.body
