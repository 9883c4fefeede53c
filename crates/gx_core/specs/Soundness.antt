-- When a typed Core is sound: no expression goes wrong, and each value belongs to the type of its expression.
use Rattle.std.specs.Prelude.{◌≡◌, ℕ, List, [], ◌∷◌, ◌++◌, Some, Contains}
use Rattle.gx_types.specs.SchemaSet.{SchemaSet}
use Rattle.gx_types.specs.SequenceType.{SequenceType}
use Rattle.gx_model.specs.Forest.{Forest}
use Rattle.gx_model.specs.Honest.{IsHonest}
use Rattle.gx_model.specs.Item.{Items}
use Rattle.gx_model.specs.Belongs.{Belongs}
use Rattle.gx_model.specs.Growth.{Extends}
use Rattle.gx_base.specs.declared.code.Code.TheVariants.{GLXD0001}
use Rattle.gx_core.specs.declared.operator.Operator.{Operator}
use Rattle.gx_core.specs.declared.signature.FunctionSignature.{FunctionSignature}
use Rattle.gx_core.specs.CalledFunctions.{AllCalls}
use Rattle.gx_core.specs.Expression.{Expression, At, Parts, no_parts, a_part, annotation_of}
use Rattle.gx_core.specs.Bindings.{look_up, Types, types_bound}
use Rattle.gx_core.specs.Outcome.{Outcome, gives, raises, wrong}
use Rattle.gx_core.specs.Meaning.{CallOutcomes, Context, Bindings, meaning}

abbrev pub TypedExpression : Type 0
TypedExpression = Expression SequenceType

-- what typing knows of a query: its schemas, the types that an operator gives the variables which it binds for its next part, from the
-- types of the parts before that one, and which functions may be called, and what calls of them come to
pub record Setting : Type 0 where
  pub schemas : SchemaSet
  pub binders : Operator → List SequenceType → Types
  pub known : List FunctionSignature
  pub calls : CallOutcomes

-- the setting of an expression with the types that the static rules give it, where it may call functions
abbrev pub calling_setting : SchemaSet → (known : List FunctionSignature) → CallOutcomes → Setting
calling_setting schemas known calls = record { schemas = schemas; binders = types_bound; known = known; calls = calls }

-- no call may be active
abbrev pub no_calls : CallOutcomes
no_calls signature values forest = raises GLXD0001

-- where no function may be called
abbrev pub typed_setting : SchemaSet → Setting
typed_setting schemas = calling_setting schemas [] no_calls

abbrev pub context_of : Setting → Context
context_of setting = record { schemas = setting.schemas; calls = setting.calls }

-- what an outcome leaves: the forest has grown, and is honest, and there is a fact about the result
pub record Leaves {R : Type 0} (schemas : SchemaSet) (before : Forest) (Fact : Forest → R → Type 0) (result : R) (now : Forest) : Type 0 where
  pub grown : Extends before now
  pub honest : IsHonest schemas now
  pub fact : Fact now result

-- an outcome keeps a fact: it is no type error, and where it gives a result, the fact holds of the result
abbrev pub KeepsFact : {R : Type 0} → Setting → (before : Forest) → (Fact : Forest → R → Type 0) → Outcome R → Type 0
KeepsFact setting before Fact (gives result now) = Leaves setting.schemas before Fact result now
KeepsFact setting before Fact (raises code) = Unit {0}
KeepsFact setting before Fact wrong = ⊥

-- a value belongs to a type
abbrev pub IsOfType : SchemaSet → SequenceType → Forest → Items → Type 0
IsOfType schemas t forest value = Belongs schemas forest value t

-- values belong to types, each to its own
abbrev pub AreOfTypes : SchemaSet → List SequenceType → Forest → List Items → Type 0
AreOfTypes schemas [] forest [] = Unit {0}
AreOfTypes schemas (t ∷ types) forest (value ∷ values) = Belongs schemas forest value t × AreOfTypes schemas types forest values
AreOfTypes schemas [] forest (value ∷ values) = ⊥
AreOfTypes schemas (t ∷ types) forest [] = ⊥

-- an outcome keeps a type
abbrev pub Keeps : Setting → (before : Forest) → SequenceType → Outcome Items → Type 0
Keeps setting before t outcome = KeepsFact setting before (IsOfType setting.schemas t) outcome

-- a variable is bound to a value of this type
pub record IsBoundTo (schemas : SchemaSet) (forest : Forest) (bindings : Bindings) (number : ℕ) (t : SequenceType) : Type 0 where
  pub value : Items
  pub bound : look_up bindings number ≡ Some value
  pub belongs : Belongs schemas forest value t

-- each variable that has a type is bound to a value of it
abbrev pub Fits : SchemaSet → Forest → Types → Bindings → Type 0
Fits schemas forest types bindings =
    (number : ℕ) (t : SequenceType) → look_up types number ≡ Some t → IsBoundTo schemas forest bindings number t

-- calls of the functions that may be called keep the types of their results, in this forest and in each one that grows from it
abbrev pub CallsKeepTypes : Setting → Forest → Type 0
CallsKeepTypes setting forest =
    (now : Forest) (signature : FunctionSignature) (values : List Items) → Contains setting.known signature → Extends forest now
    → IsHonest setting.schemas now → AreOfTypes setting.schemas signature.parameters now values
    → Keeps setting now signature.result (setting.calls signature values now)

-- all that an evaluation stands in
pub record Situation (setting : Setting) (types : Types) : Type 0 where
  pub bindings : Bindings
  pub forest : Forest
  pub honest : IsHonest setting.schemas forest
  pub fits : Fits setting.schemas forest types bindings
  pub calls_keep : CallsKeepTypes setting forest

-- wherever it stands, the outcome of an expression keeps its type
abbrev pub KeepsItsType : Setting → TypedExpression → Types → Type 0
KeepsItsType setting e types =
    (situation : Situation setting types)
    → Keeps setting situation.forest (annotation_of e) (meaning (context_of setting) e situation.bindings situation.forest)

-- an expression and all that stand in it keep their types
abbrev mutual
  pub IsSound : Setting → TypedExpression → Types → Type 0
  IsSound setting (At place outer kind operator parts) types =
      KeepsItsType setting (At place outer kind operator parts) types × PartsAreSound setting operator [] parts types

  pub PartsAreSound : Setting → Operator → (before : List SequenceType) → Parts SequenceType → Types → Type 0
  PartsAreSound setting operator before no_parts types = Unit {0}
  PartsAreSound setting operator before (a_part first others) types =
      IsSound setting first (setting.binders operator before ++ types)
      × PartsAreSound setting operator (before ++ annotation_of first ∷ []) others types

-- whatever functions it may call, where calls of these keep their types
abbrev pub IsSoundWithCalls : SchemaSet → TypedExpression → Types → Type 0
IsSoundWithCalls schemas e types =
    (known : List FunctionSignature) (calls : CallOutcomes) → AllCalls known e → IsSound (calling_setting schemas known calls) e types
