-- The laws of typing: each operator keeps its type where its parts keep theirs, and so every typed Core is sound.
use Rattle.std.specs.Prelude.{◌≡◌, ◌≢◌, ℕ, ℤ, Bool, true, List, [], ◌∷◌, ◌++◌, map}
use Rattle.gx_base.specs.declared.place.Place.{Place}
use Rattle.gx_base.specs.declared.code.Code.{Code}
use Rattle.gx_base.specs.declared.code.Code.TheVariants.{XPST0008}
use Rattle.gx_base.specs.Code.{is_static}
use Rattle.gx_facets.specs.declared.Atomic.{Atomic}
use Rattle.gx_types.specs.SchemaSet.{SchemaSet}
use Rattle.gx_types.specs.declared.step.Axis.{Axis}
use Rattle.gx_types.specs.declared.step.Test.{Test}
use Rattle.gx_types.specs.Derivation.{bases_of}
use Rattle.gx_types.specs.Grounded.{Grounded}
use Rattle.gx_types.specs.SchemaInvariant.{IsSchemaSet}
use Rattle.gx_types.specs.SequenceType.{SequenceType}
use Rattle.gx_model.specs.Forest.{Forest}
use Rattle.gx_model.specs.Honest.{IsHonest}
use Rattle.gx_model.specs.Item.{Items}
use Rattle.gx_model.specs.Belongs.{Belongs}
use Rattle.gx_include.specs.Decision.{is_included}
use Rattle.gx_core.specs.declared.cases.TypeCase.{TypeCase}
use Rattle.gx_core.specs.declared.expression.Binder.{Binder}
use Rattle.gx_base.specs.declared.type_name.TypeName.{TypeName}
use Rattle.gx_atomic.specs.declared.comparison.Op.{Op}
use Rattle.gx_funcs.specs.declared.function.Function.{Function}
use Rattle.gx_core.specs.declared.expression.ArithmeticOp.{ArithmeticOp}
use Rattle.gx_core.specs.declared.expression.BinaryOp.{BinaryOp}
use Rattle.gx_core.specs.declared.expression.BinaryClass.{BinaryClass}
use Rattle.gx_core.specs.declared.expression.BinaryClass.TheVariants as classes
use Rattle.gx_core.specs.declared.expression.NodeComparison.{NodeComparison}
use Rattle.gx_core.specs.declared.expression.NodeCombination.{NodeCombination}
use Rattle.gx_core.specs.BinaryOperators.{class_of}
use Rattle.gx_core.specs.Converting.{converted}
use Rattle.gx_sorting.specs.declared.keys.KeyOrder.{KeyOrder}
use Rattle.gx_core.specs.declared.constructor.Constructor.{Constructor}
use Rattle.gx_core.specs.declared.operator.ClauseKind.{ClauseKind}
use Rattle.gx_core.specs.declared.operator.Operator.{Operator}
use Rattle.gx_core.specs.declared.operator.Operator.TheVariants as operators
use Rattle.gx_core.specs.Expression.{CoreExpression, At, Parts, no_parts, a_part, each_of, annotation_of, plain}
use Rattle.gx_core.specs.Bindings.{Types, types_bound}
use Rattle.gx_core.specs.FreeVariables.{FitsFree}
use Rattle.gx_core.specs.Invariant.{IsScoped}
use Rattle.gx_core.specs.Meaning.{CallOutcomes, Bindings, acts, meaning}
use Rattle.gx_core.specs.declared.signature.FunctionSignature.{FunctionSignature}
use Rattle.gx_core.specs.CalledFunctions.{IsCallOf, AllCalls}
use Rattle.gx_core.specs.Soundness.{TypedExpression, typed_setting, calling_setting, context_of, AreOfTypes, Keeps, KeepsItsType, CallsKeepTypes, IsSoundWithCalls}
use Rattle.gx_static.specs.Rule.{has_type, rule, ruling, converted_type}
use Rattle.gx_static.specs.Judgement.{typed, rejected, judged}
use Rattle.gx_static.specs.Failure.{FailsFirst}

-- what a strict operator that calls no declared function makes of values keeps the type of its rule, where the values belong to the types
-- of the parts
abbrev pub ActsKeepType : SchemaSet → Operator → Type 0
ActsKeepType schemas operator =
    (parts : List SequenceType) (t : SequenceType) (forest : Forest) (values : List Items) → rule schemas operator parts ≡ has_type t
    → IsHonest schemas forest → AreOfTypes schemas parts forest values
    → Keeps (typed_setting schemas) forest t (acts (context_of (typed_setting schemas)) operator values forest)

-- each part keeps its type, under what the operator binds for it, where these functions may be called
abbrev pub PartsKeepTypes : SchemaSet → (known : List FunctionSignature) → CallOutcomes → Operator → (before : List SequenceType)
    → Parts SequenceType → Types → Type 0
PartsKeepTypes schemas known calls operator before no_parts types = Unit {0}
PartsKeepTypes schemas known calls operator before (a_part first others) types =
    KeepsItsType (calling_setting schemas known calls) first (types_bound operator before ++ types)
    × PartsKeepTypes schemas known calls operator (before ++ annotation_of first ∷ []) others types

-- wherever the ruling gives an expression a type and its parts keep theirs, it keeps the type, where it calls none but known functions
abbrev pub OperatorKeepsType : SchemaSet → Operator → Type 0
OperatorKeepsType schemas operator =
    (known : List FunctionSignature) (calls : CallOutcomes) (parts : Parts SequenceType) (types : Types) (place outer : Place) (t : SequenceType)
    → ruling schemas operator (each_of annotation_of parts) types ≡ has_type t → IsCallOf known operator
    → PartsKeepTypes schemas known calls operator [] parts types
    → KeepsItsType (calling_setting schemas known calls) (At place outer t operator parts) types

abbrev pub LiteralKeepsType : Type 0
LiteralKeepsType = (schemas : SchemaSet) (value : Atomic) → ActsKeepType schemas (operators.Lit value)

abbrev pub VariableKeepsType : Type 0
VariableKeepsType = (schemas : SchemaSet) (number : ℕ) → OperatorKeepsType schemas (operators.Var number)

abbrev pub EmptyKeepsType : Type 0
EmptyKeepsType = (schemas : SchemaSet) → ActsKeepType schemas operators.Empty

abbrev pub SequenceKeepsType : Type 0
SequenceKeepsType = (schemas : SchemaSet) → ActsKeepType schemas operators.Seq

abbrev pub LetKeepsType : Type 0
LetKeepsType = (schemas : SchemaSet) (binder : Binder) → OperatorKeepsType schemas (operators.Let binder)

abbrev pub ForKeepsType : Type 0
ForKeepsType = (schemas : SchemaSet) (binder : Binder) (position : ℕ) → OperatorKeepsType schemas (operators.For binder position)

abbrev pub SomeKeepsType : Type 0
SomeKeepsType = (schemas : SchemaSet) (binder : Binder) → OperatorKeepsType schemas (operators.SomeIn binder)

abbrev pub EveryKeepsType : Type 0
EveryKeepsType = (schemas : SchemaSet) (binder : Binder) → OperatorKeepsType schemas (operators.EveryIn binder)

abbrev pub NthKeepsType : Type 0
NthKeepsType = (schemas : SchemaSet) (number : ℤ) (reverse : Bool) → ActsKeepType schemas (operators.Nth number reverse)

abbrev pub FinalKeepsType : Type 0
FinalKeepsType = (schemas : SchemaSet) (reverse : Bool) → ActsKeepType schemas (operators.Final reverse)

abbrev pub SwitchKeepsType : Type 0
SwitchKeepsType = (schemas : SchemaSet) (cases : List TypeCase) (default : ℕ) → OperatorKeepsType schemas (operators.Switch cases default)

abbrev pub BlockKeepsType : Type 0
BlockKeepsType = (schemas : SchemaSet) (clauses : List ClauseKind) (keys : List KeyOrder) → OperatorKeepsType schemas (operators.Block clauses keys)

abbrev pub StepKeepsType : Type 0
StepKeepsType = (schemas : SchemaSet) (axis : Axis) (asks : Test) (number : ℕ) → IsSchemaSet schemas → OperatorKeepsType schemas (operators.Step axis asks number)

abbrev pub NodesKeepType : Type 0
NodesKeepType = (schemas : SchemaSet) → Grounded (bases_of schemas) → ActsKeepType schemas operators.Nodes

abbrev pub OrderKeepsType : Type 0
OrderKeepsType = (schemas : SchemaSet) → Grounded (bases_of schemas) → ActsKeepType schemas operators.Order

abbrev pub NoContextKeepsType : Type 0
NoContextKeepsType = (schemas : SchemaSet) → ActsKeepType schemas operators.NoContext

abbrev pub DataKeepsType : Type 0
DataKeepsType = (schemas : SchemaSet) → IsSchemaSet schemas → ActsKeepType schemas operators.DataOf

-- the operators of two operands that do the same keep the type of their one rule
abbrev pub ClassKeepsType : BinaryClass → Type 0
ClassKeepsType class = (schemas : SchemaSet) (operator : BinaryOp) → class_of operator ≡ class → ActsKeepType schemas (operators.Binary operator)

abbrev pub ArithmeticKeepsType : Type 0
ArithmeticKeepsType = (operation : ArithmeticOp) → ClassKeepsType (classes.Arithmetic operation)

abbrev pub NegationKeepsType : Type 0
NegationKeepsType = (schemas : SchemaSet) → ActsKeepType schemas operators.Neg

abbrev pub ValueComparisonKeepsType : Type 0
ValueComparisonKeepsType = (op : Op) → ClassKeepsType (classes.Value op)

abbrev pub GeneralComparisonKeepsType : Type 0
GeneralComparisonKeepsType = (op : Op) → ClassKeepsType (classes.General op)

abbrev pub RangeKeepsType : Type 0
RangeKeepsType = ClassKeepsType classes.Range

-- the operators over nodes, where the types of the schemas end at built-in ones
abbrev pub NodeClassKeepsType : BinaryClass → Type 0
NodeClassKeepsType class = (schemas : SchemaSet) (operator : BinaryOp) → Grounded (bases_of schemas) → class_of operator ≡ class → ActsKeepType schemas (operators.Binary operator)

abbrev pub NodeComparisonKeepsType : Type 0
NodeComparisonKeepsType = (op : NodeComparison) → NodeClassKeepsType (classes.Nodes op)

abbrev pub NodeSetKeepsType : Type 0
NodeSetKeepsType = (op : NodeCombination) → NodeClassKeepsType (classes.Combination op)

abbrev pub ConditionalKeepsType : Type 0
ConditionalKeepsType = (schemas : SchemaSet) → OperatorKeepsType schemas operators.If

abbrev pub CastKeepsType : Type 0
CastKeepsType = (schemas : SchemaSet) (kind : TypeName) (allows_empty : Bool) → ActsKeepType schemas (operators.Cast kind allows_empty)

abbrev pub CastableKeepsType : Type 0
CastableKeepsType = (schemas : SchemaSet) (kind : TypeName) (allows_empty : Bool) → ActsKeepType schemas (operators.Castable kind allows_empty)

abbrev pub TreatKeepsType : Type 0
TreatKeepsType = (schemas : SchemaSet) (kind : SequenceType) → ActsKeepType schemas (operators.Treat kind)

abbrev pub CallKeepsType : Type 0
CallKeepsType = (schemas : SchemaSet) (function : Function) → IsSchemaSet schemas → ActsKeepType schemas (operators.Call function)

abbrev pub ConstructorKeepsType : Type 0
ConstructorKeepsType = (schemas : SchemaSet) (constructor : Constructor) (count : ℕ) → IsSchemaSet schemas → ActsKeepType schemas (operators.Construct constructor count)

-- a call keeps the type of the result where calls of known functions do
abbrev pub UserCallKeepsType : Type 0
UserCallKeepsType =
    (schemas : SchemaSet) (signature : FunctionSignature) (count : ℕ) → IsSchemaSet schemas → OperatorKeepsType schemas (operators.User signature count)

-- a value whose type, converted as an expected type asks for it, is included in the expected type comes, so converted, to a value of the
-- expected type, or a cast fails
abbrev pub ConvertedValuesBelong : Type 0
ConvertedValuesBelong =
    (schemas : SchemaSet) (expected given seen : SequenceType) (forest : Forest) (value : Items) → IsSchemaSet schemas → IsHonest schemas forest
    → converted_type schemas expected given ≡ has_type seen → is_included schemas seen expected ≡ true → Belongs schemas forest value given
    → Keeps (typed_setting schemas) forest expected (converted schemas expected value forest)

-- what is judged to have a type is the same tree with its types, and it is sound
pub record IsTypedSoundly (schemas : SchemaSet) (e : CoreExpression) (types : Types) (t : TypedExpression) : Type 0 where
  pub same : plain t ≡ e
  pub sound : IsSoundWithCalls schemas t types

abbrev pub TypingIsSound : Type 0
TypingIsSound =
    (schemas : SchemaSet) (e : CoreExpression) (types : Types) (t : TypedExpression) → IsSchemaSet schemas → judged schemas e types ≡ typed t → IsTypedSoundly schemas e types t

-- the value of an expression that is judged to have a type belongs to it also where those variables alone that the expression names and
-- does not bind are bound to values of their types, whatever functions it may call, where calls of these keep their types
abbrev pub TypingIsSoundOnFreeVariables : Type 0
TypingIsSoundOnFreeVariables =
    (schemas : SchemaSet) (e : CoreExpression) (types : Types) (t : TypedExpression) (known : List FunctionSignature) (calls : CallOutcomes)
    (bindings : Bindings) (forest : Forest)
    → IsSchemaSet schemas → judged schemas e types ≡ typed t → AllCalls known e → IsHonest schemas forest
    → CallsKeepTypes (calling_setting schemas known calls) forest → FitsFree schemas forest e types bindings
    → Keeps (calling_setting schemas known calls) forest (annotation_of t)
    (meaning (context_of (calling_setting schemas known calls)) e bindings forest)

-- where a Core is rejected, the place and the code are those of the first expression in it that fails
abbrev pub RejectionNamesFailure : Type 0
RejectionNamesFailure =
    (schemas : SchemaSet) (e : CoreExpression) (types : Types) (place : Place) (code : Code) → judged schemas e types ≡ rejected place code → FailsFirst schemas e types place code

-- where each variable stands in the scope of its binder, none is rejected
abbrev pub ScopedVariablesHaveTypes : Type 0
ScopedVariablesHaveTypes =
    (schemas : SchemaSet) (e : CoreExpression) (types : Types) (place : Place) (code : Code)
    → IsScoped (map (λ t. t.0) types) e → judged schemas e types ≡ rejected place code → code ≢ XPST0008

-- an expression is rejected with the code of a static error
abbrev pub ExpressionsAreRejectedWithStaticCodes : Type 0
ExpressionsAreRejectedWithStaticCodes =
    (schemas : SchemaSet) (e : CoreExpression) (types : Types) (place : Place) (code : Code) → judged schemas e types ≡ rejected place code → is_static code ≡ true
