-- What outcomes keep.
use Rattle.std.specs.Prelude.{◌≡◌, ◌↔◌, ℕ, true, List, [], ◌∷◌, length}
use Rattle.std.specs.List.{AllByRecursion}
use Rattle.gx_base.specs.declared.code.Code.{Code}
use Rattle.gx_base.specs.Code.{is_dynamic}
use Rattle.gx_types.specs.SchemaSet.{SchemaSet}
use Rattle.gx_types.specs.SequenceType.{SequenceType}
use Rattle.gx_model.specs.Forest.{Forest}
use Rattle.gx_model.specs.Honest.{IsHonest}
use Rattle.gx_model.specs.Item.{Items}
use Rattle.gx_types.specs.declared.shape.Shape.{Shape}
use Rattle.gx_types.specs.SchemaSet.{SchemaSet}
use Rattle.gx_types.specs.Derivation.{bases_of}
use Rattle.gx_types.specs.Grounded.{Grounded}
use Rattle.gx_model.specs.Belongs.{HaveShapes, Belongs}
use Rattle.gx_model.specs.Growth.{Extends}
use Rattle.gx_core.specs.declared.expression.Binder.{Binder}
use Rattle.gx_core.specs.Expression.{CoreExpression, plain}
use Rattle.gx_core.specs.declared.operator.Operator.{Operator}
use Rattle.gx_core.specs.Bindings.{Types, look_up}
use Rattle.gx_core.specs.Instances.{is_instance, IsWrittenType}
use Rattle.gx_core.specs.Outcome.{Outcome, raises, after, gives}
use Rattle.gx_core.specs.declared.signature.FunctionSignature.{FunctionSignature}
use Rattle.gx_core.specs.Meaning.{CallOutcomes, Context, Bindings, Denotation, all_of, denoted, meaning}
use Rattle.gx_core.specs.Constructing.{constructor_outcome}
use Rattle.gx_core.specs.declared.constructor.Constructor.{Constructor}
use Rattle.gx_core.specs.Evaluations.{PartEvaluation, evaluations, evaluated_as}
use Rattle.gx_core.specs.FreeVariables.{is_free_in}
use Rattle.gx_core.specs.Queries.{Core}
use Rattle.gx_core.specs.Invariant.{IsWellFormedQuery, CallsDeclaredFunctions}
use Rattle.gx_core.specs.Soundness.{TypedExpression, Setting, KeepsFact, AreOfTypes, Keeps, Fits, Situation}

-- the meaning of a typed expression is that of the same expression without its types
abbrev pub MeaningLooksAtNoType : Type 0
MeaningLooksAtNoType =
    (context : Context) (e : TypedExpression) (bindings : Bindings) (forest : Forest)
    → meaning context (plain e) bindings forest ≡ meaning context e bindings forest

-- what is made of a value in each forest that has grown from this one
abbrev pub AfterKeeps : Type 0
AfterKeeps =
    (setting : Setting) (before : Forest) (t u : SequenceType) (outcome : Outcome Items) (next : Items → Forest → Outcome Items)
    → Keeps setting before t outcome
    → ((value : Items) (now : Forest) → Extends before now → IsHonest setting.schemas now → Belongs setting.schemas now value t
    → Keeps setting now u (next value now))
    → Keeps setting before u (after outcome next)

-- bindings fit still where the forest has grown
abbrev pub BindingsFitStill : Type 0
BindingsFitStill =
    (setting : Setting) (types : Types) (bindings : Bindings) (before now : Forest)
    → Extends before now → Fits setting.schemas before types bindings → Fits setting.schemas now types bindings

-- and with one more variable that is bound to a value of its type
abbrev pub BindingFits : Type 0
BindingFits =
    (setting : Setting) (binder : Binder) (t : SequenceType) (value : Items) (types : Types) (bindings : Bindings) (forest : Forest)
    → Fits setting.schemas forest types bindings → Belongs setting.schemas forest value t
    → Fits setting.schemas forest ((binder.variable, t) ∷ types) ((binder.variable, value) ∷ bindings)

-- parts that keep their types wherever they stand
abbrev pub AllKeep : (setting : Setting) → Types → List Denotation → List SequenceType → Type 0
AllKeep setting types [] [] = Unit {0}
AllKeep setting types (part ∷ parts) (t ∷ ts) =
    ((situation : Situation setting types) → Keeps setting situation.forest t (part situation.bindings situation.forest))
    × AllKeep setting types parts ts
AllKeep setting types _ _ = ⊥

-- the values of all parts belong to their types, in the forest that the last part leaves
abbrev pub OperandsKeepTheirTypes : Type 0
OperandsKeepTheirTypes =
    (setting : Setting) (types : Types) (parts : List Denotation) (ts : List SequenceType) (situation : Situation setting types)
    → AllKeep setting types parts ts
    → KeepsFact setting situation.forest (AreOfTypes setting.schemas ts) (all_of parts situation.bindings situation.forest)

-- where an outcome is an error, the code is that of a dynamic error
abbrev pub RaisesDynamicCodes : {R : Type 0} → Outcome R → Type 0
RaisesDynamicCodes outcome = (code : Code) → outcome ≡ raises code → is_dynamic code ≡ true

abbrev pub CallsRaiseDynamicCodes : CallOutcomes → Type 0
CallsRaiseDynamicCodes calls = (signature : FunctionSignature) (values : List Items) (forest : Forest) → RaisesDynamicCodes (calls signature values forest)

-- the evaluation of an expression raises the codes of dynamic errors alone, where calls of functions do
abbrev pub ExpressionsRaiseDynamicCodes : Type 0
ExpressionsRaiseDynamicCodes =
    (context : Context) (e : CoreExpression) (bindings : Bindings) (forest : Forest) → CallsRaiseDynamicCodes context.calls
    → RaisesDynamicCodes (meaning context e bindings forest)

-- a constructor puts an honest tree behind those of an honest forest, or leaves the forest as it is
abbrev pub ConstructorsKeepForestsHonest : Type 0
ConstructorsKeepForestsHonest =
    (schemas : SchemaSet) (constructor : Constructor) (parts : List Items) (forest now : Forest) (result : Items)
    → constructor_outcome schemas constructor parts forest ≡ gives result now → IsHonest schemas forest
    → Extends forest now × IsHonest schemas now

-- parts that come to the same in an evaluation
abbrev pub AgreeAt : (parts others : List Denotation) → PartEvaluation → Type 0
AgreeAt parts others evaluation = evaluated_as parts evaluation ≡ evaluated_as others evaluation

-- parts that come to the same in each evaluation that an operator asks for may stand for one another: the operator comes to the same, and
-- asks for the same evaluations
abbrev pub PartsDecide : Type 0
PartsDecide =
    (context : Context) (operator : Operator) (parts others : List Denotation) (bindings : Bindings) (forest : Forest)
    → length parts ≡ length others
    → AllByRecursion (AgreeAt parts others) (evaluations context operator parts bindings forest)
    → (denoted context operator parts bindings forest ≡ denoted context operator others bindings forest)
    × (evaluations context operator parts bindings forest ≡ evaluations context operator others bindings forest)

-- an expression comes to the same under bindings that are the same for the variables that it names and does not bind
abbrev pub MeaningLooksAtFreeVariables : Type 0
MeaningLooksAtFreeVariables =
    (context : Context) (e : CoreExpression) (bindings others : Bindings) (forest : Forest)
    → ((number : ℕ) → is_free_in e number ≡ true → look_up bindings number ≡ look_up others number)
    → meaning context e bindings forest ≡ meaning context e others forest

-- what is an instance of a type belongs to it, where its items have shapes; the other way round too, where the type can be written
abbrev pub InstancesBelong : Type 0
InstancesBelong =
    (schemas : SchemaSet) (forest : Forest) (t : SequenceType) (value : Items) (seen : List Shape) → HaveShapes schemas forest value seen
    → is_instance schemas forest t value ≡ true → Belongs schemas forest value t

abbrev pub InstancesAreExact : Type 0
InstancesAreExact =
    (schemas : SchemaSet) (forest : Forest) (t : SequenceType) (value : Items) (seen : List Shape)
    → Grounded (bases_of schemas) → IsWrittenType t → HaveShapes schemas forest value seen
    → ((is_instance schemas forest t value ≡ true) ↔ Belongs schemas forest value t)

-- a query that is well formed calls functions that it declares
abbrev pub WellFormedQueriesCallDeclaredFunctions : Type 0
WellFormedQueriesCallDeclaredFunctions = (core : Core) → IsWellFormedQuery core → CallsDeclaredFunctions core
