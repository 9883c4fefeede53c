-- The items over which loops go belong to the types that the variables of the loops carry.
use Rattle.std.specs.Prelude.{◌≡◌, ◌++◌, List, [], ◌∷◌, Some}
use Rattle.std.specs.List.{All}
use Rattle.gx_types.specs.SchemaSet.{SchemaSet}
use Rattle.gx_types.specs.SequenceType.{SequenceType}
use Rattle.gx_model.specs.Belongs.{Belongs}
use Rattle.gx_model.specs.Item.{Items}
use Rattle.gx_core.specs.declared.expression.Binder.{Binder}
use Rattle.gx_core.specs.declared.operator.Operator.{Operator}
use Rattle.gx_core.specs.declared.operator.Operator.TheVariants as operators
use Rattle.gx_core.specs.declared.signature.FunctionSignature.{FunctionSignature}
use Rattle.gx_core.specs.Bindings.{Types, look_up}
use Rattle.gx_core.specs.Expression.{At, Parts, no_parts, a_part, annotation_of}
use Rattle.gx_core.specs.Meaning.{CallOutcomes, meaning}
use Rattle.gx_core.specs.Outcome.{Outcome, gives}
use Rattle.gx_core.specs.Soundness.{Setting, context_of, Situation, IsSound}
use Rattle.gx_plan.specs.declared.plan.Carried.{Carried}
use Rattle.gx_plan.specs.Plan.{PlanExpression, typed_expression}
use Rattle.gx_rules.specs.Normal.{PlanReaches}
use Rattle.gx_sound_typing.specs.CarriedTyping.{CarryAllBound}
use Rattle.gx_rule_laws.specs.KeepingSoundness.{StandsInPlan, plan_rule_setting}
use Rattle.gx_rule_laws.specs.QuietValues.{plan_setting}

-- each item that an outcome gives belongs to a type by itself
abbrev pub EachBelongs : SchemaSet → SequenceType → Outcome Items → Type 0
EachBelongs schemas t (gives xs left) = All (λ x. Belongs schemas left (x ∷ []) t) xs
EachBelongs schemas t _ = Unit {0}

-- the variable of a loop carries a type, to which each item of the source belongs wherever the loop stands
pub record TakesItems (setting : Setting) (variables : Types) (binder : Binder) (source : PlanExpression) (types : Types) : Type 0 where
  pub t : SequenceType
  pub carried : look_up variables binder.variable ≡ Some t
  pub items : (situation : Situation setting types)
      → EachBelongs setting.schemas t (meaning (context_of setting) (typed_expression source) situation.bindings situation.forest)

abbrev pub LoopTakesItems : Setting → (variables : Types) → Operator → Parts Carried → Types → Type 0
LoopTakesItems setting variables (operators.For binder position) (a_part source others) types = TakesItems setting variables binder source types
LoopTakesItems setting variables _ _ types = Unit {0}

-- so do all loops of an expression
abbrev mutual
  pub LoopsTakeItems : Setting → (variables : Types) → PlanExpression → Types → Type 0
  LoopsTakeItems setting variables (At place outer carried operator parts) types =
      LoopTakesItems setting variables operator parts types × LoopsInPartsTakeItems setting variables operator [] parts types

  pub LoopsInPartsTakeItems : Setting → (variables : Types) → Operator → (before : List SequenceType) → Parts Carried → Types → Type 0
  LoopsInPartsTakeItems setting variables operator before no_parts types = Unit {0}
  LoopsInPartsTakeItems setting variables operator before (a_part first others) types =
      LoopsTakeItems setting variables first (setting.binders operator before ++ types)
      × LoopsInPartsTakeItems setting variables operator (before ++ annotation_of (typed_expression first) ∷ []) others types

-- ---- laws

-- they do in a sound expression whose variables carry the types that their binders give
abbrev pub SoundLoopsTakeItems : Type 0
SoundLoopsTakeItems =
    (schemas : SchemaSet) (variables : Types) (known : List FunctionSignature) (calls : CallOutcomes) (e : PlanExpression) (types : Types)
    → IsSound (plan_setting schemas variables known calls) (typed_expression e) types → CarryAllBound variables (typed_expression e)
    → LoopsTakeItems (plan_setting schemas variables known calls) variables e types

-- they do in what any number of applications of rules lead to, where they do in the expression of the plan
abbrev pub RewritingKeepsLoopItems : Type 0
RewritingKeepsLoopItems =
    (schemas : SchemaSet) (variables : Types) (known : List FunctionSignature) (calls : CallOutcomes) (e other : PlanExpression) (types : Types)
    → StandsInPlan schemas variables known calls e types → LoopsTakeItems (plan_setting schemas variables known calls) variables e types
    → PlanReaches (plan_rule_setting schemas variables) e other → LoopsTakeItems (plan_setting schemas variables known calls) variables other types
