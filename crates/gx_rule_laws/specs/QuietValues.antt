-- Expressions that raise no error and make no node have a value, and leave the forest as it is.
use Rattle.std.specs.Prelude.{◌≡◌, Bool, true, false, List, [], ◌∷◌, ◌++◌}
use Rattle.gx_types.specs.SchemaSet.{SchemaSet}
use Rattle.gx_types.specs.SequenceType.{SequenceType}
use Rattle.gx_model.specs.Forest.{Forest}
use Rattle.gx_model.specs.Item.{Items}
use Rattle.gx_core.specs.declared.operator.Operator.{Operator}
use Rattle.gx_core.specs.declared.operator.Operator.TheVariants as operators
use Rattle.gx_core.specs.declared.signature.FunctionSignature.{FunctionSignature}
use Rattle.gx_core.specs.Bindings.{Types}
use Rattle.gx_core.specs.Expression.{At, Parts, no_parts, a_part, annotation_of}
use Rattle.gx_core.specs.Meaning.{CallOutcomes, meaning}
use Rattle.gx_core.specs.Outcome.{Outcome, gives, raises, wrong}
use Rattle.gx_core.specs.Soundness.{Setting, context_of, Situation}
use Rattle.gx_plan.specs.declared.plan.Role.{Role}
use Rattle.gx_plan.specs.declared.plan.Carried.{Carried}
use Rattle.gx_plan.specs.Plan.{PlanExpression, typed_expression}
use Rattle.gx_plan.specs.FullSoundness.{carrying_setting}
use Rattle.gx_rules.specs.Guards.{is_in_join, is_quiet}
pub use Rattle.gx_sound_typing.specs.CarriedTyping.{with_carried, carried_types, carried_binders}
use Rattle.gx_rule_laws.specs.KeepingRules.{StandsWell}

-- ---- the setting of a plan

abbrev pub plan_setting : SchemaSet → (variables : Types) → (known : List FunctionSignature) → CallOutcomes → Setting
plan_setting schemas variables known calls = carrying_setting schemas (carried_binders variables) known calls

-- ---- values in place

-- an outcome is a value, and the forest stays as it is
abbrev pub GivesInPlace : Forest → Outcome Items → Type 0
GivesInPlace forest (gives xs left) = left ≡ forest
GivesInPlace forest (raises code) = ⊥
GivesInPlace forest wrong = ⊥

-- wherever it stands
abbrev pub HasValueInPlace : Setting → PlanExpression → Types → Type 0
HasValueInPlace setting e types =
    (situation : Situation setting types)
    → GivesInPlace situation.forest (meaning (context_of setting) (typed_expression e) situation.bindings situation.forest)

-- a comparison that a join was marked for
abbrev pub is_comparison_of_join : Role → Operator → Bool
is_comparison_of_join role (operators.Binary operator) = is_in_join role
is_comparison_of_join role _ = false

-- each of them has a value wherever it stands
abbrev mutual
  pub JoinsCompareInPlace : Setting → PlanExpression → Types → Type 0
  JoinsCompareInPlace setting (At place outer carried operator parts) types =
      (is_comparison_of_join carried.role operator ≡ true → HasValueInPlace setting (At place outer carried operator parts) types)
      × JoinsInPartsCompareInPlace setting operator [] parts types

  pub JoinsInPartsCompareInPlace : Setting → Operator → (before : List SequenceType) → Parts Carried → Types → Type 0
  JoinsInPartsCompareInPlace setting operator before no_parts types = Unit {0}
  JoinsInPartsCompareInPlace setting operator before (a_part first others) types =
      JoinsCompareInPlace setting first (setting.binders operator before ++ types)
      × JoinsInPartsCompareInPlace setting operator (before ++ annotation_of (typed_expression first) ∷ []) others types

-- what is quiet has a value
abbrev pub QuietExpressionsHaveValues : Type 0
QuietExpressionsHaveValues =
    (schemas : SchemaSet) (variables : Types) (known : List FunctionSignature) (calls : CallOutcomes) (e : PlanExpression) (types : Types)
    → StandsWell (plan_setting schemas variables known calls) e types
    → JoinsCompareInPlace (plan_setting schemas variables known calls) e types → is_quiet schemas e ≡ true
    → HasValueInPlace (plan_setting schemas variables known calls) e types
