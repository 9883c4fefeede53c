-- What parts carry, as a list.
use Rattle.std.proofs.Common.{◌≡◌, List, [], ◌∷◌, map, refl, ap}
use Rattle.gx_types.specs.SchemaSet.{SchemaSet}
use Rattle.gx_types.specs.SequenceType.{star}
use Rattle.gx_steptype.specs.StepType.{any_item}
use Rattle.gx_core.specs.declared.operator.Operator.{Operator}
use Rattle.gx_core.specs.declared.operator.Operator.TheVariants as operators
use Rattle.gx_static.specs.Rule.{arity}
use Rattle.gx_rules.specs.Rules.{made_kind, IsStepOperator}
use Rattle.gx_core.specs.Expression.{all_parts}
use Rattle.gx_plan.specs.Plan.{PlanExpression, kind_carried, kinds_carried}

pub kinds_of_all : (es : List PlanExpression) → kinds_carried (all_parts es) ≡ map kind_carried es
kinds_of_all [] = refl
kinds_of_all (e ∷ es) = ap (λ kinds. kind_carried e ∷ kinds) (kinds_of_all es)

pub steps_have_one_part : (operator : Operator) → IsStepOperator operator → arity operator ≡ 1
steps_have_one_part (operators.Step axis asks number) h = refl
steps_have_one_part _ h = absurd h

-- a step from the node of a variable that carries no type
pub steps_have_a_variable : (schemas : SchemaSet) (operator : Operator) → IsStepOperator operator → made_kind schemas operator [] ≡ star any_item
steps_have_a_variable schemas (operators.Step axis asks number) h = refl
steps_have_a_variable schemas _ h = absurd h
