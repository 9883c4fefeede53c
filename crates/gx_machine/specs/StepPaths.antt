-- Paths of one step from a variable, as `$v/@name`.
use Rattle.std.specs.Prelude.{◌≡◌, ℕ, [], ◌∷◌}
use Rattle.gx_types.specs.declared.step.Axis.{Axis}
use Rattle.gx_types.specs.declared.step.Test.{Test}
use Rattle.gx_model.specs.Forest.{Forest}
use Rattle.gx_model.specs.Item.{Items}
use Rattle.gx_core.specs.Bindings.{look_up}
use Rattle.gx_core.specs.declared.operator.Operator.TheVariants.{Order}
use Rattle.gx_core.specs.Meaning.{Context, Bindings, denoted}
use Rattle.gx_joins.specs.JoinedMeaning.{joined_meaning as joined}
use Rattle.gx_core.specs.Outcome.{gives, given}
use Rattle.gx_core.specs.Paths.{stepped}
use Rattle.gx_plan.specs.Plan.{PlanExpression}

-- in document order a path gives what a step gives from the node of a variable
abbrev pub IsStepFrom : (number : ℕ) → Axis → Test → PlanExpression → Type 0
IsStepFrom number axis asks path =
    (k : Context) (bindings : Bindings) (forest : Forest) (found : Items) → given (look_up bindings number) (λ xs. stepped k.schemas axis asks xs forest) ≡ gives found forest
    → denoted k Order (joined k path ∷ []) bindings forest ≡ gives found forest
