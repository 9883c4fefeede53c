-- Plans rewritten from below: what becomes of an operator whose parts are rewritten.
use Rattle.std.specs.Prelude.{Option, None, Some, option_map, unwrap_or}
use Rattle.gx_base.specs.declared.place.Place.{Place}
use Rattle.gx_core.specs.declared.operator.Operator.{Operator}
use Rattle.gx_core.specs.Expression.{At, Parts}
use Rattle.gx_plan.specs.declared.plan.Carried.{Carried}
use Rattle.gx_plan.specs.Plan.{PlanExpression, PlanQuery}
use Rattle.gx_plan.specs.Remaking.{remade}
use Rattle.gx_rules.specs.Normal.{IsRewritten}
use Rattle.gx_rules.specs.Rules.{RuleSetting, one, order_of_sorted, flat, slashes, single_loop, join, decided_switch, idle}

-- each plan can be rewritten to one to which no rule applies
abbrev pub PlansCanBeRewritten : Type 0
PlansCanBeRewritten = (setting : RuleSetting) (query : PlanQuery) → (other : PlanQuery) × IsRewritten setting query other

-- the first of two that is there
abbrev pub one_or_other : Option PlanExpression → Option PlanExpression → Option PlanExpression
one_or_other (Some e) other = Some e
one_or_other None other = other

-- an operator in document order
abbrev pub without_need_of_order : PlanExpression → Option PlanExpression
without_need_of_order e = one_or_other (one e) (one_or_other (order_of_sorted e) (flat e))

-- by a rule that gives a part, a `let` or a join, to which no other rule applies
abbrev pub simplified : RuleSetting → PlanExpression → Option PlanExpression
simplified setting e =
    one_or_other (without_need_of_order e)
    (one_or_other (single_loop setting.schemas e) (one_or_other (join setting.schemas e) (one_or_other (decided_switch setting.schemas e) (idle setting.schemas e))))

-- by `slashes`, behind which one more rule may apply
abbrev pub descended : RuleSetting → PlanExpression → Option PlanExpression
descended setting e = option_map (λ other. unwrap_or (simplified setting other) other) (slashes setting e)

abbrev pub rewritten_at : RuleSetting → PlanExpression → PlanExpression
rewritten_at setting e = unwrap_or (one_or_other (simplified setting e) (descended setting e)) e

abbrev pub rewritten_operator : RuleSetting → (place outer : Place) → Carried → Operator → Parts Carried → PlanExpression
rewritten_operator setting place outer carried operator parts = rewritten_at setting (At place outer carried operator parts)

abbrev pub rewritten : RuleSetting → PlanExpression → PlanExpression
rewritten setting e = remade (rewritten_operator setting) e
