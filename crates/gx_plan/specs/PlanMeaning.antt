-- What plans mean: the typed Core that they are sent to.
use Rattle.std.specs.Prelude.{◌≡◌, ℕ, List}
use Rattle.gx_base.specs.declared.limits.TheConstants.{ACTIVE_CALLS}
use Rattle.gx_types.specs.SchemaSet.{SchemaSet}
use Rattle.gx_model.specs.Item.{Items}
use Rattle.gx_core.specs.Outcome.{Outcome}
use Rattle.gx_model.specs.Forest.{PlainNode, Forest}
use Rattle.gx_core.specs.Meaning.{Context, Bindings, meaning}
use Rattle.gx_core.specs.QueryMeaning.{outcome_within}
use Rattle.gx_plan.specs.Plan.{PlanExpression, PlanQuery, typed_expression, typed_query}

-- an expression of a plan comes to the same as the typed expression that it means
abbrev pub PlansMeanTheirTypedCore : Type 0
PlansMeanTheirTypedCore =
    (context : Context) (e : PlanExpression) (bindings : Bindings) (forest : Forest)
    → meaning context e bindings forest ≡ meaning context (typed_expression e) bindings forest

-- and so does a whole plan, however many calls may be active
abbrev pub PlansHaveTheOutcomeOfTheirTypedCore : Type 0
PlansHaveTheOutcomeOfTheirTypedCore =
    (limit : ℕ) (schemas : SchemaSet) (plan : PlanQuery) (documents : List PlainNode) (forest : Forest)
    → outcome_within limit schemas plan documents forest ≡ outcome_within limit schemas (typed_query plan) documents forest

-- what a plan comes to, with these document nodes of the forest
abbrev pub plan_outcome : SchemaSet → PlanQuery → (documents : List PlainNode) → Forest → Outcome Items
plan_outcome schemas query documents forest = outcome_within ACTIVE_CALLS schemas query documents forest
