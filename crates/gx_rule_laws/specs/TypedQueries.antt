-- When the plan of a typed query has, rewritten, the outcome of the query.
use Rattle.std.specs.Prelude.{◌≡◌, ℕ, List}
use Rattle.gx_types.specs.SchemaSet.{SchemaSet}
use Rattle.gx_types.specs.SchemaInvariant.{IsSchemaSet}
use Rattle.gx_model.specs.Forest.{PlainNode, Forest}
use Rattle.gx_model.specs.Honest.{IsHonest}
use Rattle.gx_core.specs.Invariant.{HasQueryVariablesInOrder, CallsDeclaredFunctions}
use Rattle.gx_core.specs.Queries.{TypedCore}
use Rattle.gx_core.specs.QueryMeaning.{plain_query, outcome_within, DocumentsFit}
use Rattle.gx_core.specs.WrittenTypes.{QueryNamesWrittenTypes}
use Rattle.gx_static.specs.QueryJudgement.{query_typed, query_judged}
use Rattle.gx_plan.specs.Compiling.{compiled_query}
use Rattle.gx_plan.specs.Plan.{PlanQuery}
use Rattle.gx_plan.specs.Variables.{variables_of_query}
use Rattle.gx_rules.specs.Rules.{RuleSetting}
use Rattle.gx_rules.specs.Normal.{QueryReaches}
use Rattle.gx_rule_laws.specs.KeepingSoundness.{plan_rule_setting}
use Rattle.gx_rule_laws.specs.RewrittenQueries.{IsOrderlyPlan}

-- the static rules give a query its types, its variables are in order, its calls are of declared functions, and its types can be written
pub record IsTypedWell (schemas : SchemaSet) (query : TypedCore) : Type 0 where
  pub judged : query_judged schemas (plain_query query) ≡ query_typed query
  pub variables : HasQueryVariablesInOrder (plain_query query)
  pub calls : CallsDeclaredFunctions (plain_query query)
  pub types : QueryNamesWrittenTypes (plain_query query)

-- what the rules look at in the plan that a query is compiled to
abbrev pub compiled_setting : SchemaSet → TypedCore → RuleSetting
compiled_setting schemas query = plan_rule_setting schemas (variables_of_query (compiled_query query))

abbrev pub CompiledPlansAreOrderly : Type 0
CompiledPlansAreOrderly =
    (schemas : SchemaSet) (query : TypedCore) → IsSchemaSet schemas → IsTypedWell schemas query
    → IsOrderlyPlan schemas (variables_of_query (compiled_query query)) (compiled_query query)

-- a plan that any number of applications of rules lead to has the outcome of the query that was compiled
abbrev pub RewrittenPlansHaveTheOutcome : Type 0
RewrittenPlansHaveTheOutcome =
    (limit : ℕ) (schemas : SchemaSet) (query : TypedCore) (other : PlanQuery) (documents : List PlainNode) (forest : Forest)
    → IsSchemaSet schemas → IsTypedWell schemas query → IsHonest schemas forest → DocumentsFit schemas forest (plain_query query).declarations documents
    → QueryReaches (compiled_setting schemas query) (compiled_query query) other
    → outcome_within limit schemas other documents forest ≡ outcome_within limit schemas query documents forest
