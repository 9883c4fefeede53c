-- A rewritten plan has the outcome of the query with hash joins in the place of its joins.
use Rattle.std.specs.Prelude.{◌≡◌, ℕ, List}
use Rattle.gx_types.specs.SchemaSet.{SchemaSet}
use Rattle.gx_types.specs.SchemaInvariant.{IsSchemaSet}
use Rattle.gx_model.specs.Forest.{PlainNode, Forest}
use Rattle.gx_model.specs.Honest.{IsHonest}
use Rattle.gx_core.specs.Queries.{TypedCore}
use Rattle.gx_core.specs.QueryMeaning.{plain_query, outcome_within, DocumentsFit}
use Rattle.gx_plan.specs.Compiling.{compiled_query}
use Rattle.gx_plan.specs.Plan.{PlanQuery}
use Rattle.gx_rules.specs.Normal.{QueryReaches}
use Rattle.gx_rule_laws.specs.TypedQueries.{IsTypedWell, compiled_setting}
use Rattle.gx_joins.specs.JoinedMeaning.{joined_outcome}

-- a plan that any number of applications of rules lead to has the outcome of the query that was compiled, with hash joins in the place of its joins
abbrev pub JoinedPlansHaveTheOutcome : Type 0
JoinedPlansHaveTheOutcome =
    (limit : ℕ) (schemas : SchemaSet) (query : TypedCore) (other : PlanQuery) (documents : List PlainNode) (forest : Forest)
    → IsSchemaSet schemas → IsTypedWell schemas query → IsHonest schemas forest → DocumentsFit schemas forest (plain_query query).declarations documents
    → QueryReaches (compiled_setting schemas query) (compiled_query query) other
    → joined_outcome limit schemas other documents forest ≡ outcome_within limit schemas query documents forest
