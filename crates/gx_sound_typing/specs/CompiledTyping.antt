-- What compiling hands on: the types that the static rules give, and with them full soundness.
use Rattle.std.specs.Prelude.{◌≡◌}
use Rattle.gx_types.specs.SchemaSet.{SchemaSet}
use Rattle.gx_types.specs.SchemaInvariant.{IsSchemaSet}
use Rattle.gx_core.specs.Queries.{Core, TypedCore}
use Rattle.gx_core.specs.Expression.{CoreExpression, plain}
use Rattle.gx_core.specs.Bindings.{Types, types_bound}
use Rattle.gx_core.specs.Invariant.{HasQueryVariablesInOrder, CallsDeclaredFunctions}
use Rattle.gx_core.specs.Soundness.{TypedExpression}
use Rattle.gx_static.specs.Judgement.{typed, judged}
use Rattle.gx_static.specs.QueryJudgement.{query_typed, query_judged}
use Rattle.gx_plan.specs.Plan.{typed_expression, typed_query}
use Rattle.gx_plan.specs.Compiling.{compiled, compiled_query}
use Rattle.gx_plan.specs.FullSoundness.{IsFullySoundQuery}

-- what a typed expression is compiled to has, without its types, the types that it carries
abbrev pub CompiledExpressionsHaveTheirTypes : Type 0
CompiledExpressionsHaveTheirTypes =
    (schemas : SchemaSet) (e : CoreExpression) (types : Types) (t : TypedExpression) → judged schemas e types ≡ typed t
    → judged schemas (plain (typed_expression (compiled t))) types ≡ typed (typed_expression (compiled t))

-- a compiled query is fully sound, where the query that it is made of has types
abbrev pub CompiledQueriesAreFullySound : Type 0
CompiledQueriesAreFullySound =
    (schemas : SchemaSet) (core : Core) (query : TypedCore) → IsSchemaSet schemas → query_judged schemas core ≡ query_typed query
    → HasQueryVariablesInOrder core → CallsDeclaredFunctions core → IsFullySoundQuery schemas types_bound (typed_query (compiled_query query))
