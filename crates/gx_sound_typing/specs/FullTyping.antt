-- When what has types is fully sound: with the types that the static rules give, in whole queries where their variables are in order and
-- they call functions of their own alone.
use Rattle.std.specs.Prelude.{◌≡◌}
use Rattle.gx_types.specs.SchemaSet.{SchemaSet}
use Rattle.gx_types.specs.SchemaInvariant.{IsSchemaSet}
use Rattle.gx_core.specs.Queries.{Core, TypedCore}
use Rattle.gx_core.specs.Expression.{CoreExpression}
use Rattle.gx_core.specs.Bindings.{Types, types_bound}
use Rattle.gx_core.specs.Invariant.{HasQueryVariablesInOrder, CallsDeclaredFunctions}
use Rattle.gx_core.specs.Soundness.{TypedExpression}
use Rattle.gx_static.specs.Judgement.{typed, judged}
use Rattle.gx_static.specs.QueryJudgement.{query_typed, query_judged}
use Rattle.gx_plan.specs.FullSoundness.{IsFullySound, IsFullySoundQuery}

-- what is judged to have a type is fully sound
abbrev pub TypedExpressionsAreFullySound : Type 0
TypedExpressionsAreFullySound =
    (schemas : SchemaSet) (e : CoreExpression) (types : Types) (t : TypedExpression) → IsSchemaSet schemas → judged schemas e types ≡ typed t
    → IsFullySound schemas types_bound t types

-- so is a whole query, where its variables are in order and it calls functions of its own alone
abbrev pub TypedQueriesAreFullySound : Type 0
TypedQueriesAreFullySound =
    (schemas : SchemaSet) (core : Core) (query : TypedCore) → IsSchemaSet schemas → query_judged schemas core ≡ query_typed query
    → HasQueryVariablesInOrder core → CallsDeclaredFunctions core → IsFullySoundQuery schemas types_bound query
