-- Compiled queries beside the queries that they are made of.
use Rattle.gx_types.specs.SchemaSet.{SchemaSet}
use Rattle.gx_core.specs.Bindings.{types_bound}
use Rattle.gx_core.specs.Queries.{TypedCore}
use Rattle.gx_plan.specs.Compiling.{compiled_query}
use Rattle.gx_plan.specs.FullSoundness.{IsFullySoundQuery}
use Rattle.gx_plan.specs.SameQueries.{IsSameQuery}

-- the expressions of a compiled query come to the same as those of the query that it is made of, where that is fully sound with the types
-- that the static rules give variables
abbrev pub CompiledQueriesAreSame : Type 0
CompiledQueriesAreSame =
    (schemas : SchemaSet) (query : TypedCore) → IsFullySoundQuery schemas types_bound query → IsSameQuery schemas (compiled_query query) query
