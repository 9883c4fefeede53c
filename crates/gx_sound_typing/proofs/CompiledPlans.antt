-- Compiled queries are fully sound with the types that their variables carry.
use Rattle.std.proofs.Common.{sym, subst}
use Rattle.gx_core.specs.Queries.{Core}
use Rattle.gx_core.specs.Invariant.{HasQueryVariablesInOrder}
use Rattle.gx_static.proofs.QueryLaws.{query_sound}
use Rattle.gx_plan.specs.Plan.{typed_query}
use Rattle.gx_plan.specs.Compiling.{compiled_query}
use Rattle.gx_plan.specs.Variables.{variables_of_query}
use Rattle.gx_sound_typing.specs.CarriedTyping.{CompiledQueriesCarryBound, CompiledPlansAreFullySound}
use Rattle.gx_sound_typing.proofs.FullTyping.{query_has}
use Rattle.gx_sound_typing.proofs.CompiledTyping.{compiled_queries_are_fully_sound}
use Rattle.gx_sound_typing.proofs.CarriedBinders.{full_soundness_with_carried_types}
use Rattle.gx_sound_typing.proofs.CarriedVariables.{plans_carry}
use Rattle.gx_sound_typing.proofs.CountedVariables.{variables_stand_once}

pub compiled_queries_carry_bound : CompiledQueriesCarryBound
compiled_queries_carry_bound s core query is j order =
    plans_carry (compiled_query query)
    (variables_stand_once s query (query_has s core query j) (subst (λ (c : Core). HasQueryVariablesInOrder c) (sym (query_sound s core query is j).same) order))

pub compiled_plans_are_fully_sound : CompiledPlansAreFullySound
compiled_plans_are_fully_sound s core query is j order calls =
    full_soundness_with_carried_types s (variables_of_query (compiled_query query)) (typed_query (compiled_query query))
    (compiled_queries_carry_bound s core query is j order) (compiled_queries_are_fully_sound s core query is j order calls)
