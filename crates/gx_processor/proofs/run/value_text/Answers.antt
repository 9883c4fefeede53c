use Rattle.gx_processor.proofs.PlanRuns.{plan_is_normal, plan_joins_by_tables, plan_is_not_wrong, answers_as_query}
use Rattle.gx_processor.proofs.run.value_text.Goals as goal

pub plan_value-requires-clause-normal : goal.plan_value-requires-clause-normal
plan_value-requires-clause-normal c = plan_is_normal c.args.schemas.now c.args.core c.in-Ok.plan c.in-Ok.ensures

pub plan_value-requires-clause-joins : goal.plan_value-requires-clause-joins
plan_value-requires-clause-joins c =
    plan_joins_by_tables c.args.schemas.now c.args.core c.in-Ok.plan c.in-Ok.ensures c.query_meaning_looks_at_no_type.ensures c.rewritten_plans_have_the_outcome.ensures c.documents_are_honest.ensures c.documents_are_as_asked.ensures
    c.args.store c.requires.schemas c.requires.well c.requires.externals c.requires.documents c.joined_plans_have_the_outcome.ensures

pub plan_value-requires-clause-right : goal.plan_value-requires-clause-right
plan_value-requires-clause-right c =
    plan_is_not_wrong c.args.schemas.now c.args.core c.in-Ok.plan c.in-Ok.ensures c.query_meaning_looks_at_no_type.ensures c.rewritten_plans_have_the_outcome.ensures c.documents_are_honest.ensures c.documents_are_as_asked.ensures
    c.args.store c.requires.schemas c.requires.well c.requires.externals c.requires.documents c.sound_queries_keep_their_types.ensures c.requires.sound

pub returns-in-Ok-clause-answers : goal.returns-in-Ok-clause-answers
returns-in-Ok-clause-answers c =
    answers_as_query c.args.schemas.now c.args.core c.in-Ok.plan c.in-Ok.ensures c.query_meaning_looks_at_no_type.ensures c.rewritten_plans_have_the_outcome.ensures c.documents_are_honest.ensures c.documents_are_as_asked.ensures
    c.args.store c.requires.schemas c.requires.well c.requires.externals c.requires.documents c.plan_value.result c.plan_value.ensures.answers
