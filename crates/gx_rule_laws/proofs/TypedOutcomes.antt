-- What the plan of a typed query is rewritten to has the outcome of the query.
use Rattle.std.proofs.Common.{List, [], ◌∷◌, map, None, Some, ◌∙◌}
use Rattle.gx_types.specs.SchemaSet.{SchemaSet}
use Rattle.gx_model.specs.Forest.{PlainNode, Forest}
use Rattle.gx_core.specs.declared.expression.Declaration.TheVariants.{Global, Function}
use Rattle.gx_core.specs.Queries.{TypedDeclaration}
use Rattle.gx_core.specs.QueryMeaning.{plain_declaration, plain_query, DocumentsFit}
use Rattle.gx_static.proofs.QueryLaws.{query_sound}
use Rattle.gx_plan.specs.Plan.{typed_declaration}
use Rattle.gx_plan.specs.Compiling.{compiled_declaration, compiled_query}
use Rattle.gx_plan.specs.Variables.{variables_of_query}
use Rattle.gx_plan.proofs.CompiledQueries.{compiling_keeps_outcomes}
use Rattle.gx_sound_typing.proofs.CompiledPlans.{compiled_plans_are_fully_sound}
use Rattle.gx_rule_laws.specs.TypedQueries.{RewrittenPlansHaveTheOutcome}
use Rattle.gx_rule_laws.proofs.RewrittenPlans.{rewriting_keeps_outcomes}
use Rattle.gx_rule_laws.proofs.OrderlyPlans.{compiled_plans_are_orderly}

-- the external variables of a plan are those of its query
documents_fit : (s : SchemaSet) (forest : Forest) (ds : List TypedDeclaration) (documents : List PlainNode)
    → DocumentsFit s forest (map plain_declaration ds) documents
    → DocumentsFit s forest (map plain_declaration (map typed_declaration (map compiled_declaration ds))) documents
documents_fit s forest [] documents h = tt
documents_fit s forest (Function function ∷ ds) documents h = documents_fit s forest ds documents h
documents_fit s forest (Global name binder (Some value) ∷ ds) documents h = documents_fit s forest ds documents h
documents_fit s forest (Global name binder None ∷ ds) [] h = absurd h
documents_fit s forest (Global name binder None ∷ ds) (document ∷ documents) h = (h.0, documents_fit s forest ds documents h.1)

pub rewritten_plans_have_the_outcome : RewrittenPlansHaveTheOutcome
rewritten_plans_have_the_outcome limit s query other documents forest is well honest fit reaches =
    rewriting_keeps_outcomes limit s (variables_of_query (compiled_query query)) (compiled_query query) other documents forest honest
    (documents_fit s forest query.declarations documents fit)
    (compiled_plans_are_fully_sound s (plain_query query) query is well.judged well.variables well.calls) (compiled_plans_are_orderly s query is well) reaches
    ∙ compiling_keeps_outcomes limit s query documents forest honest fit ((query_sound s (plain_query query) query is well.judged).sound well.variables well.calls)
