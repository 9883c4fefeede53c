-- The plan of a query has the outcome of the query.
use Rattle.std.proofs.Common.{◌≡◌, ◌≢◌, sym, ◌∙◌, subst, Result, String}
use Rattle.gx_base.specs.declared.limits.TheConstants.{ACTIVE_CALLS}
use Rattle.gx_types.specs.SchemaSet.{SchemaSet}
use Rattle.gx_types.specs.SchemaInvariant.{IsSchemaSet}
use Rattle.gx_model.specs.Forest.{Forest}
use Rattle.gx_model.specs.Item.{Items}
use Rattle.gx_core.specs.Bindings.{Types}
use Rattle.gx_core.specs.Outcome.{Outcome, wrong}
use Rattle.gx_core.specs.Queries.{TypedCore}
use Rattle.gx_core.specs.QueryMeaning.{plain_query, query_outcome, QueryMeaningLooksAtNoType, SoundQueriesKeepTheirTypes, IsSoundQuery}
use Rattle.gx_documents.specs.Documents.{document_nodes}
use Rattle.gx_documents.specs.Laws.{DocumentsAreAsAsked, DocumentsAreHonest}
use Rattle.gx_plan.specs.declared.plan.Plan.{Plan}
use Rattle.gx_plan.specs.PlanMeaning.{plan_outcome}
use Rattle.gx_join_laws.specs.JoinedPlans.{JoinedPlansHaveTheOutcome}
use Rattle.gx_eval.specs.TableJoins.{MayJoinByTables}
use Rattle.gx_rules.specs.Normal.{IsNormalQuery, IsNormalPlan}
use Rattle.gx_rule_laws.specs.TypedQueries.{IsTypedWell, RewrittenPlansHaveTheOutcome}
use Rattle.gx_processor.specs.declared.refusal.Refusal.{Refusal}
use Rattle.gx_processor.specs.Answer.{AnswersOutcome}
use Rattle.gx_processor.specs.ExternalDocuments.{ExternalsAreDocuments, AreDocumentsOf}
use Rattle.gx_processor.specs.PlanBytes.{compiled_plan, IsRewrittenPlan}
use Rattle.gx_processor.specs.RunReplies.{AnswersSo}
use Rattle.gx_processor.proofs.DocumentFit.{sound_is_not_wrong, documents_fit, documents_honest}

module _ (s : SchemaSet) (core : TypedCore) (plan : Plan) (rewritten : IsRewrittenPlan s (compiled_plan core) plan) where
  pub plan_is_normal : IsNormalPlan s plan
  plan_is_normal = subst (λ (types : Types). IsNormalQuery (record { schemas = s; variables = types }) plan.query) (sym rewritten.variables) rewritten.rewritten.normal

  module _ (looks : QueryMeaningLooksAtNoType) (keeps : RewrittenPlansHaveTheOutcome) (honest : DocumentsAreHonest) (fits : DocumentsAreAsAsked) (forest : Forest) (invariant : IsSchemaSet s)
      (well : IsTypedWell s core) (externals : ExternalsAreDocuments s (plain_query core).declarations) (documents : AreDocumentsOf s (plain_query core).declarations forest) where
    plan_has_outcome : plan_outcome s plan.query (document_nodes forest) forest ≡ query_outcome s (plain_query core) (document_nodes forest) forest
    plan_has_outcome =
        keeps ACTIVE_CALLS s core plan.query (document_nodes forest) forest invariant well (documents_honest honest s core forest invariant externals documents)
        (documents_fit fits s invariant (plain_query core).declarations forest externals documents) rewritten.rewritten.reached
        ∙ sym (looks ACTIVE_CALLS s core (document_nodes forest) forest)

    pub plan_joins_by_tables : JoinedPlansHaveTheOutcome → MayJoinByTables s plan.query (document_nodes forest) forest
    plan_joins_by_tables joined =
        joined ACTIVE_CALLS s core plan.query (document_nodes forest) forest invariant well (documents_honest honest s core forest invariant externals documents)
        (documents_fit fits s invariant (plain_query core).declarations forest externals documents) rewritten.rewritten.reached
        ∙ sym (looks ACTIVE_CALLS s core (document_nodes forest) forest) ∙ sym plan_has_outcome

    pub plan_is_not_wrong : SoundQueriesKeepTheirTypes → IsSoundQuery s core → plan_outcome s plan.query (document_nodes forest) forest ≢ wrong
    plan_is_not_wrong keep sound =
        subst (λ (o : Outcome Items). o ≢ wrong) (sym plan_has_outcome) (sound_is_not_wrong keep honest fits s core forest invariant sound externals documents)

    pub answers_as_query : {Z : Type 0} (result : Result (String Z) Refusal) → AnswersSo (AnswersOutcome (plan_outcome s plan.query (document_nodes forest) forest)) result
        → AnswersSo (AnswersOutcome (query_outcome s (plain_query core) (document_nodes forest) forest)) result
    answers_as_query result h = subst (λ (o : Outcome Items). AnswersSo (AnswersOutcome o) result) plan_has_outcome h
