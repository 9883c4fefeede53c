use Rattle.std.proofs.Common.{subst}
use Rattle.gx_core.specs.Refusal.{Fails}
use Rattle.gx_core.specs.declared.dyn_error.DynError.{DynError}
use Rattle.gx_plan.specs.PlanMeaning.{plan_outcome}
use Rattle.gx_documents.specs.Documents.{document_nodes}
use Rattle.gx_processor.proofs.RunLemmas.{dynamic_error}
use Rattle.gx_processor.proofs.run.written.Goals as goal

pub returns-in-Err-Raised-clause-own : goal.returns-in-Err-Raised-clause-own
returns-in-Err-Raised-clause-own c =
    let s = c.args.schemas.now in
    let query = c.args.plan.now.query in
    let documents = document_nodes c.args.store in
    rw (c.in-Err-Raised.code-is)
    (dynamic_error c.queries_raise_dynamic_codes.ensures c.query_meaning_looks_at_no_type.ensures c.plans_have_the_outcome_of_their_typed_core.ensures s query documents c.args.store c.in-Err-Raised.code
    (subst (λ (e : DynError). Fails e (plan_outcome s query documents c.args.store)) c.in-Err-Raised.field-0-is c.in-Err-Raised.ensures.raised))
