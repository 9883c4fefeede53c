use Rattle.std.proofs.Common.{subst}
use Rattle.gx_static.specs.QueryJudgement.{query_judged, RejectsQuery}
use Rattle.gx_static.specs.declared.error.InferError.{InferError}
use Rattle.gx_processor.proofs.QueryLemmas.{static_type}
use Rattle.gx_processor.proofs.query.typed_core.Goals as goal

pub returns-in-Err-NoType-clause-cause : goal.returns-in-Err-NoType-clause-cause
returns-in-Err-NoType-clause-cause c =
    static_type c.args.schemas.now c.args.core c.in-Err-NoType.place c.in-Err-NoType.code
    (subst (λ (e : InferError). RejectsQuery e (query_judged c.args.schemas.now c.args.core)) c.in-Err-NoType.field-0-is c.in-Err-NoType.ensures.rejected)
