use Rattle.gx_static.specs.QueryJudgement.{core_typed}
use Rattle.gx_static.proofs.Continuing.{judgement_is}
use Rattle.gx_static.proofs.infer.typed_core.Goals as goal

pub returns-in-None-clause-typed : goal.returns-in-None-clause-typed
returns-in-None-clause-typed c =
    judgement_is c.args.schemas.now c.loop.typing.parts c.loop.typing.scope c.loop.typing.declared.items (core_typed c.args.schemas.now c.args.core) c.result.result
    (rw c.in-None.ensures.0 at c.loop.invariant) (c.result.ensures c.args.schemas.now)
