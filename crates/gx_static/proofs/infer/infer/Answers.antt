use Rattle.gx_static.proofs.QueryLaws.{sound_if_typed, same_if_typed}
use Rattle.gx_static.proofs.infer.infer.Goals as goal

pub returns-clause-sound : goal.returns-clause-sound
returns-clause-sound c = sound_if_typed c.args.schemas.now c.args.core c.types-types.ensures.invariant c.settled_core.result c.settled_core.ensures.typed

pub returns-clause-same : goal.returns-clause-same
returns-clause-same c = same_if_typed c.args.schemas.now c.args.core c.types-types.ensures.invariant c.settled_core.result c.settled_core.ensures.typed
