use Rattle.std.proofs.Common.{rules}
use Rattle.gx_processor.proofs.QueryLemmas.{static_name}
use Rattle.gx_processor.proofs.query.core_of.Goals as goal

pub returns-in-Err-Refused-clause-cause : goal.returns-in-Err-Refused-clause-cause
returns-in-Err-Refused-clause-cause c =
    rw (c.in-Err-Refused.code-is) (static_name c.args.schemas.now c.args.tree c.in-Err-Refused.code c.in-Err-Refused.place (search rules))
