use Rattle.gx_parse_tokens.proofs.ReferenceScans.{no_scalar}
use Rattle.gx_parse_tokens.proofs.references.numbered.Goals as goal

pub returns-in_default-2 : goal.returns-in_default-2
returns-in_default-2 c = no_scalar c.args.number c.in_default.ensures.cases
