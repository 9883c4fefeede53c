use Rattle.gx_type_laws.proofs.PublicLaws.{rules_add_no_positions}
use Rattle.gx_type_laws.proofs.laws.rules_add_no_positions.Goals as goal

pub returns : goal.returns
returns c = rules_add_no_positions
