use Rattle.gx_names.proofs.StaticCodes.{names_are_refused_with_static_codes}
use Rattle.gx_names.proofs.laws.names_are_refused_with_static_codes.Goals as goal

pub returns : goal.returns
returns c = names_are_refused_with_static_codes
