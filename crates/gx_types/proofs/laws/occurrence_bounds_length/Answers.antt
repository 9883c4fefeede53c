use Rattle.gx_types.proofs.PublicLaws.{occurrence_bounds_length}
use Rattle.gx_types.proofs.laws.occurrence_bounds_length.Goals as goal

pub returns : goal.returns
returns c = occurrence_bounds_length
