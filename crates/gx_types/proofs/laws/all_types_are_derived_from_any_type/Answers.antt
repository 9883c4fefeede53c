use Rattle.gx_types.proofs.PublicLaws.{all_types_are_derived_from_any_type}
use Rattle.gx_types.proofs.laws.all_types_are_derived_from_any_type.Goals as goal

pub returns : goal.returns
returns c = all_types_are_derived_from_any_type
