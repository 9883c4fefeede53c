use Rattle.gx_types.proofs.PublicLaws.{equal_types_take_the_same}
use Rattle.gx_types.proofs.laws.equal_types_take_the_same.Goals as goal

pub returns : goal.returns
returns c = equal_types_take_the_same
