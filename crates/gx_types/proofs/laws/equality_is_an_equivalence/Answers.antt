use Rattle.gx_types.proofs.PublicLaws.{equality_is_an_equivalence}
use Rattle.gx_types.proofs.laws.equality_is_an_equivalence.Goals as goal

pub returns : goal.returns
returns c = equality_is_an_equivalence
