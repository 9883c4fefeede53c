use Rattle.gx_types.proofs.PublicLaws.{members_are_distinct}
use Rattle.gx_types.proofs.laws.members_are_distinct.Goals as goal

pub returns : goal.returns
returns c = members_are_distinct
