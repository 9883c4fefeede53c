use Rattle.gx_join_laws.proofs.JoinedStandIns.{joined_stand_ins_have_the_outcome}
use Rattle.gx_join_laws.proofs.laws.joined_stand_ins_have_the_outcome.Goals as goal

pub returns : goal.returns
returns c = joined_stand_ins_have_the_outcome
