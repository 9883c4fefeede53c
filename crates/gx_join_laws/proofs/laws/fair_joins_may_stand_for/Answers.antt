use Rattle.gx_join_laws.proofs.JoinedCalls.{fair_joins_may_stand_for}
use Rattle.gx_join_laws.proofs.laws.fair_joins_may_stand_for.Goals as goal

pub returns : goal.returns
returns c = fair_joins_may_stand_for
