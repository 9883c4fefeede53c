use Rattle.gx_joins.proofs.Pairs.{loops_are_hash_joins}
use Rattle.gx_joins.proofs.laws.loops_are_hash_joins.Goals as goal

pub returns : goal.returns
returns c = loops_are_hash_joins
