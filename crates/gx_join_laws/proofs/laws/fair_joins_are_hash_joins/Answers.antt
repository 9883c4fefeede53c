use Rattle.gx_join_laws.proofs.FairMeaning.{fair_joins_are_hash_joins}
use Rattle.gx_join_laws.proofs.laws.fair_joins_are_hash_joins.Goals as goal

pub returns : goal.returns
returns c = fair_joins_are_hash_joins
