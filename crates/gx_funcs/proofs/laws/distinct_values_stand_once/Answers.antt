use Rattle.gx_funcs.proofs.DistinctLaws.{each_stands_once}
use Rattle.gx_funcs.proofs.laws.distinct_values_stand_once.Goals as goal

pub returns : goal.returns
returns c = each_stands_once
