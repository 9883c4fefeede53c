use Rattle.gx_static.proofs.JudgedByInclusion.{queries_are_judged_by_inclusion}
use Rattle.gx_static.proofs.laws.queries_are_judged_by_inclusion.Goals as goal

pub returns : goal.returns
returns c = queries_are_judged_by_inclusion
