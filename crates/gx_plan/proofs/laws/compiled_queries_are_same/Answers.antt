use Rattle.gx_plan.proofs.SameCompiled.{compiled_queries_are_same}
use Rattle.gx_plan.proofs.laws.compiled_queries_are_same.Goals as goal

pub returns : goal.returns
returns c = compiled_queries_are_same
