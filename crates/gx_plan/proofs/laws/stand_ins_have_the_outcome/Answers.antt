use Rattle.gx_plan.specs.declared.plan.Carried.{Carried}
use Rattle.gx_plan.proofs.StandIns.{stand_ins_have_the_outcome}
use Rattle.gx_plan.proofs.laws.stand_ins_have_the_outcome.Goals as goal

pub returns : goal.returns
returns c = stand_ins_have_the_outcome Carried
