use Rattle.gx_plan.specs.declared.plan.Carried.{Carried}
use Rattle.gx_plan.proofs.AgreeingCalls.{same_expressions_may_stand_for}
use Rattle.gx_plan.proofs.laws.same_expressions_may_stand_for.Goals as goal

pub returns : goal.returns
returns c = same_expressions_may_stand_for Carried
