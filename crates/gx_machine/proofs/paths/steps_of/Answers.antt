use Rattle.std.proofs.Common.{◌≡◌, IfSome, subst}
use Rattle.gx_plan.specs.Plan.{PlanExpression}
use Rattle.gx_machine.specs.Joining.{loop_meant}
use Rattle.gx_machine.specs.StepLoops.{steps_meaning}
use Rattle.gx_machine.proofs.paths.steps_of.Goals as goal

pub returns-in-For : goal.returns-in-For
returns-in-For c = λ k.
    let role = c.expression.inside.kind.role in
    rw (← c.expression.view_is, c.in-For.is)
    (subst (λ (source : PlanExpression). IfSome c.loop_of_steps.result (λ steps. loop_meant k role c.in-For.binder c.in-For.position source c.in-For.body.value ≡ steps_meaning k steps)) c.deref.ensures
    (subst (λ (body : PlanExpression). IfSome c.loop_of_steps.result (λ steps. loop_meant k role c.in-For.binder c.in-For.position c.deref.result.now body ≡ steps_meaning k steps)) c.deref-in-For.ensures
    (c.loop_of_steps.ensures.marked k role)))
