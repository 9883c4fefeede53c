use Rattle.std.proofs.Common.{List}
use Rattle.gx_joins.specs.JoinedMeaning.{joined_calls}
use Rattle.gx_core.specs.Meaning.{Bindings, CallOutcomes}
use Rattle.gx_plan.specs.Plan.{FunctionOfPlan}
use Rattle.gx_machine.specs.Frames.{functions_in}
use Rattle.gx_machine.specs.Resume.{context_with, items_of, outcome_of, outcome_with}
use Rattle.gx_machine.proofs.CallFrames.{frames_follow, failure_follows}
use Rattle.gx_machine.proofs.frames.ActiveCalls.step.Goals as goal

pub returns-in-Enter-clause-value : goal.returns-in-Enter-clause-value
returns-in-Enter-clause-value g c = λ later x. rw c.in-Enter.is (c.enter.ensures.value later x)

pub returns-in-Enter-clause-failed : goal.returns-in-Enter-clause-failed
returns-in-Enter-clause-failed g c = λ later x. rw c.in-Enter.is (c.enter.ensures.failed later x)

pub returns-in_default-clause-grows : goal.returns-in_default-clause-grows
returns-in_default-clause-grows g c = c.step.ensures.grows

pub returns-in_default-clause-value : goal.returns-in_default-clause-value
returns-in_default-clause-value g c = λ later x.
    let s = c.args.schemas.now in
    let functions : List FunctionOfPlan = functions_in c.args.declared.functions.now in
    let globals : Bindings = items_of later c.args.declared.globals.now in
    let calls : CallOutcomes = joined_calls s functions globals c.args.self.now.left in
    frames_follow c.step.result s functions globals later c.args.self.now.waiting
    (outcome_of (context_with s calls) c.step.new.store later c.step.new.self) (outcome_with (context_with s calls) c.args.store.now later c.args.pending c.args.self.now.innermost)
    (c.step.ensures.value calls later x)

pub returns-in_default-clause-failed : goal.returns-in_default-clause-failed
returns-in_default-clause-failed g c = λ later x.
    let s = c.args.schemas.now in
    let functions : List FunctionOfPlan = functions_in c.args.declared.functions.now in
    let globals : Bindings = items_of later c.args.declared.globals.now in
    let calls : CallOutcomes = joined_calls s functions globals c.args.self.now.left in
    failure_follows c.step.result s functions globals later c.args.self.now.waiting
    (outcome_with (context_with s calls) c.args.store.now later c.args.pending c.args.self.now.innermost)
    (c.step.ensures.failed calls later x)
