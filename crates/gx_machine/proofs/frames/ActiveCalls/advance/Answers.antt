use Rattle.std.proofs.Common.{List, ap, sym, ◌∙◌}
use Rattle.std.proofs.lemmas.Result.{err_from_is_err_and}
use Rattle.gx_model.specs.Item.{Items}
use Rattle.gx_joins.specs.JoinedMeaning.{joined_context}
use Rattle.gx_core.specs.Meaning.{Bindings, Context}
use Rattle.gx_plan.specs.Plan.{FunctionOfPlan}
use Rattle.gx_store.specs.Items.{items_in}
use Rattle.gx_machine.specs.declared.evaluation.Pending.{Pending}
use Rattle.gx_machine.specs.Frames.{functions_in, frames_resumed}
use Rattle.gx_machine.specs.Resume.{Stacks, resume, items_of, stacks_of}
use Rattle.gx_machine.proofs.Resuming.{fails_also}
use Rattle.gx_machine.proofs.frames.ActiveCalls.advance.Goals as goal

pub returns-in-Some-clause-same : goal.returns-in-Some-clause-same
returns-in-Some-clause-same g c = λ later x.
    let s = c.args.schemas.now in
    let functions : List FunctionOfPlan = functions_in c.args.declared.functions.now in
    let globals : Bindings = items_of later c.args.declared.globals.now in
    let active = c.args.self.now in
    let k : Context = joined_context s functions globals active.left in
    let values : Items = items_in later active.innermost.values.items in
    let stacks : Stacks = stacks_of later active.innermost in
    let bindings : Bindings = items_of later active.innermost.scope in
    c.in_ok-step.ensures.value later x
    ∙ ap (λ (work : List Pending). frames_resumed s functions globals later active.waiting (resume k work values stacks bindings c.args.store.now)) (sym c.in-Some.ensures)

pub returns-in_err-step-clause-failed : goal.returns-in_err-step-clause-failed
returns-in_err-step-clause-failed g c = λ later x.
    let s = c.args.schemas.now in
    let functions : List FunctionOfPlan = functions_in c.args.declared.functions.now in
    let globals : Bindings = items_of later c.args.declared.globals.now in
    let active = c.args.self.now in
    let k : Context = joined_context s functions globals active.left in
    let values : Items = items_in later active.innermost.values.items in
    let stacks : Stacks = stacks_of later active.innermost in
    let bindings : Bindings = items_of later active.innermost.scope in
    let p = err_from_is_err_and c.from_residual.result c.from_residual.ensures.1 in
    rw (p.1, p.2)
    (fails_also _ _ _
    (ap (λ (work : List Pending). frames_resumed s functions globals later active.waiting (resume k work values stacks bindings c.args.store.now)) c.in-Some.ensures)
    (c.in_err-step.ensures.failed later x))
