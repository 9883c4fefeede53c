use Rattle.std.proofs.Common.{◌≡◌, zero, suc, List, None, Some, ap, sym, ◌∙◌, arith}
use Rattle.std.specs.List.{slice_get}
use Rattle.gx_model.specs.Item.{Items}
use Rattle.gx_joins.specs.JoinedMeaning.{joined_context}
use Rattle.gx_core.specs.Meaning.{Bindings, Context}
use Rattle.gx_core.specs.Outcome.{Outcome}
use Rattle.gx_plan.specs.Plan.{FunctionOfPlan}
use Rattle.gx_machine.specs.BoundItems.{bounds_in}
use Rattle.gx_machine.specs.Frames.{functions_in, frames_resumed}
use Rattle.gx_machine.specs.Resume.{items_of, outcome_behind}
use Rattle.gx_machine.proofs.CallFrames.{call_goes_on, call_ends, call_is_wrong}
use Rattle.gx_machine.proofs.frames.ActiveCalls.call.Goals as goal

pub returns-in_default-clause-failed : goal.returns-in_default-clause-failed
returns-in_default-clause-failed c = λ schemas signature forest later number.
    let none : c.args.self.now.left ≡ zero = omega (arith, c.in_default.ensures) in
    call_ends schemas (functions_in c.args.declared.functions.now) (items_of later c.args.declared.globals.now) c.args.self.now.left signature (bounds_in later c.args.arguments.items) forest none

pub returns-in_default-function_at-clause-failed : goal.returns-in_default-function_at-clause-failed
returns-in_default-function_at-clause-failed c = λ schemas signature forest later number.
    let functions : List FunctionOfPlan = functions_in c.args.declared.functions.now in
    let more : c.args.self.now.left ≡ suc c.in-Some.left = omega (arith, c.in-Some.ensures.0, c.in-Some.ensures.1) in
    let missing : slice_get functions signature.number ≡ None = ap (slice_get functions) number ∙ sym c.in_default-function_at.ensures in
    call_is_wrong schemas functions (items_of later c.args.declared.globals.now) c.args.self.now.left c.in-Some.left signature (bounds_in later c.args.arguments.items) forest more missing

pub returns-clause-value : goal.returns-clause-value
returns-clause-value c = λ schemas signature forest later number.
    let functions : List FunctionOfPlan = functions_in c.args.declared.functions.now in
    let globals : Bindings = items_of later c.args.declared.globals.now in
    let active = c.args.self.now in
    let k : Context = joined_context schemas functions globals active.left in
    let more : active.left ≡ suc c.in-Some.left = omega (arith, c.in-Some.ensures.0, c.in-Some.ensures.1) in
    let found : slice_get functions signature.number ≡ Some c.in-Some-function_at.function.now = ap (slice_get functions) number ∙ sym c.in-Some-function_at.ensures in
    c.in_ok-open_body.ensures schemas functions forest later
    ∙ ap (λ (o : Outcome Items). frames_resumed schemas functions globals later active.waiting (outcome_behind k later o active.innermost))
    (call_goes_on schemas functions globals active.left c.in-Some.left signature (bounds_in later c.args.arguments.items) forest c.in-Some-function_at.function.now more found)
