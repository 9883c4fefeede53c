use Rattle.std.proofs.Common.{◌≡◌, ◌++◌, [], ℕ, List, refl, ap, sym, ◌∙◌, subst}
use Rattle.std.proofs.lemmas.Result.{err_from_is_err_and, IfErr-weaker}
use Rattle.std.specs.Prelude.{OnOk}
use Rattle.gx_types.specs.SequenceType.{SequenceType}
use Rattle.gx_model.specs.Forest.{Forest}
use Rattle.gx_model.specs.Item.{Items}
use Rattle.gx_core.specs.declared.operator.Operator.TheVariants as operators
use Rattle.gx_core.specs.Converting.{arguments_converted}
use Rattle.gx_joins.specs.JoinedMeaning.{joined_calls, joined_context}
use Rattle.gx_core.specs.Meaning.{Bindings, CallOutcomes, Context}
use Rattle.gx_core.specs.Outcome.{Outcome, gives, after}
use Rattle.gx_plan.specs.Plan.{FunctionOfPlan}
use Rattle.gx_store.specs.Items.{items_in}
use Rattle.gx_machine.specs.BoundItems.{bounds_in}
use Rattle.gx_machine.specs.Failing.{FailsSo}
use Rattle.gx_machine.specs.Frames.{functions_in, frames_resumed, outcome_of_calls}
use Rattle.gx_machine.specs.Resume.{Stacks, between_marks, operated, resume, with_marks, items_of, stacks_of}
use Rattle.gx_machine.proofs.Resuming.{fails_through, fails_also}
use Rattle.gx_machine.proofs.CallFrames.{frames_fail, call_entered, call_fails}
use Rattle.gx_machine.proofs.frames.ActiveCalls.enter.Goals as goal

pub returns-in_err-operands-clause-failed : goal.returns-in_err-operands-clause-failed
returns-in_err-operands-clause-failed c = λ later x.
    let s = c.args.schemas.now in
    let store = c.args.store.now in
    let functions : List FunctionOfPlan = functions_in c.args.declared.functions.now in
    let globals : Bindings = items_of later c.args.declared.globals.now in
    let caller = c.args.self.now.innermost in
    let k : Context = joined_context s functions globals c.args.self.now.left in
    let next : List Items → List ℕ → Items → Outcome Items =
    λ operands below rest. operated k (operators.User c.args.signature.now c.args.count) operands rest store (λ vs left. resume k caller.work vs (with_marks (stacks_of later caller) below) (items_of later caller.scope) left) in
    let p = err_from_is_err_and c.from_residual.result c.from_residual.ensures.1 in
    rw (p.1, p.2) (frames_fail s functions globals later c.args.self.now.waiting _ _ (c.in_err-operands.ensures.failed later next))

pub returns-in_err-arguments-clause-failed : goal.returns-in_err-arguments-clause-failed
returns-in_err-arguments-clause-failed c = λ later x.
    let s = c.args.schemas.now in
    let store = c.args.store.now in
    let signature = c.args.signature.now in
    let functions : List FunctionOfPlan = functions_in c.args.declared.functions.now in
    let globals : Bindings = items_of later c.args.declared.globals.now in
    let caller = c.args.self.now.innermost in
    let calls : CallOutcomes = joined_calls s functions globals c.args.self.now.left in
    let k : Context = joined_context s functions globals c.args.self.now.left in
    let stacks : Stacks = stacks_of later caller in
    let bindings : Bindings = items_of later caller.scope in
    let operands : List Items = bounds_in later c.in_ok-operands.operands in
    let rest : Items = items_in later c.take_arguments.new.values.items in
    let next : List Items → List ℕ → Items → Outcome Items =
    λ between below front. operated k (operators.User signature c.args.count) between front store (λ vs left. resume k caller.work vs (with_marks stacks below) bindings left) in
    let behind : Items → Forest → Outcome Items = λ vs left. resume k caller.work vs (with_marks stacks c.take_arguments.new.marks) bindings left in
    let p = err_from_is_err_and c.from_residual-in_err-arguments.result c.from_residual-in_err-arguments.ensures.1 in
    rw (p.1, p.2)
    (frames_fail s functions globals later c.args.self.now.waiting _ _
    (fails_also _ _ _ (c.in_ok-operands.ensures.taken later next)
    (call_fails s calls signature c.args.count operands rest store behind _
    (subst (λ (parameters : List SequenceType). FailsSo c.in_err-arguments.field-0.0 (after (arguments_converted s parameters operands store) (λ values left. calls signature values left))) c.as_slice-parameters.ensures
    (c.in_err-arguments.ensures.failed later (λ values left. calls signature values left) x)))))

pub returns-clause-value : goal.returns-clause-value
returns-clause-value c = λ later x.
    let s = c.args.schemas.now in
    let store = c.args.store.now in
    let signature = c.args.signature.now in
    let functions : List FunctionOfPlan = functions_in c.args.declared.functions.now in
    let globals : Bindings = items_of later c.args.declared.globals.now in
    let caller = c.args.self.now.innermost in
    let calls : CallOutcomes = joined_calls s functions globals c.args.self.now.left in
    let k : Context = joined_context s functions globals c.args.self.now.left in
    let stacks : Stacks = stacks_of later caller in
    let bindings : Bindings = items_of later caller.scope in
    let operands : List Items = bounds_in later c.in_ok-operands.operands in
    let rest : Items = items_in later c.take_arguments.new.values.items in
    let next : List Items → List ℕ → Items → Outcome Items =
    λ between below front. operated k (operators.User signature c.args.count) between front store (λ vs left. resume k caller.work vs (with_marks stacks below) bindings left) in
    let behind : Items → Forest → Outcome Items = λ vs left. resume k caller.work vs (with_marks stacks c.take_arguments.new.marks) bindings left in
    let arguments : List Items = bounds_in later c.in_ok-arguments.arguments.items in
    let same : arguments_converted s signature.parameters operands store ≡ gives arguments store =
    ap (λ (parameters : List SequenceType). arguments_converted s parameters operands store) (sym c.as_slice-parameters.ensures) ∙ c.in_ok-arguments.ensures.value later x in
    subst (λ (o : Outcome Items). OnOk c.call.result (outcome_of_calls s functions globals store later c.call.new.self ≡ o))
    (ap (frames_resumed s functions globals later c.args.self.now.waiting)
    (sym (c.in_ok-operands.ensures.taken later next ∙ call_entered s calls signature c.args.count operands arguments rest store behind same)))
    (c.call.ensures.value s signature store later refl)

pub returns-clause-failed : goal.returns-clause-failed
returns-clause-failed c = λ later x.
    let s = c.args.schemas.now in
    let store = c.args.store.now in
    let signature = c.args.signature.now in
    let functions : List FunctionOfPlan = functions_in c.args.declared.functions.now in
    let globals : Bindings = items_of later c.args.declared.globals.now in
    let caller = c.args.self.now.innermost in
    let calls : CallOutcomes = joined_calls s functions globals c.args.self.now.left in
    let k : Context = joined_context s functions globals c.args.self.now.left in
    let stacks : Stacks = stacks_of later caller in
    let bindings : Bindings = items_of later caller.scope in
    let operands : List Items = bounds_in later c.in_ok-operands.operands in
    let rest : Items = items_in later c.take_arguments.new.values.items in
    let next : List Items → List ℕ → Items → Outcome Items =
    λ between below front. operated k (operators.User signature c.args.count) between front store (λ vs left. resume k caller.work vs (with_marks stacks below) bindings left) in
    let behind : Items → Forest → Outcome Items = λ vs left. resume k caller.work vs (with_marks stacks c.take_arguments.new.marks) bindings left in
    let arguments : List Items = bounds_in later c.in_ok-arguments.arguments.items in
    let same : arguments_converted s signature.parameters operands store ≡ gives arguments store =
    ap (λ (parameters : List SequenceType). arguments_converted s parameters operands store) (sym c.as_slice-parameters.ensures) ∙ c.in_ok-arguments.ensures.value later x in
    IfErr-weaker c.call.result (λ e. FailsSo e (calls signature arguments store))
    (λ e. FailsSo e (frames_resumed s functions globals later c.args.self.now.waiting (between_marks c.args.count caller.marks (items_in later caller.values.items) [] next)))
    (λ e h. frames_fail s functions globals later c.args.self.now.waiting e _
    (fails_also e _ _ (c.in_ok-operands.ensures.taken later next ∙ call_entered s calls signature c.args.count operands arguments rest store behind same)
    (fails_through (calls signature arguments store) (λ more left. behind (rest ++ more) left) e h)))
    (c.call.ensures.failed s signature store later refl)
