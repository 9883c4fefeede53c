-- What the calls that are active come to.
use Rattle.std.specs.Prelude.{ℕ, List, [], ◌∷◌, ◌++◌, map}
use Rattle.std.specs.Borrow.{Bor}
use Rattle.gx_types.specs.SchemaSet.{SchemaSet}
use Rattle.gx_model.specs.Forest.{Forest}
use Rattle.gx_model.specs.Item.{Items}
use Rattle.gx_plan.specs.Plan.{FunctionOfPlan}
use Rattle.gx_core.specs.Outcome.{Outcome, after}
use Rattle.gx_core.specs.Converting.{converted}
use Rattle.gx_core.specs.Functions.{arguments_bound}
use Rattle.gx_joins.specs.JoinedMeaning.{joined_context, joined_meaning as joined}
use Rattle.gx_core.specs.Meaning.{Bindings}
use Rattle.gx_machine.specs.declared.evaluation.Pending.{Pending}
use Rattle.gx_machine.specs.declared.frames.Frame.{Frame}
use Rattle.gx_machine.specs.declared.frames.ActiveCalls.{ActiveCalls}
use Rattle.gx_machine.specs.Resume.{outcome_of, outcome_with, outcome_behind}

abbrev pub functions_in : List (Bor FunctionOfPlan) → List FunctionOfPlan
functions_in functions = map (λ (function : Bor FunctionOfPlan). function.now) functions

-- what the evaluations that wait come to, the innermost first, each behind the value of the function which it has called
abbrev pub frames_resumed : SchemaSet → List FunctionOfPlan → (globals : Bindings) → (later : Forest) → List Frame → Outcome Items → Outcome Items
frames_resumed schemas functions globals later [] called = called
frames_resumed schemas functions globals later (frame ∷ frames) called =
    frames_resumed schemas functions globals later frames
    (outcome_behind (joined_context schemas functions globals frame.left) later
    (after called (λ xs left. converted schemas frame.result.now xs left)) frame.evaluation)

-- what a function comes to, where so many more calls may be active in its body
abbrev pub function_called : SchemaSet → List FunctionOfPlan → (globals : Bindings) → (left : ℕ) → (values : List Items) → Forest → FunctionOfPlan → Outcome Items
function_called schemas functions globals left values forest f =
    after (joined (joined_context schemas functions globals left) f.body (arguments_bound f.parameters values ++ globals) forest)
    (λ xs now. converted schemas f.result xs now)

-- what an expression in its midst comes to: the innermost call, and then the evaluations that wait
abbrev pub outcome_of_calls : SchemaSet → List FunctionOfPlan → (globals : Bindings) → (forest later : Forest) → ActiveCalls → Outcome Items
outcome_of_calls schemas functions globals forest later active =
    frames_resumed schemas functions globals later active.waiting
    (outcome_of (joined_context schemas functions globals active.left) forest later active.innermost)

-- with one more piece of work that comes first
abbrev pub outcome_of_calls_with : SchemaSet → List FunctionOfPlan → (globals : Bindings) → (forest later : Forest) → Pending → ActiveCalls → Outcome Items
outcome_of_calls_with schemas functions globals forest later pending active =
    frames_resumed schemas functions globals later active.waiting
    (outcome_with (joined_context schemas functions globals active.left) forest later pending active.innermost)
