-- Calls of declared functions where joins are hash joins, unfolded once.
use Rattle.std.proofs.Common.{◌≡◌, ℕ, zero, suc, List, ◌++◌, refl}
use Rattle.std.specs.List.{slice_get}
use Rattle.gx_base.specs.declared.code.Code.TheVariants.{GLXD0001}
use Rattle.gx_types.specs.SchemaSet.{SchemaSet}
use Rattle.gx_model.specs.Forest.{Forest}
use Rattle.gx_model.specs.Item.{Items}
use Rattle.gx_core.specs.declared.signature.FunctionSignature.{FunctionSignature}
use Rattle.gx_core.specs.Outcome.{Outcome, raises, after, given}
use Rattle.gx_core.specs.Converting.{converted}
use Rattle.gx_core.specs.Functions.{arguments_bound}
use Rattle.gx_core.specs.Meaning.{Bindings}
use Rattle.gx_plan.specs.Plan.{FunctionOfPlan}
use Rattle.gx_joins.specs.JoinedMeaning.{joined_meaning as joined, joined_calls, joined_context}

pub joined_calls_end : (schemas : SchemaSet) (functions : List FunctionOfPlan) (globals : Bindings) (signature : FunctionSignature) (values : List Items) (forest : Forest)
    → joined_calls schemas functions globals zero signature values forest ≡ raises GLXD0001
unfolding joined_calls
joined_calls_end schemas functions globals signature values forest = refl

-- what a function comes to, where so many more calls may be active in its body
abbrev pub function_joined : SchemaSet → List FunctionOfPlan → (globals : Bindings) → (left : ℕ) → List Items → Forest → FunctionOfPlan → Outcome Items
function_joined schemas functions globals left values forest f =
    after (joined (joined_context schemas functions globals left) f.body (arguments_bound f.parameters values ++ globals) forest)
    (λ xs now. converted schemas f.result xs now)

pub joined_calls_go_on : (schemas : SchemaSet) (functions : List FunctionOfPlan) (globals : Bindings) (left : ℕ) (signature : FunctionSignature) (values : List Items) (forest : Forest)
    → joined_calls schemas functions globals (suc left) signature values forest
    ≡ given (slice_get functions signature.number) (function_joined schemas functions globals left values forest)
unfolding joined_calls
joined_calls_go_on schemas functions globals left signature values forest = refl
