use Rattle.std.proofs.Common.{◌≡◌, List, length, map, ap, ◌∙◌, arith}
use Rattle.std.proofs.lemmas.List.{length-map}
use Rattle.gx_model.specs.Item.{Items}
use Rattle.gx_core.specs.Meaning.{Bindings, Denotation}
use Rattle.gx_joins.specs.JoinedMeaning.{joined_meaning as joined}
use Rattle.gx_plan.specs.Plan.{PlanExpression}
use Rattle.gx_core.specs.declared.operator.Operator.TheVariants as operators
use Rattle.gx_store.specs.Items.{items_in}
use Rattle.gx_machine.specs.declared.evaluation.Pending.{Pending}
use Rattle.gx_machine.specs.Resume.{Stacks, items_of, stacks_of, in_order, resume_marked}
use Rattle.gx_machine.proofs.Resuming.{operands_open}
use Rattle.gx_machine.proofs.evaluation.Evaluation.open_construct.Goals as goal

pub returns : goal.returns
returns c = λ k forest later.
    let values : Items = items_in later c.args.self.now.values.items in
    let stacks : Stacks = stacks_of later c.args.self.now in
    let bindings : Bindings = items_of later c.args.self.now.scope in
    let parts : List PlanExpression = c.args.parts.now in
    let means : List Denotation = map (joined k) parts in
    let all : length parts ≡ length means = omega (arith, length-map parts (joined k)) in
    c.in_ok-mark_parts.ensures k stacks values stacks.marks bindings forest
    ∙ ap (λ (work : List Pending). in_order means (resume_marked k work stacks) values stacks.marks bindings forest) c.in_ok-push.ensures.ok
    ∙ operands_open k (operators.Construct c.args.constructor.now (length parts)) c.args.self.now.work values stacks bindings forest means (length parts) all
