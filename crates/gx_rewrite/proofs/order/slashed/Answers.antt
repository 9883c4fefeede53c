use Rattle.std.proofs.Common.{◌≡◌, Some, sym, ◌∙◌, ap}
use Rattle.gx_core.specs.declared.expression.Form.{Form}
use Rattle.gx_core.specs.declared.operator.Operator.TheVariants as operators
use Rattle.gx_core.specs.Expression.{At, no_parts, one_part, two_parts}
use Rattle.gx_core.specs.ExpressionView.{operator_of, parts_of}
use Rattle.gx_plan.specs.declared.plan.Carried.{Carried}
use Rattle.gx_plan.specs.Plan.{PlanExpression}
use Rattle.gx_rules.specs.Rules.{RuleSetting, with_steps_below, ordered_operand, slashes, without_order}
use Rattle.gx_rewrite.specs.Shapes.{is_child_step_from, steps_to_all_below, is_slashed}
use Rattle.gx_rewrite.proofs.OrderLemmas.{no_step_form, slashed_source, slashed_step, slashes_by, if_ok_gives}
use Rattle.gx_rewrite.proofs.order.slashed.Goals as goal

pub descending-requires : goal.descending-requires
descending-requires c =
    let p = c.into_parts-carried.result in
    let is : c.args.operand ≡ At p.0 p.1 p.2 (operators.For c.in-For._binder c.in-For.field-1) (two_parts c.in-For.source.value c.in-For.body.value) =
    c.into_parts-carried.ensures ∙ ap (λ (f : Form Carried). At p.0 p.1 p.2 (operator_of f) (parts_of f)) c.in-For.is in
    ap steps_to_all_below c.without_order.ensures
    ∙ slashed_source p.0 p.1 p.2 c.in-For._binder c.in-For.field-1 c.in-For.source.value c.in-For.body.value (ap is_slashed (sym is) ∙ c.requires)

pub unreachable-requires : goal.unreachable-requires
unreachable-requires c =
    let p = c.into_parts-carried.result in
    let q = c.into_parts-carried-in-For.result in
    let is : c.args.operand ≡ At p.0 p.1 p.2 (operators.For c.in-For._binder c.in-For.field-1) (two_parts c.in-For.source.value c.in-For.body.value) =
    c.into_parts-carried.ensures ∙ ap (λ (f : Form Carried). At p.0 p.1 p.2 (operator_of f) (parts_of f)) c.in-For.is in
    no_step_form c.in-For._binder.variable q.0 q.1 q.2 q.3
    (ap (is_child_step_from c.in-For._binder.variable) (sym (sym c.into_inner.ensures ∙ c.into_parts-carried-in-For.ensures))
    ∙ slashed_step p.0 p.1 p.2 c.in-For._binder c.in-For.field-1 c.in-For.source.value c.in-For.body.value (ap is_slashed (sym is) ∙ c.requires))
    c.in_default-step.not-Step

pub returns-clause-made : goal.returns-clause-made
returns-clause-made c = λ place outer carried.
    let setting : RuleSetting = record { schemas = c.args.rewriter.now.schemas.now; variables = c.args.rewriter.now.variables.now } in
    let p = c.into_parts-carried.result in
    let q = c.into_parts-carried-in-For.result in
    let is : c.args.operand ≡ At p.0 p.1 p.2 (operators.For c.in-For._binder c.in-For.field-1) (two_parts c.in-For.source.value c.in-For.body.value) =
    c.into_parts-carried.ensures ∙ ap (λ (f : Form Carried). At p.0 p.1 p.2 (operator_of f) (parts_of f)) c.in-For.is in
    let step : c.in-For.body.value ≡ At q.0 q.1 q.2 (operators.Step c.in-Step.field-0 c.in-Step.test c.in-Step.field-2) no_parts =
    sym c.into_inner.ensures ∙ c.into_parts-carried-in-For.ensures
    ∙ ap (λ (f : Form Carried). At q.0 q.1 q.2 (operator_of f) (parts_of f)) c.in-Step.is in
    let order : PlanExpression → PlanExpression = λ e. At place outer carried operators.Order (one_part e) in
    if_ok_gives c.descending.result (λ r. with_steps_below setting c.in-Step.test c.without_order.result ≡ Some r.0)
    (λ r. slashes setting (order c.args.operand) ≡ ordered_operand c.args.rewriter.now.schemas.now place (Some r.0))
    (λ r k.
    let found : with_steps_below setting c.in-Step.test (without_order c.in-For.source.value) ≡ Some r.0 =
    ap (with_steps_below setting c.in-Step.test) (sym c.without_order.ensures) ∙ k in
    let over : slashes setting (order (At p.0 p.1 p.2 (operators.For c.in-For._binder c.in-For.field-1) (two_parts c.in-For.source.value c.in-For.body.value)))
    ≡ ordered_operand c.args.rewriter.now.schemas.now place (Some r.0) =
    slashes_by setting place outer carried p.0 p.1 p.2 c.in-For._binder c.in-For.field-1 c.in-For.source.value c.in-For.body.value r.0 q.0 q.1 q.2
    c.in-Step.field-0 c.in-Step.test c.in-Step.field-2 (ap is_slashed (sym is) ∙ c.requires) step found in
    ap (λ (e : PlanExpression). slashes setting (order e)) is ∙ over)
    c.descending.ensures.made
