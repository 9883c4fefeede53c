use Rattle.std.proofs.Common.{◌≡◌, sym, ap, ◌∙◌}
use Rattle.gx_core.specs.Expression.{At, no_parts, one_part}
use Rattle.gx_core.specs.ExpressionView.{operator_of, parts_of}
use Rattle.gx_core.specs.declared.operator.Operator.TheVariants as operators
use Rattle.gx_core.specs.declared.expression.Form.{Form}
use Rattle.gx_plan.specs.declared.plan.Carried.{Carried}
use Rattle.gx_machine.proofs.AtHand.{path_is}
use Rattle.gx_machine.proofs.hand.step_path.Goals as goal

pub returns : goal.returns
returns c =
    let s = c.behind-source.inside in
    let o = c.behind-operand.inside in
    let t = c.behind-step.inside in
    let source : c.in-For.source.value ≡ At s.place s.outer s.kind operators.Nodes (one_part c.in-Nodes.operand.value) =
    sym c.deref.ensures ∙ sym c.behind-source.view_is ∙ ap (λ (form : Form Carried). At s.place s.outer s.kind (operator_of form) (parts_of form)) c.in-Nodes.is in
    let operand : c.in-Nodes.operand.value ≡ At o.place o.outer o.kind (operators.Var c.in-Var.number) no_parts =
    sym c.deref-2.ensures ∙ sym c.behind-operand.view_is ∙ ap (λ (form : Form Carried). At o.place o.outer o.kind (operator_of form) (parts_of form)) c.in-Var.is in
    let step : c.in-For.step.value ≡ At t.place t.outer t.kind (operators.Step c.in-Step.axis c.in-Step.test c.in-Step.from) no_parts =
    sym c.deref-3.ensures ∙ sym c.behind-step.view_is ∙ ap (λ (form : Form Carried). At t.place t.outer t.kind (operator_of form) (parts_of form)) c.in-Step.is in
    rw (← c.path.view_is, c.in-For.is)
    (path_is c.in-For.binder c.in-Var.number c.in-Step.axis c.in-Step.test c.in-Step.from c.in-For.position c.in-For.source.value c.in-Nodes.operand.value c.in-For.step.value c.path.inside.place c.path.inside.outer
    s.place s.outer o.place o.outer t.place t.outer c.path.inside.kind s.kind o.kind t.kind c.if-position-ne0.false c.if-from-binder.false source operand step)
