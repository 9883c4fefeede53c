use Rattle.std.proofs.Common.{◌≡◌, IfOk, sym, ◌∙◌, ap, subst}
use Rattle.gx_core.specs.declared.expression.Form.{Form}
use Rattle.gx_core.specs.declared.operator.Operator.TheVariants as operators
use Rattle.gx_core.specs.Expression.{At, a_part, all_parts, one_part, two_parts}
use Rattle.gx_core.specs.ExpressionView.{operator_of, parts_of}
use Rattle.gx_plan.specs.declared.plan.Carried.{Carried}
use Rattle.gx_plan.specs.Plan.{PlanExpression}
use Rattle.gx_rewrite.specs.Rewriting.{rewritten_at}
use Rattle.gx_rewrite.proofs.rewrite.rewritten.Goals as goal

pub returns-in-For-clause-made : goal.returns-in-For-clause-made
returns-in-For-clause-made c =
    let p = c.into_parts-carried.result in
    let whole : c.args.expression ≡ At p.0 p.1 p.2 (operators.For c.in-For.binder c.in-For.position) (two_parts c.in-For.source.value c.in-For.body.value) =
    c.into_parts-carried.ensures ∙ ap (λ (f : Form Carried). At p.0 p.1 p.2 (operator_of f) (parts_of f)) c.in-For.is in
    subst (λ (e : PlanExpression). IfOk c.looped.result (λ r. r.0 ≡ rewritten_at (record { schemas = c.args.rewriter.now.schemas.now; variables = c.args.rewriter.now.variables.now }) e)) (sym whole)
    (c.looped.ensures.made c.args.rewriter.now.variables.now)

pub returns-in-Switch-clause-made : goal.returns-in-Switch-clause-made
returns-in-Switch-clause-made c =
    let p = c.into_parts-carried.result in
    let whole : c.args.expression ≡ At p.0 p.1 p.2 (operators.Switch c.in-Switch.cases c.in-Switch.default) (a_part c.in-Switch.operand.value (all_parts c.in-Switch.branches.items)) =
    c.into_parts-carried.ensures ∙ ap (λ (f : Form Carried). At p.0 p.1 p.2 (operator_of f) (parts_of f)) c.in-Switch.is in
    subst (λ (e : PlanExpression). IfOk c.switched.result (λ r. r.0 ≡ rewritten_at (record { schemas = c.args.rewriter.now.schemas.now; variables = c.args.rewriter.now.variables.now }) e)) (sym whole)
    (c.switched.ensures.made c.args.rewriter.now.variables.now)

pub returns-in-Call-clause-made : goal.returns-in-Call-clause-made
returns-in-Call-clause-made c =
    let p = c.into_parts-carried.result in
    let whole : c.args.expression ≡ At p.0 p.1 p.2 (operators.Call c.in-Call.function) (all_parts c.in-Call.arguments.items) =
    c.into_parts-carried.ensures ∙ ap (λ (f : Form Carried). At p.0 p.1 p.2 (operator_of f) (parts_of f)) c.in-Call.is in
    subst (λ (e : PlanExpression). IfOk c.called.result (λ r. r.0 ≡ rewritten_at (record { schemas = c.args.rewriter.now.schemas.now; variables = c.args.rewriter.now.variables.now }) e)) (sym whole)
    (c.called.ensures.made c.args.rewriter.now.variables.now)

pub returns-in-DataOf-clause-made : goal.returns-in-DataOf-clause-made
returns-in-DataOf-clause-made c =
    let p = c.into_parts-carried.result in
    let whole : c.args.expression ≡ At p.0 p.1 p.2 operators.DataOf (one_part c.in-DataOf.operand.value) =
    c.into_parts-carried.ensures ∙ ap (λ (f : Form Carried). At p.0 p.1 p.2 (operator_of f) (parts_of f)) c.in-DataOf.is in
    subst (λ (e : PlanExpression). IfOk c.atomized.result (λ r. r.0 ≡ rewritten_at (record { schemas = c.args.rewriter.now.schemas.now; variables = c.args.rewriter.now.variables.now }) e)) (sym whole)
    (c.atomized.ensures.made c.args.rewriter.now.variables.now)
