use Rattle.std.proofs.Common.{◌≡◌, List, ap, sym, subst, ◌∙◌}
use Rattle.std.specs.Prelude.{IfOk}
use Rattle.gx_core.specs.declared.cases.TypeCase.{TypeCase}
use Rattle.gx_core.specs.declared.expression.Form.{Form}
use Rattle.gx_core.specs.declared.operator.Operator.TheVariants as operators
use Rattle.gx_core.specs.Expression.{CoreExpression, At, a_part, all_parts}
use Rattle.gx_core.specs.ExpressionView.{operator_of, parts_of}
use Rattle.gx_normal.specs.Switches.{case_in_front}
use Rattle.gx_normal.proofs.switches.case_in_front.Goals as goal

pub returns-in-Switch : goal.returns-in-Switch
returns-in-Switch c =
    let there = c.into_parts-kind.result.0 in
    let outer = c.into_parts-kind.result.1 in
    let whole : c.args.case.value ≡ At there outer tt (operators.Switch c.into_vec.result.items c.in-Switch.field-2) (a_part c.in-Switch.nothing.value (all_parts c.in-Switch.bodies.items)) =
    sym c.into_inner.ensures
    ∙ c.into_parts-kind.ensures
    ∙ ap (λ (form : Form (Unit {0})). At there outer tt (operator_of form) (parts_of form)) c.in-Switch.is
    ∙ ap (λ (cases : List TypeCase). At there outer tt (operators.Switch cases c.in-Switch.field-2) (a_part c.in-Switch.nothing.value (all_parts c.in-Switch.bodies.items))) (sym c.into_vec.ensures) in
    subst (λ (e : CoreExpression). IfOk c.branches_behind.result (λ r. r ≡ case_in_front c.args.place e c.args.rest.value)) (sym whole) (c.branches_behind.ensures there outer c.in-Switch.field-2)
