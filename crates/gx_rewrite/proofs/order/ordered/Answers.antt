use Rattle.std.proofs.Common.{◌≡◌, false, Some, if◌then◌else◌, sym, ◌∙◌, ap}
use Rattle.gx_core.specs.declared.operator.Operator.TheVariants as operators
use Rattle.gx_core.specs.Expression.{At, one_part}
use Rattle.gx_plan.specs.Plan.{PlanExpression}
use Rattle.gx_rules.specs.Rules.{RuleSetting, ordered_operand, made_operator, slashes}
use Rattle.gx_rewrite.specs.Rewriting.{rewritten_at}
use Rattle.gx_rewrite.specs.Shapes.{is_in_order}
use Rattle.gx_rewrite.proofs.OrderLemmas.{order_descends, if_ok_gives}
use Rattle.gx_rewrite.proofs.order.ordered.Goals as goal

pub returns-then-is_slashed-clause-made : goal.returns-then-is_slashed-clause-made
returns-then-is_slashed-clause-made c =
    let setting : RuleSetting = record { schemas = c.args.rewriter.now.schemas.now; variables = c.args.rewriter.now.variables.now } in
    let whole : PlanExpression = At c.args.head.place c.args.head.outer c.args.head.carried operators.Order (one_part c.args.operand.value) in
    let l : PlanExpression = c.in_ok-below.below in
    let needed : is_in_order c.args.operand.value ≡ false =
    ap is_in_order (sym c.deref.ensures) ∙ sym c.is_in_order.ensures ∙ c.if-is_in_order.false in
    let below : slashes setting whole ≡ ordered_operand c.args.rewriter.now.schemas.now c.args.head.place (Some l) =
    ap (λ (e : PlanExpression). slashes setting (At c.args.head.place c.args.head.outer c.args.head.carried operators.Order (one_part e))) (sym c.into_inner-then-is_slashed.ensures)
    ∙ c.in_ok-below.ensures.made c.args.head.place c.args.head.outer c.args.head.carried in
    let descends : rewritten_at setting whole ≡ (if is_in_order l then l else made_operator c.args.rewriter.now.schemas.now c.args.head.place operators.Order (one_part l)) =
    order_descends setting c.args.head.place c.args.head.outer c.args.head.carried c.args.operand.value l needed below in
    if_ok_gives c.in_order.result
    (λ r. r.0 ≡ (if is_in_order l then l else made_operator c.args.rewriter.now.schemas.now c.args.head.place operators.Order (one_part l)))
    (λ r. r.0 ≡ rewritten_at setting whole) (λ r k. k ∙ sym descends) c.in_order.ensures.made
