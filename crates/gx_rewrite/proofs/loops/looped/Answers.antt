use Rattle.std.proofs.Common.{◌≡◌, ◌&&◌, sym, ◌∙◌, ap}
use Rattle.gx_core.specs.declared.operator.Operator.TheVariants as operators
use Rattle.gx_core.specs.Expression.{At, two_parts}
use Rattle.gx_plan.specs.Plan.{PlanExpression, kind_carried}
use Rattle.gx_rules.specs.Guards.{is_own_role}
use Rattle.gx_rules.specs.Rules.{RuleSetting, occurs_once}
use Rattle.gx_rewrite.specs.Rewriting.{rewritten_at}
use Rattle.gx_rewrite.specs.Shapes.{is_join_loop, joins_by_loop, marked_join}
use Rattle.gx_rewrite.proofs.OrderLemmas.{if_ok_gives}
use Rattle.gx_rewrite.proofs.LoopLemmas.{join_applies, join_has_loop, loop_stays}
use Rattle.gx_rewrite.proofs.loops.looped.Goals as goal

pub joined-requires : goal.joined-requires
joined-requires c =
    ap (joins_by_loop c.args.schemas.now c.args.parts.binder.variable) c.into_inner.ensures
    ∙ join_has_loop c.args.schemas.now c.args.head.carried.role c.args.parts.binder.variable c.args.parts.position c.args.parts.body.value
    (ap (is_join_loop c.args.schemas.now c.args.head.carried.role c.args.parts.binder.variable c.args.parts.position) (sym c.deref-2.ensures)
    ∙ sym c.in_ok-is_join_loop.ensures ∙ c.if-branch.true)

pub returns-then-branch-clause-made : goal.returns-then-branch-clause-made
returns-then-branch-clause-made c = λ variables.
    let setting : RuleSetting = record { schemas = c.args.schemas.now; variables = variables } in
    let whole : PlanExpression = At c.args.head.place c.args.head.outer c.args.head.carried (operators.For c.args.parts.binder c.args.parts.position) (two_parts c.args.parts.source.value c.args.parts.body.value) in
    let applies : rewritten_at setting whole ≡ marked_join c.args.schemas.now c.args.head.place c.args.parts.binder c.args.parts.source.value c.args.parts.body.value =
    join_applies setting c.args.head.place c.args.head.outer c.args.head.carried c.args.parts.binder c.args.parts.position c.args.parts.source.value c.args.parts.body.value
    (ap (λ (e : PlanExpression). is_own_role c.args.head.carried.role && occurs_once (kind_carried e)) (sym c.deref.ensures)
    ∙ sym c.is_single.ensures ∙ c.if-is_single.false)
    (ap (is_join_loop c.args.schemas.now c.args.head.carried.role c.args.parts.binder.variable c.args.parts.position) (sym c.deref-2.ensures)
    ∙ sym c.in_ok-is_join_loop.ensures ∙ c.if-branch.true) in
    if_ok_gives c.joined.result (λ r. r.0 ≡ marked_join c.args.schemas.now c.args.head.place c.args.parts.binder c.args.parts.source.value c.into_inner.result)
    (λ r. r.0 ≡ rewritten_at setting whole)
    (λ r k. k ∙ ap (marked_join c.args.schemas.now c.args.head.place c.args.parts.binder c.args.parts.source.value) c.into_inner.ensures ∙ sym applies)
    c.joined.ensures.made

pub returns-clause-made : goal.returns-clause-made
returns-clause-made c = λ variables.
    let setting : RuleSetting = record { schemas = c.args.schemas.now; variables = variables } in
    sym (loop_stays setting c.args.head.place c.args.head.outer c.args.head.carried c.args.parts.binder c.args.parts.position c.args.parts.source.value c.args.parts.body.value
    (ap (λ (e : PlanExpression). is_own_role c.args.head.carried.role && occurs_once (kind_carried e)) (sym c.deref.ensures)
    ∙ sym c.is_single.ensures ∙ c.if-is_single.false)
    (ap (is_join_loop c.args.schemas.now c.args.head.carried.role c.args.parts.binder.variable c.args.parts.position) (sym c.deref-2.ensures)
    ∙ sym c.in_ok-is_join_loop.ensures ∙ c.if-branch.false))
