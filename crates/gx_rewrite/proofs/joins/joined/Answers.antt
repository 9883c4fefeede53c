use Rattle.std.proofs.Common.{◌≡◌, ◌∷◌, [], sym, ◌∙◌, ap}
use Rattle.gx_core.specs.declared.operator.Operator.TheVariants as operators
use Rattle.gx_core.specs.Expression.{all_parts}
use Rattle.gx_static.specs.Rule.{is_at_most_one}
use Rattle.gx_plan.specs.declared.plan.Role.TheVariants as roles
use Rattle.gx_plan.specs.Plan.{PlanExpression, kind_carried}
use Rattle.gx_rules.specs.Guards.{is_flat}
use Rattle.gx_rules.specs.Rules.{made_as}
use Rattle.gx_rewrite.specs.Shapes.{marked_join}
use Rattle.gx_rewrite.proofs.JoinLemmas.{loops_have_tests, joins_are_flat_by_type}
use Rattle.gx_rewrite.proofs.joins.joined.Goals as goal

pub returns-clause-flat : goal.returns-clause-flat
returns-clause-flat c =
    let schemas = c.args.schemas.now in
    let is : c.in_ok-made.made ≡ marked_join schemas c.args.place c.args.binder c.args.source.value c.args.body =
    c.in_ok-made.ensures
    ∙ ap (λ es. made_as roles.Join schemas c.args.place (operators.For c.args.binder 0) (all_parts es))
    (c.in_ok-parts.ensures ∙ ap (λ (e : PlanExpression). e ∷ c.in_ok-inner.inner ∷ []) c.into_inner.ensures
    ∙ ap (λ (e : PlanExpression). c.args.source.value ∷ e ∷ []) c.in_ok-inner.ensures) in
    c.is_at_most_one-is_flat.ensures ∙ ap is_at_most_one (ap kind_carried c.made.view_is)
    ∙ ap (λ (e : PlanExpression). is_at_most_one (kind_carried e)) is
    ∙ sym (joins_are_flat_by_type schemas c.args.place c.args.binder c.args.source.value c.args.body
    (loops_have_tests schemas c.args.binder.variable c.args.body c.requires))
    ∙ ap is_flat (sym is)
