-- A join comes to what its loops come to.
use Rattle.std.proofs.Common.{◌≡◌, zero, [], ◌∷◌, Some, sym, ap}
use Rattle.gx_base.specs.declared.place.Place.{Place}
use Rattle.gx_types.specs.SchemaSet.{SchemaSet}
use Rattle.gx_core.specs.declared.expression.BinaryOp.TheVariants as binary
use Rattle.gx_core.specs.declared.operator.Operator.TheVariants as operators
use Rattle.gx_core.specs.Expression.{At, no_parts, a_part}
use Rattle.gx_core.specs.Meaning.{Context, denoted, meaning}
use Rattle.gx_core.specs.Soundness.{context_of}
use Rattle.gx_plan.specs.Plan.{PlanExpression, typed_expression}
use Rattle.gx_rules.specs.Guards.{is_own_role}
use Rattle.gx_rules.specs.Rules.{Loop, join, join_by_loop, join_by_test, join_by_keys, marked_loops, may_be_joined, Joins}
use Rattle.gx_rule_laws.specs.KeepingRules.{RuleKeeps}
use Rattle.gx_rule_laws.proofs.GuardLemmas.{met, given_if}

by_keys : (context : Context) (s : SchemaSet) (outer inner : Loop) (test absent : Place) (result comparison other : PlanExpression)
    → join_by_keys s outer inner test absent result comparison ≡ Some other
    → meaning context (typed_expression other) ≡ denoted context (operators.For outer.binder 0) (meaning context (typed_expression outer.source)
    ∷ denoted context (operators.For inner.binder 0) (meaning context (typed_expression inner.source)
    ∷ denoted context operators.If (meaning context (typed_expression comparison) ∷ meaning context (typed_expression result)
    ∷ denoted context operators.Empty [] ∷ []) ∷ []) ∷ [])
by_keys context s outer inner test absent result (At place o c (operators.Binary binary.AnyEq) (a_part left (a_part right no_parts))) other h =
    let both = met (may_be_joined s outer.binder.variable inner.binder.variable inner.source left right)
    (marked_loops s outer inner test place absent left right result) other h in
    sym (ap (λ (e : PlanExpression). meaning context (typed_expression e)) both.1)
by_keys context s outer inner test absent result _ other h = absurd (cc)

by_test : (context : Context) (s : SchemaSet) (outer inner : Loop) (body other : PlanExpression) → join_by_test s outer inner body ≡ Some other
    → meaning context (typed_expression other) ≡ denoted context (operators.For outer.binder 0) (meaning context (typed_expression outer.source)
    ∷ denoted context (operators.For inner.binder 0) (meaning context (typed_expression inner.source) ∷ meaning context (typed_expression body) ∷ []) ∷ [])
by_test context s outer inner (At place o c operators.If (a_part comparison (a_part result (a_part (At absent ao ac operators.Empty no_parts) no_parts)))) other h =
    by_keys context s outer inner place absent result comparison other h
by_test context s outer inner _ other h = absurd (cc)

by_loop : (context : Context) (s : SchemaSet) (outer : Loop) (body other : PlanExpression) → join_by_loop s outer body ≡ Some other
    → meaning context (typed_expression other) ≡ denoted context (operators.For outer.binder 0) (meaning context (typed_expression outer.source)
    ∷ meaning context (typed_expression body) ∷ [])
by_loop context s outer (At place o c (operators.For binder zero) (a_part source (a_part body no_parts))) other h =
    let inner : Loop = record { place = place; binder = binder; source = source } in
    by_test context s outer inner body other (given_if (is_own_role c.role) (join_by_test s outer inner body) other h).1
by_loop context s outer _ other h = absurd (cc)

joined_means : (context : Context) (s : SchemaSet) (e other : PlanExpression) → join s e ≡ Some other
    → meaning context (typed_expression other) ≡ meaning context (typed_expression e)
joined_means context s (At place o c (operators.For binder zero) (a_part source (a_part body no_parts))) other h =
    let outer : Loop = record { place = place; binder = binder; source = source } in
    by_loop context s outer body other (given_if (is_own_role c.role) (join_by_loop s outer body) other h).1
joined_means context s _ other h = absurd (cc)

pub joins_keep : RuleKeeps Joins
joins_keep setting variables e other types stands h situation =
    ap (λ d. d situation.bindings situation.forest) (joined_means (context_of setting) setting.schemas e other h)
