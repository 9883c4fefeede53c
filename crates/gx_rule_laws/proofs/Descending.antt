-- Children of nodes and of all that is below them are descendants, whether a `for` or a `let` goes over the nodes.
use Rattle.std.proofs.Common.{◌≡◌, ℕ, zero, Bool, true, ◌&&◌, [], ◌∷◌, Option, None, Some, refl, sym, ◌∙◌, ap, subst, eq-eqb, if◌then◌else◌}
use Rattle.std.proofs.lemmas.Bool.{eqb-true, and_parts}
use Rattle.gx_base.specs.declared.place.Place.{Place}
use Rattle.gx_types.specs.declared.step.Axis.{Axis}
use Rattle.gx_types.specs.declared.step.Axis.TheVariants as axes
use Rattle.gx_types.specs.declared.step.Test.{Test}
use Rattle.gx_types.specs.declared.step.Test.TheVariants as tests
use Rattle.gx_types.specs.SchemaSet.{SchemaSet}
use Rattle.gx_model.specs.Forest.{Forest}
use Rattle.gx_model.specs.Item.{Item, Items, atom, node}
use Rattle.gx_core.specs.declared.expression.Binder.{Binder}
use Rattle.gx_core.specs.declared.operator.Operator.{Operator}
use Rattle.gx_core.specs.declared.operator.Operator.TheVariants as operators
use Rattle.gx_core.specs.Bindings.{look_up}
use Rattle.gx_core.specs.Expression.{At, no_parts, a_part, one_part}
use Rattle.gx_core.specs.Outcome.{Outcome, gives, raises, wrong, after, given}
use Rattle.gx_core.specs.Paths.{stepped, put_in_order}
use Rattle.gx_core.specs.Meaning.{Context, Bindings, Denotation, denoted, meaning}
use Rattle.gx_core.specs.PathLaws.{stepped_from_each, loop_of_steps, ordered}
use Rattle.gx_core.proofs.StepLoops.{loops_of_steps, slashes_are_descendants}
use Rattle.gx_plan.specs.Plan.{PlanExpression, typed_expression}
use Rattle.gx_rules.specs.Guards.{is_own_role}
use Rattle.gx_rules.specs.Rules.{RuleSetting, made_operator, binds_alone, is_step_to_all_below, loop_over_descendants, descending_from, with_steps_below, without_order, ordered_operand}
use Rattle.gx_rule_laws.proofs.GuardLemmas.{met}
use Rattle.gx_rule_laws.proofs.Outcomes.{order_is, after_gives}

-- ---- a `let` over a step from the variable

-- whose body is a step from the value
abbrev let_of_step : Context → Binder → Axis → Test → (source : Denotation) → Denotation
let_of_step context binder axis asks source =
    denoted context (operators.Let binder) (source ∷ denoted context (operators.Step axis asks binder.variable) [] ∷ [])

own_value : (context : Context) (axis : Axis) (asks : Test) (variable : ℕ) (xs : Items) (bindings : Bindings) (forest : Forest)
    → denoted context (operators.Step axis asks variable) [] ((variable, xs) ∷ bindings) forest ≡ stepped context.schemas axis asks xs forest
own_value context axis asks variable xs bindings forest =
    ap (λ (same : Bool). given (if same then Some xs else look_up bindings variable)
    (λ value. stepped context.schemas axis asks value forest)) (eq-eqb variable variable refl)

let_is_step : (context : Context) (binder : Binder) (axis : Axis) (asks : Test) (source : Denotation) (bindings : Bindings) (forest : Forest)
    → let_of_step context binder axis asks source bindings forest
    ≡ after (source bindings forest) (stepped context.schemas axis asks)
let_is_step context binder axis asks source bindings forest =
    λ i. after (source bindings forest) (λ xs left. own_value context axis asks binder.variable xs bindings left i)

-- from one item it is the loop
step_of_one : (s : SchemaSet) (axis : Axis) (asks : Test) (x : Item) (forest : Forest)
    → stepped s axis asks (x ∷ []) forest ≡ stepped_from_each s axis asks [] (x ∷ []) forest
step_of_one s axis asks x forest = sym (after_gives (stepped s axis asks (x ∷ []) forest))

let_is_loop : (context : Context) (binder : Binder) (axis : Axis) (asks : Test) (x : Item) (bindings : Bindings) (forest now : Forest)
    → stepped context.schemas axis asks (x ∷ []) now
    ≡ loop_of_steps context binder axis asks (λ (b : Bindings) (f : Forest). gives (x ∷ []) now) bindings forest
let_is_loop context binder axis asks x bindings forest now =
    step_of_one context.schemas axis asks x now
    ∙ sym (loops_of_steps context binder axis asks (λ (b : Bindings) (f : Forest). gives (x ∷ []) now) bindings forest)

not_one_goes_wrong : (s : SchemaSet) (axis : Axis) (asks : Test) (x y : Item) (xs : Items) (forest : Forest)
    → stepped s axis asks (x ∷ y ∷ xs) forest ≡ wrong
not_one_goes_wrong s axis asks (atom a) y xs forest = refl
not_one_goes_wrong s axis asks (node place) y xs forest = refl

-- ---- both laws, for an outcome

-- the children of all below are the descendants, as they come and in document order
record SameBelow (context : Context) (asks : Test) (below descendants : Denotation) : Type 0 where
  together : (outer : Binder) (bindings : Bindings) (forest : Forest)
      → ordered context (loop_of_steps context outer axes.Child asks below) bindings forest ≡ ordered context descendants bindings forest
  in_order : (outer : Binder) (bindings : Bindings) (forest : Forest)
      → ordered context (loop_of_steps context outer axes.Child asks (ordered context below)) bindings forest
      ≡ ordered context descendants bindings forest

loop_below : (context : Context) (binder : Binder) (asks : Test) (source : Denotation)
    → SameBelow context asks (loop_of_steps context binder axes.DescendantOrSelf tests.Node source) (loop_of_steps context binder axes.Descendant asks source)
loop_below context binder asks source = record {
  together = λ outer bindings forest. slashes_are_descendants.together context outer binder asks source bindings forest;
  in_order = λ outer bindings forest. slashes_are_descendants.in_order context outer binder asks source bindings forest;
}

-- what a child loop and an order make of an outcome
abbrev children_of : Context → Test → Outcome Items → Outcome Items
children_of context asks outcome = after (after outcome (λ xs left. stepped_from_each context.schemas axes.Child asks [] xs left)) put_in_order

children_is : (context : Context) (outer : Binder) (asks : Test) (source : Denotation) (bindings : Bindings) (forest : Forest)
    → ordered context (loop_of_steps context outer axes.Child asks source) bindings forest ≡ children_of context asks (source bindings forest)
children_is context outer asks source bindings forest =
    order_is context (loop_of_steps context outer axes.Child asks source) bindings forest
    ∙ ap (λ (o : Outcome Items). after o put_in_order) (loops_of_steps context outer axes.Child asks source bindings forest)

-- from a value
below_value : (context : Context) (asks : Test) (outer inner : Binder) (xs : Items) (bindings : Bindings) (forest now : Forest)
    → children_of context asks (stepped context.schemas axes.DescendantOrSelf tests.Node xs now)
    ≡ after (stepped context.schemas axes.Descendant asks xs now) put_in_order
below_value context asks outer inner [] bindings forest now = refl
below_value context asks outer inner (x ∷ []) bindings forest now =
    let source : Denotation = λ (b : Bindings) (f : Forest). gives (x ∷ []) now in
    ap (children_of context asks) (let_is_loop context inner axes.DescendantOrSelf tests.Node x bindings forest now)
    ∙ sym (children_is context outer asks (loop_of_steps context inner axes.DescendantOrSelf tests.Node source) bindings forest)
    ∙ slashes_are_descendants.together context outer inner asks source bindings forest
    ∙ order_is context (loop_of_steps context inner axes.Descendant asks source) bindings forest
    ∙ ap (λ (o : Outcome Items). after o put_in_order) (sym (let_is_loop context inner axes.Descendant asks x bindings forest now))
below_value context asks outer inner (x ∷ y ∷ xs) bindings forest now =
    ap (children_of context asks) (not_one_goes_wrong context.schemas axes.DescendantOrSelf tests.Node x y xs now)
    ∙ sym (ap (λ (o : Outcome Items). after o put_in_order) (not_one_goes_wrong context.schemas axes.Descendant asks x y xs now))

below_value_in_order : (context : Context) (asks : Test) (outer inner : Binder) (xs : Items) (bindings : Bindings) (forest now : Forest)
    → children_of context asks (after (stepped context.schemas axes.DescendantOrSelf tests.Node xs now) put_in_order)
    ≡ after (stepped context.schemas axes.Descendant asks xs now) put_in_order
below_value_in_order context asks outer inner [] bindings forest now = refl
below_value_in_order context asks outer inner (x ∷ []) bindings forest now =
    let source : Denotation = λ (b : Bindings) (f : Forest). gives (x ∷ []) now in
    ap (λ (o : Outcome Items). children_of context asks (after o put_in_order)) (let_is_loop context inner axes.DescendantOrSelf tests.Node x bindings forest now)
    ∙ ap (children_of context asks) (sym (order_is context (loop_of_steps context inner axes.DescendantOrSelf tests.Node source) bindings forest))
    ∙ sym (children_is context outer asks (ordered context (loop_of_steps context inner axes.DescendantOrSelf tests.Node source)) bindings forest)
    ∙ slashes_are_descendants.in_order context outer inner asks source bindings forest
    ∙ order_is context (loop_of_steps context inner axes.Descendant asks source) bindings forest
    ∙ ap (λ (o : Outcome Items). after o put_in_order) (sym (let_is_loop context inner axes.Descendant asks x bindings forest now))
below_value_in_order context asks outer inner (x ∷ y ∷ xs) bindings forest now =
    ap (λ (o : Outcome Items). children_of context asks (after o put_in_order)) (not_one_goes_wrong context.schemas axes.DescendantOrSelf tests.Node x y xs now)
    ∙ sym (ap (λ (o : Outcome Items). after o put_in_order) (not_one_goes_wrong context.schemas axes.Descendant asks x y xs now))

-- from the outcome of the value of a `let`
let_below : (context : Context) (binder : Binder) (asks : Test) (source : Denotation)
    → SameBelow context asks (let_of_step context binder axes.DescendantOrSelf tests.Node source) (let_of_step context binder axes.Descendant asks source)
let_below context binder asks source = record {
  together = λ outer bindings forest.
      children_is context outer asks (let_of_step context binder axes.DescendantOrSelf tests.Node source) bindings forest
      ∙ ap (children_of context asks) (let_is_step context binder axes.DescendantOrSelf tests.Node source bindings forest)
      ∙ by_outcome outer bindings forest (source bindings forest)
      ∙ sym (order_is context (let_of_step context binder axes.Descendant asks source) bindings forest
      ∙ ap (λ (o : Outcome Items). after o put_in_order) (let_is_step context binder axes.Descendant asks source bindings forest));
  in_order = λ outer bindings forest.
      children_is context outer asks (ordered context (let_of_step context binder axes.DescendantOrSelf tests.Node source)) bindings forest
      ∙ ap (children_of context asks) (order_is context (let_of_step context binder axes.DescendantOrSelf tests.Node source) bindings forest
      ∙ ap (λ (o : Outcome Items). after o put_in_order) (let_is_step context binder axes.DescendantOrSelf tests.Node source bindings forest))
      ∙ by_outcome_in_order outer bindings forest (source bindings forest)
      ∙ sym (order_is context (let_of_step context binder axes.Descendant asks source) bindings forest
      ∙ ap (λ (o : Outcome Items). after o put_in_order) (let_is_step context binder axes.Descendant asks source bindings forest));
}
  where
    by_outcome : (outer : Binder) (bindings : Bindings) (forest : Forest) (o : Outcome Items)
        → children_of context asks (after o (stepped context.schemas axes.DescendantOrSelf tests.Node))
        ≡ after (after o (stepped context.schemas axes.Descendant asks)) put_in_order
    by_outcome outer bindings forest (gives xs now) = below_value context asks outer binder xs bindings forest now
    by_outcome outer bindings forest (raises code) = refl
    by_outcome outer bindings forest wrong = refl

    by_outcome_in_order : (outer : Binder) (bindings : Bindings) (forest : Forest) (o : Outcome Items)
        → children_of context asks (after (after o (stepped context.schemas axes.DescendantOrSelf tests.Node)) put_in_order)
        ≡ after (after o (stepped context.schemas axes.Descendant asks)) put_in_order
    by_outcome_in_order outer bindings forest (gives xs now) = below_value_in_order context asks outer binder xs bindings forest now
    by_outcome_in_order outer bindings forest (raises code) = refl
    by_outcome_in_order outer bindings forest wrong = refl

-- ---- expressions

abbrev pub means : Context → PlanExpression → Denotation
means context e = meaning context (typed_expression e)

-- a step to all below, from the node of a variable
pub step_below : (context : Context) (variable : ℕ) (body : PlanExpression) → is_step_to_all_below variable body ≡ true
    → means context body ≡ denoted context (operators.Step axes.DescendantOrSelf tests.Node variable) []
step_below context variable (At place outer carried (operators.Step axes.DescendantOrSelf tests.Node number) no_parts) h =
    ap (λ (n : ℕ). denoted context (operators.Step axes.DescendantOrSelf tests.Node n) []) (eqb-true number variable h)
step_below context variable _ h = absurd (cc)

-- what `with_steps_below` gives
descended : (context : Context) (setting : RuleSetting) (place : Place) (asks : Test) (own : Bool) (operator : Operator) (source body : PlanExpression)
    (other : PlanExpression) → descending_from setting place asks own operator source body (binds_alone operator) ≡ Some other
    → SameBelow context asks (denoted context operator (means context source ∷ means context body ∷ [])) (means context other)
descended context setting place asks own (operators.For binder zero) source body other h =
    let guard = met (own && is_step_to_all_below binder.variable body) (loop_over_descendants setting place asks (operators.For binder zero) source binder) other h in
    subst (λ (e : PlanExpression). SameBelow context asks (denoted context (operators.For binder zero) (means context source ∷ means context body ∷ [])) (means context e)) guard.1
    (subst (λ (d : Denotation). SameBelow context asks (denoted context (operators.For binder zero) (means context source ∷ d ∷ []))
    (loop_of_steps context binder axes.Descendant asks (means context source))) (sym (step_below context binder.variable body (and_parts own (is_step_to_all_below binder.variable body) guard.0).1))
    (loop_below context binder asks (means context source)))
descended context setting place asks own (operators.Let binder) source body other h =
    let guard = met (own && is_step_to_all_below binder.variable body) (loop_over_descendants setting place asks (operators.Let binder) source binder) other h in
    subst (λ (e : PlanExpression). SameBelow context asks (denoted context (operators.Let binder) (means context source ∷ means context body ∷ [])) (means context e)) guard.1
    (subst (λ (d : Denotation). SameBelow context asks (denoted context (operators.Let binder) (means context source ∷ d ∷ []))
    (let_of_step context binder axes.Descendant asks (means context source))) (sym (step_below context binder.variable body (and_parts own (is_step_to_all_below binder.variable body) guard.0).1))
    (let_below context binder asks (means context source)))
descended context setting place asks own _ source body other h = absurd (cc)

descends : (context : Context) (setting : RuleSetting) (asks : Test) (e other : PlanExpression) → with_steps_below setting asks e ≡ Some other
    → SameBelow context asks (means context e) (means context other)
descends context setting asks (At place outer carried operator (a_part source (a_part body no_parts))) other h =
    descended context setting place asks (is_own_role carried.role) operator source body other h
descends context setting asks _ other h = absurd (cc)

-- what is put in order
pub ordered_so : (s : SchemaSet) (place : Place) (found : Option PlanExpression) (other : PlanExpression) → ordered_operand s place found ≡ Some other
    → (e : PlanExpression) × (found ≡ Some e) × ((context : Context) → means context other ≡ ordered context (means context e))
ordered_so s place None other h = absurd (cc)
ordered_so s place (Some e) other h =
    let same : made_operator s place operators.Order (one_part e) ≡ other = cc in (e, refl, λ context. sym (ap (means context) same))

-- a source, or one that is put in order
pub below_source : (context : Context) (setting : RuleSetting) (asks : Test) (outer : Binder) (source e : PlanExpression)
    → with_steps_below setting asks (without_order source) ≡ Some e → (bindings : Bindings) (forest : Forest)
    → ordered context (loop_of_steps context outer axes.Child asks (means context source)) bindings forest ≡ ordered context (means context e) bindings forest
below_source context setting asks outer (At place o carried operators.Order (a_part d no_parts)) e h bindings forest =
    (descends context setting asks d e h).in_order outer bindings forest
below_source context setting asks outer source e h bindings forest = (descends context setting asks source e h).together outer bindings forest
