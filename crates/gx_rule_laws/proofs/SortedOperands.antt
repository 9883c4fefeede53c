-- What is in document order stays so.
use Rattle.std.proofs.Common.{◌≡◌, Bool, true, false, ◌&&◌, List, [], ◌∷◌, map, Option, None, Some, refl, sym, ◌∙◌, ap, if◌then◌else◌}
use Rattle.std.specs.List.{list_all}
use Rattle.gx_types.specs.declared.step.Axis.{Axis}
use Rattle.gx_types.specs.declared.step.Test.{Test}
use Rattle.gx_types.specs.SchemaSet.{SchemaSet}
use Rattle.gx_model.specs.Forest.{Forest}
use Rattle.gx_model.specs.Item.{Items, node}
use Rattle.gx_model.specs.DocumentOrder.{in_document_order}
use Rattle.gx_core.specs.declared.expression.BinaryOp.TheVariants as binary
use Rattle.gx_core.specs.declared.expression.NodeCombination.{NodeCombination}
use Rattle.gx_core.specs.declared.expression.NodeCombination.TheVariants as combinations
use Rattle.gx_core.specs.declared.operator.Operator.{Operator}
use Rattle.gx_core.specs.declared.operator.Operator.TheVariants as operators
use Rattle.gx_core.specs.Bindings.{look_up}
use Rattle.gx_core.specs.CombiningNodes.{combined, nodes_combined}
use Rattle.gx_core.specs.Expression.{At, no_parts, a_part}
use Rattle.gx_core.specs.Outcome.{Outcome, gives, raises, wrong, given}
use Rattle.gx_core.specs.Paths.{is_node, places_of, stepped}
use Rattle.gx_core.specs.Meaning.{Context, Bindings, Denotation, acts, all_of, denoted, meaning, meanings}
use Rattle.gx_core.specs.Soundness.{context_of}
use Rattle.gx_core.proofs.StepsInOrder.{steps_are_in_order}
use Rattle.gx_plan.specs.Plan.{PlanExpression, typed_expression, typed_parts}
use Rattle.gx_rules.specs.Guards.{gives_nodes_in_order, is_ordered, is_sorted}
use Rattle.gx_rules.specs.Rules.{Sorted}
use Rattle.gx_rule_laws.specs.KeepingRules.{RuleKeeps}
use Rattle.gx_rule_laws.proofs.GuardLemmas.{met}
use Rattle.gx_rule_laws.proofs.Outcomes.{StaysInOrder, order_is, stays_after}
use Rattle.gx_rule_laws.proofs.InOrder.{ordered_nodes_stay, put_in_order_stays}

-- ---- values

combined_stay : (op : NodeCombination) (xs ys : Items) (forest : Forest) → StaysInOrder (nodes_combined op xs ys forest)
combined_stay op xs ys forest = by_nodes (list_all is_node xs && list_all is_node ys)
  where
    by_nodes : (b : Bool)
        → StaysInOrder (if b then gives (map node (in_document_order forest (combined op (places_of xs) (places_of ys)))) forest else wrong)
    by_nodes true = ordered_nodes_stay forest (combined op (places_of xs) (places_of ys))
    by_nodes false = refl

step_stays : (s : SchemaSet) (axis : Axis) (asks : Test) (found : Option Items) (forest : Forest)
    → StaysInOrder (given found (λ value. stepped s axis asks value forest))
step_stays s axis asks None forest = refl
step_stays s axis asks (Some value) forest = by_outcome (stepped s axis asks value forest) refl
  where
    by_outcome : (o : Outcome Items) → stepped s axis asks value forest ≡ o → StaysInOrder o
    by_outcome (gives xs left) e = steps_are_in_order s axis asks value xs forest left e
    by_outcome (raises code) e = refl
    by_outcome wrong e = refl

-- ---- operators

order_acts : (context : Context) (values : List Items) (forest : Forest) → StaysInOrder (acts context operators.Order values forest)
order_acts context [] forest = refl
order_acts context (xs ∷ []) forest = put_in_order_stays xs forest
order_acts context (xs ∷ ys ∷ values) forest = refl

union_acts : (context : Context) (values : List Items) (forest : Forest) → StaysInOrder (acts context (operators.Binary binary.Union) values forest)
union_acts context [] forest = refl
union_acts context (xs ∷ []) forest = refl
union_acts context (xs ∷ ys ∷ []) forest = combined_stay combinations.Union xs ys forest
union_acts context (xs ∷ ys ∷ zs ∷ values) forest = refl

intersect_acts : (context : Context) (values : List Items) (forest : Forest)
    → StaysInOrder (acts context (operators.Binary binary.Intersect) values forest)
intersect_acts context [] forest = refl
intersect_acts context (xs ∷ []) forest = refl
intersect_acts context (xs ∷ ys ∷ []) forest = combined_stay combinations.Intersect xs ys forest
intersect_acts context (xs ∷ ys ∷ zs ∷ values) forest = refl

except_acts : (context : Context) (values : List Items) (forest : Forest) → StaysInOrder (acts context (operators.Binary binary.Except) values forest)
except_acts context [] forest = refl
except_acts context (xs ∷ []) forest = refl
except_acts context (xs ∷ ys ∷ []) forest = combined_stay combinations.Except xs ys forest
except_acts context (xs ∷ ys ∷ zs ∷ values) forest = refl

pub in_order : (context : Context) (operator : Operator) (parts : List Denotation) (bindings : Bindings) (forest : Forest)
    → gives_nodes_in_order operator ≡ true → StaysInOrder (denoted context operator parts bindings forest)
in_order context operators.Order parts bindings forest e =
    stays_after (all_of parts bindings forest) (acts context operators.Order) (λ values left h. order_acts context values left)
in_order context (operators.Step axis asks number) [] bindings forest e = step_stays context.schemas axis asks (look_up bindings number) forest
in_order context (operators.Step axis asks number) (part ∷ parts) bindings forest e =
    stays_after (all_of (part ∷ parts) bindings forest) (acts context (operators.Step axis asks number)) (λ values left h. refl)
in_order context (operators.Binary binary.Union) parts bindings forest e =
    stays_after (all_of parts bindings forest) (acts context (operators.Binary binary.Union)) (λ values left h. union_acts context values left)
in_order context (operators.Binary binary.Intersect) parts bindings forest e =
    stays_after (all_of parts bindings forest) (acts context (operators.Binary binary.Intersect)) (λ values left h. intersect_acts context values left)
in_order context (operators.Binary binary.Except) parts bindings forest e =
    stays_after (all_of parts bindings forest) (acts context (operators.Binary binary.Except)) (λ values left h. except_acts context values left)
in_order context _ parts bindings forest e = absurd (cc)

-- ---- expressions

ordered_stays : (context : Context) (e : PlanExpression) (bindings : Bindings) (forest : Forest) → is_ordered e ≡ true
    → StaysInOrder (meaning context (typed_expression e) bindings forest)
ordered_stays context (At place outer carried operator parts) bindings forest h =
    in_order context operator (meanings context (typed_parts parts)) bindings forest h

sorted_stays : (context : Context) (e : PlanExpression) (bindings : Bindings) (forest : Forest) → is_sorted e ≡ true
    → StaysInOrder (meaning context (typed_expression e) bindings forest)
sorted_stays context (At place outer carried (operators.Let binder) (a_part value (a_part body no_parts))) bindings forest h =
    stays_after (meaning context (typed_expression value) bindings forest)
    (λ xs left. meaning context (typed_expression body) ((binder.variable, xs) ∷ bindings) left)
    (λ xs left given. ordered_stays context body ((binder.variable, xs) ∷ bindings) left h)
sorted_stays context (At place outer carried operator parts) bindings forest h =
    in_order context operator (meanings context (typed_parts parts)) bindings forest h

pub sorted_keeps : RuleKeeps Sorted
sorted_keeps setting variables (At place outer carried operators.Order (a_part e no_parts)) other types stands h situation =
    let guard = met (is_sorted e) e other h in
    ap (λ (d : PlanExpression). meaning (context_of setting) (typed_expression d) situation.bindings situation.forest) (sym guard.1)
    ∙ sym (order_is (context_of setting) (meaning (context_of setting) (typed_expression e)) situation.bindings situation.forest
    ∙ sorted_stays (context_of setting) e situation.bindings situation.forest guard.0)
sorted_keeps setting variables _ other types stands h situation = absurd (cc)
