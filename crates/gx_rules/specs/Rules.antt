-- The rules of rewriting: what stands in the place of an expression that has the form and meets the guard of a rule.
use Rattle.std.specs.Prelude.{ℕ, zero, suc, pos, nat_eq, Bool, false, not, ◌&&◌, List, [], ◌∷◌, Option, None, Some, if◌then◌else◌}
use Rattle.gx_base.specs.declared.place.Place.{Place}
use Rattle.gx_base.specs.declared.type_name.Builtin.TheVariants as builtins
use Rattle.gx_base.specs.declared.type_name.TypeName.TheVariants as names
use Rattle.gx_types.specs.SchemaSet.{SchemaSet}
use Rattle.gx_types.specs.declared.item_type.ItemType.TheVariants as items
use Rattle.gx_types.specs.SequenceType.{SequenceType, item, star}
use Rattle.gx_types.specs.Occurrence.{occurrence_of}
use Rattle.gx_types.specs.declared.step.Axis.TheVariants as axes
use Rattle.gx_types.specs.declared.step.Test.{Test}
use Rattle.gx_types.specs.declared.step.Test.TheVariants as tests
use Rattle.gx_steptype.specs.StepType.{any_item}
use Rattle.gx_include.specs.Decision.{is_included}
use Rattle.gx_funcs.specs.declared.function.Function.TheVariants as functions
use Rattle.gx_funcs.specs.Function.{integer_atom}
use Rattle.gx_core.specs.declared.expression.Binder.{Binder}
use Rattle.gx_core.specs.declared.expression.BinaryOp.TheVariants as binary
use Rattle.gx_core.specs.declared.operator.Operator.{Operator}
use Rattle.gx_core.specs.declared.operator.Operator.TheVariants as operators
use Rattle.gx_core.specs.Expression.{At, Parts, no_parts, a_part, one_part, two_parts, three_parts}
use Rattle.gx_core.specs.Bindings.{Types, look_up}
use Rattle.gx_static.specs.Rule.{Ruling, has_type, has_none, rule, atomic, is_at_most_one}
use Rattle.gx_plan.specs.declared.plan.Role.{Role}
use Rattle.gx_plan.specs.declared.plan.Role.TheVariants as roles
use Rattle.gx_plan.specs.declared.plan.Carried.{Carried}
use Rattle.gx_plan.specs.Plan.{PlanExpression, own, kind_carried, kinds_carried}
use Rattle.gx_rules.specs.Guards.{is_own_role, is_quiet, is_flat, is_sorted, is_named_in, are_keys_of_one_family}

-- what the rules look at besides an expression: the schemas, and the types that variables carry
pub record RuleSetting : Type 0 where
  pub schemas : SchemaSet
  pub variables : Types

-- ---- operators that a rule makes

-- the type that the static rule of an operator gives, and that of any items where it gives none
abbrev pub kind_ruled : Ruling → SequenceType
kind_ruled (has_type t) = t
kind_ruled (has_none code part) = star any_item

abbrev pub made_kind : SchemaSet → Operator → List SequenceType → SequenceType
made_kind schemas operator kinds = kind_ruled (rule schemas operator kinds)

abbrev pub made_as : Role → SchemaSet → (place : Place) → Operator → Parts Carried → PlanExpression
made_as role schemas place operator parts =
    At place place (record { kind = made_kind schemas operator (kinds_carried parts); role = role }) operator parts

-- an operator of its own
abbrev pub made_operator : SchemaSet → (place : Place) → Operator → Parts Carried → PlanExpression
made_operator schemas place operator parts = made_as roles.Own schemas place operator parts

-- a step, whose type is that of the variable's
abbrev pub step_kinds : Option SequenceType → List SequenceType
step_kinds None = []
step_kinds (Some t) = t ∷ []

abbrev pub IsStepOperator : Operator → Type 0
IsStepOperator (operators.Step axis asks number) = Unit {0}
IsStepOperator _ = ⊥

abbrev pub made_step : RuleSetting → (place : Place) → Test → (variable : ℕ) → PlanExpression
made_step setting place asks variable =
    At place place (own (made_kind setting.schemas (operators.Step axes.Descendant asks variable) (step_kinds (look_up setting.variables variable))))
    (operators.Step axes.Descendant asks variable) no_parts

abbrev pub plain_binder : (variable : ℕ) → (place : Place) → Binder
plain_binder variable place = record { variable = variable; place = place; kind = None }

abbrev pub made_let : SchemaSet → (place : Place) → Binder → (value body : PlanExpression) → PlanExpression
made_let schemas place binder value body = made_operator schemas place (operators.Let binder) (two_parts value body)

-- what stands in the place of an expression, where a guard is met
abbrev pub if_guarded : Bool → PlanExpression → Option PlanExpression
if_guarded guard e = if guard then Some e else None

-- ---- document order

-- at most one item is in order
abbrev pub one : PlanExpression → Option PlanExpression
one (At place outer carried operators.Order (a_part e no_parts)) = if_guarded (is_at_most_one (kind_carried e)) e
one _ = None

-- what is in order stays
abbrev pub order_of_sorted : PlanExpression → Option PlanExpression
order_of_sorted (At place outer carried operators.Order (a_part e no_parts)) = if_guarded (is_sorted e) e
order_of_sorted _ = None

abbrev pub flat : PlanExpression → Option PlanExpression
flat (At place outer carried operators.Order (a_part e no_parts)) = if_guarded (is_flat e) e
flat _ = None

-- ---- `//`

-- the binder of a `for` without position, or of a `let`
abbrev pub binds_alone : Operator → Option Binder
binds_alone (operators.For binder zero) = Some binder
binds_alone (operators.Let binder) = Some binder
binds_alone _ = None

-- a step to any descendant, or to the node itself, from the node of a variable
abbrev pub is_step_to_all_below : (variable : ℕ) → PlanExpression → Bool
is_step_to_all_below variable (At place outer carried (operators.Step axes.DescendantOrSelf tests.Node number) no_parts) = nat_eq number variable
is_step_to_all_below variable _ = false

-- the same binder over the same operand, with a step to the descendants that pass a test
abbrev pub loop_over_descendants : RuleSetting → (place : Place) → Test → Operator → PlanExpression → Binder → PlanExpression
loop_over_descendants setting place asks operator source binder =
    made_operator setting.schemas place operator (two_parts source (made_step setting place asks binder.variable))

abbrev pub descending_from : RuleSetting → (place : Place) → Test → (is_own : Bool) → Operator → (source body : PlanExpression) → Option Binder
    → Option PlanExpression
descending_from setting place asks is_own operator source body None = None
descending_from setting place asks is_own operator source body (Some binder) =
    if_guarded (is_own && is_step_to_all_below binder.variable body) (loop_over_descendants setting place asks operator source binder)

abbrev pub with_steps_below : RuleSetting → Test → PlanExpression → Option PlanExpression
with_steps_below setting asks (At place outer carried operator (a_part source (a_part body no_parts))) =
    descending_from setting place asks (is_own_role carried.role) operator source body (binds_alone operator)
with_steps_below setting asks _ = None

abbrev pub without_order : PlanExpression → PlanExpression
without_order (At place outer carried operators.Order (a_part e no_parts)) = e
without_order e = e

-- an operand in document order
abbrev pub ordered_operand : SchemaSet → (place : Place) → Option PlanExpression → Option PlanExpression
ordered_operand schemas place None = None
ordered_operand schemas place (Some e) = Some (made_operator schemas place operators.Order (one_part e))

-- a child step from each node of a source
abbrev pub slashes_over : RuleSetting → (place : Place) → (variable : ℕ) → (source body : PlanExpression) → Option PlanExpression
slashes_over setting place variable source (At p o c (operators.Step axes.Child asks number) no_parts) =
    if nat_eq number variable then ordered_operand setting.schemas place (with_steps_below setting asks (without_order source)) else None
slashes_over setting place variable source _ = None

-- children of all descendants are descendants
abbrev pub slashes : RuleSetting → PlanExpression → Option PlanExpression
slashes setting (At place outer carried operators.Order (a_part (At p o c (operators.For binder zero) (a_part source (a_part body no_parts))) no_parts)) =
    if is_own_role c.role then slashes_over setting place binder.variable source body else None
slashes setting _ = None

-- ---- binders

abbrev pub occurs_once : SequenceType → Bool
occurs_once t = nat_eq (occurrence_of t).least 1 && nat_eq (occurrence_of t).greatest 1

-- the position of the one item of a loop
abbrev pub first_position : (place : Place) → PlanExpression
first_position place = At place place (own (atomic builtins.Integer)) (operators.Lit (integer_atom (pos 1))) no_parts

abbrev pub with_position : SchemaSet → (place : Place) → (position : ℕ) → PlanExpression → PlanExpression
with_position schemas place zero body = body
with_position schemas place (suc n) body = made_let schemas place (plain_binder (suc n) place) (first_position place) body

-- a loop over one item is a `let`
abbrev pub single_loop : SchemaSet → PlanExpression → Option PlanExpression
single_loop schemas (At place outer carried (operators.For binder position) (a_part source (a_part body no_parts))) =
    if_guarded (is_own_role carried.role && occurs_once (kind_carried source))
    (made_let schemas place binder source (with_position schemas place position body))
single_loop schemas _ = None

-- a switch whose first case has every value of the operand, or which has no case
abbrev pub decided_switch : SchemaSet → PlanExpression → Option PlanExpression
decided_switch schemas (At place outer carried (operators.Switch [] default) (a_part operand (a_part branch no_parts))) =
    Some (made_let schemas place (plain_binder default place) operand branch)
decided_switch schemas (At place outer carried (operators.Switch (case ∷ cases) default) (a_part operand (a_part branch branches))) =
    if_guarded (is_included schemas (kind_carried operand) case.kind) (made_let schemas place (plain_binder case.variable place) operand branch)
decided_switch schemas _ = None

-- ---- what changes nothing

abbrev pub any_atomic_values : SequenceType
any_atomic_values = star (item (items.Atom (names.Builtin builtins.AnyAtomic)))

-- a boolean is its own effective boolean value, and atomic values are their own typed values
abbrev pub idle : SchemaSet → PlanExpression → Option PlanExpression
idle schemas (At place outer carried (operators.Call functions.Boolean) (a_part e no_parts)) =
    if_guarded (is_included schemas (kind_carried e) (atomic builtins.Boolean)) e
idle schemas (At place outer carried operators.DataOf (a_part e no_parts)) = if_guarded (is_included schemas (kind_carried e) any_atomic_values) e
idle schemas _ = None

-- ---- joins

-- the right source and the keys raise nothing and make nothing; the right source and the right key do not look at the left item, nor the left
-- key at the right one; and keys are equal where they are equal as join keys
abbrev pub may_be_joined : SchemaSet → (left right : ℕ) → (other left_key right_key : PlanExpression) → Bool
may_be_joined schemas left right other left_key right_key =
    (is_quiet schemas other && (is_quiet schemas left_key && is_quiet schemas right_key))
    && ((not (is_named_in other left) && (not (is_named_in right_key left) && not (is_named_in left_key right)))
    && are_keys_of_one_family schemas (kind_carried left_key) (kind_carried right_key))

-- a loop without position: where it stands, its variable, and its source
pub record Loop : Type 0 where
  pub place : Place
  pub binder : Binder
  pub source : PlanExpression

-- the loops and the test of a join, each marked
abbrev pub marked_loops : SchemaSet → (outer inner : Loop) → (test comparison absent : Place) → (left_key right_key result : PlanExpression)
    → PlanExpression
marked_loops schemas outer inner test comparison absent left_key right_key result =
    made_as roles.Join schemas outer.place (operators.For outer.binder 0) (two_parts outer.source
    (made_as roles.InJoin schemas inner.place (operators.For inner.binder 0) (two_parts inner.source
    (made_as roles.InJoin schemas test operators.If (three_parts
    (made_as roles.InJoin schemas comparison (operators.Binary binary.AnyEq) (two_parts left_key right_key)) result
    (made_as roles.InJoin schemas absent operators.Empty no_parts))))))

-- a comparison of keys inside a test
abbrev pub join_by_keys : SchemaSet → (outer inner : Loop) → (test absent : Place) → (result comparison : PlanExpression)
    → Option PlanExpression
join_by_keys schemas outer inner test absent result (At place o c (operators.Binary binary.AnyEq) (a_part left_key (a_part right_key no_parts))) =
    if_guarded (may_be_joined schemas outer.binder.variable inner.binder.variable inner.source left_key right_key)
    (marked_loops schemas outer inner test place absent left_key right_key result)
join_by_keys schemas outer inner test absent result _ = None

-- a test inside both loops
abbrev pub join_by_test : SchemaSet → (outer inner : Loop) → PlanExpression → Option PlanExpression
join_by_test schemas outer inner (At place o c operators.If (a_part comparison (a_part result (a_part (At absent ao ac operators.Empty no_parts) no_parts)))) =
    join_by_keys schemas outer inner place absent result comparison
join_by_test schemas outer inner _ = None

-- a loop inside the outer one
abbrev pub join_by_loop : SchemaSet → (outer : Loop) → PlanExpression → Option PlanExpression
join_by_loop schemas outer (At place o c (operators.For binder zero) (a_part source (a_part body no_parts))) =
    if is_own_role c.role then join_by_test schemas outer (record { place = place; binder = binder; source = source }) body else None
join_by_loop schemas outer _ = None

-- two loops over a comparison of keys are a join
abbrev pub join : SchemaSet → PlanExpression → Option PlanExpression
join schemas (At place o c (operators.For binder zero) (a_part source (a_part body no_parts))) =
    if is_own_role c.role then join_by_loop schemas (record { place = place; binder = binder; source = source }) body else None
join schemas _ = None

-- ---- all rules

pub data RewritingRule : Type 0 where
  One Sorted Flat Slashes Single Decided Idle Joins : RewritingRule

-- what stands in the place of an expression by a rule, where the rule applies
abbrev pub rewritten_by : RuleSetting → RewritingRule → PlanExpression → Option PlanExpression
rewritten_by setting One e = one e
rewritten_by setting Sorted e = order_of_sorted e
rewritten_by setting Flat e = flat e
rewritten_by setting Slashes e = slashes setting e
rewritten_by setting Single e = single_loop setting.schemas e
rewritten_by setting Decided e = decided_switch setting.schemas e
rewritten_by setting Idle e = idle setting.schemas e
rewritten_by setting Joins e = join setting.schemas e
