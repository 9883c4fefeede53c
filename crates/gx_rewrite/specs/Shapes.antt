-- What the rules that look inside their parts ask of an expression, as tests that make nothing.
use Rattle.std.specs.Prelude.{ℕ, zero, nat_eq, List, [], ◌∷◌, Bool, true, false, ◌&&◌, ◌||◌, Option, None, Some}
use Rattle.gx_types.specs.SchemaSet.{SchemaSet}
use Rattle.gx_types.specs.declared.step.Axis.TheVariants as axes
use Rattle.gx_core.specs.declared.expression.Binder.{Binder}
use Rattle.gx_core.specs.declared.expression.BinaryOp.TheVariants as binary
use Rattle.gx_core.specs.declared.operator.Operator.{Operator}
use Rattle.gx_core.specs.declared.operator.Operator.TheVariants as operators
use Rattle.gx_core.specs.Expression.{At, no_parts, a_part, each_of, two_parts, three_parts}
use Rattle.gx_base.specs.declared.type_name.Builtin.TheVariants.{Boolean}
use Rattle.gx_types.specs.SequenceType.{SequenceType}
use Rattle.gx_include.specs.Decision.{is_included}
use Rattle.gx_funcs.specs.declared.function.Function.{Function}
use Rattle.gx_funcs.specs.declared.function.Function.TheVariants as functions
use Rattle.gx_core.specs.declared.cases.TypeCase.{TypeCase}
use Rattle.gx_plan.specs.declared.plan.Role.{Role}
use Rattle.gx_static.specs.Rule.{is_at_most_one, atomic}
use Rattle.gx_plan.specs.Plan.{PlanExpression, kind_carried}
use Rattle.gx_rules.specs.Guards.{is_own_role, is_sorted, is_flat}
use Rattle.gx_rules.specs.Rules.{binds_alone, is_step_to_all_below, without_order, may_be_joined, made_as}
use Rattle.gx_base.specs.declared.place.Place.{Place}
use Rattle.gx_plan.specs.declared.plan.Role.TheVariants as roles

-- the operators that some rule has on its left side
abbrev pub some_rule_asks_for : Operator → Bool
some_rule_asks_for operators.Order = true
some_rule_asks_for (operators.For binder position) = true
some_rule_asks_for (operators.Switch cases default) = true
some_rule_asks_for (operators.Call function) = true
some_rule_asks_for operators.DataOf = true
some_rule_asks_for _ = false

-- which parts are flat
abbrev pub parts_flat : PlanExpression → List Bool
parts_flat (At place outer carried operator parts) = each_of is_flat parts

-- document order is not needed
abbrev pub is_in_order : PlanExpression → Bool
is_in_order e = is_at_most_one (kind_carried e) || (is_sorted e || is_flat e)

-- ---- `slashes`

abbrev pub is_child_step_from : (variable : ℕ) → PlanExpression → Bool
is_child_step_from variable (At place outer carried (operators.Step axes.Child asks number) no_parts) = nat_eq number variable
is_child_step_from variable _ = false

abbrev pub reaches_all_below : Option Binder → PlanExpression → Bool
reaches_all_below None body = false
reaches_all_below (Some binder) body = is_step_to_all_below binder.variable body

abbrev pub steps_to_all_below : PlanExpression → Bool
steps_to_all_below (At place outer carried operator (a_part source (a_part body no_parts))) =
    is_own_role carried.role && reaches_all_below (binds_alone operator) body
steps_to_all_below _ = false

-- an operand of `order` over which `slashes` applies
abbrev pub is_slashed : PlanExpression → Bool
is_slashed (At place outer carried (operators.For binder zero) (a_part source (a_part body no_parts))) =
    is_own_role carried.role && (is_child_step_from binder.variable body && steps_to_all_below (without_order source))
is_slashed _ = false

-- ---- joins, from the body of the outer loop inwards

abbrev pub is_empty_operator : PlanExpression → Bool
is_empty_operator (At place outer carried operators.Empty no_parts) = true
is_empty_operator _ = false

abbrev pub joins_by_keys : SchemaSet → (left right : ℕ) → (other comparison : PlanExpression) → Bool
joins_by_keys schemas left right other (At place outer carried (operators.Binary binary.AnyEq) (a_part left_key (a_part right_key no_parts))) =
    may_be_joined schemas left right other left_key right_key
joins_by_keys schemas left right other _ = false

abbrev pub joins_by_test : SchemaSet → (left right : ℕ) → (other test : PlanExpression) → Bool
joins_by_test schemas left right other (At place outer carried operators.If (a_part comparison (a_part result (a_part absent no_parts)))) =
    is_empty_operator absent && joins_by_keys schemas left right other comparison
joins_by_test schemas left right other _ = false

abbrev pub joins_by_loop : SchemaSet → (left : ℕ) → (body : PlanExpression) → Bool
joins_by_loop schemas left (At place outer carried (operators.For binder zero) (a_part other (a_part test no_parts))) =
    is_own_role carried.role && joins_by_test schemas left binder.variable other test
joins_by_loop schemas left _ = false

-- ---- the loops of a join, marked from the inside

abbrev pub is_binary : PlanExpression → Bool
is_binary (At place outer carried (operators.Binary operator) (a_part left (a_part right no_parts))) = true
is_binary _ = false

abbrev pub marked_comparison : SchemaSet → PlanExpression → PlanExpression
marked_comparison schemas (At place outer carried (operators.Binary operator) parts) = made_as roles.InJoin schemas place (operators.Binary operator) parts
marked_comparison schemas e = e

abbrev pub place_of_operator : PlanExpression → Place
place_of_operator (At place outer carried operator parts) = place

abbrev pub is_test_of_binary : PlanExpression → Bool
is_test_of_binary (At place outer carried operators.If (a_part comparison (a_part result (a_part absent no_parts)))) = is_binary comparison
is_test_of_binary _ = false

abbrev pub marked_test : SchemaSet → PlanExpression → PlanExpression
marked_test schemas (At place outer carried operators.If (a_part comparison (a_part result (a_part absent no_parts)))) =
    made_as roles.InJoin schemas place operators.If
    (three_parts (marked_comparison schemas comparison) result (made_as roles.InJoin schemas (place_of_operator absent) operators.Empty no_parts))
marked_test schemas e = e

abbrev pub is_loop_of_test : PlanExpression → Bool
is_loop_of_test (At place outer carried (operators.For binder position) (a_part source (a_part test no_parts))) = is_test_of_binary test
is_loop_of_test _ = false

abbrev pub marked_loop : SchemaSet → PlanExpression → PlanExpression
marked_loop schemas (At place outer carried (operators.For binder position) (a_part source (a_part test no_parts))) =
    made_as roles.InJoin schemas place (operators.For binder 0) (two_parts source (marked_test schemas test))
marked_loop schemas e = e

abbrev pub marked_join : SchemaSet → (place : Place) → Binder → (source body : PlanExpression) → PlanExpression
marked_join schemas place binder source body = made_as roles.Join schemas place (operators.For binder 0) (two_parts source (marked_loop schemas body))

-- ---- switches and calls

-- the first of these branches is chosen for certain, from the type of the operand
abbrev pub is_decided : SchemaSet → SequenceType → List TypeCase → (branches : List PlanExpression) → Bool
is_decided schemas t [] (branch ∷ []) = true
is_decided schemas t (case ∷ cases) (branch ∷ branches) = is_included schemas t case.kind
is_decided schemas t _ _ = false

-- the variable of the first branch
abbrev pub chosen_variable : List TypeCase → (default : ℕ) → ℕ
chosen_variable [] default = default
chosen_variable (case ∷ cases) default = case.variable

-- a call asks for the effective boolean value of a boolean
abbrev pub is_idle_call : SchemaSet → Function → List PlanExpression → Bool
is_idle_call schemas functions.Boolean (argument ∷ []) = is_included schemas (kind_carried argument) (atomic Boolean)
is_idle_call schemas _ _ = false

-- ---- loops

-- a loop that stands in this role, with this position, is a join by its body
abbrev pub is_join_loop : SchemaSet → Role → (left position : ℕ) → (body : PlanExpression) → Bool
is_join_loop schemas role left position body = is_own_role role && (nat_eq position 0 && joins_by_loop schemas left body)
