-- Predicates: the items of an expression that they let through (XQuery 1.0, section 3.2.2).
use Rattle.std.specs.Prelude.{ℕ, ℤ, ◌+◌, Bool, true, false, [], ◌∷◌}
use Rattle.gx_base.specs.declared.place.Place.{Place}
use Rattle.gx_base.specs.declared.type_name.Builtin.TheVariants.{Decimal}
use Rattle.gx_base.specs.declared.type_name.TypeName.TheVariants.{Builtin}
use Rattle.gx_num.specs.declared.Number.TheVariants.{Int}
use Rattle.gx_types.specs.declared.item_type.ItemType.TheVariants.{Atom}
use Rattle.gx_types.specs.SequenceType.{item}
use Rattle.gx_types.specs.declared.step.Axis.{Axis}
use Rattle.gx_types.specs.declared.step.Axis.TheVariants.{Parent, Ancestor, AncestorOrSelf}
use Rattle.gx_resolved.specs.declared.tree.Construct.TheVariants as written
use Rattle.gx_resolved.specs.ResolvedTree.{ResolvedTree, resolved_at, no_resolved, a_resolved}
use Rattle.gx_funcs.specs.declared.function.Function.TheVariants as functions
use Rattle.gx_core.specs.declared.cases.TypeCase.{TypeCase}
use Rattle.gx_core.specs.declared.expression.BinaryOp.TheVariants as core
use Rattle.gx_core.specs.declared.operator.Operator.TheVariants as operators
use Rattle.gx_core.specs.Expression.{CoreExpression, one_part, two_parts, three_parts, core_at, outer_of}
use Rattle.gx_normal.specs.declared.contexts.ContextNumbers.{ContextNumbers}
use Rattle.gx_normal.specs.declared.contexts.ContextUse.{ContextUse}
use Rattle.gx_normal.specs.declared.filters.Predicate.{Predicate}
use Rattle.gx_normal.specs.declared.filters.Predicate.TheVariants.{Numbered, Last, Condition}
use Rattle.gx_normal.specs.Constructs.{call_at, context_item_at, empty_at}
use Rattle.gx_normal.specs.Contexts.{context_numbers, hidden_variable, loop_at}

-- what a predicate is: an integer literal, `last()`, either in parentheses too, or anything else
abbrev pub predicate_of : ResolvedTree → Predicate
predicate_of (resolved_at place written.Parenthesised (a_resolved inner no_resolved)) = predicate_of inner
predicate_of (resolved_at place (written.Number (Int number)) parts) = Numbered number
predicate_of (resolved_at place (written.Call functions.Last) parts) = Last
predicate_of _ = Condition

-- positions count from the end in the predicates of a step on a reverse axis
abbrev pub is_reverse_axis : Axis → Bool
is_reverse_axis Parent = true
is_reverse_axis Ancestor = true
is_reverse_axis AncestorOrSelf = true
is_reverse_axis _ = false

abbrev pub is_reverse_step : ResolvedTree → Bool
is_reverse_step (resolved_at place (written.Step axis asks) parts) = is_reverse_axis axis
is_reverse_step (resolved_at place written.ParentStep parts) = true
is_reverse_step _ = false

-- the item of a number, and the last one
abbrev pub numbered_at : Place → (number : ℤ) → (reverse : Bool) → CoreExpression → CoreExpression
numbered_at place number reverse e = core_at place place (operators.Nth number reverse) (one_part e)

abbrev pub last_at : Place → (reverse : Bool) → CoreExpression → CoreExpression
last_at place reverse e = core_at place place (operators.Final reverse) (one_part e)

-- the case of one number
abbrev pub decimal_case : (variable : ℕ) → TypeCase
decimal_case variable = record { kind = item (Atom (Builtin Decimal)); variable = variable }

-- whether a number is the position
abbrev pub position_is : Place → ContextNumbers → (number : ℕ) → CoreExpression
position_is place numbers number = core_at place place (operators.Binary core.Eq) (two_parts (hidden_variable place number) (context_item_at place numbers.position))

-- whether a condition holds: a number where it is the position, and anything else by its effective boolean value
abbrev pub holds_at : Place → ContextNumbers → (free : ℕ) → (condition : CoreExpression) → CoreExpression
holds_at place numbers free condition =
    core_at place place (operators.Switch (decimal_case free ∷ []) (free + 1))
    (three_parts condition (position_is place numbers free) (call_at place functions.Boolean (one_part (hidden_variable place (free + 1)))))

-- the context item, where a condition holds of it
abbrev pub kept_at : Place → ContextNumbers → (free : ℕ) → (condition : CoreExpression) → CoreExpression
kept_at place numbers free condition =
    core_at place place operators.If (three_parts (holds_at place numbers free condition) (context_item_at place numbers.item) (empty_at place))

-- the items of which a condition holds; the variables of the context are numbered from one on, and those of the cases from another
abbrev pub filter_at : ContextUse → Place → (number free : ℕ) → (e condition : CoreExpression) → CoreExpression
filter_at use' place number free e condition = loop_at use' false place number e (kept_at (outer_of condition) (context_numbers use' number) free condition)

-- a predicate over what it filters, and over its condition, which has the context variables from the free number on
abbrev pub filtered_by : Predicate → (reverse : Bool) → ContextUse → Place → (free : ℕ) → (e : CoreExpression) → (condition : CoreExpression × ℕ) → CoreExpression × ℕ
filtered_by (Numbered number) reverse use' place free e condition = (numbered_at place number reverse e, free)
filtered_by Last reverse use' place free e condition = (last_at place reverse e, free)
filtered_by Condition reverse use' place free e condition = (filter_at use' place free condition.1 e condition.0, condition.1 + 2)
