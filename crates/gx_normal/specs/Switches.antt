-- `instance of`, `treat as` and `typeswitch` (XQuery 1.0, sections 3.12.1, 3.12.2 and 3.12.5).
use Rattle.std.specs.Prelude.{ℕ, List, [], ◌∷◌, Option, None, Some}
use Rattle.gx_base.specs.declared.place.Place.{Place}
use Rattle.gx_types.specs.SequenceType.{SequenceType}
use Rattle.gx_resolved.specs.declared.tree.BoundName.{BoundName}
use Rattle.gx_resolved.specs.declared.tree.Construct.{Construct}
use Rattle.gx_resolved.specs.declared.tree.Construct.TheVariants as written
use Rattle.gx_funcs.specs.declared.function.Function.TheVariants as functions
use Rattle.gx_core.specs.declared.cases.TypeCase.{TypeCase}
use Rattle.gx_core.specs.declared.operator.Operator.TheVariants as operators
use Rattle.gx_core.specs.Expression.{CoreExpression, At, no_parts, a_part, one_part, two_parts, three_parts, core_at}
use Rattle.gx_normal.specs.Constructs.{call_at, empty_at}

abbrev pub type_case : SequenceType → (variable : ℕ) → TypeCase
type_case kind variable = record { kind = kind; variable = variable }

-- `instance of`: a switch with one case, from which true comes, and false from the default
abbrev pub instance_at : Place → SequenceType → CoreExpression → CoreExpression
instance_at place kind e =
    core_at place place (operators.Switch (type_case kind 0 ∷ []) 0) (three_parts e (call_at place functions.True no_parts) (call_at place functions.False no_parts))

abbrev pub treat_at : Place → SequenceType → CoreExpression → CoreExpression
treat_at place kind e = core_at place place (operators.Treat kind) (one_part e)

-- ---- the branches of a typeswitch

-- the number of the variable of a branch, or 0
abbrev pub branch_number : Option BoundName → (free : ℕ) → ℕ
branch_number None free = 0
branch_number (Some bound) free = free

-- a branch by itself: a switch of nothing that has this case or this default alone
abbrev pub branch_at : Place → Construct → (free : ℕ) → CoreExpression → CoreExpression
branch_at place (written.Case bound kind) free body =
    core_at place place (operators.Switch (type_case kind (branch_number bound free) ∷ []) 0) (three_parts (empty_at place) body (empty_at place))
branch_at place (written.Default bound) free body = core_at place place (operators.Switch [] (branch_number bound free)) (two_parts (empty_at place) body)
branch_at place _ free body = empty_at place

-- a case in front of the branches behind it
abbrev pub case_in_front : Place → (case rest : CoreExpression) → CoreExpression
case_in_front place (At there outer annotation (operators.Switch (case ∷ more) number) (a_part nothing (a_part body others)))
    (At behind other mark (operators.Switch cases default) (a_part none branches)) =
    core_at place place (operators.Switch (case ∷ cases) default) (a_part nothing (a_part body branches))
case_in_front place _ _ = empty_at place

-- all branches in one switch, the default last
abbrev pub branches_joined : Place → List CoreExpression → CoreExpression
branches_joined place [] = empty_at place
branches_joined place (last ∷ []) = last
branches_joined place (branch ∷ others) = case_in_front place branch (branches_joined place others)

-- the branches over an operand
abbrev pub over_operand : Place → (operand branches : CoreExpression) → CoreExpression
over_operand place operand (At there outer annotation (operators.Switch cases default) (a_part nothing branches)) =
    core_at place place (operators.Switch cases default) (a_part operand branches)
over_operand place operand _ = empty_at place

-- a typeswitch: one switch of all branches over the operand
abbrev pub typeswitch_at : Place → List CoreExpression → CoreExpression
typeswitch_at place [] = empty_at place
typeswitch_at place (operand ∷ branches) = over_operand place operand (branches_joined place branches)

-- what stands at a branch, which binds its own variable, and what stands at any other construct
abbrev pub branch_or : Construct → (branch other : CoreExpression × ℕ) → CoreExpression × ℕ
branch_or (written.Case bound kind) branch other = branch
branch_or (written.Default bound) branch other = branch
branch_or construct branch other = other
