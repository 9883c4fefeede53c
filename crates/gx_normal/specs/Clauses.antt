-- The clauses of a FLWOR and of a quantified expression: the variables that each binds, and what it stands for in Core (XQuery 1.0,
-- sections 3.8 and 3.9).
use Rattle.std.specs.Prelude.{ℕ, ◌+◌, Bool, true, false, ◌||◌, List, [], ◌∷◌, Option, None, Some, if◌then◌else◌}
use Rattle.gx_base.specs.declared.place.Place.{Place}
use Rattle.gx_ast.specs.declared.sequence_type.EmptyOrder.{EmptyOrder}
use Rattle.gx_ast.specs.declared.sequence_type.EmptyOrder.TheVariants as empties
use Rattle.gx_ast.specs.declared.sequence_type.KeyOrder.{KeyOrder as WrittenOrder}
use Rattle.gx_sorting.specs.declared.keys.KeyOrder.{KeyOrder}
use Rattle.gx_resolved.specs.declared.tree.BoundName.{BoundName}
use Rattle.gx_resolved.specs.declared.tree.Construct.{Construct}
use Rattle.gx_resolved.specs.declared.tree.Construct.TheVariants as written
use Rattle.gx_resolved.specs.ResolvedTree.{ResolvedTree, ResolvedTrees, resolved_at, no_resolved, a_resolved}
use Rattle.gx_core.specs.declared.expression.Binder.{Binder}
use Rattle.gx_core.specs.declared.operator.ClauseKind.{ClauseKind}
use Rattle.gx_core.specs.declared.operator.ClauseKind.TheVariants as kinds
use Rattle.gx_core.specs.declared.operator.Operator.TheVariants as operators
use Rattle.gx_core.specs.Expression.{CoreExpression, At, a_part, one_part, core_at}
use Rattle.gx_normal.specs.declared.clauses.Ending.{Ending}
use Rattle.gx_normal.specs.declared.clauses.Ending.TheVariants.{Returned, Condition, Sorted}
use Rattle.gx_normal.specs.Constructs.{around, boolean_around, conditional_at, data_around, empty_at, for_at, let_at, quantifier_at}

-- the numbers of variables, by the places of their binders, the innermost first
abbrev pub Numbers : Type 0
Numbers = List (Place × ℕ)

-- the binder of a variable with its number, and the type that is written at it
abbrev pub numbered_binder : BoundName → ℕ → Binder
numbered_binder bound number = record { variable = number; place = bound.place; kind = bound.kind }

abbrev pub is_clause : Construct → Bool
is_clause (written.For bound position) = true
is_clause (written.Let bound) = true
is_clause written.Where = true
is_clause (written.In bound) = true
is_clause (written.Key order) = true
is_clause _ = false

abbrev pub leading_part : ResolvedTrees → Option ResolvedTree
leading_part no_resolved = None
leading_part (a_resolved part more) = Some part

-- the part of a clause, if it is one
abbrev pub clause_part : ResolvedTree → Option ResolvedTree
clause_part (resolved_at place construct parts) = if is_clause construct then leading_part parts else None

-- the variables that a clause, or a branch of a typeswitch, binds are numbered from the free number on
abbrev pub clause_numbers : Construct → (free : ℕ) → Numbers
clause_numbers (written.For bound None) free = (bound.place, free) ∷ []
clause_numbers (written.For bound (Some position)) free = (position.place, free + 1) ∷ (bound.place, free) ∷ []
clause_numbers (written.Let bound) free = (bound.place, free) ∷ []
clause_numbers (written.In bound) free = (bound.place, free) ∷ []
clause_numbers (written.Case (Some bound) kind) free = (bound.place, free) ∷ []
clause_numbers (written.Default (Some bound)) free = (bound.place, free) ∷ []
clause_numbers _ free = []

-- the number that is free behind them
abbrev pub behind_clause : Construct → (free : ℕ) → ℕ
behind_clause (written.For bound None) free = free + 1
behind_clause (written.For bound (Some position)) free = free + 2
behind_clause (written.Let bound) free = free + 1
behind_clause (written.In bound) free = free + 1
behind_clause (written.Case (Some bound) kind) free = free + 1
behind_clause (written.Default (Some bound)) free = free + 1
behind_clause _ free = free

-- the number of the variable of a position, or 0
abbrev pub position_number : Option BoundName → (free : ℕ) → ℕ
position_number None free = 0
position_number (Some position) free = free + 1

-- a test whether the condition holds for some item, or for each; a quantified expression alone has such clauses
abbrev pub test_at : Ending → Place → Binder → (source test : CoreExpression) → CoreExpression
test_at Returned place binder source test = empty_at place
test_at (Condition every) place binder source test = quantifier_at every place binder source test
test_at (Sorted greatest) place binder source test = empty_at place

-- ---- clauses with sort keys: a block, which is made from its end

-- a clause in front of a block
abbrev pub clause_in_front : Place → ClauseKind → (part block : CoreExpression) → CoreExpression
clause_in_front place kind part (At there outer tt (operators.Block kinds orders) parts) = core_at place place (operators.Block (kind ∷ kinds) orders) (a_part part parts)
clause_in_front place kind part _ = empty_at place

-- a sort key in front of a block that has no clause as yet
abbrev pub key_in_front : Place → KeyOrder → (part block : CoreExpression) → CoreExpression
key_in_front place order part (At there outer tt (operators.Block [] orders) parts) = core_at place place (operators.Block [] (order ∷ orders)) (a_part part parts)
key_in_front place order part _ = empty_at place

-- where a key says nothing of the empty sequence, the prolog decides
abbrev pub is_empty_greatest : (greatest : Bool) → EmptyOrder → Bool
is_empty_greatest greatest empties.Default = greatest
is_empty_greatest greatest empties.Greatest = true
is_empty_greatest greatest empties.Least = false

abbrev pub key_order : (greatest : Bool) → WrittenOrder → KeyOrder
key_order greatest order = record { descending = order.descending; greatest = is_empty_greatest greatest order.empty }

abbrev pub sorted_clause_at : (greatest : Bool) → Place → Construct → (free : ℕ) → (part block : CoreExpression) → CoreExpression
sorted_clause_at greatest place (written.For bound position) free source block = clause_in_front place (kinds.For (numbered_binder bound free) (position_number position free)) source block
sorted_clause_at greatest place (written.Let bound) free value block = clause_in_front place (kinds.Let (numbered_binder bound free)) value block
sorted_clause_at greatest place written.Where free condition block = clause_in_front place kinds.Where (boolean_around condition) block
sorted_clause_at greatest place (written.Key order) free key block = key_in_front place (key_order greatest order) (data_around key) block
sorted_clause_at greatest place _ free part block = empty_at place

-- ---- any clauses

-- a clause around what the clauses behind it stand for
abbrev pub nested_clause_at : Ending → Place → Construct → (free : ℕ) → (part rest : CoreExpression) → CoreExpression
nested_clause_at ending place (written.For bound position) free source rest = for_at place (numbered_binder bound free) (position_number position free) source rest
nested_clause_at ending place (written.Let bound) free value rest = let_at place (numbered_binder bound free) value rest
nested_clause_at ending place written.Where free condition rest = conditional_at place condition rest (empty_at place)
nested_clause_at ending place (written.In bound) free source rest = test_at ending place (numbered_binder bound free) source rest
nested_clause_at ending place _ free part rest = empty_at place

-- a clause over its part and over what the clauses behind it stand for
abbrev pub clause_at : Ending → Place → Construct → (free : ℕ) → (part rest : CoreExpression) → CoreExpression
clause_at (Sorted greatest) place construct free part rest = sorted_clause_at greatest place construct free part rest
clause_at ending place construct free part rest = nested_clause_at ending place construct free part rest

-- what the clauses end in: what is returned, a condition, or what is returned for sorted tuples
abbrev pub ended : Ending → CoreExpression → CoreExpression
ended Returned e = e
ended (Condition every) e = boolean_around e
ended (Sorted greatest) e = around e (operators.Block [] []) (one_part e)

abbrev pub is_key : Construct → Bool
is_key (written.Key order) = true
is_key _ = false

-- a sort key stands among the parts
abbrev pub have_key : ResolvedTrees → Bool
have_key no_resolved = false
have_key (a_resolved (resolved_at place construct parts) others) = is_key construct || have_key others

-- how the clauses of a FLWOR end, and those of a quantified expression
abbrev pub ending_of_clauses : Construct → (parts : ResolvedTrees) → (greatest : Bool) → Ending
ending_of_clauses (written.Quantified every) parts greatest = Condition every
ending_of_clauses _ parts greatest = if have_key parts then Sorted greatest else Returned
