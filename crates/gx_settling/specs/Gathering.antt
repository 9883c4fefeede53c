-- How a pass over an expression stands.
use Rattle.std.specs.Prelude.{ℕ, List, [], ◌∷◌, ◌++◌, map}
use Rattle.std.specs.List.{flat_map}
use Rattle.gx_core.specs.declared.operator.Operator.{Operator}
use Rattle.gx_core.specs.Expression.{Expression, Parts, no_parts, a_part}
use Rattle.gx_core.specs.ExpressionView.{part_of_clause, part_of_key}
use Rattle.gx_settling.specs.declared.uses.Gathering.{Gathering}
use Rattle.gx_settling.specs.declared.uses.Pending.{Pending}
use Rattle.gx_settling.specs.declared.uses.Pending.TheVariants.{One, All, Clauses, Keys}
use Rattle.gx_settling.specs.Uses.{of_operators, called_function, named_variable}

abbrev pub listed_parts : {A : Type 0} → Parts A → List (Expression A)
listed_parts no_parts = []
listed_parts (a_part first others) = first ∷ listed_parts others

-- the expressions that are still to be looked at, each with all that stands in it
abbrev pub expressions_pending : {A : Type 0} → Pending A → List (Expression A)
expressions_pending (One expression) = expression.now ∷ []
expressions_pending (All expressions) = expressions.now
expressions_pending (Clauses clauses) = map part_of_clause clauses.now
expressions_pending (Keys keys) = map part_of_key keys.now

abbrev pub expressions_left : {A : Type 0} → List (Pending A) → List (Expression A)
expressions_left [] = []
expressions_left (first ∷ others) = expressions_pending first ++ expressions_left others

-- what is gathered, and what is still to be
abbrev pub gathered_with : {A : Type 0} → (Operator → List ℕ) → (before : List ℕ) → List (Pending A) → List ℕ
gathered_with look before pending = before ++ flat_map (of_operators look) (expressions_left pending)

-- the calls of a pass when it ends, and the variables
abbrev pub all_calls : {A : Type 0} → Gathering A → List ℕ
all_calls g = gathered_with called_function g.calls.items g.pending

abbrev pub all_variables : {A : Type 0} → Gathering A → List ℕ
all_variables g = gathered_with named_variable g.variables.items g.pending

-- the same, with a piece of work on top
abbrev pub all_calls_with : {A : Type 0} → Pending A → Gathering A → List ℕ
all_calls_with piece g = gathered_with called_function g.calls.items (piece ∷ g.pending)

abbrev pub all_variables_with : {A : Type 0} → Pending A → Gathering A → List ℕ
all_variables_with piece g = gathered_with named_variable g.variables.items (piece ∷ g.pending)

-- the numbers of the variables in a scope
abbrev pub numbers_in_scope : List (ℕ × Unit {0}) → List ℕ
numbers_in_scope scope = map (λ (binding : ℕ × Unit {0}). binding.0) scope
