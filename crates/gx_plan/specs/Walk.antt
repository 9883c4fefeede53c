-- Expressions in the order of the tree, and how far a walk over them is.
use Rattle.std.specs.Prelude.{◌≡◌, List, [], ◌∷◌, ◌++◌, map}
use Rattle.gx_core.specs.Expression.{Expression, At, Parts, no_parts, a_part}
use Rattle.gx_core.specs.ExpressionView.{part_of_clause, part_of_key}
use Rattle.gx_plan.specs.declared.walk.Pending.{Pending}
use Rattle.gx_plan.specs.declared.walk.Pending.TheVariants.{One, All, Clauses, Keys}

abbrev pub parts_in_order : {A : Type 0} → Parts A → List (Expression A)
parts_in_order no_parts = []
parts_in_order (a_part first others) = first ∷ parts_in_order others

abbrev pub parts_of_expression : {A : Type 0} → Expression A → List (Expression A)
parts_of_expression (At place outer annotation operator parts) = parts_in_order parts

-- the expressions that are still to be met, each with all that stands in it
abbrev pub walk_pending : {A : Type 0} → Pending A → List (Expression A)
walk_pending (One expression) = expression.now ∷ []
walk_pending (All expressions) = expressions.now
walk_pending (Clauses clauses) = map part_of_clause clauses.now
walk_pending (Keys keys) = map part_of_key keys.now

abbrev pub walk_left : {A : Type 0} → List (Pending A) → List (Expression A)
walk_left [] = []
walk_left (first ∷ others) = walk_pending first ++ walk_left others

-- an expression is the first that a walk meets, and its parts come next
pub record IsNext {A : Type 0} (e : Expression A) (before after : List (Expression A)) : Type 0 where
  pub others : List (Expression A)
  pub met : before ≡ e ∷ others
  pub left : after ≡ parts_of_expression e ++ others
