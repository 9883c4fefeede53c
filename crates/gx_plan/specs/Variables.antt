-- The types that the variables of a plan carry: those that their binders give.
use Rattle.std.specs.Prelude.{List, [], ◌∷◌, ◌++◌, None, Some}
use Rattle.gx_types.specs.SequenceType.{SequenceType}
use Rattle.gx_core.specs.declared.cases.TypeCase.{TypeCase}
use Rattle.gx_core.specs.declared.expression.Declaration.{Declaration}
use Rattle.gx_core.specs.declared.expression.Declaration.TheVariants.{Global, Function}
use Rattle.gx_core.specs.declared.operator.Operator.{Operator}
use Rattle.gx_core.specs.declared.operator.Operator.TheVariants as operators
use Rattle.gx_core.specs.declared.expression.Clause.{Clause}
use Rattle.gx_core.specs.Bindings.{Types, position_bound, types_bound, clause_types_bound, block_types_bound}
use Rattle.gx_core.specs.ExpressionView.{kind_of_clause, part_of_clause}
use Rattle.gx_core.specs.Expression.{At, Parts, no_parts, a_part}
use Rattle.gx_core.specs.QueryMeaning.{external_types, parameter_types}
use Rattle.gx_plan.specs.declared.plan.Carried.{Carried}
use Rattle.gx_plan.specs.Plan.{PlanExpression, PlanQuery, kind_carried, kinds_carried}

-- the variables of cases, each with the type of its case
abbrev pub case_variables : List TypeCase → Types → Types
case_variables [] before = before
case_variables (case ∷ cases) before = position_bound case.variable case.kind ++ case_variables cases before

-- the variables that an operator binds for any of its parts, from the types of its parts, besides others
abbrev pub with_variables_of : Operator → List SequenceType → Types → Types
with_variables_of (operators.Switch cases default) (operand ∷ branches) before = case_variables cases (position_bound default operand ++ before)
with_variables_of (operators.Block clauses keys) kinds before = block_types_bound clauses kinds before
with_variables_of operator (first ∷ others) before = types_bound operator (first ∷ []) ++ before
with_variables_of operator [] before = before

-- and those that all operators of an expression bind
abbrev mutual
  pub with_variables_in : PlanExpression → Types → Types
  with_variables_in (At place outer carried operator parts) before =
      with_variables_in_parts parts (with_variables_of operator (kinds_carried parts) before)

  pub with_variables_in_parts : Parts Carried → Types → Types
  with_variables_in_parts no_parts before = before
  with_variables_in_parts (a_part first others) before = with_variables_in_parts others (with_variables_in first before)

abbrev pub with_variables_declared : List (Declaration Carried) → Types → Types
with_variables_declared [] before = before
with_variables_declared (Global name binder (Some value) ∷ others) before =
    with_variables_declared others ((binder.variable, kind_carried value) ∷ with_variables_in value before)
with_variables_declared (Global name binder None ∷ others) before = with_variables_declared others (external_types binder binder.kind ++ before)
with_variables_declared (Function function ∷ others) before =
    with_variables_declared others (with_variables_in function.body (parameter_types function.parameters ++ before))

-- the variables of a whole plan
abbrev pub variables_of_query : PlanQuery → Types
variables_of_query query = with_variables_in query.body (with_variables_declared query.declarations [])

-- ---- one operator, and expressions one behind the other

abbrev pub with_variables_at : PlanExpression → Types → Types
with_variables_at (At place outer carried operator parts) before = with_variables_of operator (kinds_carried parts) before

abbrev pub with_variables_in_all : List PlanExpression → Types → Types
with_variables_in_all [] before = before
with_variables_in_all (e ∷ es) before = with_variables_in_all es (with_variables_in e before)

-- the variables that clauses bind
abbrev pub with_variables_of_clauses : List (Clause Carried) → Types → Types
with_variables_of_clauses [] before = before
with_variables_of_clauses (clause ∷ clauses) before =
    with_variables_of_clauses clauses (clause_types_bound (kind_of_clause clause) (kind_carried (part_of_clause clause)) ++ before)
