-- Plans: typed Core in which some loops are marked as joins. A mark changes no meaning: a join means its two loops and their test.
use Rattle.std.specs.Prelude.{List, [], ◌∷◌, map, option_map}
use Rattle.gx_types.specs.SequenceType.{SequenceType}
use Rattle.gx_core.specs.declared.expression.Query.{Query}
use Rattle.gx_core.specs.declared.expression.Declaration.{Declaration}
use Rattle.gx_core.specs.declared.expression.DeclaredFunction.{DeclaredFunction}
use Rattle.gx_core.specs.declared.expression.Declaration.TheVariants.{Global, Function}
use Rattle.gx_core.specs.Expression.{Expression, At, Parts, no_parts, a_part, annotation_of}
use Rattle.gx_core.specs.Queries.{TypedCore}
use Rattle.gx_core.specs.Soundness.{TypedExpression}
use Rattle.gx_plan.specs.declared.plan.Role.TheVariants.{Own}
use Rattle.gx_plan.specs.declared.plan.Carried.{Carried}

abbrev pub PlanExpression : Type 0
PlanExpression = Expression Carried

abbrev pub FunctionOfPlan : Type 0
FunctionOfPlan = DeclaredFunction Carried

abbrev pub DeclarationOfPlan : Type 0
DeclarationOfPlan = Declaration Carried

abbrev pub PlanQuery : Type 0
PlanQuery = Query Carried

-- what an operator of its own carries
abbrev pub own : SequenceType → Carried
own t = record { kind = t; role = Own }

-- the type that an expression carries
abbrev pub kind_carried : PlanExpression → SequenceType
kind_carried e = (annotation_of e).kind

abbrev pub kinds_carried : Parts Carried → List SequenceType
kinds_carried no_parts = []
kinds_carried (a_part first others) = kind_carried first ∷ kinds_carried others

-- ---- the typed Core that a plan means

abbrev mutual
  pub typed_expression : PlanExpression → TypedExpression
  typed_expression (At place outer carried operator parts) = At place outer carried.kind operator (typed_parts parts)

  pub typed_parts : Parts Carried → Parts SequenceType
  typed_parts no_parts = no_parts
  typed_parts (a_part first others) = a_part (typed_expression first) (typed_parts others)

abbrev pub typed_declaration : Declaration Carried → Declaration SequenceType
typed_declaration (Global name binder value) = Global name binder (option_map typed_expression value)
typed_declaration (Function function) =
    Function (record { place = function.place; name = function.name; parameters = function.parameters; result = function.result; body = typed_expression function.body })

abbrev pub typed_query : PlanQuery → TypedCore
typed_query query = record { declarations = map typed_declaration query.declarations; body = typed_expression query.body }
