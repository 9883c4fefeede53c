-- What typed Core is compiled to: the operators that typing alone needs go, and each operator that stays is one of its own.
use Rattle.std.specs.Prelude.{◌≡◌, ℕ, List, map, option_map}
use Rattle.gx_base.specs.declared.place.Place.{Place}
use Rattle.gx_types.specs.SchemaSet.{SchemaSet}
use Rattle.gx_types.specs.SequenceType.{SequenceType}
use Rattle.gx_model.specs.Forest.{PlainNode, Forest}
use Rattle.gx_model.specs.Honest.{IsHonest}
use Rattle.gx_core.specs.declared.expression.Declaration.{Declaration}
use Rattle.gx_core.specs.declared.expression.Declaration.TheVariants.{Global, Function}
use Rattle.gx_core.specs.declared.operator.Operator.{Operator}
use Rattle.gx_core.specs.declared.operator.Operator.TheVariants as operators
use Rattle.gx_core.specs.Expression.{At, Parts, no_parts, a_part}
use Rattle.gx_core.specs.Queries.{TypedCore}
use Rattle.gx_core.specs.Soundness.{TypedExpression}
use Rattle.gx_core.specs.QueryMeaning.{plain_query, outcome_within, IsSoundQuery, DocumentsFit}
use Rattle.gx_plan.specs.declared.plan.Carried.{Carried}
use Rattle.gx_plan.specs.Plan.{PlanExpression, PlanQuery, own}

-- an operator over compiled parts: the value of `nodes` is that of its operand
abbrev pub compiled_operator : (place outer : Place) → SequenceType → Operator → Parts Carried → PlanExpression
compiled_operator place outer kind operators.Nodes (a_part operand no_parts) = operand
compiled_operator place outer kind operator parts = At place outer (own kind) operator parts

abbrev mutual
  pub compiled : TypedExpression → PlanExpression
  compiled (At place outer kind operator parts) = compiled_operator place outer kind operator (compiled_parts parts)

  pub compiled_parts : Parts SequenceType → Parts Carried
  compiled_parts no_parts = no_parts
  compiled_parts (a_part first others) = a_part (compiled first) (compiled_parts others)

abbrev pub compiled_declaration : Declaration SequenceType → Declaration Carried
compiled_declaration (Global name binder value) = Global name binder (option_map compiled value)
compiled_declaration (Function function) =
    Function (record { place = function.place; name = function.name; parameters = function.parameters; result = function.result; body = compiled function.body })

abbrev pub compiled_query : TypedCore → PlanQuery
compiled_query query = record { declarations = map compiled_declaration query.declarations; body = compiled query.body }

-- a compiled query has the outcome of the query that it is made of, where that is sound
abbrev pub CompilingKeepsOutcomes : Type 0
CompilingKeepsOutcomes =
    (limit : ℕ) (schemas : SchemaSet) (query : TypedCore) (documents : List PlainNode) (forest : Forest)
    → IsHonest schemas forest → DocumentsFit schemas forest (plain_query query).declarations documents → IsSoundQuery schemas query
    → outcome_within limit schemas (compiled_query query) documents forest ≡ outcome_within limit schemas query documents forest
