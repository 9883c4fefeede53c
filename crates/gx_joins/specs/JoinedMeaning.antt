-- What plans come to where joins are hash joins, and all else is as it means.
use Rattle.std.specs.Prelude.{ℕ, zero, suc, List, [], ◌∷◌, ◌++◌, Option, None, Some, slice_get}
use Rattle.gx_base.specs.declared.code.Code.TheVariants.{GLXD0001}
use Rattle.gx_types.specs.SchemaSet.{SchemaSet}
use Rattle.gx_model.specs.Forest.{PlainNode, Forest}
use Rattle.gx_model.specs.Item.{node, Items}
use Rattle.gx_core.specs.declared.expression.BinaryOp.TheVariants as binary
use Rattle.gx_core.specs.declared.expression.Declaration.TheVariants.{Global, Function}
use Rattle.gx_core.specs.declared.operator.Operator.{Operator}
use Rattle.gx_core.specs.declared.operator.Operator.TheVariants as operators
use Rattle.gx_core.specs.Converting.{converted}
use Rattle.gx_core.specs.Expression.{At, Parts, no_parts, a_part}
use Rattle.gx_core.specs.Functions.{functions_of, arguments_bound}
use Rattle.gx_core.specs.Meaning.{CallOutcomes, Context, Bindings, Denotation, denoted}
use Rattle.gx_core.specs.Outcome.{Outcome, gives, raises, wrong, after, given}
use Rattle.gx_plan.specs.declared.plan.Carried.{Carried}
use Rattle.gx_plan.specs.declared.plan.Role.{Role}
use Rattle.gx_plan.specs.declared.plan.Role.TheVariants as roles
use Rattle.gx_plan.specs.Plan.{PlanExpression, PlanQuery, FunctionOfPlan, DeclarationOfPlan}
use Rattle.gx_joins.specs.HashJoin.{JoinParts, hash_join}

-- ---- expressions

-- a loop is a join where it carries the role of one
abbrev pub if_join : Option (JoinParts Denotation) → Role → Option (JoinParts Denotation)
if_join None role = None
if_join (Some join) roles.Join = Some join
if_join (Some join) role = None

abbrev pub as_joined : Option (JoinParts Denotation) → Denotation → Denotation
as_joined (Some join) loops = hash_join join
as_joined None loops = loops

-- the loops and the test of a join are found by their forms: two loops without positions over a comparison of keys, and no value where it fails
abbrev mutual
  pub joined_meaning : Context → PlanExpression → Denotation
  joined_meaning context (At place outer carried operator parts) =
      as_joined (if_join (outer_loop context operator parts) carried.role) (denoted context operator (joined_meanings context parts))

  pub joined_meanings : Context → Parts Carried → List Denotation
  joined_meanings context no_parts = []
  joined_meanings context (a_part first others) = joined_meaning context first ∷ joined_meanings context others

  pub outer_loop : Context → Operator → Parts Carried → Option (JoinParts Denotation)
  outer_loop context (operators.For binder zero) (a_part source (a_part body no_parts)) = inner_loop context binder.variable (joined_meaning context source) body
  outer_loop context _ _ = None

  pub inner_loop : Context → (left : ℕ) → (source : Denotation) → PlanExpression → Option (JoinParts Denotation)
  inner_loop context left source (At place outer carried (operators.For binder zero) (a_part other (a_part test no_parts))) =
      pairs_tested context left binder.variable source (joined_meaning context other) test
  inner_loop context left source _ = None

  pub pairs_tested : Context → (left right : ℕ) → (source other : Denotation) → PlanExpression → Option (JoinParts Denotation)
  pairs_tested context left right source other (At place outer carried operators.If (a_part comparison (a_part result (a_part (At absent o c operators.Empty no_parts) no_parts)))) =
      keys_compared context left right source other (joined_meaning context result) comparison
  pairs_tested context left right source other _ = None

  pub keys_compared : Context → (left right : ℕ) → (source other result : Denotation) → PlanExpression → Option (JoinParts Denotation)
  keys_compared context left right source other result (At place outer carried (operators.Binary binary.AnyEq) (a_part left_key (a_part right_key no_parts))) =
      Some (record { left = left; right = right; source = source; other = other; left_key = joined_meaning context left_key; right_key = joined_meaning context right_key; result = result })
  keys_compared context left right source other result _ = None

-- ---- functions and queries

-- calls of functions, as they mean but for the joins in bodies
unfoldable pub joined_calls : SchemaSet → List FunctionOfPlan → (globals : Bindings) → (left : ℕ) → CallOutcomes
joined_calls schemas functions globals zero signature values forest = raises GLXD0001
joined_calls schemas functions globals (suc left) signature values forest =
    given (slice_get functions signature.number)
    (λ f. after (joined_meaning (record { schemas = schemas; calls = joined_calls schemas functions globals left }) f.body (arguments_bound f.parameters values ++ globals) forest)
    (λ xs now. converted schemas f.result xs now))

abbrev pub joined_context : SchemaSet → List FunctionOfPlan → (globals : Bindings) → (left : ℕ) → Context
joined_context schemas functions globals left = record { schemas = schemas; calls = joined_calls schemas functions globals left }

-- the globals in order
abbrev pub joined_globals : SchemaSet → List FunctionOfPlan → (limit : ℕ) → List DeclarationOfPlan → (documents : List PlainNode) → Bindings
    → Forest → Outcome Bindings
joined_globals schemas functions limit [] documents bindings forest = gives bindings forest
joined_globals schemas functions limit (Function function ∷ others) documents bindings forest =
    joined_globals schemas functions limit others documents bindings forest
joined_globals schemas functions limit (Global name binder (Some value) ∷ others) documents bindings forest =
    after (joined_meaning (joined_context schemas functions bindings limit) value bindings forest)
    (λ items left. joined_globals schemas functions limit others documents ((binder.variable, items) ∷ bindings) left)
joined_globals schemas functions limit (Global name binder None ∷ others) [] bindings forest = wrong
joined_globals schemas functions limit (Global name binder None ∷ others) (document ∷ documents) bindings forest =
    joined_globals schemas functions limit others documents ((binder.variable, node document ∷ []) ∷ bindings) forest

-- what a plan comes to, with these document nodes of the forest, where so many calls may be active
abbrev pub joined_outcome : (limit : ℕ) → SchemaSet → PlanQuery → (documents : List PlainNode) → Forest → Outcome Items
joined_outcome limit schemas query documents forest =
    after (joined_globals schemas (functions_of query.declarations) limit query.declarations documents [] forest)
    (λ bindings left. joined_meaning (joined_context schemas (functions_of query.declarations) bindings limit) query.body bindings left)
