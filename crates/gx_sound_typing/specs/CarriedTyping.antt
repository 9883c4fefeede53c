-- Full soundness where variables have the types that they carry.
use Rattle.std.specs.Prelude.{◌≡◌, ℕ, List, [], ◌∷◌, map, Option, None, Some, take}
use Rattle.gx_types.specs.SchemaSet.{SchemaSet}
use Rattle.gx_types.specs.SchemaInvariant.{IsSchemaSet}
use Rattle.gx_types.specs.SequenceType.{SequenceType}
use Rattle.gx_core.specs.declared.expression.Declaration.TheVariants.{Global, Function}
use Rattle.gx_core.specs.declared.operator.Operator.{Operator}
use Rattle.gx_core.specs.Queries.{Core, TypedCore, TypedDeclaration}
use Rattle.gx_core.specs.Invariant.{HasQueryVariablesInOrder, CallsDeclaredFunctions}
use Rattle.gx_core.specs.Expression.{At, Parts, no_parts, a_part, each_of, annotation_of}
use Rattle.gx_core.specs.Bindings.{Types, look_up, types_bound, numbers_bound_by}
use Rattle.gx_core.specs.Soundness.{TypedExpression}
use Rattle.gx_static.specs.QueryJudgement.{query_typed, query_judged}
use Rattle.gx_plan.specs.Plan.{typed_query}
use Rattle.gx_plan.specs.Compiling.{compiled_query}
use Rattle.gx_plan.specs.Variables.{variables_of_query}
use Rattle.gx_plan.specs.FullSoundness.{Binders, IsFullySoundQuery}

-- ---- the types that variables carry

-- of those variables that carry one
abbrev pub with_carried : ℕ → Option SequenceType → Types → Types
with_carried number None others = others
with_carried number (Some t) others = (number, t) ∷ others

abbrev pub carried_types : (variables : Types) → List ℕ → Types
carried_types variables [] = []
carried_types variables (number ∷ numbers) = with_carried number (look_up variables number) (carried_types variables numbers)

-- what an operator binds for its next part has the types that its variables carry
abbrev pub carried_binders : (variables : Types) → Binders
carried_binders variables operator before = carried_types variables (numbers_bound_by operator (map (λ t. tt) before))

-- ---- variables that carry the types of their binders

-- those that an operator over parts of these types binds
abbrev pub CarryBound : (variables : Types) → Operator → (parts : List SequenceType) → Type 0
CarryBound variables operator parts =
    (count : ℕ) → carried_binders variables operator (take count parts) ≡ types_bound operator (take count parts)

-- and those that all operators of an expression bind
abbrev mutual
  pub CarryAllBound : (variables : Types) → TypedExpression → Type 0
  CarryAllBound variables (At place outer kind operator parts) =
      CarryBound variables operator (each_of annotation_of parts) × CarryBoundInParts variables parts

  pub CarryBoundInParts : (variables : Types) → Parts SequenceType → Type 0
  CarryBoundInParts variables no_parts = Unit {0}
  CarryBoundInParts variables (a_part first others) = CarryAllBound variables first × CarryBoundInParts variables others

abbrev pub CarryBoundInDeclaration : (variables : Types) → TypedDeclaration → Type 0
CarryBoundInDeclaration variables (Global name binder (Some value)) = CarryAllBound variables value
CarryBoundInDeclaration variables (Global name binder None) = Unit {0}
CarryBoundInDeclaration variables (Function function) = CarryAllBound variables function.body

abbrev pub CarryBoundInDeclarations : (variables : Types) → List TypedDeclaration → Type 0
CarryBoundInDeclarations variables [] = Unit {0}
CarryBoundInDeclarations variables (declaration ∷ others) =
    CarryBoundInDeclaration variables declaration × CarryBoundInDeclarations variables others

-- each variable of a query carries the type that its binder gives
pub record CarryBoundInQuery (variables : Types) (query : TypedCore) : Type 0 where
  pub declarations : CarryBoundInDeclarations variables query.declarations
  pub body : CarryAllBound variables query.body

-- ---- laws

-- a query that is fully sound with the types that the static rules give its variables is so with the types that they carry, where these are
-- those of their binders
abbrev pub FullSoundnessWithCarriedTypes : Type 0
FullSoundnessWithCarriedTypes =
    (schemas : SchemaSet) (variables : Types) (query : TypedCore) → CarryBoundInQuery variables query
    → IsFullySoundQuery schemas types_bound query → IsFullySoundQuery schemas (carried_binders variables) query

-- each variable of a compiled query carries the type that its binder gives, where the query that it is made of has types and its variables
-- are in order
abbrev pub CompiledQueriesCarryBound : Type 0
CompiledQueriesCarryBound =
    (schemas : SchemaSet) (core : Core) (query : TypedCore) → IsSchemaSet schemas → query_judged schemas core ≡ query_typed query
    → HasQueryVariablesInOrder core → CarryBoundInQuery (variables_of_query (compiled_query query)) (typed_query (compiled_query query))

-- so a compiled query is fully sound with the types that its variables carry
abbrev pub CompiledPlansAreFullySound : Type 0
CompiledPlansAreFullySound =
    (schemas : SchemaSet) (core : Core) (query : TypedCore) → IsSchemaSet schemas → query_judged schemas core ≡ query_typed query
    → HasQueryVariablesInOrder core → CallsDeclaredFunctions core
    → IsFullySoundQuery schemas (carried_binders (variables_of_query (compiled_query query))) (typed_query (compiled_query query))
