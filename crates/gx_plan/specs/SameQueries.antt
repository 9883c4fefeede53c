-- Queries whose expressions come to the same, each where its counterpart stands.
use Rattle.std.specs.Prelude.{◌≡◌, ℕ, List, [], ◌∷◌, ◌++◌, None, Some}
use Rattle.gx_types.specs.SchemaSet.{SchemaSet}
use Rattle.gx_model.specs.Forest.{PlainNode, Forest}
use Rattle.gx_model.specs.Honest.{IsHonest}
use Rattle.gx_core.specs.declared.expression.Query.{Query}
use Rattle.gx_core.specs.declared.expression.Declaration.{Declaration}
use Rattle.gx_core.specs.declared.expression.Declaration.TheVariants.{Global, Function}
use Rattle.gx_core.specs.declared.expression.DeclaredFunction.{DeclaredFunction}
use Rattle.gx_core.specs.Queries.{TypedCore, TypedDeclaration, TypedFunction}
use Rattle.gx_core.specs.Bindings.{Types}
use Rattle.gx_core.specs.QueryMeaning.{plain_query, outcome_within, global_types, types_declared, DocumentsFit}
use Rattle.gx_plan.specs.FullSoundness.{Binders, body_types, IsFullySoundQuery}
use Rattle.gx_plan.specs.StandingFor.{IsSameExpression}

-- a function with the same parameters and the same result whose body comes to the same, where those variables alone that the body of the
-- other names have types
pub record IsSameFunction {A : Type 0} (schemas : SchemaSet) (other : DeclaredFunction A) (function : TypedFunction) (before : Types) : Type 0 where
  pub parameters : other.parameters ≡ function.parameters
  pub result : other.result ≡ function.result
  pub body : IsSameExpression schemas other.body function.body (body_types function before)

abbrev pub IsSameDeclaration : {A : Type 0} → SchemaSet → Declaration A → TypedDeclaration → Types → Type 0
IsSameDeclaration schemas (Global name binder (Some other)) (Global own_name own_binder (Some value)) types =
    (binder ≡ own_binder) × IsSameExpression schemas other value types
IsSameDeclaration schemas (Global name binder None) (Global own_name own_binder None) types = binder ≡ own_binder
IsSameDeclaration schemas (Function other) (Function function) types = IsSameFunction schemas other function types
IsSameDeclaration schemas _ _ types = ⊥

-- each declaration, under the types of the globals before it
abbrev pub AreSameDeclarations : {A : Type 0} → SchemaSet → List (Declaration A) → List TypedDeclaration → Types → Type 0
AreSameDeclarations schemas [] [] types = Unit {0}
AreSameDeclarations schemas (other ∷ others) (declaration ∷ declarations) types =
    IsSameDeclaration schemas other declaration types × AreSameDeclarations schemas others declarations (global_types declaration ++ types)
AreSameDeclarations schemas [] (declaration ∷ declarations) types = ⊥
AreSameDeclarations schemas (other ∷ others) [] types = ⊥

pub record IsSameQuery {A : Type 0} (schemas : SchemaSet) (other : Query A) (query : TypedCore) : Type 0 where
  pub declarations : AreSameDeclarations schemas other.declarations query.declarations []
  pub body : IsSameExpression schemas other.body query.body (types_declared query.declarations [])

-- a query whose expressions come to the same as those of a fully sound query has its outcome, however many calls may be active
abbrev pub SameQueriesHaveTheOutcome : (A : Type 0) → Type 0
SameQueriesHaveTheOutcome A =
    (limit : ℕ) (schemas : SchemaSet) (binders : Binders) (query : TypedCore) (other : Query A) (documents : List PlainNode) (forest : Forest)
    → IsHonest schemas forest → DocumentsFit schemas forest (plain_query query).declarations documents
    → IsFullySoundQuery schemas binders query → IsSameQuery schemas other query
    → outcome_within limit schemas other documents forest ≡ outcome_within limit schemas query documents forest
