-- How queries whose names are resolved are judged.
use Rattle.std.specs.Prelude.{◌≡◌, List, [], ◌∷◌, None, Some}
use Rattle.gx_ast.specs.declared.query.Query.{Query}
use Rattle.gx_types.specs.SchemaSet.{SchemaSet}
use Rattle.gx_types.specs.SchemaInvariant.{HoldsOfEach, IsSchemaSet}
use Rattle.gx_core.specs.declared.cases.TypeCase.{TypeCase}
use Rattle.gx_core.specs.declared.expression.Declaration.TheVariants.{Global, Function}
use Rattle.gx_core.specs.declared.operator.Operator.{Operator}
use Rattle.gx_core.specs.declared.operator.Operator.TheVariants as operators
use Rattle.gx_core.specs.Expression.{CoreExpression, At, Parts, no_parts, a_part}
use Rattle.gx_core.specs.Queries.{Core, CoreDeclaration}
use Rattle.gx_core.specs.WrittenTypes.{QueryNamesWrittenTypes}
use Rattle.gx_core.specs.QueryMeaning.{parameter_types}
use Rattle.gx_static.specs.NormalTypes.{IsNormalType, HaveNormalTypes}
use Rattle.gx_static.specs.ByInclusion.{IsQueryJudgedByInclusion}
use Rattle.gx_processor.specs.NamedQuery.{named_query, query_named}

-- ---- the types that a query names in its cases and behind `treat as`

-- they are such as can be written
abbrev pub NamedQueriesNameWrittenTypes : Type 0
NamedQueriesNameWrittenTypes =
    (schemas : SchemaSet) (query : Query) (core : Core) → IsSchemaSet schemas → query_named schemas query ≡ named_query core → QueryNamesWrittenTypes core

-- they are normal, and so are those of parameters and results of functions: those of attributes are simple
abbrev pub IsOverNormalTypes : SchemaSet → Operator → Type 0
IsOverNormalTypes schemas (operators.Switch cases default) = HoldsOfEach (λ (c : TypeCase). IsNormalType schemas c.kind) cases
IsOverNormalTypes schemas (operators.Treat kind) = IsNormalType schemas kind
IsOverNormalTypes schemas (operators.User signature count) = IsNormalType schemas signature.result
IsOverNormalTypes schemas _ = Unit {0}

abbrev mutual
  pub NamesNormalTypes : SchemaSet → CoreExpression → Type 0
  NamesNormalTypes schemas (At place outer annotation operator parts) = IsOverNormalTypes schemas operator × PartsNameNormalTypes schemas parts

  pub PartsNameNormalTypes : SchemaSet → Parts (Unit {0}) → Type 0
  PartsNameNormalTypes schemas no_parts = Unit {0}
  PartsNameNormalTypes schemas (a_part first others) = NamesNormalTypes schemas first × PartsNameNormalTypes schemas others

abbrev pub ValuesNameNormalTypes : SchemaSet → List CoreDeclaration → Type 0
ValuesNameNormalTypes schemas [] = Unit {0}
ValuesNameNormalTypes schemas (Global name binder None ∷ others) = ValuesNameNormalTypes schemas others
ValuesNameNormalTypes schemas (Function function ∷ others) =
    HaveNormalTypes schemas (parameter_types function.parameters) × NamesNormalTypes schemas function.body × ValuesNameNormalTypes schemas others
ValuesNameNormalTypes schemas (Global name binder (Some value) ∷ others) = NamesNormalTypes schemas value × ValuesNameNormalTypes schemas others

pub record QueryNamesNormalTypes (schemas : SchemaSet) (core : Core) : Type 0 where
  pub values : ValuesNameNormalTypes schemas core.declarations
  pub body : NamesNormalTypes schemas core.body

-- ---- queries are judged by inclusion

abbrev pub NamedQueriesAreJudgedByInclusion : Type 0
NamedQueriesAreJudgedByInclusion =
    (schemas : SchemaSet) (query : Query) (core : Core) → IsSchemaSet schemas → query_named schemas query ≡ named_query core → QueryNamesNormalTypes schemas core
    → IsQueryJudgedByInclusion schemas core
