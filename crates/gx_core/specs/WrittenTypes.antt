-- The types of cases and of `treat as` in a query are such as can be written (XQuery 1.0, section 2.5.3).
use Rattle.std.specs.Prelude.{List, [], ◌∷◌, None, Some}
use Rattle.gx_core.specs.declared.cases.TypeCase.{TypeCase}
use Rattle.gx_core.specs.declared.expression.Declaration.TheVariants.{Global, Function}
use Rattle.gx_core.specs.declared.operator.Operator.{Operator}
use Rattle.gx_core.specs.declared.operator.Operator.TheVariants as operators
use Rattle.gx_core.specs.Expression.{Expression, At, Parts, no_parts, a_part}
use Rattle.gx_core.specs.Instances.{IsWrittenType}
use Rattle.gx_core.specs.Queries.{Core, CoreDeclaration}

abbrev pub AreWrittenCases : List TypeCase → Type 0
AreWrittenCases [] = Unit {0}
AreWrittenCases (case ∷ cases) = IsWrittenType case.kind × AreWrittenCases cases

abbrev pub IsOverWrittenTypes : Operator → Type 0
IsOverWrittenTypes (operators.Switch cases default) = AreWrittenCases cases
IsOverWrittenTypes (operators.Treat kind) = IsWrittenType kind
IsOverWrittenTypes _ = Unit {0}

-- an expression and all that stand in it
abbrev mutual
  pub NamesWrittenTypes : {A : Type 0} → Expression A → Type 0
  NamesWrittenTypes (At place outer annotation operator parts) = IsOverWrittenTypes operator × PartsNameWrittenTypes parts

  pub PartsNameWrittenTypes : {A : Type 0} → Parts A → Type 0
  PartsNameWrittenTypes no_parts = Unit {0}
  PartsNameWrittenTypes (a_part first others) = NamesWrittenTypes first × PartsNameWrittenTypes others

abbrev pub ValuesNameWrittenTypes : List CoreDeclaration → Type 0
ValuesNameWrittenTypes [] = Unit {0}
ValuesNameWrittenTypes (Global name binder None ∷ others) = ValuesNameWrittenTypes others
ValuesNameWrittenTypes (Global name binder (Some value) ∷ others) = NamesWrittenTypes value × ValuesNameWrittenTypes others
ValuesNameWrittenTypes (Function function ∷ others) = NamesWrittenTypes function.body × ValuesNameWrittenTypes others

-- a whole query
pub record QueryNamesWrittenTypes (core : Core) : Type 0 where
  pub values : ValuesNameWrittenTypes core.declarations
  pub body : NamesWrittenTypes core.body
