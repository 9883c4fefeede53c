-- The bytes of a plan's text, which a line feed ends, and the plans that a query may have.
use Rattle.std.specs.Prelude.{◌≡◌, ℕ, List}
use Rattle.std.specs.Str.{encode_utf8_all}
use Rattle.gx_types.specs.SchemaSet.{SchemaSet}
use Rattle.gx_core.specs.Queries.{TypedCore}
use Rattle.gx_plan.specs.declared.plan.Plan.{Plan}
use Rattle.gx_plan.specs.Compiling.{compiled_query}
use Rattle.gx_plan.specs.Variables.{variables_of_query}
use Rattle.gx_plantext.specs.PlanText.{plan_text}
use Rattle.gx_rules.specs.Normal.{IsRewritten, setting_of}
use Rattle.gx_processor.specs.FaultLines.{line}

abbrev pub plan_bytes : Plan → List ℕ
plan_bytes plan = line (encode_utf8_all (plan_text plan))

-- what a query that has a type is compiled to, with the types that its binders give variables
abbrev pub compiled_plan : TypedCore → Plan
compiled_plan typing = record { query = compiled_query typing; variables = variables_of_query (compiled_query typing) }

-- a plan to which no rule of rewriting applies, and to which finitely many applications of the rules lead from another one, with the same
-- variables
pub record IsRewrittenPlan (schemas : SchemaSet) (plan other : Plan) : Type 0 where
  pub rewritten : IsRewritten (setting_of schemas plan) plan.query other.query
  pub variables : other.variables ≡ plan.variables

-- the text of a plan that is rewritten so
abbrev pub IsRewrittenText : SchemaSet → Plan → (bytes : List ℕ) → Type 0
IsRewrittenText schemas plan bytes = (other : Plan) × IsRewrittenPlan schemas plan other × (bytes ≡ plan_bytes other)

-- and that of a plan of a query
abbrev pub IsPlanText : SchemaSet → TypedCore → (bytes : List ℕ) → Type 0
IsPlanText schemas typing bytes = IsRewrittenText schemas (compiled_plan typing) bytes
