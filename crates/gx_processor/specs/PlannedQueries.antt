-- The plans of queries that have a type.
use Rattle.std.specs.Prelude.{◌≡◌, ℕ, List, Some, ◌⊎◌}
use Rattle.gx_types.specs.SchemaSet.{SchemaSet}
use Rattle.gx_core.specs.Queries.{Core, TypedCore}
use Rattle.gx_static.specs.QueryJudgement.{query_typed, query_judged}
use Rattle.gx_io.specs.SinkUse.{IsUntouched, Took}
use Rattle.gx_documents.specs.Documents.{Files}
use Rattle.gx_processor.specs.declared.status.Status.TheVariants.{Done, Memory}
use Rattle.gx_processor.specs.Command.{plan_file, command_of}
use Rattle.gx_processor.specs.Query.{HoldsQuery}
use Rattle.gx_processor.specs.PlanBytes.{IsPlanText}
use Rattle.gx_processor.specs.Run.{Run}

-- the text of a plan of the query is written, and nothing else
pub record WritesPlan (schemas : SchemaSet) (typing : TypedCore) (run : Run) : Type 0 where
  pub bytes : List ℕ
  pub plan : IsPlanText schemas typing bytes
  pub status : run.status ≡ Done
  pub output : Took run.out bytes
  pub line : IsUntouched run.err

-- the words ask for the plan of a query that has a type
abbrev pub PlansTyped : Run → Files → Type 0
PlansTyped run files =
    (name : List ℕ) (schemas : SchemaSet) (core : Core) (typing : TypedCore) → command_of run.words ≡ Some (plan_file name)
    → HoldsQuery files name schemas core → query_judged schemas core ≡ query_typed typing → WritesPlan schemas typing run ⊎ (run.status ≡ Memory)
