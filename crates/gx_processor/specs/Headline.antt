-- The headline. Where a query has a type, a check writes exactly the text of the type and a line feed, and a run on any documents,
-- valid where the types of external variables ask for it, writes exactly the serialisation of the value that the query has, and that value belongs to the type, or it reports the one
-- dynamic error that the query raises. Where typing rejects a query, both report the code and the place of the first
-- expression to which the static rules give no type.
use Rattle.std.specs.Prelude.{◌≡◌, ℕ, true, List, None, Some, ◌⊎◌}
use Rattle.gx_base.specs.declared.place.Place.{Place}
use Rattle.gx_base.specs.declared.code.Code.{Code}
use Rattle.gx_types.specs.SchemaSet.{SchemaSet}
use Rattle.gx_core.specs.Queries.{Core, TypedCore}
use Rattle.gx_model.specs.Forest.{Forest}
use Rattle.gx_model.specs.Item.{Items}
use Rattle.gx_model.specs.Belongs.{Belongs}
use Rattle.gx_core.specs.Outcome.{gives, raises}
use Rattle.gx_core.specs.QueryMeaning.{query_outcome, query_type}
use Rattle.gx_static.specs.QueryJudgement.{query_typed, query_rejected, query_judged, QueryFailsFirst}
use Rattle.gx_io.specs.SinkUse.{IsUntouched, Took}
use Rattle.gx_processor.specs.declared.status.Status.TheVariants.{Done, Query, Dynamic, Memory}
use Rattle.gx_processor.specs.Query.{HoldsQuery}
use Rattle.gx_processor.specs.Command.{Command, run_file, check_file, query_file, command_of}
use Rattle.gx_processor.specs.FaultLines.{code_line, placed_line}
use Rattle.gx_processor.specs.Serialisation.{serialised}
use Rattle.gx_processor.specs.TypeBytes.{type_bytes}
use Rattle.gx_documents.specs.Bindings.{misbound}
use Rattle.gx_documents.specs.Documents.{Files, HoldTrees, document_nodes}
use Rattle.gx_processor.specs.Externals.{external_words, documents_bound}
use Rattle.gx_processor.specs.Answer.{Answers, writes, can_be_written}
use Rattle.gx_processor.specs.Run.{Run}

-- the value that the query has over the trees of the documents, of the type, is written, and nothing else
pub record WritesValue (schemas : SchemaSet) (core : Core) (typing : TypedCore) (documents : Forest) (run : Run) : Type 0 where
  pub items : Items
  pub forest : Forest
  pub value : query_outcome schemas core (document_nodes documents) documents ≡ gives items forest
  pub belongs : Belongs schemas forest items (query_type typing)
  pub status : run.status ≡ Done
  pub output : Took run.out (serialised forest items)
  pub line : IsUntouched run.err

-- the dynamic error that the query raises is reported, and nothing else
pub record ReportsError (schemas : SchemaSet) (core : Core) (documents : Forest) (run : Run) : Type 0 where
  pub code : Code
  pub raised : query_outcome schemas core (document_nodes documents) documents ≡ raises code
  pub status : run.status ≡ Dynamic
  pub output : IsUntouched run.out
  pub line : Took run.err (code_line code)

-- a run ends with the value that belongs to the type, with the one dynamic error, or without memory
abbrev pub RunEnds : SchemaSet → Core → TypedCore → Forest → Run → Type 0
RunEnds schemas core typing documents run = WritesValue schemas core typing documents run ⊎ (ReportsError schemas core documents run ⊎ (run.status ≡ Memory))

-- the words bind each external variable of the query once, to files that hold documents with these trees: without types, or with
-- those of a document that is valid as the global element that the type of the variable names
pub record BindDocuments (files : Files) (schemas : SchemaSet) (core : Core) (bindings : List (List ℕ)) (documents : Forest) : Type 0 where
  pub bound : misbound (external_words core.declarations) bindings ≡ None
  pub held : HoldTrees schemas files (documents_bound core.declarations bindings) documents

-- a run of a query that has a type without attributes at its top, on documents
abbrev pub RunsTyped : Run → Files → Type 0
RunsTyped run files =
    (name : List ℕ) (bindings : List (List ℕ)) (schemas : SchemaSet) (core : Core) (typing : TypedCore) (documents : Forest) → command_of run.words ≡ Some (run_file name bindings)
    → HoldsQuery files name schemas core → query_judged schemas core ≡ query_typed typing → can_be_written schemas typing ≡ true
    → BindDocuments files schemas core bindings documents → RunEnds schemas core typing documents run

-- the text of the type is written, and nothing else
pub record WritesType (typing : TypedCore) (run : Run) : Type 0 where
  pub status : run.status ≡ Done
  pub output : Took run.out (type_bytes (query_type typing))
  pub line : IsUntouched run.err

-- a check of a query that has a type
abbrev pub ChecksTyped : Run → Files → Type 0
ChecksTyped run files =
    (name : List ℕ) (schemas : SchemaSet) (core : Core) (typing : TypedCore) → command_of run.words ≡ Some (check_file name)
    → HoldsQuery files name schemas core → query_judged schemas core ≡ query_typed typing → WritesType typing run ⊎ (run.status ≡ Memory)

-- the file of that name holds a query that has a type, and this is the type's text
pub record HoldsTyped (files : Files) (name printed : List ℕ) : Type 0 where
  pub schemas : SchemaSet
  pub core : Core
  pub typing : TypedCore
  pub query : HoldsQuery files name schemas core
  pub judgement : query_judged schemas core ≡ query_typed typing
  pub text : type_bytes (query_type typing) ≡ printed

-- where a check of a file prints a type, a run of the same file on documents ends as one of that type
abbrev pub RunsAsChecked : Run → Files → Type 0
RunsAsChecked run files =
    (checking : List (List ℕ)) (name : List ℕ) (bindings : List (List ℕ)) (printed : List ℕ) → command_of run.words ≡ Some (run_file name bindings)
    → command_of checking ≡ Some (check_file name) → Answers checking files (writes printed)
    → (query : HoldsTyped files name printed)
    × (can_be_written query.schemas query.typing ≡ true → (documents : Forest) → BindDocuments files query.schemas query.core bindings documents
    → RunEnds query.schemas query.core query.typing documents run)

-- the code and the place of the first expression that fails, to which the static rules give no type, are reported, and
-- nothing else
pub record ReportsRejection (schemas : SchemaSet) (core : Core) (code : Code) (place : Place) (run : Run) : Type 0 where
  pub fails : QueryFailsFirst schemas core place code
  pub status : run.status ≡ Query
  pub output : IsUntouched run.out
  pub line : Took run.err (placed_line code place)

-- a run or a check of a query that typing rejects
abbrev pub RejectsUntyped : Run → Files → Type 0
RejectsUntyped run files =
    (command : Command) (schemas : SchemaSet) (core : Core) (place : Place) (code : Code) → command_of run.words ≡ Some command
    → HoldsQuery files (query_file command) schemas core → query_judged schemas core ≡ query_rejected place code
    → ReportsRejection schemas core code place run ⊎ (run.status ≡ Memory)
