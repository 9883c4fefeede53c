-- What the run of a query that has a type says.
use Rattle.std.specs.Prelude.{◌≡◌, ℕ, true, List, Option, None, Some, IfSome, IfErr, Result, Ok, Err, String}
use Rattle.std.specs.String.{string_bytes}
use Rattle.gx_base.specs.Code.{is_dynamic, is_static}
use Rattle.gx_core.specs.Queries.{TypedCore, CoreDeclaration}
use Rattle.gx_core.specs.QueryMeaning.{plain_query, query_type}
use Rattle.gx_processor.specs.Command.{Command, run_file, check_file, plan_file}
use Rattle.gx_types.specs.SchemaSet.{SchemaSet}
use Rattle.gx_processor.specs.TypeBytes.{type_bytes}
use Rattle.gx_processor.specs.PlanBytes.{IsPlanText}
use Rattle.gx_io.specs.LibraryUse.{LibraryUse, LoadsOnly}
use Rattle.gx_documents.specs.Bindings.{Misbound, misbound, files_bound}
use Rattle.gx_documents.specs.Documents.{Asked}
use Rattle.gx_documents.specs.BindingView.{plain_fault}
use Rattle.gx_model.specs.Forest.{Forest}
use Rattle.gx_documents.specs.declared.documents.DocumentsError.{DocumentsError}
use Rattle.gx_documents.specs.declared.documents.DocumentsError.TheVariants.{Failed, Memory as NoMemory}
use Rattle.gx_documents.specs.declared.documents.DocumentFault.TheVariants as faults
use Rattle.gx_documents.specs.Reading.{ReadDocuments}
use Rattle.gx_processor.specs.declared.refusal.Refusal.{Refusal}
use Rattle.gx_processor.specs.declared.refusal.Refusal.TheVariants as refusal
use Rattle.gx_processor.specs.Answer.{Answer, writes, AnswersEvaluated, AnswersRun}
use Rattle.gx_processor.specs.Externals.{external_words}
use Rattle.gx_processor.specs.Loading.{RunLoads, AreBoundFiles}
use Rattle.gx_processor.specs.FaultLines.{read_fault_line}
use Rattle.gx_processor.specs.Replies.{RefusesSo, NamesOneOf, OutcomeLoads, LoadFailed}

abbrev pub AnswersSo : {Z : Type 0} → (Answer → Type 0) → Result (String Z) Refusal → Type 0
AnswersSo Answered (Ok text) = Answered (writes (string_bytes text))
AnswersSo Answered (Err e) = RefusesSo e Answered

-- the file of the query has been read; the query is refused with the code of a static error, and its evaluation raises that of a
-- dynamic one
abbrev pub IsOfRun : {V : Type 0} → Result V Refusal → Type 0
IsOfRun (Err refusal.ReadFault) = ⊥
IsOfRun (Err refusal.TooLong) = ⊥
IsOfRun (Err (refusal.SchemaFile file fault)) = ⊥
IsOfRun (Err (refusal.Schema rule file name)) = ⊥
IsOfRun (Err (refusal.Query code place)) = is_static code ≡ true
IsOfRun (Err (refusal.Dynamic code)) = is_dynamic code ≡ true
IsOfRun _ = Unit {0}

abbrev pub FailsAtDocument : {V : Type 0} → LibraryUse → List (List ℕ) → Result V Refusal → Type 0
FailsAtDocument library names (Err (refusal.Document file faults.Unread)) = LoadFailed library names (read_fault_line (string_bytes file))
FailsAtDocument library names _ = Unit {0}

pub record RunsSo {Z : Type 0} (library : LibraryUse) (bindings : List (List ℕ)) (schemas : SchemaSet) (core : TypedCore) (result : Result (String Z) Refusal) : Type 0 where
  pub names : List (List ℕ)
  pub loaded : LoadsOnly library names
  pub bound : AreBoundFiles bindings names
  pub answers : IfSome (library.files library.before) (λ files. AnswersSo (AnswersRun files bindings schemas (plain_query core) core) result)
  pub told : IfSome (library.files library.before) (λ files. OutcomeLoads (RunLoads files bindings schemas (plain_query core) core) names result)
  pub failed : FailsAtDocument library names result
  pub of_loads : IfErr result (NamesOneOf names)
  pub own : IsOfRun result

-- the words bind the external variables wrongly, or memory is wanting
abbrev pub IsMisboundSo : Option Misbound → Refusal → Type 0
IsMisboundSo found (refusal.Binding fault) = found ≡ Some (plain_fault fault)
IsMisboundSo found refusal.Memory = Unit {0}
IsMisboundSo found _ = ⊥

-- a dynamic error alone
abbrev pub IsEvaluated : {V : Type 0} → Result V Refusal → Type 0
IsEvaluated (Ok v) = Unit {0}
IsEvaluated (Err (refusal.Dynamic code)) = is_dynamic code ≡ true
IsEvaluated (Err refusal.Memory) = Unit {0}
IsEvaluated (Err _) = ⊥

-- ---- documents

-- the words bind each external variable once, to these files
pub record BindFiles (declarations : List CoreDeclaration) (bindings names : List (List ℕ)) : Type 0 where
  pub bound : misbound (external_words declarations) bindings ≡ None
  pub named : names ≡ files_bound (external_words declarations) bindings

-- a file holds no document, or memory is wanting
abbrev pub unread : DocumentsError → Refusal
unread (Failed file fault) = refusal.Document file fault
unread NoMemory = refusal.Memory

abbrev pub or_unread : Result Forest DocumentsError → Result Forest Refusal
or_unread (Ok forest) = Ok forest
or_unread (Err error) = Err (unread error)

-- the trees of the documents that are asked for, or a refusal
pub record IsReadSo (library : LibraryUse) (asked : List Asked) (schemas : SchemaSet) (result : Result Forest Refusal) : Type 0 where
  pub read : Result Forest DocumentsError
  pub reads : ReadDocuments library schemas asked read
  pub same : result ≡ or_unread read

-- what a run says behind the reading of its documents, whatever their evaluation answers; a refusal is that of the run
abbrev pub RunsOver : (Z : Type 0) → LibraryUse → (bindings : List (List ℕ)) → SchemaSet → TypedCore → Result Forest Refusal → Type 0
RunsOver Z library bindings schemas core (Ok forest) =
    (result : Result (String Z) Refusal) → AnswersSo (AnswersEvaluated schemas (plain_query core) forest) result → IsEvaluated result
    → RunsSo library bindings schemas core result
RunsOver Z library bindings schemas core (Err refused) = RunsSo {Z = Z} library bindings schemas core (Err refused)

-- a check or a plan is written, or memory is wanting
abbrev pub IsWrittenOrStarved : {V : Type 0} → Result V Refusal → Type 0
IsWrittenOrStarved (Ok v) = Unit {0}
IsWrittenOrStarved (Err refusal.Memory) = Unit {0}
IsWrittenOrStarved (Err _) = ⊥

-- a text whose bytes are such, or memory is wanting
abbrev pub WritesSuch : {Z : Type 0} → (IsSuch : List ℕ → Type 0) → Result (String Z) Refusal → Type 0
WritesSuch IsSuch (Ok text) = IsSuch (string_bytes text)
WritesSuch IsSuch (Err refusal.Memory) = Unit {0}
WritesSuch IsSuch (Err _) = ⊥

-- the text of the type
abbrev pub IsTextOfType : TypedCore → (bytes : List ℕ) → Type 0
IsTextOfType core bytes = bytes ≡ type_bytes (query_type core)

-- what a command over a query that has a type says
abbrev pub TypedSo : {Z : Type 0} → LibraryUse → Command → SchemaSet → TypedCore → Result (String Z) Refusal → Type 0
TypedSo library (run_file name bindings) schemas core result = RunsSo library bindings schemas core result
TypedSo library (check_file name) schemas core result = WritesSuch (IsTextOfType core) result × (library.after ≡ library.before)
TypedSo library (plan_file name) schemas core result = WritesSuch (IsPlanText schemas core) result × (library.after ≡ library.before)
