-- What the schemas that a query imports say, from the reading of their files.
use Rattle.std.specs.Prelude.{◌≡◌, ℕ, List, Some, slice_get, IfSome, IfErr, Result, Ok, Err, MatchResult}
use Rattle.std.specs.String.{string_bytes}
use Rattle.gx_types.specs.SchemaSet.{SchemaSet}
use Rattle.gx_io.specs.LibraryUse.{LibraryUse, LoadsOnly}
use Rattle.gx_ast.specs.declared.query.Query.{Query}
use Rattle.gx_xml.specs.declared.source.Source.{Source}
use Rattle.gx_schema.specs.Import.{declares, breaks, IsImported}
use Rattle.gx_types.specs.declared.shape.Shape.{Shape}
use Rattle.gx_documents.specs.declared.documents.DocumentsError.{DocumentsError}
use Rattle.gx_documents.specs.declared.documents.DocumentsError.TheVariants.{Failed, Memory as NoMemory}
use Rattle.gx_documents.specs.declared.documents.DocumentFault.TheVariants as faults
use Rattle.gx_documents.specs.Documents.{DocumentsLoaded}
use Rattle.gx_documents.specs.Reading.{ReadSources}
use Rattle.gx_processor.specs.declared.refusal.Refusal.{Refusal}
use Rattle.gx_processor.specs.declared.refusal.Refusal.TheVariants as refusal
use Rattle.gx_processor.specs.Answer.{AnswersSchemas}
use Rattle.gx_processor.specs.Command.{Command}
use Rattle.gx_processor.specs.FaultLines.{read_fault_line, shown_with}
use Rattle.gx_processor.specs.Query.{ImportsSchemas}
use Rattle.gx_processor.specs.SchemaFiles.{schema_requests}
use Rattle.gx_processor.specs.Replies.{RefusesSo, IsOfReader, NamesOneOf, OutcomeLoads, LoadFailed}

-- a schema file holds no document, or memory is wanting
abbrev pub unread_schema : DocumentsError → Refusal
unread_schema (Failed file fault) = refusal.SchemaFile file fault
unread_schema NoMemory = refusal.Memory

-- files of these names break a rule, or memory is wanting
abbrev pub BreaksRule : (names : List (List ℕ)) → List Source → Refusal → Type 0
BreaksRule names sources (refusal.Schema rule file shown) =
    (number : ℕ) × (name : List ℕ) × (list : List Shape) × IsImported sources (breaks rule number name list) × (slice_get names number ≡ Some (string_bytes file)) × (shown ≡ shown_with rule name list)
BreaksRule names sources refusal.Memory = Unit {0}
BreaksRule names sources _ = ⊥

-- what documents declare under these names, or the rule that they break
abbrev pub DeclaresIn : (names : List (List ℕ)) → List Source → Result SchemaSet Refusal → Type 0
DeclaresIn names sources result = MatchResult result (λ schemas. IsImported sources (declares schemas)) (BreaksRule names sources)

-- how an import goes on behind the reading of its files
abbrev pub DeclaresSo : (names : List (List ℕ)) → Result (List Source) DocumentsError → Result SchemaSet Refusal → Type 0
DeclaresSo names (Ok sources) result = DeclaresIn names sources result
DeclaresSo names (Err error) result = result ≡ Err (unread_schema error)

pub record DeclaredSo (library : LibraryUse) (names : List (List ℕ)) (result : Result SchemaSet Refusal) : Type 0 where
  pub read : Result (List Source) DocumentsError
  pub reads : ReadSources library names read
  pub follows : DeclaresSo names read result

-- a refusal of schema files alone
abbrev pub IsOfImport : Refusal → Type 0
IsOfImport (refusal.SchemaFile file fault) = IsOfReader fault
IsOfImport (refusal.Schema rule file name) = Unit {0}
IsOfImport refusal.Memory = Unit {0}
IsOfImport _ = ⊥

abbrev pub FailsAtSchema : {V : Type 0} → LibraryUse → List (List ℕ) → Result V Refusal → Type 0
FailsAtSchema library names (Err (refusal.SchemaFile file faults.Unread)) = LoadFailed library names (read_fault_line (string_bytes file))
FailsAtSchema library names _ = Unit {0}

-- the schemas that a query with this tree imports, or how their files are refused
abbrev pub AnswersImport : {V : Type 0} → LibraryUse → Query → (V → SchemaSet) → Result V Refusal → Type 0
AnswersImport library tree schemas_of result =
    IfSome (library.files library.before) (λ files. MatchResult result (λ v. ImportsSchemas files tree (schemas_of v)) (λ e. (command : Command) → RefusesSo e (AnswersSchemas files command tree)))

pub record ImportsSo (library : LibraryUse) (tree : Query) (result : Result SchemaSet Refusal) : Type 0 where
  pub loads : List (List ℕ)
  pub loaded : LoadsOnly library loads
  pub answers : AnswersImport library tree (λ schemas. schemas) result
  pub told : IfSome (library.files library.before) (λ files. OutcomeLoads (DocumentsLoaded files (schema_requests tree)) loads result)
  pub failed : FailsAtSchema library loads result
  pub of_loads : IfErr result (NamesOneOf loads)
  pub own : IfErr result IsOfImport
