-- What the program answers to its words, over the files that its library holds.
use Rattle.std.specs.Prelude.{◌≡◌, ℕ, nat_le, Bool, List, [], ◌∷◌, ◌++◌, length, Option, None, Some, Result, Ok, Err, MatchBool, ◌⊎◌}
use Rattle.std.specs.Str.{chars}
use Rattle.gx_base.specs.declared.place.Place.{Place}
use Rattle.gx_base.specs.declared.code.Code.TheVariants.{GLXS0001, SENR0001}
use Rattle.gx_base.specs.declared.type_name.Builtin.TheVariants as builtins
use Rattle.gx_base.specs.declared.type_name.TypeName.TheVariants as names
use Rattle.gx_types.specs.declared.item_type.ItemType.TheVariants as items
use Rattle.gx_types.specs.SchemaSet.{SchemaSet, no_declarations}
use Rattle.gx_types.specs.SequenceType.{SequenceType, item, either, star}
use Rattle.gx_include.specs.Decision.{is_included}
use Rattle.gx_steptype.specs.StepType.{any_document, any_element, text_item}
use Rattle.gx_xml.specs.declared.refusal.XmlRule.{XmlRule}
use Rattle.gx_xml.specs.declared.refusal.XmlRefusal.TheVariants.{Refused}
use Rattle.gx_xml.specs.Reading.{IsDocumentOf, IsDocumentRefusal}
use Rattle.gx_xml.specs.SourceTree.{SourceTree}
use Rattle.gx_xml.specs.declared.source.Source.{Source}
use Rattle.gx_validate.specs.Outcome.{Fault}
use Rattle.gx_typetext.specs.TypeReading.{IsTypeText}
use Rattle.gx_subtype.specs.Comparison.{IsNoType, IsAnswerText}
use Rattle.gx_core.specs.Queries.{Core, TypedCore}
use Rattle.gx_model.specs.Forest.{Forest}
use Rattle.gx_model.specs.Item.{Items}
use Rattle.gx_core.specs.Expression.{outer_of}
use Rattle.gx_core.specs.Outcome.{Outcome, gives, raises, wrong}
use Rattle.gx_core.specs.QueryMeaning.{query_outcome, query_type}
use Rattle.gx_static.specs.QueryJudgement.{QueryJudgement, query_typed, query_rejected, query_judged}
use Rattle.gx_io.specs.Load.{file_of}
use Rattle.gx_processor.specs.declared.status.Status.{Status}
use Rattle.gx_processor.specs.declared.status.Status.TheVariants as status
use Rattle.gx_ast.specs.declared.query.Query.{Query}
use Rattle.gx_parse_grammar.specs.Query.{Parsing, parsed, refused, Parses}
use Rattle.gx_processor.specs.RuleCode.{rule_code}
use Rattle.gx_processor.specs.NamedQuery.{NamedQuery, named_query, unknown_name, query_named}
use Rattle.gx_processor.specs.Serialisation.{serialised}
use Rattle.gx_processor.specs.TypeBytes.{type_bytes}
use Rattle.gx_processor.specs.PlanBytes.{IsPlanText}
use Rattle.gx_documents.specs.Bindings.{Misbound, misbound}
use Rattle.gx_documents.specs.Documents.{Files, Request, tree_requests, document_nodes}
use Rattle.gx_processor.specs.Externals.{external_words, documents_bound}
use Rattle.gx_processor.specs.SchemaFiles.{schema_files, schema_requests, file_name_at}
use Rattle.gx_schema.specs.Import.{Imported, declares, breaks, IsImported}
use Rattle.gx_processor.specs.Command.{Command, run_file, check_file, plan_file, query_file, command_of, texts_to_compare, workload_asked}
use Rattle.gx_demo.specs.Workload.{workload_query, workload_binding, workload_files}
use Rattle.gx_processor.specs.FaultLines.{line, usage_line, left_type_line, right_type_line, read_fault_line, code_line, placed_line, binding_line, long_document_line, document_line, invalid_line, import_line, shown_with}
use Rattle.gx_base.specs.declared.limits.TheConstants.{FILE_BYTES}

-- bytes for standard output, or a refusal with its fault line
pub data Answer : Type 0 where
  writes : (bytes : List ℕ) → Answer
  refuses : (status : Status) (line : List ℕ) → Answer

abbrev pub status_of : Answer → Status
status_of (writes bytes) = status.Done
status_of (refuses status line) = status

abbrev pub output_of : Answer → List ℕ
output_of (writes bytes) = bytes
output_of (refuses status line) = []

abbrev pub line_of : Answer → List ℕ
line_of (writes bytes) = []
line_of (refuses status line) = line

-- evaluation, and the writing of the value
abbrev pub AnswersOutcome : Outcome Items → Answer → Type 0
AnswersOutcome (gives items forest) answer = answer ≡ writes (serialised forest items)
AnswersOutcome (raises code) answer = answer ≡ refuses status.Dynamic (code_line code)
AnswersOutcome wrong answer = ⊥

-- evaluation over the trees of the documents
abbrev pub AnswersEvaluated : SchemaSet → Core → Forest → Answer → Type 0
AnswersEvaluated schemas core forest answer = AnswersOutcome (query_outcome schemas core (document_nodes forest) forest) answer

-- the bytes of a document: what follows has its root, or a rule refuses it
abbrev pub AnswersRead : (told : Status) (file bytes : List ℕ) → (SourceTree → Answer → Type 0) → Answer → Type 0
AnswersRead told file bytes Next answer =
    ((root : SourceTree) × IsDocumentOf bytes root × Next root answer)
    ⊎ ((rule : XmlRule) × (place : Place) × IsDocumentRefusal bytes (Refused place rule) × (answer ≡ refuses told (document_line rule file place)))

-- what is kept of a document, or the rule of validity that it breaks
abbrev pub AnswersKept : {T : Type 0} → (told : Status) (file : List ℕ) → Result T Fault → (T → Answer → Type 0) → Answer → Type 0
AnswersKept told file (Ok kept) Next answer = Next kept answer
AnswersKept told file (Err fault) Next answer = answer ≡ refuses told (invalid_line fault.rule file fault.path)

-- its loading, within the limit on the bytes of a file
abbrev pub AnswersLoaded : (told : Status) (file : List ℕ) → Option (List ℕ) → (SourceTree → Answer → Type 0) → Answer → Type 0
AnswersLoaded told file None Next answer = answer ≡ refuses status.ReadFault (read_fault_line file)
AnswersLoaded told file (Some bytes) Next answer =
    MatchBool (nat_le (length bytes) FILE_BYTES) (AnswersRead told file bytes Next answer) (answer ≡ refuses told (long_document_line file))

-- documents in files, one behind another: what follows has what is kept of all
abbrev pub AnswersFiles : {T : Type 0} → (told : Status) → Files → (requests : List (Request T)) (kept : List T) → (List T → Answer → Type 0) → Answer → Type 0
AnswersFiles told files [] kept Next answer = Next kept answer
AnswersFiles told files (request ∷ requests) kept Next answer =
    AnswersLoaded told request.file (file_of files request.file)
    (λ root read. AnswersKept told request.file (request.outcome root) (λ one next. AnswersFiles told files requests (kept ++ one ∷ []) Next next) read) answer

-- the words that bind the external variables
abbrev pub AnswersBound : Files → SchemaSet → Core → (bindings : List (List ℕ)) → Option Misbound → Answer → Type 0
AnswersBound files schemas core bindings (Some fault) answer = answer ≡ refuses status.Usage (binding_line fault)
AnswersBound files schemas core bindings None answer =
    AnswersFiles status.Document files (tree_requests schemas (documents_bound core.declarations bindings)) [] (AnswersEvaluated schemas core) answer

-- `(document-node() | element() | text() | xs:anyAtomicType)*`, the type of what can be written
abbrev pub writable_type : SequenceType
writable_type = star (either (either (either any_document any_element) text_item) (item (items.Atom (names.Builtin builtins.AnyAtomic))))

abbrev pub can_be_written : SchemaSet → TypedCore → Bool
can_be_written schemas typing = is_included schemas (query_type typing) writable_type

abbrev pub AnswersRun : Files → (bindings : List (List ℕ)) → SchemaSet → Core → TypedCore → Answer → Type 0
AnswersRun files bindings schemas core typing answer =
    MatchBool (can_be_written schemas typing) (AnswersBound files schemas core bindings (misbound (external_words core.declarations) bindings) answer)
    (answer ≡ refuses status.Query (placed_line SENR0001 (outer_of core.body)))

-- the text of a plan of the query
abbrev pub AnswersPlanned : SchemaSet → TypedCore → Answer → Type 0
AnswersPlanned schemas typing answer = (bytes : List ℕ) × IsPlanText schemas typing bytes × (answer ≡ writes bytes)

-- what a command does with a query that has a type: a run evaluates it, a check writes its type, and a plan is compiled, rewritten and written
abbrev pub AnswersTyped : Files → Command → SchemaSet → Core → TypedCore → Answer → Type 0
AnswersTyped files (run_file name bindings) schemas core typing answer = AnswersRun files bindings schemas core typing answer
AnswersTyped files (check_file name) schemas core typing answer = answer ≡ writes (type_bytes (query_type typing))
AnswersTyped files (plan_file name) schemas core typing answer = AnswersPlanned schemas typing answer

-- typing
abbrev pub AnswersJudged : Files → Command → SchemaSet → Core → QueryJudgement → Answer → Type 0
AnswersJudged files command schemas core (query_rejected place code) answer = answer ≡ refuses status.Query (placed_line code place)
AnswersJudged files command schemas core (query_typed typing) answer = AnswersTyped files command schemas core typing answer

-- names
abbrev pub AnswersNamed : Files → Command → SchemaSet → NamedQuery → Answer → Type 0
AnswersNamed files command schemas (unknown_name place code) answer = answer ≡ refuses status.Query (placed_line code place)
AnswersNamed files command schemas (named_query core) answer = AnswersJudged files command schemas core (query_judged schemas core) answer

-- what the schema files of these names declare
abbrev pub AnswersImported : Files → Command → Query → (names : List (List ℕ)) → Imported → Answer → Type 0
AnswersImported files command tree names (declares schemas) answer = AnswersNamed files command schemas (query_named schemas tree) answer
AnswersImported files command tree names (breaks rule file name list) answer =
    answer ≡ refuses status.Schema (import_line rule (file_name_at names file) (shown_with rule name list))

-- what these documents declare
abbrev pub AnswersSources : Files → Command → Query → List Source → Answer → Type 0
AnswersSources files command tree sources answer = (told : Imported) × IsImported sources told × AnswersImported files command tree (schema_files tree) told answer

-- the documents in its schema files
abbrev pub AnswersSchemas : Files → Command → Query → Answer → Type 0
AnswersSchemas files command tree answer =
    AnswersFiles status.Schema files (schema_requests tree) [] (AnswersSources files command tree) answer

-- parsing
abbrev pub AnswersParsed : Files → Command → Parsing → Answer → Type 0
AnswersParsed files command (refused rule place) answer = answer ≡ refuses status.Query (placed_line (rule_code rule) place)
AnswersParsed files command (parsed tree) answer = AnswersSchemas files command tree answer

abbrev pub AnswersBytes : Files → Command → List ℕ → Answer → Type 0
AnswersBytes files command bytes answer = (parsing : Parsing) × Parses bytes parsing × AnswersParsed files command parsing answer

-- loading, within the limit on the bytes of a file
abbrev pub AnswersFile : Files → Command → Option (List ℕ) → Answer → Type 0
AnswersFile files command None answer = answer ≡ refuses status.ReadFault (read_fault_line (query_file command))
AnswersFile files command (Some bytes) answer =
    MatchBool (nat_le (length bytes) FILE_BYTES) (AnswersBytes files command bytes answer) (answer ≡ refuses status.Query (code_line GLXS0001))

-- the words
abbrev pub AnswersCommand : Files → Option Command → Answer → Type 0
AnswersCommand files None answer = answer ≡ refuses status.Usage usage_line
AnswersCommand files (Some command) answer = AnswersFile files command (file_of files (query_file command)) answer

-- two texts that are compared: one of them stands for no type, the left one judged first; or the answer on them is written
abbrev pub AnswersTexts : (left right : List ℕ) → Answer → Type 0
AnswersTexts left right answer =
    (IsNoType left × (answer ≡ refuses status.Usage left_type_line))
    ⊎ (((t : SequenceType) × IsTypeText no_declarations left t × IsNoType right × (answer ≡ refuses status.Usage right_type_line))
    ⊎ ((bytes : List ℕ) × IsAnswerText left right bytes × (answer ≡ writes (line bytes))))

-- an output with a line feed behind it
abbrev pub with_line_feed : Answer → Answer
with_line_feed (writes bytes) = writes (line bytes)
with_line_feed (refuses status told) = refuses status told

-- the run of the query of the workload
abbrev pub workload_command : Command
workload_command = run_file workload_query (workload_binding ∷ [])

-- what a run answers over the files of the workload, with a line feed
abbrev pub AnswersWorkload : (items : ℕ) → Answer → Type 0
AnswersWorkload items answer = (run : Answer) × AnswersCommand (workload_files items) (Some workload_command) run × (answer ≡ with_line_feed run)

-- the words `subtype`, the words `demo`, and else those of a query
abbrev pub AnswersWords : Files → (texts : Option (List ℕ × List ℕ)) (workload : Option ℕ) → Option Command → Answer → Type 0
AnswersWords files (Some texts) workload asked answer = AnswersTexts (chars texts.0) (chars texts.1) answer
AnswersWords files None (Some items) asked answer = AnswersWorkload items answer
AnswersWords files None None asked answer = AnswersCommand files asked answer

-- each step of the work is done only where no step before it refuses
abbrev pub Answers : List (List ℕ) → Files → Answer → Type 0
Answers words files answer = AnswersWords files (texts_to_compare words) (workload_asked words) (command_of words) answer

-- two outputs, whatever they are, or one refusal
abbrev pub AreOneButForOutput : Answer → Answer → Type 0
AreOneButForOutput (writes bytes) (writes others) = Unit {0}
AreOneButForOutput answer other = answer ≡ other

-- two answers to a command are one; but a query may have several plans, so that two outputs of plans need not be one
abbrev pub AreAlike : Option Command → Answer → Answer → Type 0
AreAlike (Some (plan_file name)) answer other = AreOneButForOutput answer other
AreAlike _ answer other = answer ≡ other

-- all answers to the words over the files are alike
abbrev pub AnswersAreAlike : Type 0
AnswersAreAlike =
    (words : List (List ℕ)) (files : Files) (answer other : Answer) → Answers words files answer → Answers words files other
    → AreAlike (command_of words) answer other

-- there is an answer to all words and files
abbrev pub AnAnswerExists : Type 0
AnAnswerExists = (words : List (List ℕ)) (files : Files) → (answer : Answer) × Answers words files answer

-- what a check of a file refuses, a run of it refuses with the same line
abbrev pub ChecksRefuseForRuns : Type 0
ChecksRefuseForRuns =
    (files : Files) (name : List ℕ) (bindings : List (List ℕ)) (status : Status) (line : List ℕ)
    → AnswersCommand files (Some (check_file name)) (refuses status line) → AnswersCommand files (Some (run_file name bindings)) (refuses status line)

-- for the plan of a file the same is refused as for a check of it, and nothing else, with the same line
abbrev pub PlansRefuseAsChecks : Type 0
PlansRefuseAsChecks =
    (files : Files) (name : List ℕ) (status : Status) (line : List ℕ)
    → (AnswersCommand files (Some (check_file name)) (refuses status line) → AnswersCommand files (Some (plan_file name)) (refuses status line))
    × (AnswersCommand files (Some (plan_file name)) (refuses status line) → AnswersCommand files (Some (check_file name)) (refuses status line))
