-- What a reply says of the answer.
use Rattle.std.specs.Prelude.{◌≡◌, ℕ, true, List, [], ◌∷◌, ◌++◌, Option, Some, IfSome, IfErr, Result, Ok, Err, ◌⊎◌}
use Rattle.std.specs.String.{string_bytes}
use Rattle.gx_base.specs.declared.code.Code.{Code}
use Rattle.gx_base.specs.declared.code.Code.TheVariants.{GLXS0001}
use Rattle.gx_base.specs.Code.{is_dynamic, is_static}
use Rattle.gx_processor.specs.declared.status.Status.{Status}
use Rattle.gx_processor.specs.declared.status.Status.TheVariants as status
use Rattle.gx_processor.specs.declared.reply.Reply.{Reply}
use Rattle.gx_processor.specs.declared.reply.Reply.TheVariants.{Output, Fault, Starved}
use Rattle.gx_processor.specs.declared.refusal.Refusal.{Refusal}
use Rattle.gx_processor.specs.declared.refusal.Refusal.TheVariants as refusal
use Rattle.std.specs.Str.{chars}
use Rattle.gx_processor.specs.Answer.{Answer, writes, refuses, AnswersTexts, AnswersWorkload}
use Rattle.gx_documents.specs.declared.documents.DocumentFault.{DocumentFault}
use Rattle.gx_documents.specs.declared.documents.DocumentFault.TheVariants as faults
use Rattle.gx_documents.specs.Bindings.{Misbound}
use Rattle.gx_documents.specs.BindingView.{plain_fault}
use Rattle.gx_documents.specs.Reading.{IsLastLoad}
use Rattle.gx_io.specs.LibraryUse.{LibraryUse, LoadsOnly, LibraryFailed, LastLoadFailed}
use Rattle.gx_processor.specs.Command.{Command, query_file, command_of, texts_to_compare, workload_asked, NameNoCommand, AskOfQuery, AskToRun, IsRunCommand}
use Rattle.gx_processor.specs.Loading.{CommandLoads, LoadsAsked, AreFirstOf, IsOneOfLoads, loads_behind, MayLoad}
use Rattle.gx_processor.specs.FaultLines.{usage_line, read_fault_line, code_line, placed_line, binding_line, long_document_line, document_line, invalid_line, import_line, IsQueryLine, IsReaderLineIn, IsImportLineIn, IsSchemaLine, IsDocumentLineIn, IsDocumentLine}

-- a refusal of the query, of the words that bind or of a document, or a dynamic error is the answer; a read fault and want of memory say nothing of it
abbrev pub RefusesSo : Refusal → (Answer → Type 0) → Type 0
RefusesSo refusal.TooLong Answered = Answered (refuses status.Query (code_line GLXS0001))
RefusesSo (refusal.Query code place) Answered = Answered (refuses status.Query (placed_line code place))
RefusesSo (refusal.Dynamic code) Answered = Answered (refuses status.Dynamic (code_line code))
RefusesSo (refusal.Binding fault) Answered = Answered (refuses status.Usage (binding_line (plain_fault fault)))
RefusesSo (refusal.SchemaFile file faults.Unread) Answered = Unit {0}
RefusesSo (refusal.SchemaFile file faults.TooLong) Answered = Answered (refuses status.Schema (long_document_line (string_bytes file)))
RefusesSo (refusal.SchemaFile file (faults.Refused rule place)) Answered = Answered (refuses status.Schema (document_line rule (string_bytes file) place))
RefusesSo (refusal.SchemaFile file (faults.Invalid rule path)) Answered = ⊥
RefusesSo (refusal.Schema rule file name) Answered = Answered (refuses status.Schema (import_line rule (string_bytes file) name))
RefusesSo (refusal.Document file faults.Unread) Answered = Unit {0}
RefusesSo (refusal.Document file faults.TooLong) Answered = Answered (refuses status.Document (long_document_line (string_bytes file)))
RefusesSo (refusal.Document file (faults.Refused rule place)) Answered = Answered (refuses status.Document (document_line rule (string_bytes file) place))
RefusesSo (refusal.Document file (faults.Invalid rule path)) Answered = Answered (refuses status.Document (invalid_line rule (string_bytes file) path))
RefusesSo refusal.ReadFault Answered = Unit {0}
RefusesSo refusal.Memory Answered = Unit {0}

-- a file holds no document; nothing is said of validity
abbrev pub IsOfReader : DocumentFault → Type 0
IsOfReader (faults.Invalid rule path) = ⊥
IsOfReader _ = Unit {0}

-- a refusal of the query, with the code of a static error, or of its schema files
abbrev pub IsOfQuery : Refusal → Type 0
IsOfQuery refusal.ReadFault = Unit {0}
IsOfQuery refusal.TooLong = Unit {0}
IsOfQuery (refusal.Query code place) = is_static code ≡ true
IsOfQuery (refusal.SchemaFile file fault) = IsOfReader fault
IsOfQuery (refusal.Schema rule file name) = Unit {0}
IsOfQuery refusal.Memory = Unit {0}
IsOfQuery _ = ⊥

-- of the query alone, with the code of a static error; a read fault only where a count of faults rose
abbrev pub IsOfText : (Rose : Type 0) → Refusal → Type 0
IsOfText Rose refusal.ReadFault = Rose
IsOfText Rose refusal.TooLong = Unit {0}
IsOfText Rose (refusal.Query code place) = is_static code ≡ true
IsOfText Rose refusal.Memory = Unit {0}
IsOfText Rose _ = ⊥

-- of the query by its names or types, with the code of a static error
abbrev pub IsOfRules : Refusal → Type 0
IsOfRules (refusal.Query code place) = is_static code ≡ true
IsOfRules refusal.Memory = Unit {0}
IsOfRules _ = ⊥

-- why a refusal comes: all but those of the query come where it is run; a refusal of the query has the code of a static error, and an
-- evaluation raises that of a dynamic one
abbrev pub HasCause : (Runs : Type 0) → Refusal → Type 0
HasCause Runs (refusal.Dynamic code) = Runs × (is_dynamic code ≡ true)
HasCause Runs (refusal.Binding fault) = Runs
HasCause Runs (refusal.Document file fault) = Runs
HasCause Runs (refusal.SchemaFile file fault) = IsOfReader fault
HasCause Runs (refusal.Schema rule file name) = Unit {0}
HasCause Runs refusal.ReadFault = Unit {0}
HasCause Runs refusal.TooLong = Unit {0}
HasCause Runs (refusal.Query code place) = is_static code ≡ true
HasCause Runs refusal.Memory = Unit {0}

-- likewise of a reply
abbrev pub RepliesSo : Reply → (Answer → Type 0) → Type 0
RepliesSo (Output text) Answered = Answered (writes (string_bytes text))
RepliesSo (Fault status.ReadFault line) Answered = Unit {0}
RepliesSo (Fault status line) Answered = Answered (refuses status (string_bytes line))
RepliesSo Starved Answered = Unit {0}

-- why words are refused, with the line: they name no command, or a text that they compare stands for no type
abbrev pub IsMisuse : List (List ℕ) → List ℕ → Type 0
IsMisuse words line =
    (NameNoCommand words × (line ≡ usage_line))
    ⊎ ((left : List ℕ) × (right : List ℕ) × (texts_to_compare words ≡ Some (left, right)) × AnswersTexts (chars left) (chars right) (refuses status.Usage line))

-- the words of a run bind its external variables wrongly
abbrev pub IsMisbinding : List (List ℕ) → List ℕ → Type 0
IsMisbinding words line = AskToRun words × ((fault : Misbound) × (line ≡ binding_line fault))

-- the form of the line of a refusal, and when it can be given: only the words make it Usage, only a command over a query is Query or
-- Schema, and only a run looks at bindings and documents and is Dynamic
abbrev pub HasForm : List (List ℕ) → Status → List ℕ → Type 0
HasForm words status.Usage line = IsMisuse words line ⊎ IsMisbinding words line
HasForm words status.Query line = AskOfQuery words × IsQueryLine line
HasForm words status.Dynamic line = AskToRun words × ((code : Code) × (is_dynamic code ≡ true) × (line ≡ code_line code))
HasForm words status.Done line = ⊥
HasForm words status.Schema line = AskOfQuery words × IsSchemaLine line
HasForm words status.Document line = AskToRun words × IsDocumentLine line
HasForm words status.ReadFault line = ⊥
HasForm words status.WriteFault line = ⊥
HasForm words status.Memory line = ⊥

-- likewise of a reply; the line of a read fault is told by the loads
abbrev pub HasLine : List (List ℕ) → Status → List ℕ → Type 0
HasLine words status.ReadFault line = Unit {0}
HasLine words status line = HasForm words status line

-- an output is that of a query, the answer on two texts, or that of the workload
abbrev pub IsAsked : List (List ℕ) → List ℕ → Type 0
IsAsked words bytes =
    ((command : Command) × (command_of words ≡ Some command))
    ⊎ (((left : List ℕ) × (right : List ℕ) × (texts_to_compare words ≡ Some (left, right)) × AnswersTexts (chars left) (chars right) (writes bytes))
    ⊎ ((items : ℕ) × (workload_asked words ≡ Some items) × AnswersWorkload items (writes bytes)))

abbrev pub IsWellFormed : List (List ℕ) → Reply → Type 0
IsWellFormed words (Output text) = IsAsked words (string_bytes text)
IsWellFormed words (Fault status line) = HasLine words status (string_bytes line)
IsWellFormed words Starved = Unit {0}

-- words that name no command are Usage, or no memory is found
abbrev pub IsUsageOrStarved : Reply → Type 0
IsUsageOrStarved (Fault status.Usage line) = Unit {0}
IsUsageOrStarved Starved = Unit {0}
IsUsageOrStarved _ = ⊥

-- a refusal with this line, or no memory was found
abbrev pub IsFaultOrStarved : Status → List ℕ → Reply → Type 0
IsFaultOrStarved status line (Output text) = ⊥
IsFaultOrStarved status line (Fault other text) = (other ≡ status) × (string_bytes text ≡ line)
IsFaultOrStarved status line Starved = Unit {0}

-- an output, or no memory was found
abbrev pub IsOutputOrStarved : List ℕ → Reply → Type 0
IsOutputOrStarved bytes (Output text) = string_bytes text ≡ bytes
IsOutputOrStarved bytes (Fault status line) = ⊥
IsOutputOrStarved bytes Starved = Unit {0}

-- what is replied where two texts are compared
abbrev pub IsComparison : (left right : List ℕ) → Reply → Type 0
IsComparison left right (Output text) = AnswersTexts left right (writes (string_bytes text))
IsComparison left right (Fault told line) = (told ≡ status.Usage) × AnswersTexts left right (refuses status.Usage (string_bytes line))
IsComparison left right Starved = Unit {0}

-- what is replied where the workload is run
abbrev pub IsWorkload : (items : ℕ) → Reply → Type 0
IsWorkload items (Output text) = AnswersWorkload items (writes (string_bytes text))
IsWorkload items (Fault told line) = ⊥
IsWorkload items Starved = Unit {0}

-- what is replied where a file holds no document
abbrev pub IsDocumentFault : (told : Status) (file : List ℕ) → DocumentFault → Reply → Type 0
IsDocumentFault told file faults.Unread reply = IsFaultOrStarved status.ReadFault (read_fault_line file) reply
IsDocumentFault told file faults.TooLong reply = IsFaultOrStarved told (long_document_line file) reply
IsDocumentFault told file (faults.Refused rule place) reply = IsFaultOrStarved told (document_line rule file place) reply
IsDocumentFault told file (faults.Invalid rule path) reply = IsFaultOrStarved told (invalid_line rule file path) reply

-- what is replied to a refusal of a command over a file: its line, or no memory was found
abbrev pub IsReplyOf : (file : List ℕ) → Refusal → Reply → Type 0
IsReplyOf file refusal.ReadFault reply = IsFaultOrStarved status.ReadFault (read_fault_line file) reply
IsReplyOf file refusal.TooLong reply = IsFaultOrStarved status.Query (code_line GLXS0001) reply
IsReplyOf file (refusal.Query code place) reply = IsFaultOrStarved status.Query (placed_line code place) reply
IsReplyOf file (refusal.Binding fault) reply = IsFaultOrStarved status.Usage (binding_line (plain_fault fault)) reply
IsReplyOf file (refusal.SchemaFile name fault) reply = IsDocumentFault status.Schema (string_bytes name) fault reply
IsReplyOf file (refusal.Schema rule name construct) reply = IsFaultOrStarved status.Schema (import_line rule (string_bytes name) construct) reply
IsReplyOf file (refusal.Document name fault) reply = IsDocumentFault status.Document (string_bytes name) fault reply
IsReplyOf file (refusal.Dynamic code) reply = IsFaultOrStarved status.Dynamic (code_line code) reply
IsReplyOf file refusal.Memory reply = reply ≡ Starved

-- why a reply to a command over a query comes
abbrev pub IsQueryForm : Command → Status → List ℕ → Type 0
IsQueryForm command status.ReadFault line = Unit {0}
IsQueryForm command status.Query line = IsQueryLine line
IsQueryForm command status.Usage line = IsRunCommand command × ((fault : Misbound) × (line ≡ binding_line fault))
IsQueryForm command status.Document line = IsRunCommand command × IsDocumentLine line
IsQueryForm command status.Dynamic line = IsRunCommand command × ((code : Code) × (is_dynamic code ≡ true) × (line ≡ code_line code))
IsQueryForm command status.Done line = ⊥
IsQueryForm command status.Schema line = IsSchemaLine line
IsQueryForm command status.WriteFault line = ⊥
IsQueryForm command status.Memory line = ⊥

abbrev pub IsQueryReply : Command → Reply → Type 0
IsQueryReply command (Output text) = Unit {0}
IsQueryReply command (Fault told line) = IsQueryForm command told (string_bytes line)
IsQueryReply command Starved = Unit {0}

-- ---- the files that lines name

-- the line of refused schema files names the one of these that was loaded last, or, where a rule for schemas is broken, one of them
abbrev pub TellsOfSchema : (loads : List (List ℕ)) → (line : List ℕ) → Type 0
TellsOfSchema loads line = (file : List ℕ) × ((IsLastLoad loads file × IsReaderLineIn file line) ⊎ (IsOneOfLoads loads file × IsImportLineIn file line))

-- the line of a refused document names the one of these that was loaded last
abbrev pub TellsOfDocument : (loads : List (List ℕ)) → (line : List ℕ) → Type 0
TellsOfDocument loads line = (file : List ℕ) × IsLastLoad loads file × IsDocumentLineIn file line

-- the file that a line names, by the status
abbrev pub TellsOf : (loads : List (List ℕ)) → Status → (line : List ℕ) → Type 0
TellsOf loads status.Schema line = TellsOfSchema loads line
TellsOf loads status.Document line = TellsOfDocument loads line
TellsOf loads _ line = Unit {0}

abbrev pub ReplyTells : (loads : List (List ℕ)) → Reply → Type 0
ReplyTells loads (Output text) = Unit {0}
ReplyTells loads (Fault told line) = TellsOf loads told (string_bytes line)
ReplyTells loads Starved = Unit {0}

-- likewise of a refusal
abbrev pub NamesOneOf : (loads : List (List ℕ)) → Refusal → Type 0
NamesOneOf loads (refusal.SchemaFile file fault) = IsLastLoad loads (string_bytes file) × IsOfReader fault
NamesOneOf loads (refusal.Schema rule file name) = IsOneOfLoads loads (string_bytes file)
NamesOneOf loads (refusal.Document file fault) = IsLastLoad loads (string_bytes file)
NamesOneOf loads _ = Unit {0}

-- ---- loads

-- the files were loaded in front of this one, and its load was the last and failed
pub record LoadFailed (library : LibraryUse) (names : List (List ℕ)) (line : List ℕ) : Type 0 where
  pub earlier : List (List ℕ)
  pub file : List ℕ
  pub in_order : names ≡ earlier ++ (file ∷ [])
  pub failed : LastLoadFailed library earlier file
  pub rose : LibraryFailed library
  pub line_is : line ≡ read_fault_line file

-- all loads of the steps were made, or where a load failed or memory is wanting, the first of them
abbrev pub AreFirst : (List (List ℕ) → Type 0) → List (List ℕ) → Type 0
AreFirst Steps names = (loads : List (List ℕ)) → Steps loads → AreFirstOf names loads

abbrev pub ReplyLoads : (Steps : List (List ℕ) → Type 0) → List (List ℕ) → Reply → Type 0
ReplyLoads Steps names (Output text) = Steps names
ReplyLoads Steps names (Fault status.ReadFault line) = AreFirst Steps names
ReplyLoads Steps names (Fault status line) = Steps names
ReplyLoads Steps names Starved = AreFirst Steps names

abbrev pub ReplyFailed : LibraryUse → List (List ℕ) → Reply → Type 0
ReplyFailed library names (Fault status.ReadFault line) = LoadFailed library names (string_bytes line)
ReplyFailed library names _ = Unit {0}

-- the loads of a command, by what it replies
pub record LoadsSo (library : LibraryUse) (asked : Option Command) (reply : Reply) : Type 0 where
  pub names : List (List ℕ)
  pub loaded : LoadsOnly library names
  pub may : MayLoad asked names
  pub told : IfSome (library.files library.before) (λ files. ReplyLoads (LoadsAsked files asked) names reply)
  pub failed : ReplyFailed library names reply
  pub of_loads : ReplyTells (loads_behind names) reply

-- likewise of a refusal of a command

abbrev pub RefusalLoads : (Steps : List (List ℕ) → Type 0) → List (List ℕ) → Refusal → Type 0
RefusalLoads Steps names refusal.ReadFault = AreFirst Steps names
RefusalLoads Steps names (refusal.SchemaFile file faults.Unread) = AreFirst Steps names
RefusalLoads Steps names (refusal.Document file faults.Unread) = AreFirst Steps names
RefusalLoads Steps names refusal.Memory = AreFirst Steps names
RefusalLoads Steps names _ = Steps names

abbrev pub RefusalFailed : LibraryUse → (file : List ℕ) → List (List ℕ) → Refusal → Type 0
RefusalFailed library file names refusal.ReadFault = LoadFailed library names (read_fault_line file)
RefusalFailed library file names (refusal.SchemaFile name faults.Unread) = LoadFailed library names (read_fault_line (string_bytes name))
RefusalFailed library file names (refusal.Document name faults.Unread) = LoadFailed library names (read_fault_line (string_bytes name))
RefusalFailed library file names _ = Unit {0}

abbrev pub OutcomeLoads : {V : Type 0} → (Steps : List (List ℕ) → Type 0) → List (List ℕ) → Result V Refusal → Type 0
OutcomeLoads Steps names (Ok text) = Steps names
OutcomeLoads Steps names (Err e) = RefusalLoads Steps names e

abbrev pub OutcomeFailed : {V : Type 0} → LibraryUse → (file : List ℕ) → List (List ℕ) → Result V Refusal → Type 0
OutcomeFailed library file names (Ok text) = Unit {0}
OutcomeFailed library file names (Err e) = RefusalFailed library file names e

pub record OutputLoads {V : Type 0} (library : LibraryUse) (command : Command) (result : Result V Refusal) : Type 0 where
  pub names : List (List ℕ)
  pub loaded : LoadsOnly library names
  pub may : MayLoad (Some command) names
  pub told : IfSome (library.files library.before) (λ files. OutcomeLoads (CommandLoads files command) names result)
  pub failed : OutcomeFailed library (query_file command) names result
  pub of_loads : IfErr result (NamesOneOf (loads_behind names))
