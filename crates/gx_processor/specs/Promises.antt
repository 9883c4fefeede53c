-- What the public call promises of each run.
use Rattle.std.specs.Prelude.{◌≡◌, ℕ, ◌<◌, true, List, ◌∷◌, length, Some, ◌⊎◌}
use Rattle.gx_base.specs.declared.code.Code.{Code}
use Rattle.gx_base.specs.declared.code.Code.TheVariants.{GLXS0001}
use Rattle.gx_base.specs.Code.{is_dynamic}
use Rattle.gx_io.specs.Load.{file_of}
use Rattle.gx_io.specs.LibraryUse.{LoadsOnly}
use Rattle.gx_io.specs.SinkUse.{IsUntouched, GrewByPrefix, Took, TookPart, SinkFailed}
use Rattle.gx_processor.specs.declared.status.Status.{Status}
use Rattle.gx_processor.specs.declared.status.Status.TheVariants.{Done, Usage, Query, Schema, Document, Dynamic, ReadFault, WriteFault, Memory}
use Rattle.gx_processor.specs.Answer.{Answer, writes, refuses, Answers, AreAlike, status_of, output_of}
use Rattle.gx_processor.specs.Command.{Command, query_file, command_of, texts_to_compare, AskToRun}
use Rattle.gx_processor.specs.FaultLines.{line, read_fault_line, code_line, IsQueryLine, write_fault_line}
use Rattle.gx_processor.specs.Headline.{RunsTyped, ChecksTyped, RunsAsChecked, RejectsUntyped}
use Rattle.gx_processor.specs.PlannedQueries.{PlansTyped}
use Rattle.std.specs.Str.{chars}
use Rattle.gx_subtype.specs.Comparison.{IsAnswerText}
use Rattle.gx_documents.specs.Documents.{Files}
use Rattle.gx_processor.specs.Loading.{LoadsOf, AreFirstOf, MayLoad}
use Rattle.gx_processor.specs.Replies.{HasForm, IsMisuse, IsMisbinding, TellsOfSchema, TellsOfDocument}
use Rattle.gx_processor.specs.Run.{Run, WhereTold, IsFaultless, LoadsQuery, FailsToLoad}
use Rattle.gx_base.specs.declared.limits.TheConstants.{FILE_BYTES}

-- neither a fault outside nor want of memory ended the run
abbrev pub IsCertain : Status → Type 0
IsCertain Done = Unit {0}
IsCertain Usage = Unit {0}
IsCertain Query = Unit {0}
IsCertain Schema = Unit {0}
IsCertain Document = Unit {0}
IsCertain Dynamic = Unit {0}
IsCertain ReadFault = ⊥
IsCertain WriteFault = ⊥
IsCertain Memory = ⊥

-- a write fault or want of memory ended the run
abbrev pub IsCutShort : Status → Type 0
IsCutShort status = (status ≡ WriteFault) ⊎ (status ≡ Memory)

-- the sinks with an answer: the one that it is for took it whole, by one put, and nothing was put to the other
abbrev pub LeavesAnswer : Answer → Run → Type 0
LeavesAnswer (writes bytes) run = Took run.out bytes × IsUntouched run.err
LeavesAnswer (refuses status line) run = IsUntouched run.out × Took run.err line

-- the status and the sinks are those of the answer
pub record IsAnswered (run : Run) (files : Files) : Type 0 where
  pub answer : Answer
  pub answers : Answers run.words files answer
  pub status : run.status ≡ status_of answer
  pub sinks : LeavesAnswer answer run

-- an answer that is alike to this one: this one itself, unless the words ask for a plan
pub record AnswerAlike (words : List (List ℕ)) (files : Files) (answer : Answer) : Type 0 where
  pub other : Answer
  pub answers : Answers words files other
  pub alike : AreAlike (command_of words) other answer

-- a part of its output is on `out`
abbrev pub LeavesPart : Run → Files → Answer → Type 0
LeavesPart run files answer = (alike : AnswerAlike run.words files answer) × GrewByPrefix run.out (output_of alike.other)

-- its output is there
abbrev pub LeavesOutput : Run → Files → Answer → Type 0
LeavesOutput run files answer = (alike : AnswerAlike run.words files answer) × Took run.out (output_of alike.other)

-- the statuses that can follow a put of the output
abbrev pub MayFollowOutput : Status → Type 0
MayFollowOutput status = (status ≡ Done) ⊎ IsCutShort status

-- the whole output of the complete answer was put to `out` by one put, and all or a part of it is there
pub record PutsOutput (run : Run) : Type 0 where
  pub bytes : List ℕ
  pub complete : WhereTold run (λ files. Answers run.words files (writes bytes))
  pub put : TookPart run.out bytes
  pub status : MayFollowOutput run.status

-- the line of a refusal, and what calls for it: a put of the output that failed, a load that failed, or the answer
pub data IsLineOf (run : Run) (line : List ℕ) : Type 0 where
  of_write_fault : SinkFailed run.out → line ≡ write_fault_line → IsLineOf run line
  of_read_fault : (file : List ℕ) → FailsToLoad run file → line ≡ read_fault_line file → IsLineOf run line
  of_refusal : (status : Status) → HasForm run.words status line → WhereTold run (λ files. Answers run.words files (refuses status line)) → IsLineOf run line

-- one such line was put to `err` by one put, and all or a part of it is there
pub record PutsLine (run : Run) : Type 0 where
  pub line : List ℕ
  pub cause : IsLineOf run line
  pub put : TookPart run.err line

-- the output after each status
abbrev pub OutputAfter : Status → Run → Type 0
OutputAfter Done run = (bytes : List ℕ) × Took run.out bytes
OutputAfter WriteFault run = IsUntouched run.out ⊎ SinkFailed run.out
OutputAfter Memory run = Unit {0}
OutputAfter Usage run = IsUntouched run.out
OutputAfter Query run = IsUntouched run.out
OutputAfter Schema run = IsUntouched run.out
OutputAfter Document run = IsUntouched run.out
OutputAfter Dynamic run = IsUntouched run.out
OutputAfter ReadFault run = IsUntouched run.out

-- the fault line after each status: one line, of the form that the status has, of a file that was loaded behind that of the query; a
-- refused query has the code of a static error, and an evaluation that of a dynamic one
abbrev pub LineAfter : Status → Run → Type 0
LineAfter Done run = IsUntouched run.err
LineAfter Usage run = (line : List ℕ) × (IsMisuse run.words line ⊎ IsMisbinding run.words line) × Took run.err line
LineAfter Query run = (line : List ℕ) × IsQueryLine line × Took run.err line
LineAfter Dynamic run = (code : Code) × (is_dynamic code ≡ true) × Took run.err (code_line code)
LineAfter ReadFault run = (file : List ℕ) × Took run.err (read_fault_line file)
LineAfter WriteFault run = Took run.err write_fault_line ⊎ SinkFailed run.err
LineAfter Memory run = Unit {0}
LineAfter Schema run = (others : List (List ℕ)) × LoadsQuery run others × (line : List ℕ) × TellsOfSchema others line × Took run.err line
LineAfter Document run = (others : List (List ℕ)) × LoadsQuery run others × (line : List ℕ) × TellsOfDocument others line × Took run.err line

-- a put failed: that of the output, or that of a line
abbrev pub FailsToWrite : Run → Type 0
FailsToWrite run = (PutsOutput run × SinkFailed run.out) ⊎ (PutsLine run × SinkFailed run.err)

-- the load of a file failed, and its line was put
abbrev pub FailsToRead : Run → Type 0
FailsToRead run = (file : List ℕ) × FailsToLoad run file × Took run.err (read_fault_line file)

-- the file of the query is longer than the limit
pub record IsTooLong (words : List (List ℕ)) (files : Files) : Type 0 where
  pub command : Command
  pub bytes : List ℕ
  pub asked : command_of words ≡ Some command
  pub held : file_of files (query_file command) ≡ Some bytes
  pub long : FILE_BYTES < length bytes

-- A comparison that is done has written the answer on the types of the texts, and nothing else: yes, where the left type is included
-- in the right one; no, with the first list of shapes that the left type takes and the right one does not; or unknown, exactly where
-- more pairs are reached than the limit.
abbrev pub ComparesTexts : Run → Type 0
ComparesTexts run =
    (left right : List ℕ) → texts_to_compare run.words ≡ Some (left, right) → run.status ≡ Done
    → (bytes : List ℕ) × IsAnswerText (chars left) (chars right) bytes × Took run.out (line bytes)

-- the loads that were made: those of the answer's steps, each once and in their order, and no other; where a fault or want of memory
-- ended the run, the first of them
pub record LoadsSteps (run : Run) : Type 0 where
  pub names : List (List ℕ)
  pub loaded : LoadsOnly run.library names
  pub may : MayLoad (command_of run.words) names
  pub all : WhereTold run (λ files. IsCertain run.status → LoadsOf run.words files names)
  pub first : WhereTold run (λ files. (loads : List (List ℕ)) → LoadsOf run.words files loads → AreFirstOf names loads)

pub record Promises (run : Run) : Type 0 where
  -- A library tells the same files before and after.
  pub told : run.library.files run.library.after ≡ run.library.files run.library.before
  -- Unless a fault outside or want of memory ends the run, it ends with the answer.
  pub answer : WhereTold run (λ files. IsCertain run.status → IsAnswered run files)
  -- The calls: the loads of the answer's steps, and at most one put to each sink.
  pub loads : LoadsSteps run
  pub output_put : IsUntouched run.out ⊎ PutsOutput run
  pub line_put : IsUntouched run.err ⊎ PutsLine run
  -- What the sinks hold after each status.
  pub output : OutputAfter run.status run
  pub line : LineAfter run.status run
  pub part : WhereTold run (λ files. (answer : Answer) → Answers run.words files answer → IsCutShort run.status → LeavesPart run files answer)
  -- When each status comes.
  pub usage : run.status ≡ Usage → (line : List ℕ) × (IsMisuse run.words line ⊎ IsMisbinding run.words line)
  pub usage_always : (line : List ℕ) → IsMisuse run.words line → (run.status ≡ Usage) ⊎ IsCutShort run.status
  pub query : run.status ≡ Query → (others : List (List ℕ)) × LoadsQuery run others
  pub schema : run.status ≡ Schema → (file : List ℕ) × (others : List (List ℕ)) × LoadsQuery run (file ∷ others)
  pub document : run.status ≡ Document → AskToRun run.words
  pub dynamic : run.status ≡ Dynamic → AskToRun run.words
  pub read_fault : run.status ≡ ReadFault → FailsToRead run
  pub write_fault : run.status ≡ WriteFault → FailsToWrite run
  pub too_long : WhereTold run (λ files. IsTooLong run.words files → IsCertain run.status → (run.status ≡ Query) × Took run.err (code_line GLXS0001))
  pub complete : WhereTold run (λ files. (bytes : List ℕ) → Answers run.words files (writes bytes) → IsFaultless run → ((run.status ≡ Done) × LeavesOutput run files (writes bytes)) ⊎ (run.status ≡ Memory))
  -- What a comparison of two type texts writes, whatever files there are.
  pub compared : ComparesTexts run
  -- The headline: a query that has a type, run and checked, and one that typing rejects.
  pub headline : WhereTold run (λ files. IsFaultless run → RunsTyped run files)
  pub checked : WhereTold run (λ files. IsFaultless run → ChecksTyped run files)
  pub as_checked : WhereTold run (λ files. IsFaultless run → RunsAsChecked run files)
  pub rejected : WhereTold run (λ files. IsFaultless run → RejectsUntyped run files)
  -- The plan of a query that has a type.
  pub planned : WhereTold run (λ files. IsFaultless run → PlansTyped run files)
