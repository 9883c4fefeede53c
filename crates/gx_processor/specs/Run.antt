-- A run of the program.
use Rattle.std.specs.Prelude.{◌≡◌, ℕ, List, [], ◌∷◌, ◌++◌, Some, IfSome}
use Rattle.gx_io.specs.LibraryUse.{LibraryUse, LoadsOnly, LibraryFailed, LastLoadFailed}
use Rattle.gx_io.specs.SinkUse.{SinkUse, SinkFailed}
use Rattle.gx_processor.specs.declared.status.Status.{Status}
use Rattle.gx_documents.specs.Documents.{Files}
use Rattle.gx_processor.specs.Command.{Command, query_file, command_of}
use Rattle.gx_processor.specs.Loading.{LoadsOf, AreFirstOf, MayLoad}

-- the words of the command line, the library and the two sinks before and after, and the status
pub record Run : Type 1 where
  pub words : List (List ℕ)
  pub library : LibraryUse
  pub status : Status
  pub out : SinkUse
  pub err : SinkUse

-- a fact about the files that the library holds, where it tells them
abbrev pub WhereTold : Run → (Files → Type 0) → Type 0
WhereTold run Fact = IfSome (run.library.files run.library.before) Fact

-- no count of faults rose
pub record IsFaultless (run : Run) : Type 0 where
  pub library : LibraryFailed run.library → ⊥
  pub out : SinkFailed run.out → ⊥
  pub err : SinkFailed run.err → ⊥

-- the words name a command over the query in a file, which was loaded first, and then these files
pub record LoadsQuery (run : Run) (others : List (List ℕ)) : Type 0 where
  pub command : Command
  pub asked : command_of run.words ≡ Some command
  pub loaded : LoadsOnly run.library (query_file command ∷ others)

-- A count of faults rose in the load of this file. It is the next of those that the steps load; the loads of the steps before it were
-- made, and no load was made after it.
pub record FailsToLoad (run : Run) (file : List ℕ) : Type 0 where
  pub earlier : List (List ℕ)
  pub may : MayLoad (command_of run.words) (earlier ++ (file ∷ []))
  pub next : WhereTold run (λ files. (loads : List (List ℕ)) → LoadsOf run.words files loads → AreFirstOf (earlier ++ (file ∷ [])) loads)
  pub failed : LastLoadFailed run.library earlier file
