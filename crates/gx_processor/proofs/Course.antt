-- The courses that a run can take, from its reply and from what it leaves in its sinks.
use Rattle.std.proofs.Common.{◌≡◌, List, ℕ, [], ◌∷◌, ◌++◌, subst, string_bytes}
use Rattle.gx_io.specs.LibraryUse.{LoadsOnly, LibraryFailed}
use Rattle.gx_io.specs.SinkUse.{IsUntouched}
use Rattle.gx_processor.specs.declared.status.Status.{Status}
use Rattle.gx_processor.specs.declared.status.Status.TheVariants as status
use Rattle.gx_processor.specs.declared.reply.Reply.{Reply}
use Rattle.gx_processor.specs.declared.reply.Reply.TheVariants.{Output, Fault, Starved}
use Rattle.gx_processor.specs.Answer.{writes, refuses, Answers}
use Rattle.gx_processor.specs.Command.{command_of}
use Rattle.gx_processor.specs.Ending.{Put, PutOutput, Ends}
use Rattle.gx_processor.specs.FaultLines.{read_fault_line}
use Rattle.gx_processor.specs.Loading.{LoadsAsked, LoadsOf, AreFirstOf, loads_behind, MayLoad}
use Rattle.gx_processor.specs.Replies.{RepliesSo, HasForm, IsMisuse, IsAsked, IsWellFormed, IsUsageOrStarved, TellsOf, AreFirst, LoadFailed, LoadsSo}
use Rattle.gx_processor.specs.Run.{Run, WhereTold, FailsToLoad}
use Rattle.gx_processor.proofs.Told.{told_so}

-- what the parts of the public call show of a run and of its reply
pub record Shows (run : Run) (reply : Reply) : Type 0 where
  pub formed : IsWellFormed run.words reply
  pub usage : (line : List ℕ) → IsMisuse run.words line → IsUsageOrStarved reply
  pub ends : Ends reply run.status run.out run.err
  pub told : run.library.files run.library.after ≡ run.library.files run.library.before
  pub answers : WhereTold run (λ files. RepliesSo reply (Answers run.words files))
  pub loads : LoadsSo run.library (command_of run.words) reply

-- the loads that were made before a refusal, of which its line tells
pub record Loaded (run : Run) (told : Status) (line : List ℕ) : Type 0 where
  pub names : List (List ℕ)
  pub loaded : LoadsOnly run.library names
  pub may : MayLoad (command_of run.words) names
  pub tells : TellsOf (loads_behind names) told line

-- the output was put; or the line of a load that failed; or that of the answer; or no memory was found before
pub data Course (run : Run) : Type 0 where
  to_output : (bytes : List ℕ) → IsAsked run.words bytes → WhereTold run (λ files. Answers run.words files (writes bytes)) → PutOutput bytes run.status run.out run.err → Course run
  to_read_fault : (file : List ℕ) → FailsToLoad run file → LibraryFailed run.library → IsUntouched run.out → Put status.ReadFault (read_fault_line file) run.status run.err → Course run
  to_refusal : (told : Status) (line : List ℕ) → HasForm run.words told line → Loaded run told line → WhereTold run (λ files. Answers run.words files (refuses told line)) → IsUntouched run.out → Put told line run.status run.err → Course run
  to_no_memory : run.status ≡ status.Memory → IsUntouched run.out → IsUntouched run.err → Course run

-- the load that failed is the last of those that were made
fails_to_load : (run : Run) (names : List (List ℕ)) (line : List ℕ) → MayLoad (command_of run.words) names → WhereTold run (λ files. AreFirst (LoadsAsked files (command_of run.words)) names) → (f : LoadFailed run.library names line)
    → FailsToLoad run f.file
fails_to_load run names line may told f = record {
  earlier = f.earlier;
  may = subst (λ (ns : List (List ℕ)). MayLoad (command_of run.words) ns) f.in_order may;
  next = told_so (run.library.files run.library.before) (λ files. AreFirst (LoadsAsked files (command_of run.words)) names) (λ files. (loads : List (List ℕ)) → LoadsOf run.words files loads → AreFirstOf (f.earlier ++ (f.file ∷ [])) loads)
      (λ files first loads h. subst (λ (ns : List (List ℕ)). AreFirstOf ns loads) f.in_order (first loads h)) told;
  failed = f.failed;
}

pub course_of : (run : Run) (reply : Reply) → Shows run reply → Course run
course_of run (Output text) v = to_output (string_bytes text) v.formed v.answers v.ends
course_of run (Fault status.ReadFault line) v =
    to_read_fault v.loads.failed.file (fails_to_load run v.loads.names (string_bytes line) v.loads.may v.loads.told v.loads.failed) v.loads.failed.rose v.ends.0
    (subst (λ (told : List ℕ). Put status.ReadFault told run.status run.err) v.loads.failed.line_is v.ends.1)
course_of run (Fault told line) v = to_refusal told (string_bytes line) v.formed (record { names = v.loads.names; loaded = v.loads.loaded; may = v.loads.may; tells = v.loads.of_loads }) v.answers v.ends.0 v.ends.1
course_of run Starved v = to_no_memory v.ends.0 v.ends.1 v.ends.2
