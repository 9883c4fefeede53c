-- What a command says of a query that has a type, and what it says with the steps in front.
use Rattle.std.proofs.Common.{◌≡◌, ℕ, ◌≤◌, List, Option, Result, Ok, Err, String, string_bytes, IfSome, IfErr, refl, sym, ap, subst}
use Rattle.gx_types.specs.SchemaSet.{SchemaSet}
use Rattle.gx_core.specs.Queries.{TypedCore}
use Rattle.gx_core.specs.QueryMeaning.{plain_query}
use Rattle.gx_static.specs.QueryJudgement.{query_typed, query_judged}
use Rattle.gx_io.specs.Calls.{Loads}
use Rattle.gx_io.specs.LibraryUse.{LibraryUse}
use Rattle.gx_documents.specs.Documents.{Files}
use Rattle.gx_schema.specs.Laws.{ImportsAreOne}
use Rattle.gx_processor.specs.declared.refusal.Refusal.{Refusal}
use Rattle.gx_processor.specs.declared.refusal.Refusal.TheVariants as refusal
use Rattle.gx_processor.specs.Answer.{Answer, writes, AnswersRun, AnswersTyped}
use Rattle.gx_processor.specs.Command.{Command, run_file, check_file, plan_file, query_file, IsRunCommand}
use Rattle.gx_processor.specs.declared.query.TypedQuery.{TypedQuery}
use Rattle.gx_processor.specs.QueryReplies.{QuerySo}
use Rattle.gx_processor.specs.Replies.{HasCause, OutputLoads}
use Rattle.gx_processor.specs.RunReplies.{AnswersSo, IsWrittenOrStarved, WritesSuch, IsTextOfType, TypedSo}
use Rattle.gx_processor.specs.PlanBytes.{IsPlanText}
use Rattle.gx_processor.proofs.CommandLoads.{before, behind, check_loads, plan_loads, run_loads, run_cause}
use Rattle.gx_processor.proofs.Told.{told_always}

-- ---- a text that is such, and that a command over a query with a type answers

written_or_starved : {Z : Type 0} (IsSuch : List ℕ → Type 0) (result : Result (String Z) Refusal) → WritesSuch IsSuch result → IsWrittenOrStarved result
written_or_starved IsSuch (Ok text) h = tt
written_or_starved IsSuch (Err refusal.Memory) h = tt
written_or_starved IsSuch (Err refusal.ReadFault) h = absurd h
written_or_starved IsSuch (Err refusal.TooLong) h = absurd h
written_or_starved IsSuch (Err (refusal.Query code place)) h = absurd h
written_or_starved IsSuch (Err (refusal.SchemaFile file fault)) h = absurd h
written_or_starved IsSuch (Err (refusal.Schema rule file construct)) h = absurd h
written_or_starved IsSuch (Err (refusal.Binding fault)) h = absurd h
written_or_starved IsSuch (Err (refusal.Document file fault)) h = absurd h
written_or_starved IsSuch (Err (refusal.Dynamic code)) h = absurd h

such_answers : {Z : Type 0} (IsSuch : List ℕ → Type 0) (Answered : Answer → Type 0) (result : Result (String Z) Refusal) → ((bytes : List ℕ) → IsSuch bytes → Answered (writes bytes)) → WritesSuch IsSuch result
    → AnswersSo Answered result
such_answers IsSuch Answered (Ok text) f h = f (string_bytes text) h
such_answers IsSuch Answered (Err refusal.Memory) f h = tt
such_answers IsSuch Answered (Err refusal.ReadFault) f h = absurd h
such_answers IsSuch Answered (Err refusal.TooLong) f h = absurd h
such_answers IsSuch Answered (Err (refusal.Query code place)) f h = absurd h
such_answers IsSuch Answered (Err (refusal.SchemaFile file fault)) f h = absurd h
such_answers IsSuch Answered (Err (refusal.Schema rule file construct)) f h = absurd h
such_answers IsSuch Answered (Err (refusal.Binding fault)) f h = absurd h
such_answers IsSuch Answered (Err (refusal.Document file fault)) f h = absurd h
such_answers IsSuch Answered (Err (refusal.Dynamic code)) f h = absurd h

such_cause : {Z : Type 0} (IsSuch : List ℕ → Type 0) (Runs : Type 0) (result : Result (String Z) Refusal) → WritesSuch IsSuch result → IfErr result (HasCause Runs)
such_cause IsSuch Runs (Ok text) h = tt
such_cause IsSuch Runs (Err refusal.Memory) h = tt
such_cause IsSuch Runs (Err refusal.ReadFault) h = absurd h
such_cause IsSuch Runs (Err refusal.TooLong) h = absurd h
such_cause IsSuch Runs (Err (refusal.Query code place)) h = absurd h
such_cause IsSuch Runs (Err (refusal.SchemaFile file fault)) h = absurd h
such_cause IsSuch Runs (Err (refusal.Schema rule file construct)) h = absurd h
such_cause IsSuch Runs (Err (refusal.Binding fault)) h = absurd h
such_cause IsSuch Runs (Err (refusal.Document file fault)) h = absurd h
such_cause IsSuch Runs (Err (refusal.Dynamic code)) h = absurd h

-- the text of the type of a query is the answer to a check, and that of a plan of it the answer to `plan`
check_answers : {Z : Type 0} (files : Files) (name : List ℕ) (schemas : SchemaSet) (t : TypedCore) (result : Result (String Z) Refusal) → WritesSuch (IsTextOfType t) result
    → AnswersSo (AnswersTyped files (check_file name) schemas (plain_query t) t) result
check_answers files name schemas t result h = such_answers (IsTextOfType t) (AnswersTyped files (check_file name) schemas (plain_query t) t) result (λ bytes is. ap writes is) h

plan_answers : {Z : Type 0} (files : Files) (name : List ℕ) (schemas : SchemaSet) (t : TypedCore) (result : Result (String Z) Refusal) → WritesSuch (IsPlanText schemas t) result
    → AnswersSo (AnswersTyped files (plan_file name) schemas (plain_query t) t) result
plan_answers files name schemas t result h =
    such_answers (IsPlanText schemas t) (AnswersTyped files (plan_file name) schemas (plain_query t) t) result (λ bytes is. (bytes, is, refl)) h

-- ---- a command

-- the loads of a query, behind which the library stays
loads_same : (library : LibraryUse) (between : library.Library) (loads : List (List ℕ)) → library.after ≡ between → Loads library.was_loaded loads library.before between → Loads library.was_loaded loads library.before library.after
loads_same library between loads same l = subst (λ (after : library.Library). Loads library.was_loaded loads library.before after) (sym same) l

pub typed_loads : ImportsAreOne → {Z : Type 0} (library : LibraryUse) (between : library.Library) (command : Command) (query : TypedQuery) (result : Result (String Z) Refusal) → library.files between ≡ library.files library.before
    → library.faults library.before ≤ library.faults between → QuerySo (before library between) (query_file command) (Ok query) → query_judged query.schemas (plain_query query.core) ≡ query_typed query.core
    → TypedSo (behind library between) command query.schemas query.core result → OutputLoads library command result
typed_loads single library between (run_file name bindings) query result same counted q j h = run_loads single library between name bindings query result same counted q j h
typed_loads single library between (check_file name) query result same counted q j h =
    check_loads library name q.loads q.first.0 result (loads_same library between q.loads h.1 q.loaded) q.first.1 q.told (written_or_starved (IsTextOfType query.core) result h.0)
typed_loads single library between (plan_file name) query result same counted q j h =
    plan_loads library name result
    (check_loads library name q.loads q.first.0 result (loads_same library between q.loads h.1 q.loaded) q.first.1 q.told (written_or_starved (IsPlanText query.schemas query.core) result h.0))

pub typed_answers_so : {Z : Type 0} (library : LibraryUse) (between : library.Library) (command : Command) (schemas : SchemaSet) (t : TypedCore) (result : Result (String Z) Refusal) → library.files between ≡ library.files library.before
    → TypedSo (behind library between) command schemas t result → IfSome (library.files library.before) (λ files. AnswersSo (AnswersTyped files command schemas (plain_query t) t) result)
typed_answers_so library between (run_file name bindings) schemas t result same h =
    subst (λ (told : Option Files). IfSome told (λ files. AnswersSo (AnswersRun files bindings schemas (plain_query t) t) result)) same h.answers
typed_answers_so library between (check_file name) schemas t result same h =
    told_always (library.files library.before) (λ files. AnswersSo (AnswersTyped files (check_file name) schemas (plain_query t) t) result) (λ files. check_answers files name schemas t result h.0)
typed_answers_so library between (plan_file name) schemas t result same h =
    told_always (library.files library.before) (λ files. AnswersSo (AnswersTyped files (plan_file name) schemas (plain_query t) t) result) (λ files. plan_answers files name schemas t result h.0)

pub typed_cause : {Z : Type 0} (library : LibraryUse) (between : library.Library) (command : Command) (schemas : SchemaSet) (t : TypedCore) (result : Result (String Z) Refusal) → TypedSo (behind library between) command schemas t result → IfErr result (HasCause (IsRunCommand command))
typed_cause library between (run_file name bindings) schemas t result h = run_cause name bindings result h.own
typed_cause library between (check_file name) schemas t result h = such_cause (IsTextOfType t) (IsRunCommand (check_file name)) result h.0
typed_cause library between (plan_file name) schemas t result h = such_cause (IsPlanText schemas t) (IsRunCommand (plan_file name)) result h.0
