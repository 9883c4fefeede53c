-- What a run of a query that has a type says, from the reading of its documents.
use Rattle.std.proofs.Common.{◌≡◌, ℕ, Bool, true, false, ◌||◌, List, [], ◌∷◌, ◌++◌, map, Option, Some, None, Result, Ok, Err, String, IfErr, inl, inr, refl, sym, ◌∙◌, ap, subst, string_bytes, if◌then◌else◌}
use Rattle.std.specs.Prelude.{bytes_eq}
use Rattle.std.specs.Bool.{MatchBool}
use Rattle.gx_base.specs.declared.limits.TheConstants.{ACTIVE_CALLS}
use Rattle.gx_base.specs.declared.code.Code.{Code}
use Rattle.gx_base.specs.declared.code.Code.TheVariants.{SENR0001}
use Rattle.gx_base.specs.Code.{is_dynamic}
use Rattle.gx_base.specs.declared.place.Place.{Place}
use Rattle.gx_types.specs.SchemaSet.{SchemaSet}
use Rattle.gx_core.specs.Queries.{TypedCore}
use Rattle.gx_core.specs.Expression.{outer_of}
use Rattle.gx_core.specs.Outcome.{raises}
use Rattle.gx_core.specs.QueryMeaning.{plain_query, QueryMeaningLooksAtNoType, QueriesRaiseDynamicCodes}
use Rattle.gx_plan.specs.Plan.{PlanQuery, typed_query}
use Rattle.gx_plan.specs.PlanMeaning.{plan_outcome, PlansHaveTheOutcomeOfTheirTypedCore}
use Rattle.gx_tree.specs.PlainTree.{PlainTree}
use Rattle.gx_model.specs.Forest.{PlainNode, Forest}
use Rattle.gx_io.specs.LibraryUse.{LibraryUse}
use Rattle.gx_documents.specs.declared.bindings.BindingFault.{BindingFault}
use Rattle.gx_documents.specs.declared.documents.DocumentFault.TheVariants as faults
use Rattle.gx_documents.specs.declared.documents.DocumentsError.{DocumentsError}
use Rattle.gx_documents.specs.declared.documents.DocumentsError.TheVariants.{Failed, Memory as NoMemory}
use Rattle.gx_documents.specs.Bindings.{Misbound, misbound, first_wrong, first_missing, first_fault, bound_name, bound_file, file_bound, files_bound, is_one_of, missing}
use Rattle.gx_documents.specs.BindingView.{plain_fault}
use Rattle.gx_documents.specs.Documents.{Files, Asked, Request, DocumentsLoaded, tree_requests}
use Rattle.gx_documents.specs.Reading.{EndsWith, HasReadFault, LoadsUpTo, ReadDocuments}
use Rattle.gx_processor.specs.declared.refusal.Refusal.{Refusal}
use Rattle.gx_processor.specs.declared.refusal.Refusal.TheVariants as refusal
use Rattle.gx_processor.specs.declared.status.Status.TheVariants as status
use Rattle.gx_processor.specs.Answer.{Answer, refuses, can_be_written, AnswersEvaluated, AnswersBound, AnswersRun}
use Rattle.gx_processor.specs.Externals.{external_words, documents_asked, documents_bound}
use Rattle.gx_processor.specs.FaultLines.{placed_line}
use Rattle.gx_processor.specs.Loading.{BoundLoads, RunLoads, AreBoundFiles, AreFirstOf}
use Rattle.gx_processor.specs.Replies.{RefusesSo, NamesOneOf, OutcomeLoads, AreFirst}
use Rattle.gx_processor.specs.RunReplies.{AnswersSo, IsOfRun, FailsAtDocument, IsMisboundSo, IsEvaluated, unread, or_unread, BindFiles, IsReadSo, RunsOver, RunsSo}
use Rattle.std.proofs.lemmas.Slice.Eq.{bytes_eq-Decides}
use Rattle.gx_processor.proofs.AskedDocuments.{files_of_bound}
use Rattle.gx_processor.proofs.QueryLemmas.{refuses_through}
use Rattle.gx_processor.proofs.LoadLemmas.{kept_answer, stopped_answers, all_loaded, stopped_loaded, stopped_first, one_load, whole_is_front}
use Rattle.gx_processor.proofs.Told.{told_so, told_always}

-- ---- the files that words bind

or_true : (a b : Bool) → b ≡ true → (a || b) ≡ true
or_true true b h = refl
or_true false b h = h

bytes_eq_self : (bytes : List ℕ) → bytes_eq bytes bytes ≡ true
bytes_eq_self bytes = (bytes_eq-Decides bytes bytes).1 refl

bound_is_named : (words : List (List ℕ)) (name : List ℕ) → is_one_of (map bound_name words) name ≡ true → is_one_of (map bound_file words) (file_bound words name) ≡ true
bound_is_named [] name h = cc
bound_is_named (word ∷ words) name h =
    elim (bytes_eq name (bound_name word)) as (λ (same : Bool). (same || is_one_of (map bound_name words) name) ≡ true
    → (bytes_eq (if same then bound_file word else file_bound words name) (bound_file word) || is_one_of (map bound_file words) (if same then bound_file word else file_bound words name)) ≡ true) [
      | true ↦ λ k. ap (λ (b : Bool). b || is_one_of (map bound_file words) (bound_file word)) (bytes_eq_self (bound_file word))
      | false ↦ λ k. or_true (bytes_eq (file_bound words name) (bound_file word)) (is_one_of (map bound_file words) (file_bound words name)) (bound_is_named words name k)
    ] h

none_missing : (externals words : List (List ℕ)) → first_missing externals (map bound_name words) ≡ None → AreBoundFiles words (files_bound externals words)
none_missing [] words h = tt
none_missing (name ∷ names) words h =
    let each = elim (is_one_of (map bound_name words) name) as (λ (b : Bool). is_one_of (map bound_name words) name ≡ b → (if b then first_missing names (map bound_name words) else Some (missing name)) ≡ None
    → (is_one_of (map bound_name words) name ≡ true) × (first_missing names (map bound_name words) ≡ None)) [
      | true ↦ λ e k. (e, k)
      | false ↦ λ e k. cc
    ] refl h in
    (bound_is_named words name each.0, none_missing names words each.1)

second_is_none : (a b : Option Misbound) → first_fault a b ≡ None → b ≡ None
second_is_none None b h = h
second_is_none (Some fault) b h = cc

files_are_bound : (externals words : List (List ℕ)) → misbound externals words ≡ None → AreBoundFiles words (files_bound externals words)
files_are_bound externals words h = none_missing externals words (second_is_none (first_wrong externals [] words) (first_missing externals (map bound_name words)) h)

front_is_bound : (words front rest : List (List ℕ)) → AreBoundFiles words (front ++ rest) → AreBoundFiles words front
front_is_bound words [] rest h = tt
front_is_bound words (file ∷ front) rest h = (h.0, front_is_bound words front rest h.1)

-- ---- answers and loads

answers_through : {Z : Type 0} (r : Result (String Z) Refusal) (P Q : Answer → Type 0) → ((a : Answer) → P a → Q a) → AnswersSo P r → AnswersSo Q r
answers_through (Ok text) P Q f h = f _ h
answers_through (Err e) P Q f h = refuses_through e P Q f h

module _ (library : LibraryUse) (bindings : List (List ℕ)) (schemas : SchemaSet) (core : TypedCore) where
  abbrev externals : List (List ℕ)
  externals = external_words (plain_query core).declarations

  abbrev requests : List (Request PlainTree)
  requests = tree_requests schemas (documents_bound (plain_query core).declarations bindings)

  abbrev Answered : Files → Answer → Type 0
  Answered files answer = AnswersRun files bindings schemas (plain_query core) core answer

  abbrev Loaded : Files → List (List ℕ) → Type 0
  Loaded files loads = RunLoads files bindings schemas (plain_query core) core loads

  -- nothing is loaded
  pub run_not_writable : {Z : Type 0} (place : Place) → library.after ≡ library.before → can_be_written schemas core ≡ false → place ≡ outer_of (plain_query core).body
      → RunsSo {Z = Z} library bindings schemas core (Err (refusal.Query SENR0001 place))
  run_not_writable place untouched unwritable there = record {
    names = [];
    loaded = untouched;
    bound = tt;
    answers = told_always (library.files library.before) (λ files. Answered files (refuses status.Query (placed_line SENR0001 place)))
        (λ files. subst (λ (writable : Bool). MatchBool writable (AnswersBound files schemas (plain_query core) bindings (misbound externals bindings) (refuses status.Query (placed_line SENR0001 place)))
        (refuses status.Query (placed_line SENR0001 place) ≡ refuses status.Query (placed_line SENR0001 (outer_of (plain_query core).body)))) (sym unwritable) (ap (λ (p : Place). refuses status.Query (placed_line SENR0001 p)) there));
    told = told_always (library.files library.before) (λ files. Loaded files [])
        (λ files. subst (λ (writable : Bool). MatchBool writable (BoundLoads files (misbound externals bindings) requests []) (◌≡◌ {A = List (List ℕ)} [] [])) (sym unwritable) refl);
    failed = tt;
    of_loads = tt;
    own = refl;
  }

  pub run_starved : {Z : Type 0} → library.after ≡ library.before → RunsSo {Z = Z} library bindings schemas core (Err refusal.Memory)
  run_starved untouched = record {
    names = [];
    loaded = untouched;
    bound = tt;
    answers = told_always (library.files library.before) (λ files. Unit {0}) (λ files. tt);
    told = told_always (library.files library.before) (λ files. AreFirst (Loaded files) []) (λ files loads h. (loads, refl));
    failed = tt;
    of_loads = tt;
    own = tt;
  }

  -- of a query whose value can be written
  writable_answers : (files : Files) (fault : Option Misbound) (a : Answer) → can_be_written schemas core ≡ true → misbound externals bindings ≡ fault → AnswersBound files schemas (plain_query core) bindings fault a → Answered files a
  writable_answers files fault a yes' found h =
      subst (λ (writable : Bool). MatchBool writable (AnswersBound files schemas (plain_query core) bindings (misbound externals bindings) a) (a ≡ refuses status.Query (placed_line SENR0001 (outer_of (plain_query core).body)))) (sym yes')
      (subst (λ (o : Option Misbound). AnswersBound files schemas (plain_query core) bindings o a) (sym found) h)

  writable_loads : (files : Files) (fault : Option Misbound) (loads : List (List ℕ)) → can_be_written schemas core ≡ true → misbound externals bindings ≡ fault → BoundLoads files fault requests loads → Loaded files loads
  writable_loads files fault loads yes' found h =
      subst (λ (writable : Bool). MatchBool writable (BoundLoads files (misbound externals bindings) requests loads) (loads ≡ [])) (sym yes')
      (subst (λ (o : Option Misbound). BoundLoads files o requests loads) (sym found) h)

  loads_writable : (files : Files) (loads : List (List ℕ)) → can_be_written schemas core ≡ true → misbound externals bindings ≡ None → Loaded files loads → DocumentsLoaded files requests loads
  loads_writable files loads yes' found h =
      subst (λ (o : Option Misbound). BoundLoads files o requests loads) found
      (subst (λ (writable : Bool). MatchBool writable (BoundLoads files (misbound externals bindings) requests loads) (loads ≡ [])) yes' h)

  pub run_misbound : {Z : Type 0} (fault : BindingFault) → library.after ≡ library.before → can_be_written schemas core ≡ true → misbound externals bindings ≡ Some (plain_fault fault) → RunsSo {Z = Z} library bindings schemas core (Err (refusal.Binding fault))
  run_misbound fault untouched yes' found = record {
    names = [];
    loaded = untouched;
    bound = tt;
    answers = told_always (library.files library.before) (λ files. RefusesSo (refusal.Binding fault) (Answered files)) (λ files. writable_answers files (Some (plain_fault fault)) _ yes' found refl);
    told = told_always (library.files library.before) (λ files. Loaded files []) (λ files. writable_loads files (Some (plain_fault fault)) [] yes' found refl);
    failed = tt;
    of_loads = tt;
    own = tt;
  }

  held_answers : (files : Files) (forest : Forest) (loads : List (List ℕ)) (a : Answer) → can_be_written schemas core ≡ true → misbound externals bindings ≡ None → EndsWith files requests loads (Ok forest)
      → AnswersEvaluated schemas (plain_query core) forest a → Answered files a
  held_answers files forest loads a yes' found ends h =
      writable_answers files None a yes' found (kept_answer status.Document files requests forest [] (AnswersEvaluated schemas (plain_query core)) a ends.0 h)

  documents_loaded : (files : Files) (forest : Forest) (loads : List (List ℕ)) → EndsWith files requests loads (Ok forest) → DocumentsLoaded files requests loads
  documents_loaded files forest loads ends = subst (λ (ns : List (List ℕ)). DocumentsLoaded files requests ns) (sym ends.1) (all_loaded files requests forest ends.0)

  evaluated_loads : {Z : Type 0} (files : Files) (forest : Forest) (loads : List (List ℕ)) (result : Result (String Z) Refusal) → can_be_written schemas core ≡ true → misbound externals bindings ≡ None → IsEvaluated result
      → EndsWith files requests loads (Ok forest) → OutcomeLoads (Loaded files) loads result
  evaluated_loads files forest loads (Ok text) yes' found own ends = writable_loads files None loads yes' found (documents_loaded files forest loads ends)
  evaluated_loads files forest loads (Err (refusal.Dynamic code)) yes' found own ends = writable_loads files None loads yes' found (documents_loaded files forest loads ends)
  evaluated_loads files forest loads (Err refusal.Memory) yes' found own ends =
      λ whole h. whole_is_front loads whole (one_load files requests loads whole (documents_loaded files forest loads ends) (loads_writable files whole yes' found h))
  evaluated_loads files forest loads (Err (refusal.Query code place)) yes' found own ends = absurd own
  evaluated_loads files forest loads (Err (refusal.SchemaFile file fault)) yes' found own ends = absurd own
  evaluated_loads files forest loads (Err (refusal.Schema rule file name)) yes' found own ends = absurd own
  evaluated_loads files forest loads (Err (refusal.Binding fault)) yes' found own ends = absurd own
  evaluated_loads files forest loads (Err (refusal.Document file fault)) yes' found own ends = absurd own
  evaluated_loads files forest loads (Err refusal.ReadFault) yes' found own ends = absurd own
  evaluated_loads files forest loads (Err refusal.TooLong) yes' found own ends = absurd own

  evaluated_fails : {Z : Type 0} (loads : List (List ℕ)) (result : Result (String Z) Refusal) → IsEvaluated result → FailsAtDocument library loads result
  evaluated_fails loads (Ok text) own = tt
  evaluated_fails loads (Err (refusal.Dynamic code)) own = tt
  evaluated_fails loads (Err refusal.Memory) own = tt
  evaluated_fails loads (Err (refusal.Query code place)) own = absurd own
  evaluated_fails loads (Err (refusal.SchemaFile file fault)) own = absurd own
  evaluated_fails loads (Err (refusal.Schema rule file name)) own = absurd own
  evaluated_fails loads (Err (refusal.Binding fault)) own = absurd own
  evaluated_fails loads (Err (refusal.Document file fault)) own = absurd own
  evaluated_fails loads (Err refusal.ReadFault) own = absurd own
  evaluated_fails loads (Err refusal.TooLong) own = absurd own

  evaluated_own : {Z : Type 0} (result : Result (String Z) Refusal) → IsEvaluated result → IsOfRun result
  evaluated_own (Ok text) own = tt
  evaluated_own (Err (refusal.Dynamic code)) own = own
  evaluated_own (Err refusal.Memory) own = tt
  evaluated_own (Err (refusal.Query code place)) own = absurd own
  evaluated_own (Err (refusal.SchemaFile file fault)) own = absurd own
  evaluated_own (Err (refusal.Schema rule file name)) own = absurd own
  evaluated_own (Err (refusal.Binding fault)) own = absurd own
  evaluated_own (Err (refusal.Document file fault)) own = absurd own
  evaluated_own (Err refusal.ReadFault) own = absurd own
  evaluated_own (Err refusal.TooLong) own = absurd own

  evaluated_names : {Z : Type 0} (loads : List (List ℕ)) (result : Result (String Z) Refusal) → IsEvaluated result → IfErr result (NamesOneOf loads)
  evaluated_names loads (Ok text) own = tt
  evaluated_names loads (Err (refusal.Dynamic code)) own = tt
  evaluated_names loads (Err refusal.Memory) own = tt
  evaluated_names loads (Err (refusal.Query code place)) own = absurd own
  evaluated_names loads (Err (refusal.SchemaFile file fault)) own = absurd own
  evaluated_names loads (Err (refusal.Schema rule file name)) own = absurd own
  evaluated_names loads (Err (refusal.Binding fault)) own = absurd own
  evaluated_names loads (Err (refusal.Document file fault)) own = absurd own
  evaluated_names loads (Err refusal.ReadFault) own = absurd own
  evaluated_names loads (Err refusal.TooLong) own = absurd own

  refusal_answers : (files : Files) (loads : List (List ℕ)) (error : DocumentsError) → can_be_written schemas core ≡ true → misbound externals bindings ≡ None
      → EndsWith files requests loads (Err error) → RefusesSo (unread error) (Answered files)
  refusal_answers files loads (Failed file faults.Unread) yes' found ends = tt
  refusal_answers files loads (Failed file faults.TooLong) yes' found ends =
      writable_answers files None _ yes' found (stopped_answers status.Document files requests loads (string_bytes file) faults.TooLong (AnswersEvaluated schemas (plain_query core)) _ ends refl)
  refusal_answers files loads (Failed file (faults.Refused rule place)) yes' found ends =
      writable_answers files None _ yes' found (stopped_answers status.Document files requests loads (string_bytes file) (faults.Refused rule place) (AnswersEvaluated schemas (plain_query core)) _ ends refl)
  refusal_answers files loads (Failed file (faults.Invalid rule path)) yes' found ends =
      writable_answers files None _ yes' found (stopped_answers status.Document files requests loads (string_bytes file) (faults.Invalid rule path) (AnswersEvaluated schemas (plain_query core)) _ ends refl)
  refusal_answers files loads NoMemory yes' found ends = tt

  memory_first : (files : Files) (loads whole : List (List ℕ)) → EndsWith files requests loads (Err NoMemory) → DocumentsLoaded files requests whole → AreFirstOf loads whole
  memory_first files loads whole (inl e) h = stopped_first files requests loads whole e.0 e.1 h
  memory_first files loads whole (inr e) h =
      whole_is_front loads whole (one_load files requests loads whole (subst (λ (ns : List (List ℕ)). DocumentsLoaded files requests ns) (sym e.2) (all_loaded files requests e.0 e.1)) h)

  refusal_loads : (Z : Type 0) (files : Files) (loads : List (List ℕ)) (error : DocumentsError) → can_be_written schemas core ≡ true → misbound externals bindings ≡ None
      → EndsWith files requests loads (Err error) → OutcomeLoads {V = String Z} (Loaded files) loads (Err (unread error))
  refusal_loads Z files loads (Failed file faults.Unread) yes' found ends =
      λ whole h. stopped_first files requests loads whole ends.request ends.stops (loads_writable files whole yes' found h)
  refusal_loads Z files loads (Failed file faults.TooLong) yes' found ends =
      writable_loads files None loads yes' found (stopped_loaded files requests loads (string_bytes file) faults.TooLong ends (λ e. cc))
  refusal_loads Z files loads (Failed file (faults.Refused rule place)) yes' found ends =
      writable_loads files None loads yes' found (stopped_loaded files requests loads (string_bytes file) (faults.Refused rule place) ends (λ e. cc))
  refusal_loads Z files loads (Failed file (faults.Invalid rule path)) yes' found ends =
      writable_loads files None loads yes' found (stopped_loaded files requests loads (string_bytes file) (faults.Invalid rule path) ends (λ e. cc))
  refusal_loads Z files loads NoMemory yes' found ends = λ whole h. memory_first files loads whole ends (loads_writable files whole yes' found h)

  refusal_fails : (Z : Type 0) (loads : List (List ℕ)) (error : DocumentsError) → HasReadFault {T = PlainTree} library loads (Err error) → FailsAtDocument {V = String Z} library loads (Err (unread error))
  refusal_fails Z loads (Failed file faults.Unread) f = record { earlier = f.earlier; file = string_bytes file; in_order = f.in_order; failed = f.failed; rose = f.rose; line_is = refl }
  refusal_fails Z loads (Failed file faults.TooLong) f = tt
  refusal_fails Z loads (Failed file (faults.Refused rule place)) f = tt
  refusal_fails Z loads (Failed file (faults.Invalid rule path)) f = tt
  refusal_fails Z loads NoMemory f = tt

  refusal_names : (loads : List (List ℕ)) (error : DocumentsError) → LoadsUpTo requests loads (Err error) → NamesOneOf loads (unread error)
  refusal_names loads (Failed file fault) u = u
  refusal_names loads NoMemory u = tt

  refusal_own : (Z : Type 0) (error : DocumentsError) → IsOfRun {V = String Z} (Err (unread error))
  refusal_own Z (Failed file fault) = tt
  refusal_own Z NoMemory = tt

  -- the run, from the reading of its documents
  run_refused : {Z : Type 0} (error : DocumentsError) → can_be_written schemas core ≡ true → misbound externals bindings ≡ None → ReadDocuments library schemas (documents_bound (plain_query core).declarations bindings) (Err error)
      → RunsSo {Z = Z} library bindings schemas core (Err (unread error))
  run_refused {Z} error yes' found read = record {
    names = read.loads;
    loaded = read.loaded;
    bound = front_is_bound bindings read.loads read.first.0 (subst (λ (ns : List (List ℕ)). AreBoundFiles bindings ns) (sym (files_of_bound schemas (plain_query core).declarations bindings) ∙ read.first.1) (files_are_bound externals bindings found));
    answers = told_so (library.files library.before) (λ files. EndsWith files requests read.loads (Err error)) (λ files. RefusesSo (unread error) (Answered files))
        (λ files ends. refusal_answers files read.loads error yes' found ends) read.told;
    told = told_so (library.files library.before) (λ files. EndsWith files requests read.loads (Err error)) (λ files. OutcomeLoads {V = String Z} (Loaded files) read.loads (Err (unread error)))
        (λ files ends. refusal_loads Z files read.loads error yes' found ends) read.told;
    failed = refusal_fails Z read.loads error read.failed;
    of_loads = refusal_names read.loads error read.up_to;
    own = refusal_own Z error;
  }

  run_evaluated : {Z : Type 0} (forest : Forest) (result : Result (String Z) Refusal) → can_be_written schemas core ≡ true → misbound externals bindings ≡ None → ReadDocuments library schemas (documents_bound (plain_query core).declarations bindings) (Ok forest)
      → AnswersSo (AnswersEvaluated schemas (plain_query core) forest) result → IsEvaluated result → RunsSo library bindings schemas core result
  run_evaluated forest result yes' found read h own = record {
    names = read.loads;
    loaded = read.loaded;
    bound = front_is_bound bindings read.loads read.first.0 (subst (λ (ns : List (List ℕ)). AreBoundFiles bindings ns) (sym (files_of_bound schemas (plain_query core).declarations bindings) ∙ read.first.1) (files_are_bound externals bindings found));
    answers = told_so (library.files library.before) (λ files. EndsWith files requests read.loads (Ok forest)) (λ files. AnswersSo (Answered files) result)
        (λ files ends. answers_through result (AnswersEvaluated schemas (plain_query core) forest) (Answered files) (λ a k. held_answers files forest read.loads a yes' found ends k) h) read.told;
    told = told_so (library.files library.before) (λ files. EndsWith files requests read.loads (Ok forest)) (λ files. OutcomeLoads (Loaded files) read.loads result)
        (λ files ends. evaluated_loads files forest read.loads result yes' found own ends) read.told;
    failed = evaluated_fails read.loads result own;
    of_loads = evaluated_names read.loads result own;
    own = evaluated_own result own;
  }

  run_read : (Z : Type 0) (read : Result Forest DocumentsError) → can_be_written schemas core ≡ true → misbound externals bindings ≡ None
      → ReadDocuments library schemas (documents_bound (plain_query core).declarations bindings) read → RunsOver Z library bindings schemas core (or_unread read)
  run_read Z (Ok forest) yes' found h = λ result answers own. run_evaluated forest result yes' found h answers own
  run_read Z (Err error) yes' found h = run_refused error yes' found h

  pub run_over_documents : (Z : Type 0) (asked : List Asked) (names : List (List ℕ)) (result : Result Forest Refusal) → can_be_written schemas core ≡ true → BindFiles (plain_query core).declarations bindings names
      → asked ≡ documents_asked (plain_query core).declarations names → IsReadSo library asked schemas result → RunsOver Z library bindings schemas core result
  run_over_documents Z asked names result yes' b same h =
      let all = same ∙ ap (documents_asked (plain_query core).declarations) b.named in
      subst (λ (r : Result Forest Refusal). RunsOver Z library bindings schemas core r) (sym h.same)
      (run_read Z h.read yes' b.bound (subst (λ (some : List Asked). ReadDocuments library schemas some h.read) all h.reads))

  -- the words bind wrongly, or memory is wanting
  pub misbound_so : {Z : Type 0} (e : Refusal) → library.after ≡ library.before → can_be_written schemas core ≡ true → IsMisboundSo (misbound externals bindings) e → RunsSo {Z = Z} library bindings schemas core (Err e)
  misbound_so (refusal.Binding fault) untouched yes' h = run_misbound fault untouched yes' h
  misbound_so refusal.Memory untouched yes' h = run_starved untouched
  misbound_so refusal.ReadFault untouched yes' h = absurd h
  misbound_so refusal.TooLong untouched yes' h = absurd h
  misbound_so (refusal.Query code place) untouched yes' h = absurd h
  misbound_so (refusal.SchemaFile file fault) untouched yes' h = absurd h
  misbound_so (refusal.Schema rule file name) untouched yes' h = absurd h
  misbound_so (refusal.Document file fault) untouched yes' h = absurd h
  misbound_so (refusal.Dynamic code) untouched yes' h = absurd h

-- the evaluation of a plan raises the code of a dynamic error
pub dynamic_error : QueriesRaiseDynamicCodes → QueryMeaningLooksAtNoType → PlansHaveTheOutcomeOfTheirTypedCore → (schemas : SchemaSet) (plan : PlanQuery) (documents : List PlainNode) (forest : Forest) (code : Code)
    → plan_outcome schemas plan documents forest ≡ raises code → is_dynamic code ≡ true
dynamic_error dynamic looks same schemas plan documents forest code h =
    dynamic ACTIVE_CALLS schemas (plain_query (typed_query plan)) documents forest code
    (looks ACTIVE_CALLS schemas (typed_query plan) documents forest ∙ sym (same ACTIVE_CALLS schemas plan documents forest) ∙ h)
