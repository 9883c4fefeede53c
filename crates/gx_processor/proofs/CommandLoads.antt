-- The files that a command loads, and what it says of the answer.
use Rattle.std.proofs.Common.{◌≡◌, ℕ, List, [], ◌∷◌, ◌++◌, append_assoc, Option, Some, None, Result, Ok, Err, String, string_bytes, IfSome, IfErr, inl, inr, refl, sym, ◌∙◌, ap, ap₂, subst, ◌≤◌}
use Rattle.std.proofs.lemmas.List.{append-nil}
use Rattle.gx_types.specs.SchemaSet.{SchemaSet}
use Rattle.gx_core.specs.Queries.{Core, TypedCore}
use Rattle.gx_core.specs.QueryMeaning.{plain_query, query_type}
use Rattle.gx_static.specs.QueryJudgement.{QueryJudgement, query_typed, query_rejected, query_judged}
use Rattle.gx_io.specs.Calls.{Loads}
use Rattle.gx_io.specs.LibraryUse.{LibraryUse, LoadsOnly}
use Rattle.gx_io.specs.Load.{file_of}
use Rattle.gx_ast.specs.declared.query.Query.{Query as SyntaxQuery}
use Rattle.gx_parse_grammar.specs.Query.{parsed, Parses}
use Rattle.gx_xml.specs.Reading.{IsDocumentOf}
use Rattle.gx_xml.specs.SourceTree.{SourceTree}
use Rattle.gx_xml.proofs.OneReading.{one_document}
use Rattle.gx_schema.specs.Import.{Imported, declares, breaks, IsImported}
use Rattle.gx_schema.specs.Laws.{ImportsAreOne}
use Rattle.gx_documents.specs.declared.documents.DocumentFault.TheVariants as faults
use Rattle.gx_xml.specs.declared.source.Source.{Source}
use Rattle.gx_documents.specs.Documents.{Files, Request, HoldsKept, HoldKept, DocumentsLoaded}
use Rattle.gx_documents.proofs.ReadLemmas.{rose_since}
use Rattle.gx_processor.specs.declared.query.TypedQuery.{TypedQuery}
use Rattle.gx_processor.specs.declared.status.Status.{Status}
use Rattle.gx_processor.specs.declared.refusal.Refusal.{Refusal}
use Rattle.gx_processor.specs.declared.refusal.Refusal.TheVariants as refusal
use Rattle.gx_processor.specs.Answer.{writes, refuses, AnswersFile}
use Rattle.gx_processor.specs.Command.{Command, run_file, check_file, plan_file, query_file, IsRunCommand}
use Rattle.gx_processor.specs.FaultLines.{read_fault_line}
use Rattle.gx_processor.specs.Loading.{RunLoads, QueryLoads, HoldsTypedQuery, BehindQuery, CommandLoads, AreFirstOf, loads_behind, MayLoad}
use Rattle.gx_processor.specs.NamedQuery.{NamedQuery, named_query, unknown_name, query_named}
use Rattle.gx_processor.specs.Query.{HoldsSyntax, ImportsSchemas, HoldsQuery}
use Rattle.gx_processor.specs.QueryReplies.{QuerySo}
use Rattle.gx_processor.specs.SchemaFiles.{schema_requests}
use Rattle.gx_processor.specs.Replies.{RefusesSo, IsOfQuery, HasCause, AreFirst, RefusalLoads, LoadFailed, NamesOneOf, OutcomeLoads, OutcomeFailed, OutputLoads}
use Rattle.gx_processor.specs.RunReplies.{IsOfRun, FailsAtDocument, IsWrittenOrStarved, RunsSo}
use Rattle.gx_processor.specs.TypeBytes.{type_bytes}
use Rattle.gx_processor.proofs.AnswerLemmas.{command_alike}
use Rattle.gx_processor.proofs.LoadLemmas.{one_load, whole_is_front}
use Rattle.gx_processor.proofs.QueryLemmas.{query_answers, same_tree}
use Rattle.gx_processor.proofs.Told.{told_so}

-- ---- a file holds one query

pub one_tree : (files : Files) (name : List ℕ) (a b : HoldsSyntax files name) → a.tree ≡ b.tree
one_tree files name a b =
    let bytes : a.bytes ≡ b.bytes = cc in
    same_tree a.bytes a.tree b.tree a.parses (subst (λ (x : List ℕ). Parses x (parsed b.tree)) (sym bytes) b.parses)

-- of the documents in files one list is kept
one_outcome : {A E : Type 0} (outcome : Result A E) (a b : A) → outcome ≡ Ok a → outcome ≡ Ok b → a ≡ b
one_outcome outcome a b e f = cc

same_kept : {T : Type 0} (files : Files) (request : Request T) (a b : T) → HoldsKept files request a → HoldsKept files request b → a ≡ b
same_kept files request a b h k =
    let bytes : h.1.bytes ≡ k.1.bytes = cc in
    let roots = one_document h.1.bytes h.0 k.0 h.1.reads (subst (λ (x : List ℕ). IsDocumentOf x k.0) (sym bytes) k.1.reads) in
    one_outcome (request.outcome k.0) a b (subst (λ (root : SourceTree). request.outcome root ≡ Ok a) roots h.2) k.2

all_kept : {T : Type 0} (files : Files) (requests : List (Request T)) (a b : List T) → HoldKept files requests a → HoldKept files requests b → a ≡ b
all_kept files [] [] [] h k = refl
all_kept files [] [] (y ∷ b) h k = absurd k
all_kept files [] (x ∷ a) b h k = absurd h
all_kept files (request ∷ requests) [] b h k = absurd h
all_kept files (request ∷ requests) (x ∷ a) [] h k = absurd k
all_kept {T} files (request ∷ requests) (x ∷ a) (y ∷ b) h k = ap₂ (λ (one : T) (others : List T). one ∷ others) (same_kept files request x y h.0 k.0) (all_kept files requests a b h.1 k.1)

abbrev schemas_told : Imported → SchemaSet → SchemaSet
schemas_told (declares schemas) other = schemas
schemas_told (breaks rule file name list) other = other

-- under which a query imports one set of schemas
one_import : ImportsAreOne → (files : Files) (tree other : SyntaxQuery) (a b : SchemaSet) → tree ≡ other → ImportsSchemas files tree a → ImportsSchemas files other b → a ≡ b
one_import single files tree other a b same h k =
    let sources = all_kept files (schema_requests tree) h.sources k.sources h.held (subst (λ (t : SyntaxQuery). HoldKept files (schema_requests t) k.sources) (sym same) k.held) in
    ap (λ (told : Imported). schemas_told told a)
    (single k.sources (declares a) (declares b) (subst (λ (ss : List Source). IsImported ss (declares a)) sources h.imports) k.imports)

abbrev core_named : NamedQuery → Core → Core
core_named (named_query core) other = core
core_named (unknown_name place code) other = other

pub one_query : ImportsAreOne → (files : Files) (name : List ℕ) (s u : SchemaSet) (a b : Core) → HoldsQuery files name s a → HoldsQuery files name u b → (s ≡ u) × (a ≡ b)
one_query single files name s u a b q r =
    let tree = one_tree files name q.read r.read in
    let schemas = one_import single files q.read.tree r.read.tree s u tree q.imports r.imports in
    (schemas, ap (λ (n : NamedQuery). core_named n a) (sym q.named ∙ ap₂ query_named schemas tree ∙ r.named))

abbrev typing_judged : QueryJudgement → TypedCore → TypedCore
typing_judged (query_typed t) other = t
typing_judged (query_rejected place code) other = other

pub one_typing : (schemas others : SchemaSet) (core other : Core) (t u : TypedCore) → schemas ≡ others → core ≡ other → query_judged schemas core ≡ query_typed t → query_judged others other ≡ query_typed u → t ≡ u
one_typing schemas others core other t u same e h k = ap (λ (j : QueryJudgement). typing_judged j t) (sym h ∙ ap₂ query_judged same e ∙ k)

-- ---- the loads of a query

pub one_query_load : (files : Files) (name : List ℕ) (a b : List (List ℕ)) → QueryLoads files name a → QueryLoads files name b → a ≡ b
one_query_load files name a b (inl h) (inl k) =
    let rest = one_load files (schema_requests h.0.tree) h.1.0 k.1.0 h.1.1 (subst (λ (tree : SyntaxQuery). DocumentsLoaded files (schema_requests tree) k.1.0) (sym (one_tree files name h.0 k.0)) k.1.1) in
    h.1.2 ∙ ap (λ (ns : List (List ℕ)). name ∷ ns) rest ∙ sym k.1.2
one_query_load files name a b (inl h) (inr k) = absurd (k.0 h.0)
one_query_load files name a b (inr h) (inl k) = absurd (h.0 k.0)
one_query_load files name a b (inr h) (inr k) = h.1 ∙ sym k.1

pub first_behind : (name : List ℕ) (front whole : List (List ℕ)) → AreFirstOf front whole → AreFirstOf (name ∷ front) (name ∷ whole)
first_behind name front whole h = (h.0, ap (λ (ns : List (List ℕ)). name ∷ ns) h.1)

first_of_more : (front whole more : List (List ℕ)) → AreFirstOf front whole → AreFirstOf front (whole ++ more)
first_of_more front whole more h = (h.0 ++ more, ap (λ (ns : List (List ℕ)). ns ++ more) h.1 ∙ append_assoc front h.0 more)

-- the file of the query is the first of all loads
pub query_begins : (files : Files) (name : List ℕ) (loads : List (List ℕ)) → QueryLoads files name loads → AreFirstOf (name ∷ []) loads
query_begins files name loads (inl h) = (h.1.0, h.1.2)
query_begins files name loads (inr h) = ([], h.1)

-- the loads of a command begin with those of its query
begins : (files : Files) (command : Command) (front : List (List ℕ)) → AreFirst (QueryLoads files (query_file command)) front → AreFirst (CommandLoads files command) front
begins files (check_file name) front h whole k = h whole k
begins files (plan_file name) front h whole k = h whole k
begins files (run_file name bindings) front h whole k = subst (λ (ns : List (List ℕ)). AreFirstOf front ns) (sym k.4) (first_of_more front k.0 k.1 (h k.0 k.2))

-- ---- a query that is refused

-- why the query is refused
abbrev pub RefusedAlways : Files → List ℕ → Refusal → Type 0
RefusedAlways files name e = (command : Command) → RefusesSo e (AnswersFile files command (file_of files name))

-- has no type
refused_has_none : ImportsAreOne → (files : Files) (name : List ℕ) (status : Status) (line : List ℕ) → AnswersFile files (check_file name) (file_of files name) (refuses status line) → HoldsTypedQuery files name → ⊥
refused_has_none single files name status line h q =
    let same = command_alike single files (Some (check_file name)) (refuses status line) (writes (type_bytes (query_type q.typing))) h
    (query_answers files (check_file name) q.schemas q.core q.typing (writes (type_bytes (query_type q.typing))) q.query q.judgement refl) in
    cc

query_alone : (files : Files) (command : Command) (loads : List (List ℕ)) → (HoldsTypedQuery files (query_file command) → ⊥) → QueryLoads files (query_file command) loads → CommandLoads files command loads
query_alone files (check_file name) loads none h = h
query_alone files (plan_file name) loads none h = h
query_alone files (run_file name bindings) loads none h = (loads, [], h, inr (none, refl), sym (append-nil loads))

query_loads : ImportsAreOne → (files : Files) (command : Command) (loads : List (List ℕ)) (e : Refusal) → IsOfQuery e → RefusedAlways files (query_file command) e → RefusalLoads (QueryLoads files (query_file command)) loads e → RefusalLoads (CommandLoads files command) loads e
query_loads single files command loads refusal.ReadFault own h l = begins files command loads l
query_loads single files command loads refusal.Memory own h l = begins files command loads l
query_loads single files command loads refusal.TooLong own h l = query_alone files command loads (refused_has_none single files (query_file command) _ _ (h (check_file (query_file command)))) l
query_loads single files command loads (refusal.Query code place) own h l = query_alone files command loads (refused_has_none single files (query_file command) _ _ (h (check_file (query_file command)))) l
query_loads single files command loads (refusal.SchemaFile file faults.Unread) own h l = begins files command loads l
query_loads single files command loads (refusal.SchemaFile file faults.TooLong) own h l = query_alone files command loads (refused_has_none single files (query_file command) _ _ (h (check_file (query_file command)))) l
query_loads single files command loads (refusal.SchemaFile file (faults.Refused rule place)) own h l = query_alone files command loads (refused_has_none single files (query_file command) _ _ (h (check_file (query_file command)))) l
query_loads single files command loads (refusal.SchemaFile file (faults.Invalid rule path)) own h l = absurd own
query_loads single files command loads (refusal.Schema rule file name) own h l = query_alone files command loads (refused_has_none single files (query_file command) _ _ (h (check_file (query_file command)))) l
query_loads single files command loads (refusal.Binding fault) own h l = absurd own
query_loads single files command loads (refusal.Document file fault) own h l = absurd own
query_loads single files command loads (refusal.Dynamic code) own h l = absurd own

may_load_query : (command : Command) (loads schemas : List (List ℕ)) → loads ≡ query_file command ∷ schemas → MayLoad (Some command) loads
may_load_query (check_file name) loads schemas h = (schemas, h)
may_load_query (plan_file name) loads schemas h = (schemas, h)
may_load_query (run_file name bindings) loads schemas h = (schemas, [], h ∙ ap (λ (ns : List (List ℕ)). name ∷ ns) (sym (append-nil schemas)), tt)

refused_loads : ImportsAreOne → (V : Type 0) (told : Option Files) (command : Command) (loads : List (List ℕ)) (e : Refusal) → IsOfQuery e → IfSome told (λ files. RefusedAlways files (query_file command) e)
    → IfSome told (λ files. RefusalLoads (QueryLoads files (query_file command)) loads e) → IfSome told (λ files. OutcomeLoads {V = V} (CommandLoads files command) loads (Err e))
refused_loads single V None command loads e own h l = tt
refused_loads single V (Some files) command loads e own h l = query_loads single files command loads e own h l

pub query_refusal_loads : ImportsAreOne → {V : Type 0} (library : LibraryUse) (command : Command) (e : Refusal) → QuerySo library (query_file command) (Err e) → OutputLoads {V = V} library command (Err e)
query_refusal_loads single {V} library command e q = record {
  names = q.loads;
  loaded = q.loaded;
  may = may_load_query command q.loads q.first.0 q.first.1;
  told = refused_loads single V (library.files library.before) command q.loads e q.own q.refused q.told;
  failed = q.failed;
  of_loads = q.of_loads;
}

pub query_cause : (Runs : Type 0) (e : Refusal) → IsOfQuery e → HasCause Runs e
query_cause Runs refusal.ReadFault own = tt
query_cause Runs refusal.Memory own = tt
query_cause Runs refusal.TooLong own = tt
query_cause Runs (refusal.Query code place) own = own
query_cause Runs (refusal.SchemaFile file fault) own = own
query_cause Runs (refusal.Schema rule file name) own = tt
query_cause Runs (refusal.Binding fault) own = absurd own
query_cause Runs (refusal.Document file fault) own = absurd own
query_cause Runs (refusal.Dynamic code) own = absurd own

-- ---- a check

pub check_loads : {V : Type 0} (library : LibraryUse) (name : List ℕ) (loads schemas : List (List ℕ)) (result : Result V Refusal) → LoadsOnly library loads → loads ≡ name ∷ schemas → IfSome (library.files library.before) (λ files. QueryLoads files name loads)
    → IsWrittenOrStarved result → OutputLoads library (check_file name) result
check_loads library name loads schemas (Ok v) only first told own = record { names = loads; loaded = only; may = (schemas, first); told = told; failed = tt; of_loads = tt }
check_loads library name loads schemas (Err refusal.Memory) only first told own = record {
  names = loads;
  loaded = only;
  may = (schemas, first);
  told = told_so (library.files library.before) (λ files. QueryLoads files name loads) (λ files. AreFirst (QueryLoads files name) loads) (λ files h whole k. whole_is_front loads whole (one_query_load files name loads whole h k)) told;
  failed = tt;
  of_loads = tt;
}
check_loads library name loads schemas (Err refusal.ReadFault) only first told own = absurd own
check_loads library name loads schemas (Err refusal.TooLong) only first told own = absurd own
check_loads library name loads schemas (Err (refusal.Query code place)) only first told own = absurd own
check_loads library name loads schemas (Err (refusal.SchemaFile file fault)) only first told own = absurd own
check_loads library name loads schemas (Err (refusal.Schema rule file construct)) only first told own = absurd own
check_loads library name loads schemas (Err (refusal.Binding fault)) only first told own = absurd own
check_loads library name loads schemas (Err (refusal.Document file fault)) only first told own = absurd own
check_loads library name loads schemas (Err (refusal.Dynamic code)) only first told own = absurd own

-- a plan loads what a check loads
pub plan_loads : {V : Type 0} (library : LibraryUse) (name : List ℕ) (result : Result V Refusal) → OutputLoads library (check_file name) result → OutputLoads library (plan_file name) result
plan_loads library name result l = record { names = l.names; loaded = l.loaded; may = l.may; told = l.told; failed = l.failed; of_loads = l.of_loads }

-- ---- a run

module _ (single : ImportsAreOne) (files : Files) (name : List ℕ) (bindings : List (List ℕ)) (query : TypedQuery) (q : HoldsQuery files name query.schemas (plain_query query.core)) (j : query_judged query.schemas (plain_query query.core) ≡ query_typed query.core)
    (front : List (List ℕ)) (f : QueryLoads files name front) where
  abbrev held : HoldsTypedQuery files name
  held = record { schemas = query.schemas; core = plain_query query.core; typing = query.core; query = q; judgement = j }

  abbrev Loaded : List (List ℕ) → Type 0
  Loaded loads = RunLoads files bindings query.schemas (plain_query query.core) query.core loads

  run_loads_so : (loads : List (List ℕ)) → Loaded loads → CommandLoads files (run_file name bindings) (front ++ loads)
  run_loads_so loads h = (front, loads, f, inl (held, h), refl)

  same_run : (typed : HoldsTypedQuery files name) (loads : List (List ℕ)) → RunLoads files bindings typed.schemas typed.core typed.typing loads → Loaded loads
  same_run typed loads h =
      let same = one_query single files name typed.schemas query.schemas typed.core (plain_query query.core) typed.query q in
      let same_typing = one_typing typed.schemas query.schemas typed.core (plain_query query.core) typed.typing query.core same.0 same.1 typed.judgement j in
      subst (λ (s : SchemaSet). RunLoads files bindings s (plain_query query.core) query.core loads) same.0
      (subst (λ (c : Core). RunLoads files bindings typed.schemas c query.core loads) same.1 (subst (λ (u : TypedCore). RunLoads files bindings typed.schemas typed.core u loads) same_typing h))

  behind_first : (loads rest : List (List ℕ)) → AreFirst Loaded loads → BehindQuery files name bindings rest → AreFirstOf loads rest
  behind_first loads rest h (inl k) = h rest (same_run k.0 rest k.1)
  behind_first loads rest h (inr k) = absurd (k.0 held)

  first_of_both : (loads rest : List (List ℕ)) → AreFirstOf loads rest → AreFirstOf (front ++ loads) (front ++ rest)
  first_of_both loads rest h = (h.0, ap (λ (ns : List (List ℕ)). front ++ ns) h.1 ∙ sym (append_assoc front loads h.0))

  run_first : (loads : List (List ℕ)) → AreFirst Loaded loads → AreFirst (CommandLoads files (run_file name bindings)) (front ++ loads)
  run_first loads h whole k =
      let same = one_query_load files name k.0 front k.2 f in
      subst (λ (ns : List (List ℕ)). AreFirstOf (front ++ loads) ns) (sym (k.4 ∙ ap (λ (ns : List (List ℕ)). ns ++ k.1) same)) (first_of_both loads k.1 (behind_first loads k.1 h k.3))

  pub outcome_loads : {Z : Type 0} (loads : List (List ℕ)) (result : Result (String Z) Refusal) → IsOfRun result → OutcomeLoads Loaded loads result → OutcomeLoads (CommandLoads files (run_file name bindings)) (front ++ loads) result
  outcome_loads loads (Ok text) own h = run_loads_so loads h
  outcome_loads loads (Err refusal.ReadFault) own h = absurd own
  outcome_loads loads (Err refusal.TooLong) own h = absurd own
  outcome_loads loads (Err (refusal.SchemaFile file fault)) own h = absurd own
  outcome_loads loads (Err (refusal.Schema rule file construct)) own h = absurd own
  outcome_loads loads (Err refusal.Memory) own h = run_first loads h
  outcome_loads loads (Err (refusal.Query code place)) own h = run_loads_so loads h
  outcome_loads loads (Err (refusal.Binding fault)) own h = run_loads_so loads h
  outcome_loads loads (Err (refusal.Document file faults.Unread)) own h = run_first loads h
  outcome_loads loads (Err (refusal.Document file faults.TooLong)) own h = run_loads_so loads h
  outcome_loads loads (Err (refusal.Document file (faults.Refused rule place))) own h = run_loads_so loads h
  outcome_loads loads (Err (refusal.Document file (faults.Invalid rule path))) own h = run_loads_so loads h
  outcome_loads loads (Err (refusal.Dynamic code)) own h = run_loads_so loads h

-- the library in front of a time and behind it
abbrev pub before : (library : LibraryUse) → library.Library → LibraryUse
before library between = record {
  Library = library.Library;
  before = library.before;
  after = between;
  files = library.files;
  faults = library.faults;
  was_loaded = library.was_loaded;
}

abbrev pub behind : (library : LibraryUse) → library.Library → LibraryUse
behind library between = record {
  Library = library.Library;
  before = between;
  after = library.after;
  files = library.files;
  faults = library.faults;
  was_loaded = library.was_loaded;
}

-- loads one behind another
pub loads_append : {L : Type 0} (was_loaded : L → List ℕ → L → Type 0) (front rest : List (List ℕ)) (a b c : L) → Loads was_loaded front a b → Loads was_loaded rest b c → Loads was_loaded (front ++ rest) a c
loads_append was_loaded [] rest a b c h k = subst (λ (x : _). Loads was_loaded rest x c) h k
loads_append was_loaded (name ∷ front) rest a b c h k = (h.0, h.1, loads_append was_loaded front rest h.0 b c h.2 k)

-- a load that failed behind others
pub failed_behind : (library : LibraryUse) (between : library.Library) (front loads : List (List ℕ)) (line : List ℕ) → Loads library.was_loaded front library.before between → library.faults library.before ≤ library.faults between
    → LoadFailed (behind library between) loads line → LoadFailed library (front ++ loads) line
failed_behind library between front loads line l counted f = record {
  earlier = front ++ f.earlier;
  file = f.file;
  in_order = ap (λ (ns : List (List ℕ)). front ++ ns) f.in_order ∙ sym (append_assoc front f.earlier (f.file ∷ []));
  failed = record { between = f.failed.between; loaded = loads_append library.was_loaded front f.earlier library.before between f.failed.between l f.failed.loaded; last = f.failed.last; rose = f.failed.rose };
  rose = rose_since (library.faults library.before) (library.faults between) (library.faults library.after) counted f.rose;
  line_is = f.line_is;
}

run_fails : {Z : Type 0} (library : LibraryUse) (between : library.Library) (file : List ℕ) (front loads : List (List ℕ)) (result : Result (String Z) Refusal) → Loads library.was_loaded front library.before between → library.faults library.before ≤ library.faults between
    → IsOfRun result → FailsAtDocument (behind library between) loads result → OutcomeFailed library file (front ++ loads) result
run_fails library between file front loads (Ok text) l counted own f = tt
run_fails library between file front loads (Err refusal.ReadFault) l counted own f = absurd own
run_fails library between file front loads (Err refusal.TooLong) l counted own f = absurd own
run_fails library between file front loads (Err (refusal.SchemaFile name fault)) l counted own f = absurd own
run_fails library between file front loads (Err (refusal.Schema rule name construct)) l counted own f = absurd own
run_fails library between file front loads (Err refusal.Memory) l counted own f = tt
run_fails library between file front loads (Err (refusal.Query code place)) l counted own f = tt
run_fails library between file front loads (Err (refusal.Binding fault)) l counted own f = tt
run_fails library between file front loads (Err (refusal.Document name faults.Unread)) l counted own f = failed_behind library between front loads (read_fault_line (string_bytes name)) l counted f
run_fails library between file front loads (Err (refusal.Document name faults.TooLong)) l counted own f = tt
run_fails library between file front loads (Err (refusal.Document name (faults.Refused rule place))) l counted own f = tt
run_fails library between file front loads (Err (refusal.Document name (faults.Invalid rule path))) l counted own f = tt
run_fails library between file front loads (Err (refusal.Dynamic code)) l counted own f = tt

-- a refusal names a file behind others
names_behind : (front loads : List (List ℕ)) (e : Refusal) → NamesOneOf loads e → NamesOneOf (front ++ loads) e
names_behind front loads refusal.ReadFault n = tt
names_behind front loads refusal.TooLong n = tt
names_behind front loads refusal.Memory n = tt
names_behind front loads (refusal.Query code place) n = tt
names_behind front loads (refusal.Binding fault) n = tt
names_behind front loads (refusal.Dynamic code) n = tt
names_behind front loads (refusal.SchemaFile file fault) n = ((front ++ n.0.0, ap (λ (ns : List (List ℕ)). front ++ ns) n.0.1 ∙ sym (append_assoc front n.0.0 (string_bytes file ∷ []))), n.1)
names_behind front loads (refusal.Schema rule file construct) n = (front ++ n.0, n.1, ap (λ (ns : List (List ℕ)). front ++ ns) n.2 ∙ sym (append_assoc front n.0 (string_bytes file ∷ n.1)))
names_behind front loads (refusal.Document file fault) n = (front ++ n.0, ap (λ (ns : List (List ℕ)). front ++ ns) n.1 ∙ sym (append_assoc front n.0 (string_bytes file ∷ [])))

run_names : {Z : Type 0} (result : Result (String Z) Refusal) (front loads whole : List (List ℕ)) → whole ≡ front ++ loads → IfErr result (NamesOneOf loads) → IfErr result (NamesOneOf whole)
run_names (Ok text) front loads whole same n = tt
run_names (Err e) front loads whole same n = subst (λ (ns : List (List ℕ)). NamesOneOf ns e) (sym same) (names_behind front loads e n)

-- both facts about the files
all_told : {Told : Type 0} (told : Option Told) (P Q R S : Told → Type 0) → ((x : Told) → P x → Q x → R x → S x) → IfSome told P → IfSome told Q → IfSome told R → IfSome told S
all_told None P Q R S f p q r = tt
all_told (Some x) P Q R S f p q r = f x p q r

pub run_loads : ImportsAreOne → {Z : Type 0} (library : LibraryUse) (between : library.Library) (name : List ℕ) (bindings : List (List ℕ)) (query : TypedQuery) (result : Result (String Z) Refusal) → library.files between ≡ library.files library.before
    → library.faults library.before ≤ library.faults between → QuerySo (before library between) name (Ok query) → query_judged query.schemas (plain_query query.core) ≡ query_typed query.core → RunsSo (behind library between) bindings query.schemas query.core result
    → OutputLoads library (run_file name bindings) result
run_loads single library between name bindings query result same counted q j r = record {
  names = q.loads ++ r.names;
  loaded = loads_append library.was_loaded q.loads r.names library.before between library.after q.loaded r.loaded;
  may = (q.first.0, r.names, ap (λ (ns : List (List ℕ)). ns ++ r.names) q.first.1, r.bound);
  told = all_told (library.files library.before) (λ files. HoldsQuery files name query.schemas (plain_query query.core)) (λ files. QueryLoads files name q.loads)
      (λ files. OutcomeLoads (RunLoads files bindings query.schemas (plain_query query.core) query.core) r.names result) (λ files. OutcomeLoads (CommandLoads files (run_file name bindings)) (q.loads ++ r.names) result)
      (λ files held loads h. outcome_loads single files name bindings query held j q.loads loads r.names result r.own h) q.held q.told
      (subst (λ (told : Option Files). IfSome told (λ files. OutcomeLoads (RunLoads files bindings query.schemas (plain_query query.core) query.core) r.names result)) same r.told);
  failed = run_fails library between name q.loads r.names result q.loaded counted r.own r.failed;
  of_loads = run_names result q.first.0 r.names (loads_behind (q.loads ++ r.names)) (ap (λ (ns : List (List ℕ)). loads_behind (ns ++ r.names)) q.first.1) r.of_loads;
}

pub run_cause : {Z : Type 0} (name : List ℕ) (bindings : List (List ℕ)) (result : Result (String Z) Refusal) → IsOfRun result → IfErr result (HasCause (IsRunCommand (run_file name bindings)))
run_cause name bindings (Ok text) own = tt
run_cause name bindings (Err refusal.ReadFault) own = tt
run_cause name bindings (Err refusal.TooLong) own = tt
run_cause name bindings (Err refusal.Memory) own = tt
run_cause name bindings (Err (refusal.Query code place)) own = own
run_cause name bindings (Err (refusal.SchemaFile file fault)) own = absurd own
run_cause name bindings (Err (refusal.Schema rule file construct)) own = tt
run_cause name bindings (Err (refusal.Binding fault)) own = (name, bindings, refl)
run_cause name bindings (Err (refusal.Document file fault)) own = (name, bindings, refl)
run_cause name bindings (Err (refusal.Dynamic code)) own = ((name, bindings, refl), own)
