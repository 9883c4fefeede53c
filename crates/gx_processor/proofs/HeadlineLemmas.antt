-- The headline, from the answer that a run ends with.
use Rattle.std.proofs.Common.{◌≡◌, ℕ, ◌≤◌, Bool, true, false, List, [], ◌∷◌, ◌++◌, inl, inr, length, append_assoc, Option, Some, None, Result, Ok, Err, refl, sym, ◌∙◌, ap, subst, nat_le}
use Rattle.std.specs.Bool.{MatchBool}
use Rattle.std.proofs.lemmas.Bool.{leb-true, le-leb}
use Rattle.std.proofs.lemmas.List.{append-nil}
use Rattle.gx_base.specs.declared.code.Code.TheVariants.{GLXS0001, SENR0001}
use Rattle.gx_types.specs.SchemaSet.{SchemaSet}
use Rattle.gx_types.specs.SchemaInvariant.{IsSchemaSet}
use Rattle.gx_schema.specs.Import.{Imported, declares, breaks, IsImported}
use Rattle.gx_schema.specs.Laws.{ImportsAreOne, ImportsAreSchemaSets}
use Rattle.gx_base.specs.declared.limits.TheConstants.{ACTIVE_CALLS}
use Rattle.gx_core.specs.Invariant.{HasQueryVariablesInOrder, CallsDeclaredFunctions}
use Rattle.gx_processor.proofs.WholeQueries.{named_in_order, named_calls}
use Rattle.gx_core.specs.Queries.{Core, TypedCore}
use Rattle.gx_model.specs.Item.{Items}
use Rattle.gx_core.specs.Outcome.{Outcome, gives, raises, wrong}
use Rattle.gx_core.specs.Expression.{outer_of}
use Rattle.gx_core.specs.QueryMeaning.{query_outcome, query_type, DocumentsFit, SoundQueriesKeepTheirTypes}
use Rattle.gx_model.specs.Forest.{Forest}
use Rattle.gx_xml.specs.Reading.{IsDocumentOf}
use Rattle.gx_xml.specs.SourceTree.{SourceTree}
use Rattle.gx_xml.proofs.OneReading.{one_document, not_refused}
use Rattle.gx_documents.specs.Bindings.{Misbound, misbound, files_bound}
use Rattle.gx_xml.specs.declared.source.Source.{Source}
use Rattle.gx_validate.specs.Outcome.{Fault}
use Rattle.gx_documents.specs.Documents.{Files, Request, HoldsKept, HoldKept, AreKept, document_nodes, tree_requests}
use Rattle.gx_documents.specs.Laws.{DocumentsAreAsAsked, DocumentsAreHonest, HeldTreesAreKept}
use Rattle.gx_processor.specs.ExternalDocuments.{AreDocumentsOf, ExternalsAreDocuments, NamedQueriesHaveDocuments}
use Rattle.gx_processor.specs.Externals.{external_words, documents_asked, documents_bound}
use Rattle.gx_processor.proofs.AskedDocuments.{asked_are_global, length_bound}
use Rattle.gx_processor.proofs.DocumentFit.{documents_fit}
use Rattle.gx_core.specs.Soundness.{typed_setting, Keeps}
use Rattle.gx_static.specs.QueryJudgement.{QueryJudgement, query_typed, query_rejected, query_judged, QueryTypingIsSound, QueryRejectionNamesFailure}
use Rattle.gx_io.specs.Load.{file_of}
use Rattle.gx_processor.specs.declared.status.Status.{Status}
use Rattle.gx_processor.specs.declared.status.Status.TheVariants.{Query, Schema, Document}
use Rattle.gx_ast.specs.declared.query.Query.{Query as SyntaxQuery}
use Rattle.gx_parse_grammar.specs.Query.{Parsing, parsed, refused, Parses}
use Rattle.gx_parse_grammar.proofs.OneParsing.{one_parsing}
use Rattle.gx_processor.specs.Command.{Command, run_file, check_file, plan_file, query_file, command_of}
use Rattle.gx_processor.specs.Query.{HoldsSyntax, ImportsSchemas, HoldsQuery}
use Rattle.gx_processor.specs.SchemaFiles.{schema_files, schema_requests}
use Rattle.gx_processor.specs.NamedQuery.{NamedQuery, named_query, unknown_name, query_named}
use Rattle.gx_processor.specs.TypeBytes.{type_bytes}
use Rattle.gx_processor.specs.FaultLines.{code_line, placed_line, long_document_line}
use Rattle.gx_processor.specs.Answer.{Answer, writes, refuses, status_of, output_of, can_be_written, AnswersOutcome, AnswersEvaluated, AnswersRead, AnswersKept, AnswersLoaded, AnswersFiles, AnswersBound, AnswersRun, AnswersTyped, AnswersJudged, AnswersNamed, AnswersImported, AnswersSources, AnswersSchemas, AnswersParsed, AnswersBytes, AnswersFile, Answers}
use Rattle.gx_processor.specs.Run.{Run}
use Rattle.gx_processor.specs.Promises.{LeavesAnswer}
use Rattle.gx_processor.specs.Headline.{RunEnds, RunsTyped, ChecksTyped, HoldsTyped, RunsAsChecked, RejectsUntyped}
use Rattle.gx_processor.specs.PlannedQueries.{PlansTyped}
use Rattle.gx_processor.proofs.AnswerLemmas.{answer_at, answer_asked}
use Rattle.gx_processor.proofs.LoadLemmas.{OfDocument}
use Rattle.gx_processor.proofs.PromiseLemmas.{AnsweredOrStarved}

-- what an answer at a file that is held comes to
short_answer : (files : Files) (command : Command) (short : Bool) (bytes : List ℕ) (a b : Answer) → short ≡ true → MatchBool short (AnswersBytes files command bytes a) (a ≡ b) → AnswersBytes files command bytes a
short_answer files command true bytes a b e m = m
short_answer files command false bytes a b e m = cc

-- the answer over files that hold documents is that over their roots
short_document : (told : Status) (file bytes : List ℕ) (short : Bool) (Next : SourceTree → Answer → Type 0) (c a : Answer) → short ≡ true → MatchBool short (AnswersRead told file bytes Next a) (a ≡ c) → AnswersRead told file bytes Next a
short_document told file bytes true Next c a e h = h
short_document told file bytes false Next c a e h = cc

read_answer : (told : Status) (file bytes : List ℕ) (root : SourceTree) (Next : SourceTree → Answer → Type 0) (a : Answer) → IsDocumentOf bytes root → AnswersRead told file bytes Next a → Next root a
read_answer told file bytes root Next a reads (inl h) = subst (λ (r : SourceTree). Next r a) (one_document bytes h.0 root h.1 reads) h.2
read_answer told file bytes root Next a reads (inr h) = absurd (not_refused bytes root h.0 h.1 reads h.2)

held_answer : {T : Type 0} (told : Status) (files : Files) (request : Request T) (kept : T) (Next : T → Answer → Type 0) (a : Answer) → HoldsKept files request kept → AnswersLoaded told request.file (file_of files request.file) (OfDocument told request Next) a → Next kept a
held_answer {T} told files request kept Next a h k =
    let of_bytes = subst (λ (o : Option (List ℕ)). AnswersLoaded told request.file o (OfDocument told request Next) a) h.1.held k in
    let of_read = short_document told request.file h.1.bytes (nat_le (length h.1.bytes) 16777216) (OfDocument told request Next) (refuses told (long_document_line request.file)) a (le-leb (length h.1.bytes) 16777216 h.1.within) of_bytes in
    let of_root = read_answer told request.file h.1.bytes h.0 (OfDocument told request Next) a h.1.reads of_read in
    subst (λ (o : Result T Fault). AnswersKept told request.file o Next a) h.2 of_root

pub files_answer : {T : Type 0} (told : Status) (files : Files) (requests : List (Request T)) (kept before : List T) (Next : List T → Answer → Type 0) (a : Answer) → HoldKept files requests kept → AnswersFiles told files requests before Next a → Next (before ++ kept) a
files_answer {T} told files [] [] before Next a h k = subst (λ (ts : List T). Next ts a) (sym (append-nil before)) k
files_answer told files [] (t ∷ kept) before Next a h k = absurd h
files_answer told files (request ∷ requests) [] before Next a h k = absurd h
files_answer {T} told files (request ∷ requests) (t ∷ kept) before Next a h k =
    let next = held_answer told files request t (λ u n. AnswersFiles told files requests (before ++ u ∷ []) Next n) a h.0 k in
    subst (λ (ts : List T). Next ts a) (append_assoc before (t ∷ []) kept) (files_answer told files requests kept (before ++ t ∷ []) Next a h.1 next)

-- the answer to words that name a command over a file with a query of this Core
schemas_answer : ImportsAreOne → (files : Files) (command : Command) (tree : SyntaxQuery) (schemas : SchemaSet) (a : Answer) → ImportsSchemas files tree schemas → AnswersSchemas files command tree a → AnswersNamed files command schemas (query_named schemas tree) a
schemas_answer single files command tree schemas a i h =
    let of_sources = files_answer Schema files (schema_requests tree) i.sources [] (AnswersSources files command tree) a i.held h in
    subst (λ (told : Imported). AnswersImported files command tree (schema_files tree) told a) (single i.sources of_sources.0 (declares schemas) of_sources.1 i.imports) of_sources.2

judged_answer : ImportsAreOne → (words : List (List ℕ)) (files : Files) (command : Command) (schemas : SchemaSet) (core : Core) (a : Answer) → command_of words ≡ Some command → HoldsQuery files (query_file command) schemas core → Answers words files a
    → AnswersJudged files command schemas core (query_judged schemas core) a
judged_answer single words files command schemas core a e q h =
    let r = q.read in
    let at = answer_at words files command r.bytes a e r.held h in
    let of_bytes = short_answer files command (nat_le (length r.bytes) 16777216) r.bytes a (refuses Query (code_line GLXS0001)) (le-leb (length r.bytes) 16777216 r.within) at in
    let same = one_parsing r.bytes of_bytes.0 (parsed r.tree) of_bytes.1 r.parses in
    let of_tree = subst (λ (p : Parsing). AnswersParsed files command p a) same of_bytes.2 in
    subst (λ (n : NamedQuery). AnswersNamed files command schemas n a) q.named (schemas_answer single files command r.tree schemas a q.imports of_tree)

typed_answer : ImportsAreOne → (words : List (List ℕ)) (files : Files) (command : Command) (schemas : SchemaSet) (core : Core) (t : TypedCore) (a : Answer) → command_of words ≡ Some command → HoldsQuery files (query_file command) schemas core
    → query_judged schemas core ≡ query_typed t → Answers words files a → AnswersTyped files command schemas core t a
typed_answer single words files command schemas core t a e q j h = subst (λ (k : QueryJudgement). AnswersJudged files command schemas core k a) j (judged_answer single words files command schemas core a e q h)

-- documents that are held are documents
kept_of_held : {T : Type 0} (files : Files) (requests : List (Request T)) (kept : List T) → HoldKept files requests kept → AreKept requests kept
kept_of_held files [] [] h = tt
kept_of_held files [] (t ∷ kept) h = absurd h
kept_of_held files (request ∷ requests) [] h = absurd h
kept_of_held files (request ∷ requests) (t ∷ kept) h = ((h.0.1.bytes, h.0.0, h.0.1.reads, h.0.2), kept_of_held files requests kept h.1)

-- what the Core of a query keeps to whose names are resolved
pub record IsNamedCore (schemas : SchemaSet) (core : Core) : Type 0 where
  pub documents : ExternalsAreDocuments schemas core.declarations
  pub variables : HasQueryVariablesInOrder core
  pub calls : CallsDeclaredFunctions core

pub named_core : NamedQueriesHaveDocuments → (schemas : SchemaSet) (query : SyntaxQuery) (core : Core) → query_named schemas query ≡ named_query core → IsNamedCore schemas core
named_core documents schemas query core e = record {
  documents = documents schemas query core e;
  variables = named_in_order schemas query core e;
  calls = named_calls schemas query core e;
}

-- the meaning of a query that has a type keeps the type, on all documents
abbrev pub TypesAreKept : Type 0
TypesAreKept = (schemas : SchemaSet) (core : Core) (t : TypedCore) (documents : Forest) → IsSchemaSet schemas → AreDocumentsOf schemas core.declarations documents → IsNamedCore schemas core → query_judged schemas core ≡ query_typed t
    → Keeps (typed_setting schemas) documents (query_type t) (query_outcome schemas core (document_nodes documents) documents)

pub types_are_kept : QueryTypingIsSound → SoundQueriesKeepTheirTypes → DocumentsAreHonest → DocumentsAreAsAsked → TypesAreKept
types_are_kept sound keep honest fits schemas core t documents invariant trees named j =
    let s = sound schemas core t invariant j in
    let fit = documents_fit fits schemas invariant core.declarations documents named.documents trees in
    let global = asked_are_global schemas core.declarations trees.names named.documents in
    subst (λ (c : Core). Keeps (typed_setting schemas) documents (query_type t) (query_outcome schemas c (document_nodes documents) documents)) s.same
    (keep ACTIVE_CALLS schemas t (document_nodes documents) documents (honest schemas (documents_asked core.declarations trees.names) documents invariant global trees.trees)
    (subst (λ (c : Core). DocumentsFit schemas documents c.declarations (document_nodes documents)) (sym s.same) fit) (s.sound named.variables named.calls))

outcome_runs : (run : Run) (schemas : SchemaSet) (core : Core) (t : TypedCore) (documents : Forest) (o : Outcome Items) (a : Answer) → query_outcome schemas core (document_nodes documents) documents ≡ o → Keeps (typed_setting schemas) documents (query_type t) o
    → AnswersOutcome o a → run.status ≡ status_of a → LeavesAnswer a run → RunEnds schemas core t documents run
outcome_runs run schemas core t documents (gives items forest) a m k is s l =
    let sinks = subst (λ (b : Answer). LeavesAnswer b run) is l in
    inl (record { items = items; forest = forest; value = m; belongs = k.fact; status = s ∙ ap status_of is; output = sinks.0; line = sinks.1 })
outcome_runs run schemas core t documents (raises code) a m k is s l =
    let sinks = subst (λ (b : Answer). LeavesAnswer b run) is l in
    inr (inl (record { code = code; raised = m; status = s ∙ ap status_of is; output = sinks.0; line = sinks.1 }))
outcome_runs run schemas core t documents wrong a m k is s l = absurd k

-- the answer to a run whose value can be written, on documents that the words bind
run_answer : (files : Files) (bindings : List (List ℕ)) (schemas : SchemaSet) (core : Core) (t : TypedCore) (documents : Forest) (a : Answer) → can_be_written schemas t ≡ true → misbound (external_words core.declarations) bindings ≡ None
    → HoldKept files (tree_requests schemas (documents_bound core.declarations bindings)) documents → AnswersRun files bindings schemas core t a → AnswersEvaluated schemas core documents a
run_answer files bindings schemas core t documents a yes' bound held h =
    let written = subst (λ (writable : Bool). MatchBool writable (AnswersBound files schemas core bindings (misbound (external_words core.declarations) bindings) a) (a ≡ refuses Query (placed_line SENR0001 (outer_of core.body)))) yes' h in
    let read = subst (λ (o : Option Misbound). AnswersBound files schemas core bindings o a) bound written in
    files_answer Document files (tree_requests schemas (documents_bound core.declarations bindings)) documents [] (AnswersEvaluated schemas core) a held read

pub typed_run : ImportsAreOne → (run : Run) (files : Files) → TypesAreKept → ImportsAreSchemaSets → NamedQueriesHaveDocuments → HeldTreesAreKept → AnsweredOrStarved run files → RunsTyped run files
typed_run single run files kept sound named trees (inr m) name bindings schemas core t documents e q j yes' b = inr (inr m)
typed_run single run files kept sound named trees (inl answered) name bindings schemas core t documents e q j yes' b =
    let invariant = sound q.imports.sources schemas q.imports.imports in
    let externals = named_core named schemas q.read.tree core q.named in
    let names = files_bound (external_words core.declarations) bindings in
    let held = (trees schemas files (documents_bound core.declarations bindings) documents invariant (asked_are_global schemas core.declarations names externals.documents)).0 b.held in
    let of_run = typed_answer single run.words files (run_file name bindings) schemas core t answered.answer e q j answered.answers in
    let of_outcome = run_answer files bindings schemas core t documents answered.answer yes' b.bound held of_run in
    let all : AreDocumentsOf schemas core.declarations documents =
    record { names = names; each = length_bound (external_words core.declarations) bindings; trees = kept_of_held files (tree_requests schemas (documents_bound core.declarations bindings)) documents held } in
    let keeps = kept schemas core t documents invariant all externals j in
    outcome_runs run schemas core t documents (query_outcome schemas core (document_nodes documents) documents) answered.answer refl keeps of_outcome answered.status answered.sinks

pub typed_check : ImportsAreOne → (run : Run) (files : Files) → AnsweredOrStarved run files → ChecksTyped run files
typed_check single run files (inr m) name schemas core t e q j = inr m
typed_check single run files (inl answered) name schemas core t e q j =
    let is = typed_answer single run.words files (check_file name) schemas core t answered.answer e q j answered.answers in
    let sinks = subst (λ (b : Answer). LeavesAnswer b run) is answered.sinks in
    inl (record { status = answered.status ∙ ap status_of is; output = sinks.0; line = sinks.1 })

pub typed_plan : ImportsAreOne → (run : Run) (files : Files) → AnsweredOrStarved run files → PlansTyped run files
typed_plan single run files (inr m) name schemas core t e q j = inr m
typed_plan single run files (inl answered) name schemas core t e q j =
    let of_plan = typed_answer single run.words files (plan_file name) schemas core t answered.answer e q j answered.answers in
    let sinks = subst (λ (b : Answer). LeavesAnswer b run) of_plan.2 answered.sinks in
    inl (record { bytes = of_plan.0; plan = of_plan.1; status = answered.status ∙ ap status_of of_plan.2; output = sinks.0; line = sinks.1 })

-- a check that prints a type
judged_printed : (files : Files) (name : List ℕ) (schemas : SchemaSet) (core : Core) (j : QueryJudgement) (printed : List ℕ) → AnswersJudged files (check_file name) schemas core j (writes printed) → (t : TypedCore) × (j ≡ query_typed t) × (type_bytes (query_type t) ≡ printed)
judged_printed files name schemas core (query_typed t) printed h = (t, refl, sym (ap output_of h))
judged_printed files name schemas core (query_rejected place code) printed h = cc

named_printed : (files : Files) (name : List ℕ) (schemas : SchemaSet) (n : NamedQuery) (printed : List ℕ) → AnswersNamed files (check_file name) schemas n (writes printed)
    → (core : Core) × (t : TypedCore) × (n ≡ named_query core) × (query_judged schemas core ≡ query_typed t) × (type_bytes (query_type t) ≡ printed)
named_printed files name schemas (named_query core) printed h = let j = judged_printed files name schemas core (query_judged schemas core) printed h in (core, j.0, refl, j.1, j.2)
named_printed files name schemas (unknown_name place code) printed h = cc

imported_printed : (files : Files) (name : List ℕ) (read : HoldsSyntax files name) (told : Imported) (sources : List Source) (printed : List ℕ) → HoldKept files (schema_requests read.tree) sources → IsImported sources told
    → AnswersImported files (check_file name) read.tree (schema_files read.tree) told (writes printed) → HoldsTyped files name printed
imported_printed files name read (declares schemas) sources printed held e h =
    let n = named_printed files name schemas (query_named schemas read.tree) printed h in
    record {
      schemas = schemas;
      core = n.0;
      typing = n.1;
      query = record { read = read; imports = record { sources = sources; held = held; imports = e }; named = n.2 };
      judgement = n.3;
      text = n.4;
    }
imported_printed files name read (breaks rule file construct list) sources printed held e h = cc

-- an output comes only where all files hold documents
read_printed : (told : Status) (file bytes : List ℕ) (Next : SourceTree → Answer → Type 0) (printed : List ℕ) → AnswersRead told file bytes Next (writes printed) → (root : SourceTree) × IsDocumentOf bytes root × Next root (writes printed)
read_printed told file bytes Next printed (inl h) = h
read_printed told file bytes Next printed (inr h) = cc h.3

short_read_printed : (told : Status) (file bytes : List ℕ) (short : Bool) (Next : SourceTree → Answer → Type 0) (printed : List ℕ) → nat_le (length bytes) 16777216 ≡ short
    → MatchBool short (AnswersRead told file bytes Next (writes printed)) (writes printed ≡ refuses told (long_document_line file)) → (length bytes ≤ 16777216) × ((root : SourceTree) × IsDocumentOf bytes root × Next root (writes printed))
short_read_printed told file bytes true Next printed e h = (leb-true (length bytes) 16777216 e, read_printed told file bytes Next printed h)
short_read_printed told file bytes false Next printed e h = cc

kept_printed : {T : Type 0} (told : Status) (file : List ℕ) (outcome : Result T Fault) (Next : T → Answer → Type 0) (printed : List ℕ) → AnswersKept told file outcome Next (writes printed) → (kept : T) × (outcome ≡ Ok kept) × Next kept (writes printed)
kept_printed told file (Ok kept) Next printed h = (kept, refl, h)
kept_printed told file (Err fault) Next printed h = cc h

loaded_printed : {T : Type 0} (told : Status) (files : Files) (request : Request T) (held : Option (List ℕ)) (Next : T → Answer → Type 0) (printed : List ℕ) → file_of files request.file ≡ held → AnswersLoaded told request.file held (OfDocument told request Next) (writes printed)
    → (kept : T) × HoldsKept files request kept × Next kept (writes printed)
loaded_printed told files request None Next printed e h = cc h
loaded_printed told files request (Some bytes) Next printed e h =
    let r = short_read_printed told request.file bytes (nat_le (length bytes) 16777216) (OfDocument told request Next) printed refl h in
    let k = kept_printed told request.file (request.outcome r.1.0) Next printed r.1.2 in
    (k.0, (r.1.0, record { bytes = bytes; held = e; within = r.0; reads = r.1.1 }, k.1), k.2)

files_printed : {T : Type 0} (told : Status) (files : Files) (requests : List (Request T)) (before : List T) (Next : List T → Answer → Type 0) (printed : List ℕ) → AnswersFiles told files requests before Next (writes printed)
    → (kept : List T) × HoldKept files requests kept × Next (before ++ kept) (writes printed)
files_printed {T} told files [] before Next printed h = ([], tt, subst (λ (ts : List T). Next ts (writes printed)) (sym (append-nil before)) h)
files_printed {T} told files (request ∷ requests) before Next printed h =
    let one = loaded_printed told files request (file_of files request.file) (λ u next. AnswersFiles told files requests (before ++ u ∷ []) Next next) printed refl h in
    let others = files_printed told files requests (before ++ one.0 ∷ []) Next printed one.2 in
    (one.0 ∷ others.0, (one.1, others.1), subst (λ (ts : List T). Next ts (writes printed)) (append_assoc before (one.0 ∷ []) others.0) others.2)

schemas_printed : (files : Files) (name : List ℕ) (read : HoldsSyntax files name) (printed : List ℕ) → AnswersSchemas files (check_file name) read.tree (writes printed) → HoldsTyped files name printed
schemas_printed files name read printed h =
    let all = files_printed Schema files (schema_requests read.tree) [] (AnswersSources files (check_file name) read.tree) printed h in
    imported_printed files name read all.2.0 all.0 printed all.1 all.2.1 all.2.2

parsed_printed : (files : Files) (name bytes : List ℕ) (p : Parsing) (printed : List ℕ) → file_of files name ≡ Some bytes → length bytes ≤ 16777216 → Parses bytes p → AnswersParsed files (check_file name) p (writes printed) → HoldsTyped files name printed
parsed_printed files name bytes (refused rule place) printed held within p h = cc
parsed_printed files name bytes (parsed tree) printed held within p h =
    schemas_printed files name (record { tree = tree; bytes = bytes; held = held; within = within; parses = p }) printed h

short_printed : (files : Files) (name bytes : List ℕ) (short : Bool) (printed : List ℕ) → file_of files name ≡ Some bytes → nat_le (length bytes) 16777216 ≡ short → MatchBool short (AnswersBytes files (check_file name) bytes (writes printed)) (writes printed ≡ refuses Query (code_line GLXS0001)) → HoldsTyped files name printed
short_printed files name bytes true printed held e h = parsed_printed files name bytes h.0 printed held (leb-true (length bytes) 16777216 e) h.1 h.2
short_printed files name bytes false printed held e h = cc

file_printed : (files : Files) (name : List ℕ) (file : Option (List ℕ)) (printed : List ℕ) → file_of files name ≡ file → AnswersFile files (check_file name) file (writes printed) → HoldsTyped files name printed
file_printed files name None printed held h = cc
file_printed files name (Some bytes) printed held h = short_printed files name bytes (nat_le (length bytes) 16777216) printed held refl h

pub run_as_checked : (run : Run) (files : Files) → RunsTyped run files → RunsAsChecked run files
run_as_checked run files runs checking name bindings printed e k h =
    let q = file_printed files name (file_of files name) printed refl (answer_asked checking files (check_file name) (writes printed) k h) in
    (q, λ yes' documents b. runs name bindings q.schemas q.core q.typing documents e q.query q.judgement yes' b)

pub rejected_query : ImportsAreOne → (run : Run) (files : Files) → QueryRejectionNamesFailure → AnsweredOrStarved run files → RejectsUntyped run files
rejected_query single run files names (inr m) command schemas core place code e q j = inr m
rejected_query single run files names (inl answered) command schemas core place code e q j =
    let is = subst (λ (k : QueryJudgement). AnswersJudged files command schemas core k answered.answer) j (judged_answer single run.words files command schemas core answered.answer e q answered.answers) in
    let sinks = subst (λ (b : Answer). LeavesAnswer b run) is answered.sinks in
    inl (record { fails = names schemas core place code j; status = answered.status ∙ ap status_of is; output = sinks.0; line = sinks.1 })
