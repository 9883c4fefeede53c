-- The words and the files have an answer.
use Rattle.std.proofs.Common.{◌≡◌, ℕ, Bool, true, false, List, [], ◌∷◌, ◌++◌, append_assoc, length, Option, Some, None, Result, Ok, Err, refl, sym, subst, nat_le, inl, inr}
use Rattle.std.specs.Bool.{MatchBool}
use Rattle.std.proofs.lemmas.List.{append-nil}
use Rattle.std.specs.Str.{chars}
use Rattle.gx_base.specs.declared.code.Code.TheVariants.{GLXS0001, SENR0001}
use Rattle.gx_base.specs.declared.limits.TheConstants.{FILE_BYTES}
use Rattle.gx_types.specs.SchemaSet.{SchemaSet}
use Rattle.gx_types.specs.SchemaInvariant.{IsSchemaSet}
use Rattle.gx_schema.specs.Import.{Imported, declares, breaks, IsImported}
use Rattle.gx_schema.specs.Laws.{AnImportExists, ImportsAreSchemaSets}
use Rattle.gx_core.specs.Queries.{Core, TypedCore}
use Rattle.gx_model.specs.Item.{Items}
use Rattle.gx_core.specs.Outcome.{Outcome, gives, raises, wrong}
use Rattle.gx_core.specs.Soundness.{typed_setting, Keeps}
use Rattle.gx_core.specs.Expression.{outer_of}
use Rattle.gx_core.specs.QueryMeaning.{query_outcome, query_type}
use Rattle.gx_core.proofs.SoundQueries.{sound_queries_keep}
use Rattle.gx_model.specs.Forest.{Forest}
use Rattle.gx_xml.specs.Reading.{IsDocumentOf}
use Rattle.gx_xml.specs.SourceTree.{SourceTree}
use Rattle.gx_xml.specs.declared.source.Source.{Source}
use Rattle.gx_xml.proofs.SomeReading.{a_reading_exists}
use Rattle.gx_documents.specs.Bindings.{Misbound, misbound, files_bound}
use Rattle.gx_validate.specs.Outcome.{Fault}
use Rattle.gx_documents.specs.Documents.{Files, Request, AreKept, document_nodes, tree_requests}
use Rattle.gx_documents.proofs.DocumentTrees.{documents_are_as_asked, documents_are_honest}
use Rattle.gx_processor.specs.ExternalDocuments.{AreDocumentsOf}
use Rattle.gx_processor.proofs.WholeQueries.{named_queries_have_documents}
use Rattle.gx_processor.specs.Externals.{external_words, documents_bound}
use Rattle.gx_processor.specs.SchemaFiles.{schema_files, schema_requests, file_name_at}
use Rattle.gx_processor.proofs.AskedDocuments.{length_bound}
use Rattle.gx_processor.proofs.HeadlineLemmas.{IsNamedCore, named_core, types_are_kept}
use Rattle.gx_processor.proofs.LoadLemmas.{OfDocument}
use Rattle.gx_static.specs.QueryJudgement.{QueryJudgement, query_typed, query_rejected, query_judged}
use Rattle.gx_static.proofs.QueryLaws.{query_sound}
use Rattle.gx_types.specs.SequenceType.{SequenceType}
use Rattle.gx_io.specs.Load.{file_of}
use Rattle.gx_ast.specs.declared.query.Query.{Query as SyntaxQuery}
use Rattle.gx_parse_grammar.specs.Query.{Parsing, parsed, refused}
use Rattle.gx_parse_grammar.proofs.SomeParsing.{a_parsing_exists}
use Rattle.gx_subtype.proofs.SomeText.{an_answer_text_exists}
use Rattle.gx_processor.specs.RuleCode.{rule_code}
use Rattle.gx_processor.specs.declared.status.Status.{Status}
use Rattle.gx_processor.specs.declared.status.Status.TheVariants as status
use Rattle.gx_processor.specs.NamedQuery.{NamedQuery, named_query, unknown_name, query_named}
use Rattle.gx_processor.specs.Command.{Command, run_file, check_file, plan_file, query_file, AskForPlan, command_of, texts_to_compare, workload_asked}
use Rattle.gx_demo.specs.Workload.{workload_files}
use Rattle.gx_processor.specs.FaultLines.{line, usage_line, left_type_line, right_type_line, read_fault_line, code_line, placed_line, binding_line, long_document_line, document_line, invalid_line, import_line, shown_with}
use Rattle.gx_processor.specs.Serialisation.{serialised}
use Rattle.gx_plan.specs.declared.plan.Plan.{Plan}
use Rattle.gx_rules.specs.Normal.{setting_of}
use Rattle.gx_rewrite.specs.Rewriting.{PlansCanBeRewritten}
use Rattle.gx_processor.specs.TypeBytes.{type_bytes}
use Rattle.gx_processor.specs.PlanBytes.{plan_bytes, compiled_plan}
use Rattle.gx_processor.specs.Answer.{Answer, writes, refuses, can_be_written, AnswersTexts, AnswersOutcome, AnswersEvaluated, AnswersRead, AnswersKept, AnswersLoaded, AnswersFiles, AnswersBound, AnswersTyped, AnswersJudged, AnswersNamed, AnswersImported, AnswersSources, AnswersSchemas, AnswersParsed, AnswersBytes, AnswersFile, AnswersCommand, AnswersWords, AnAnswerExists, with_line_feed, workload_command, AnswersWorkload}

outcome_answers : (schemas : SchemaSet) (t : SequenceType) (before : Forest) (o : Outcome Items) → Keeps (typed_setting schemas) before t o → (a : Answer) × AnswersOutcome o a
outcome_answers schemas t before (gives items forest) h = (writes (serialised forest items), refl)
outcome_answers schemas t before (raises code) h = (refuses status.Dynamic (code_line code), refl)
outcome_answers schemas t before wrong h = absurd h

-- what a command asks of plans
abbrev CanBeRewritten : Option Command → Type 0
CanBeRewritten (Some (plan_file name)) = PlansCanBeRewritten
CanBeRewritten _ = Unit {0}

-- the outcome of a query that has a type is no type error, whatever its documents are
evaluated_answers : (schemas : SchemaSet) (core : Core) (t : TypedCore) (documents : Forest) → IsSchemaSet schemas → AreDocumentsOf schemas core.declarations documents → IsNamedCore schemas core
    → query_judged schemas core ≡ query_typed t → (a : Answer) × AnswersEvaluated schemas core documents a
evaluated_answers schemas core t documents invariant trees externals e =
    outcome_answers schemas (query_type t) documents (query_outcome schemas core (document_nodes documents) documents)
    (types_are_kept query_sound sound_queries_keep documents_are_honest documents_are_as_asked schemas core t documents invariant trees externals e)

-- ---- documents, one behind another

-- the roots of documents
abbrev IsRoot : SourceTree → Type 0
IsRoot root = (bytes : List ℕ) × IsDocumentOf bytes root

module _ (told : Status) where
  read_answers : (file bytes : List ℕ) (Next : SourceTree → Answer → Type 0) → ((t : SourceTree) → IsRoot t → (a : Answer) × Next t a) → (a : Answer) × AnswersRead told file bytes Next a
  read_answers file bytes Next next =
      elim (a_reading_exists bytes) [
        | inl read ↦ (let n = next read.0 (bytes, read.1) in (n.0, inl (read.0, read.1, n.1)))
        | inr refused' ↦ (refuses told (document_line refused'.0 file refused'.1), inr (refused'.0, refused'.1, refused'.2, refl))
      ]

  short_document : (file bytes : List ℕ) (short : Bool) (Next : SourceTree → Answer → Type 0) → ((t : SourceTree) → IsRoot t → (a : Answer) × Next t a)
      → (a : Answer) × MatchBool short (AnswersRead told file bytes Next a) (a ≡ refuses told (long_document_line file))
  short_document file bytes true Next next = read_answers file bytes Next next
  short_document file bytes false Next next = (refuses told (long_document_line file), refl)

  document_answers : (file : List ℕ) (held : Option (List ℕ)) (Next : SourceTree → Answer → Type 0) → ((t : SourceTree) → IsRoot t → (a : Answer) × Next t a) → (a : Answer) × AnswersLoaded told file held Next a
  document_answers file None Next next = (refuses status.ReadFault (read_fault_line file), refl)
  document_answers file (Some bytes) Next next = short_document file bytes (nat_le (length bytes) 16777216) Next next

  kept_answers : {T : Type 0} (file : List ℕ) (outcome : Result T Fault) (Next : T → Answer → Type 0) → ((kept : T) → outcome ≡ Ok kept → (a : Answer) × Next kept a) → (a : Answer) × AnswersKept told file outcome Next a
  kept_answers file (Ok kept) Next next = next kept refl
  kept_answers file (Err fault) Next next = (refuses told (invalid_line fault.rule file fault.path), refl)

  files_answers : {T : Type 0} (files : Files) (requests : List (Request T)) (before : List T) (Next : List T → Answer → Type 0) → ((kept : List T) → AreKept requests kept → (a : Answer) × Next (before ++ kept) a)
      → (a : Answer) × AnswersFiles told files requests before Next a
  files_answers {T} files [] before Next next =
      let answer = next [] tt in (answer.0, subst (λ (ts : List T). Next ts answer.0) (append-nil before) answer.1)
  files_answers {T} files (request ∷ requests) before Next next =
      document_answers request.file (file_of files request.file) (OfDocument told request (λ t n. AnswersFiles told files requests (before ++ t ∷ []) Next n))
      (λ root is. kept_answers request.file (request.outcome root) (λ t n. AnswersFiles told files requests (before ++ t ∷ []) Next n)
      (λ t e. files_answers files requests (before ++ t ∷ []) Next
      (λ kept k. let answer = next (t ∷ kept) ((is.0, root, is.1, e), k) in (answer.0, subst (λ (ts : List T). Next ts answer.0) (sym (append_assoc before (t ∷ []) kept)) answer.1))))

-- ---- a query

module _ (files : Files) (schemas : SchemaSet) (invariant : IsSchemaSet schemas) where
  bound_answers : (core : Core) (t : TypedCore) (bindings : List (List ℕ)) (fault : Option Misbound) → IsNamedCore schemas core → query_judged schemas core ≡ query_typed t → (a : Answer) × AnswersBound files schemas core bindings fault a
  bound_answers core t bindings (Some fault) externals e = (refuses status.Usage (binding_line fault), refl)
  bound_answers core t bindings None externals e =
      files_answers status.Document files (tree_requests schemas (documents_bound core.declarations bindings)) [] (AnswersEvaluated schemas core)
      (λ forest trees. evaluated_answers schemas core t forest invariant
      (record { names = files_bound (external_words core.declarations) bindings; each = length_bound (external_words core.declarations) bindings; trees = trees }) externals e)

  writable_answers : (core : Core) (t : TypedCore) (bindings : List (List ℕ)) (writable : Bool) → IsNamedCore schemas core → query_judged schemas core ≡ query_typed t
      → (a : Answer) × MatchBool writable (AnswersBound files schemas core bindings (misbound (external_words core.declarations) bindings) a) (a ≡ refuses status.Query (placed_line SENR0001 (outer_of core.body)))
  writable_answers core t bindings true externals e = bound_answers core t bindings (misbound (external_words core.declarations) bindings) externals e
  writable_answers core t bindings false externals e = (refuses status.Query (placed_line SENR0001 (outer_of core.body)), refl)

  typed_answers : (command : Command) (core : Core) (t : TypedCore) → CanBeRewritten (Some command) → IsNamedCore schemas core → query_judged schemas core ≡ query_typed t → (a : Answer) × AnswersTyped files command schemas core t a
  typed_answers (run_file name bindings) core t plans externals e = writable_answers core t bindings (can_be_written schemas t) externals e
  typed_answers (check_file name) core t plans externals e = (writes (type_bytes (query_type t)), refl)
  typed_answers (plan_file name) core t plans externals e =
      let rewritten = plans (setting_of schemas (compiled_plan t)) (compiled_plan t).query in
      let plan : Plan = record { query = rewritten.0; variables = (compiled_plan t).variables } in
      (writes (plan_bytes plan), (plan_bytes plan, (plan, record { rewritten = rewritten.1; variables = refl }, refl), refl))

  judged_answers : (command : Command) (core : Core) (j : QueryJudgement) → CanBeRewritten (Some command) → IsNamedCore schemas core → query_judged schemas core ≡ j → (a : Answer) × AnswersJudged files command schemas core j a
  judged_answers command core (query_typed t) plans externals e = typed_answers command core t plans externals e
  judged_answers command core (query_rejected place code) plans externals e = (refuses status.Query (placed_line code place), refl)

  named_answers : (command : Command) (n : NamedQuery) → CanBeRewritten (Some command) → ((core : Core) → n ≡ named_query core → IsNamedCore schemas core) → (a : Answer) × AnswersNamed files command schemas n a
  named_answers command (named_query core) plans externals = judged_answers command core (query_judged schemas core) plans (externals core refl) refl
  named_answers command (unknown_name place code) plans externals = (refuses status.Query (placed_line code place), refl)

imported_answers : ImportsAreSchemaSets → (files : Files) (command : Command) → CanBeRewritten (Some command) → (tree : SyntaxQuery) (sources : List Source) (told : Imported) → IsImported sources told → (a : Answer) × AnswersImported files command tree (schema_files tree) told a
imported_answers imports files command plans tree sources (declares schemas) e =
    named_answers files schemas (imports sources schemas e) command (query_named schemas tree) plans (λ core named. named_core named_queries_have_documents schemas tree core named)
imported_answers imports files command plans tree sources (breaks rule file name list) e =
    (refuses status.Schema (import_line rule (file_name_at (schema_files tree) file) (shown_with rule name list)), refl)

sources_answers : AnImportExists → ImportsAreSchemaSets → (files : Files) (command : Command) → CanBeRewritten (Some command) → (tree : SyntaxQuery) (sources : List Source) → (a : Answer) × AnswersSources files command tree sources a
sources_answers exists imports files command plans tree sources =
    let told = exists sources in
    let answer = imported_answers imports files command plans tree sources told.0 told.1 in
    (answer.0, (told.0, told.1, answer.1))

schemas_answers : AnImportExists → ImportsAreSchemaSets → (files : Files) (command : Command) → CanBeRewritten (Some command) → (tree : SyntaxQuery) → (a : Answer) × AnswersSchemas files command tree a
schemas_answers exists imports files command plans tree =
    files_answers status.Schema files (schema_requests tree) [] (AnswersSources files command tree) (λ sources kept. sources_answers exists imports files command plans tree sources)

parsed_answers : AnImportExists → ImportsAreSchemaSets → (files : Files) (command : Command) → CanBeRewritten (Some command) → (p : Parsing) → (a : Answer) × AnswersParsed files command p a
parsed_answers exists imports files command plans (parsed tree) = schemas_answers exists imports files command plans tree
parsed_answers exists imports files command plans (refused rule place) = (refuses status.Query (placed_line (rule_code rule) place), refl)

file_answers : AnImportExists → ImportsAreSchemaSets → (files : Files) (command : Command) → CanBeRewritten (Some command) → (bytes : List ℕ) (short : Bool) → (a : Answer) × MatchBool short (AnswersBytes files command bytes a) (a ≡ refuses status.Query (code_line GLXS0001))
file_answers exists imports files command plans bytes false = (refuses status.Query (code_line GLXS0001), refl)
file_answers exists imports files command plans bytes true =
    let parsing = a_parsing_exists bytes in
    let answer = parsed_answers exists imports files command plans parsing.0 in
    (answer.0, (parsing.0, parsing.1, answer.1))

loaded_answers : AnImportExists → ImportsAreSchemaSets → (files : Files) (command : Command) → CanBeRewritten (Some command) → (file : Option (List ℕ)) → (a : Answer) × AnswersFile files command file a
loaded_answers exists imports files command plans None = (refuses status.ReadFault (read_fault_line (query_file command)), refl)
loaded_answers exists imports files command plans (Some bytes) = file_answers exists imports files command plans bytes (nat_le (length bytes) FILE_BYTES)

command_answers : AnImportExists → ImportsAreSchemaSets → (files : Files) (command : Option Command) → CanBeRewritten command → (a : Answer) × AnswersCommand files command a
command_answers exists imports files None plans = (refuses status.Usage usage_line, refl)
command_answers exists imports files (Some command) plans = loaded_answers exists imports files command plans (file_of files (query_file command))

-- two texts that are compared
texts_answer : (left right : List ℕ) → (a : Answer) × AnswersTexts left right a
texts_answer left right =
    elim (an_answer_text_exists left right) [
      | inl none ↦ (refuses status.Usage left_type_line, inl (none, refl))
      | inr (inl t) ↦ (refuses status.Usage right_type_line, inr (inl (t.0, t.1, t.2, refl)))
      | inr (inr b) ↦ (writes (line b.0), inr (inr (b.0, b.1, refl)))
    ]

workload_answers : AnImportExists → ImportsAreSchemaSets → (items : ℕ) → (a : Answer) × AnswersWorkload items a
workload_answers exists imports items =
    let run = command_answers exists imports (workload_files items) (Some workload_command) tt in
    (with_line_feed run.0, (run.0, run.1, refl))

-- what a command asks of plans
asked_plans : (asked : Option Command) → PlansCanBeRewritten → CanBeRewritten asked
asked_plans None plans = tt
asked_plans (Some (run_file name bindings)) plans = tt
asked_plans (Some (check_file name)) plans = tt
asked_plans (Some (plan_file name)) plans = plans

words_answer : AnImportExists → ImportsAreSchemaSets → (files : Files) (texts : Option (List ℕ × List ℕ)) (workload : Option ℕ) (asked : Option Command)
    → CanBeRewritten asked → (a : Answer) × AnswersWords files texts workload asked a
words_answer exists imports files (Some texts) workload asked plans = texts_answer (chars texts.0) (chars texts.1)
words_answer exists imports files None (Some items) asked plans = workload_answers exists imports items
words_answer exists imports files None None asked plans = command_answers exists imports files asked plans

pub an_answer_exists : AnImportExists → ImportsAreSchemaSets → PlansCanBeRewritten → AnAnswerExists
an_answer_exists exists imports plans words files =
    words_answer exists imports files (texts_to_compare words) (workload_asked words) (command_of words) (asked_plans (command_of words) plans)
