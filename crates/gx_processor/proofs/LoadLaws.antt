-- An answer looks at no other files than those that its steps load.
use Rattle.std.proofs.Common.{◌≡◌, ℕ, ◌≤◌, Bool, true, false, List, [], ◌∷◌, ◌++◌, length, Option, Some, None, Result, Ok, Err, inl, inr, refl, sym, subst, nat_le, append_assoc}
use Rattle.std.specs.Bool.{MatchBool}
use Rattle.std.proofs.lemmas.Bool.{leb-true}
use Rattle.std.proofs.lemmas.List.{append-nil}
use Rattle.gx_base.specs.declared.code.Code.TheVariants.{GLXS0001, SENR0001}
use Rattle.gx_types.specs.SchemaSet.{SchemaSet}
use Rattle.gx_schema.specs.Import.{Imported, declares, breaks, IsImported}
use Rattle.gx_schema.specs.Laws.{ImportsAreOne}
use Rattle.gx_core.specs.Queries.{Core, TypedCore}
use Rattle.gx_core.specs.Expression.{outer_of}
use Rattle.gx_static.specs.QueryJudgement.{QueryJudgement, query_typed, query_rejected, query_judged}
use Rattle.gx_io.specs.Load.{file_of}
use Rattle.gx_ast.specs.declared.query.Query.{Query as SyntaxQuery}
use Rattle.gx_parse_grammar.specs.Query.{Parsing, parsed, refused, Parses}
use Rattle.gx_processor.specs.NamedQuery.{NamedQuery, named_query, unknown_name, query_named}
use Rattle.gx_xml.specs.Reading.{IsDocumentOf}
use Rattle.gx_xml.specs.SourceTree.{SourceTree}
use Rattle.gx_xml.specs.declared.source.Source.{Source}
use Rattle.gx_validate.specs.Outcome.{Fault}
use Rattle.gx_documents.specs.Bindings.{Misbound, misbound}
use Rattle.gx_documents.specs.Documents.{Files, Request, HoldKept, DocumentsLoaded, tree_requests}
use Rattle.gx_processor.specs.declared.status.Status.{Status}
use Rattle.gx_processor.specs.declared.status.Status.TheVariants as status
use Rattle.gx_processor.specs.Answer.{Answer, refuses, can_be_written, AnswersEvaluated, AnswersRead, AnswersKept, AnswersLoaded, AnswersFiles, AnswersBound, AnswersRun, AnswersTyped, AnswersJudged, AnswersNamed, AnswersImported, AnswersSources, AnswersSchemas, AnswersParsed, AnswersBytes, AnswersFile, AnswersCommand, AnswersWords}
use Rattle.gx_processor.specs.Command.{Command, run_file, check_file, plan_file, query_file, command_of, texts_to_compare, workload_asked}
use Rattle.gx_processor.specs.Externals.{external_words, documents_bound}
use Rattle.gx_processor.specs.FaultLines.{code_line, placed_line, long_document_line}
use Rattle.gx_processor.specs.Loading.{BoundLoads, RunLoads, QueryLoads, BehindQuery, CommandLoads, LoadsAsked, AgreeOn, AnswersLookAtTheirLoads}
use Rattle.gx_processor.specs.Query.{HoldsSyntax, HoldsQuery}
use Rattle.gx_processor.specs.SchemaFiles.{schema_files, schema_requests}
use Rattle.gx_processor.proofs.LoadLemmas.{OfDocument}
use Rattle.gx_processor.proofs.CommandLoads.{one_tree, one_query, one_typing}

module _ (single : ImportsAreOne) (files others : Files) where
  -- ---- documents

  abbrev Moves : Option (List ℕ) → (Next Other : SourceTree → Answer → Type 0) → Answer → Type 0
  Moves held Next Other a = (bytes : List ℕ) (root : SourceTree) → held ≡ Some bytes → length bytes ≤ 16777216 → IsDocumentOf bytes root → Next root a → Other root a

  read_moves : (told : Status) (file bytes : List ℕ) (Next Other : SourceTree → Answer → Type 0) (a : Answer) → length bytes ≤ 16777216 → Moves (Some bytes) Next Other a → AnswersRead told file bytes Next a → AnswersRead told file bytes Other a
  read_moves told file bytes Next Other a within f (inl h) = inl (h.0, h.1, f bytes h.0 refl within h.1 h.2)
  read_moves told file bytes Next Other a within f (inr h) = inr h

  short_moves : (told : Status) (file bytes : List ℕ) (short : Bool) (Next Other : SourceTree → Answer → Type 0) (a c : Answer) → nat_le (length bytes) 16777216 ≡ short → Moves (Some bytes) Next Other a
      → MatchBool short (AnswersRead told file bytes Next a) (a ≡ c) → MatchBool short (AnswersRead told file bytes Other a) (a ≡ c)
  short_moves told file bytes true Next Other a c e f h = read_moves told file bytes Next Other a (leb-true (length bytes) 16777216 e) f h
  short_moves told file bytes false Next Other a c e f h = h

  loaded_moves : (told : Status) (file : List ℕ) (held : Option (List ℕ)) (Next Other : SourceTree → Answer → Type 0) (a : Answer) → Moves held Next Other a → AnswersLoaded told file held Next a → AnswersLoaded told file held Other a
  loaded_moves told file None Next Other a f h = h
  loaded_moves told file (Some bytes) Next Other a f h = short_moves told file bytes (nat_le (length bytes) 16777216) Next Other a (refuses told (long_document_line file)) refl f h

  -- a file with the same bytes elsewhere
  file_moves : (told : Status) (file : List ℕ) (Next Other : SourceTree → Answer → Type 0) (a : Answer) → file_of files file ≡ file_of others file → Moves (file_of files file) Next Other a → AnswersLoaded told file (file_of files file) Next a
      → AnswersLoaded told file (file_of others file) Other a
  file_moves told file Next Other a same f h = subst (λ (o : Option (List ℕ)). AnswersLoaded told file o Other a) same (loaded_moves told file (file_of files file) Next Other a f h)

  -- what is kept of a document
  kept_moves : {T : Type 0} (told : Status) (file : List ℕ) (outcome : Result T Fault) (Next Other : T → Answer → Type 0) (a : Answer) → ((kept : T) → outcome ≡ Ok kept → Next kept a → Other kept a)
      → AnswersKept told file outcome Next a → AnswersKept told file outcome Other a
  kept_moves told file (Ok kept) Next Other a f h = f kept refl h
  kept_moves told file (Err fault) Next Other a f h = h

  -- files, up to the first of which nothing is kept; behind them all, what follows from what is kept
  files_move : {T : Type 0} (told : Status) (requests : List (Request T)) (loads : List (List ℕ)) (before : List T) (Next Other : List T → Answer → Type 0) (a : Answer) → DocumentsLoaded files requests loads → AgreeOn loads files others
      → ((kept : List T) → HoldKept files requests kept → Next (before ++ kept) a → Other (before ++ kept) a) → AnswersFiles told files requests before Next a → AnswersFiles told others requests before Other a
  files_move {T} told [] loads before Next Other a l agree f h =
      subst (λ (ts : List T). Other ts a) (append-nil before) (f [] tt (subst (λ (ts : List T). Next ts a) (sym (append-nil before)) h))
  files_move {T} told (request ∷ requests) loads before Next Other a (inl l) agree f h =
      let same = subst (λ (ns : List (List ℕ)). AgreeOn ns files others) l.1.2 agree in
      file_moves told request.file (OfDocument told request (λ t next. AnswersFiles told files requests (before ++ t ∷ []) Next next)) (OfDocument told request (λ t next. AnswersFiles told others requests (before ++ t ∷ []) Other next)) a same.0
      (λ bytes root held within reads k. kept_moves told request.file (request.outcome root) (λ t next. AnswersFiles told files requests (before ++ t ∷ []) Next next) (λ t next. AnswersFiles told others requests (before ++ t ∷ []) Other next) a
      (λ t e m. files_move told requests l.1.0 (before ++ t ∷ []) Next Other a l.1.1 same.1
      (λ kept all n. subst (λ (ts : List T). Other ts a) (sym (append_assoc before (t ∷ []) kept))
      (f (t ∷ kept) ((root, record { bytes = bytes; held = held; within = within; reads = reads }, e), all) (subst (λ (ts : List T). Next ts a) (append_assoc before (t ∷ []) kept) n))) m) k) h
  files_move told (request ∷ requests) loads before Next Other a (inr l) agree f h =
      let same = subst (λ (ns : List (List ℕ)). AgreeOn ns files others) l.1 agree in
      file_moves told request.file (OfDocument told request (λ t next. AnswersFiles told files requests (before ++ t ∷ []) Next next)) (OfDocument told request (λ t next. AnswersFiles told others requests (before ++ t ∷ []) Other next)) a same.0
      (λ bytes root held within reads k. kept_moves told request.file (request.outcome root) (λ t next. AnswersFiles told files requests (before ++ t ∷ []) Next next) (λ t next. AnswersFiles told others requests (before ++ t ∷ []) Other next) a
      (λ t e m. absurd (l.0 (t, (root, record { bytes = bytes; held = held; within = within; reads = reads }, e)))) k) h

  -- ---- a run

  bound_moves : (schemas : SchemaSet) (core : Core) (bindings : List (List ℕ)) (fault : Option Misbound) (loads : List (List ℕ)) (a : Answer) → BoundLoads files fault (tree_requests schemas (documents_bound core.declarations bindings)) loads → AgreeOn loads files others
      → AnswersBound files schemas core bindings fault a → AnswersBound others schemas core bindings fault a
  bound_moves schemas core bindings (Some fault) loads a l agree h = h
  bound_moves schemas core bindings None loads a l agree h =
      files_move status.Document (tree_requests schemas (documents_bound core.declarations bindings)) loads [] (AnswersEvaluated schemas core) (AnswersEvaluated schemas core) a l agree (λ kept held k. k) h

  match_moves : (schemas : SchemaSet) (core : Core) (bindings : List (List ℕ)) (writable : Bool) (loads : List (List ℕ)) (a c : Answer)
      → MatchBool writable (BoundLoads files (misbound (external_words core.declarations) bindings) (tree_requests schemas (documents_bound core.declarations bindings)) loads) (loads ≡ []) → AgreeOn loads files others
      → MatchBool writable (AnswersBound files schemas core bindings (misbound (external_words core.declarations) bindings) a) (a ≡ c) → MatchBool writable (AnswersBound others schemas core bindings (misbound (external_words core.declarations) bindings) a) (a ≡ c)
  match_moves schemas core bindings true loads a c l agree h = bound_moves schemas core bindings (misbound (external_words core.declarations) bindings) loads a l agree h
  match_moves schemas core bindings false loads a c l agree h = h

  run_moves : (schemas : SchemaSet) (core : Core) (t : TypedCore) (bindings loads : List (List ℕ)) (a : Answer) → RunLoads files bindings schemas core t loads → AgreeOn loads files others → AnswersRun files bindings schemas core t a
      → AnswersRun others bindings schemas core t a
  run_moves schemas core t bindings loads a l agree h = match_moves schemas core bindings (can_be_written schemas t) loads a (refuses status.Query (placed_line SENR0001 (outer_of core.body))) l agree h

  -- ---- the query

  abbrev Types' : Command → SchemaSet → Core → QueryJudgement → Answer → Type 0
  Types' command schemas core j a = (t : TypedCore) → j ≡ query_typed t → AnswersTyped files command schemas core t a → AnswersTyped others command schemas core t a

  judged_moves : (command : Command) (schemas : SchemaSet) (core : Core) (j : QueryJudgement) (a : Answer) → Types' command schemas core j a → AnswersJudged files command schemas core j a → AnswersJudged others command schemas core j a
  judged_moves command schemas core (query_typed t) a f h = f t refl h
  judged_moves command schemas core (query_rejected place code) a f h = h

  named_moves : (command : Command) (schemas : SchemaSet) (n : NamedQuery) (a : Answer) → ((core : Core) → n ≡ named_query core → Types' command schemas core (query_judged schemas core) a) → AnswersNamed files command schemas n a → AnswersNamed others command schemas n a
  named_moves command schemas (named_query core) a f h = judged_moves command schemas core (query_judged schemas core) a (f core refl) h
  named_moves command schemas (unknown_name place code) a f h = h

  abbrev Queries : Command → List ℕ → Answer → Type 0
  Queries command name a = (schemas : SchemaSet) (core : Core) → HoldsQuery files name schemas core → Types' command schemas core (query_judged schemas core) a

  imported_moves : (command : Command) (name : List ℕ) (read : HoldsSyntax files name) (sources : List Source) (told : Imported) (a : Answer) → HoldKept files (schema_requests read.tree) sources → IsImported sources told → Queries command name a
      → AnswersImported files command read.tree (schema_files read.tree) told a → AnswersImported others command read.tree (schema_files read.tree) told a
  imported_moves command name read sources (declares schemas) a held e f h =
      named_moves command schemas (query_named schemas read.tree) a (λ core n. f schemas core (record { read = read; imports = record { sources = sources; held = held; imports = e }; named = n })) h
  imported_moves command name read sources (breaks rule file construct list) a held e f h = h

  sources_move : (command : Command) (name : List ℕ) (read : HoldsSyntax files name) (sources : List Source) (a : Answer) → HoldKept files (schema_requests read.tree) sources → Queries command name a
      → AnswersSources files command read.tree sources a → AnswersSources others command read.tree sources a
  sources_move command name read sources a held f h = (h.0, h.1, imported_moves command name read sources h.0 a held h.1 f h.2)

  -- what the schema files of a tree are loaded for
  abbrev Trees : List ℕ → Type 0
  Trees name = (read : HoldsSyntax files name) → (loads : List (List ℕ)) × DocumentsLoaded files (schema_requests read.tree) loads × AgreeOn loads files others

  schemas_move : (command : Command) (name : List ℕ) (read : HoldsSyntax files name) (a : Answer) → Trees name → Queries command name a → AnswersSchemas files command read.tree a → AnswersSchemas others command read.tree a
  schemas_move command name read a trees f h =
      let l = trees read in
      files_move status.Schema (schema_requests read.tree) l.0 [] (AnswersSources files command read.tree) (AnswersSources others command read.tree) a l.1 l.2
      (λ sources held k. sources_move command name read sources a held f k) h

  parsed_moves : (command : Command) (name bytes : List ℕ) (p : Parsing) (a : Answer) → file_of files name ≡ Some bytes → length bytes ≤ 16777216 → Parses bytes p → Trees name → Queries command name a → AnswersParsed files command p a → AnswersParsed others command p a
  parsed_moves command name bytes (parsed tree) a held within p trees f h =
      schemas_move command name (record { tree = tree; bytes = bytes; held = held; within = within; parses = p }) a trees f h
  parsed_moves command name bytes (refused rule place) a held within p trees f h = h

  query_moves : (command : Command) (name bytes : List ℕ) (short : Bool) (a c : Answer) → file_of files name ≡ Some bytes → nat_le (length bytes) 16777216 ≡ short → Trees name → Queries command name a → MatchBool short (AnswersBytes files command bytes a) (a ≡ c)
      → MatchBool short (AnswersBytes others command bytes a) (a ≡ c)
  query_moves command name bytes true a c held e trees f h = (h.0, h.1, parsed_moves command name bytes h.0 a held (leb-true (length bytes) 16777216 e) h.1 trees f h.2)
  query_moves command name bytes false a c held e trees f h = h

  held_moves : (command : Command) (name : List ℕ) (held : Option (List ℕ)) (a : Answer) → file_of files name ≡ held → Trees name → Queries command name a → AnswersFile files command held a → AnswersFile others command held a
  held_moves command name None a e trees f h = h
  held_moves command name (Some bytes) a e trees f h = query_moves command name bytes (nat_le (length bytes) 16777216) a (refuses status.Query (code_line GLXS0001)) e refl trees f h

  query_file_moves : (command : Command) (a : Answer) → file_of files (query_file command) ≡ file_of others (query_file command) → Trees (query_file command) → Queries command (query_file command) a → AnswersCommand files (Some command) a → AnswersCommand others (Some command) a
  query_file_moves command a same trees f h =
      subst (λ (o : Option (List ℕ)). AnswersFile others command o a) same (held_moves command (query_file command) (file_of files (query_file command)) a refl trees f h)

  -- ---- the commands

  agree_on_front : (front rest : List (List ℕ)) → AgreeOn (front ++ rest) files others → AgreeOn front files others
  agree_on_front [] rest h = tt
  agree_on_front (name ∷ front) rest h = (h.0, agree_on_front front rest h.1)

  agree_behind : (front rest : List (List ℕ)) → AgreeOn (front ++ rest) files others → AgreeOn rest files others
  agree_behind [] rest h = h
  agree_behind (name ∷ front) rest h = agree_behind front rest h.1

  -- the loads of a query: its file, and the schema files of its tree
  first_same : (name : List ℕ) (loads : List (List ℕ)) → QueryLoads files name loads → AgreeOn loads files others → file_of files name ≡ file_of others name
  first_same name loads (inl l) agree = (subst (λ (ns : List (List ℕ)). AgreeOn ns files others) l.1.2 agree).0
  first_same name loads (inr l) agree = (subst (λ (ns : List (List ℕ)). AgreeOn ns files others) l.1 agree).0

  trees_loaded : (name : List ℕ) (loads : List (List ℕ)) → QueryLoads files name loads → AgreeOn loads files others → Trees name
  trees_loaded name loads (inl l) agree read = (
    l.1.0,
    subst (λ (tree : SyntaxQuery). DocumentsLoaded files (schema_requests tree) l.1.0) (one_tree files name l.0 read) l.1.1,
    (subst (λ (ns : List (List ℕ)). AgreeOn ns files others) l.1.2 agree).1,
  )
  trees_loaded name loads (inr l) agree read = absurd (l.0 read)

  behind_moves : (name : List ℕ) (bindings loads : List (List ℕ)) (a : Answer) → BehindQuery files name bindings loads → AgreeOn loads files others → Queries (run_file name bindings) name a
  behind_moves name bindings loads a (inl l) agree schemas core q t j k =
      let one = one_query single files name l.0.schemas schemas l.0.core core l.0.query q in
      let typing = one_typing l.0.schemas schemas l.0.core core l.0.typing t one.0 one.1 l.0.judgement j in
      let same_schemas = subst (λ (s : SchemaSet). RunLoads files bindings s core t loads) one.0
      (subst (λ (c : Core). RunLoads files bindings l.0.schemas c t loads) one.1 (subst (λ (u : TypedCore). RunLoads files bindings l.0.schemas l.0.core u loads) typing l.1)) in
      run_moves schemas core t bindings loads a same_schemas agree k
  behind_moves name bindings loads a (inr l) agree schemas core q t j k = absurd (l.0 (record { schemas = schemas; core = core; typing = t; query = q; judgement = j }))

  command_moves : (command : Command) (loads : List (List ℕ)) (a : Answer) → CommandLoads files command loads → AgreeOn loads files others → AnswersCommand files (Some command) a → AnswersCommand others (Some command) a
  command_moves (check_file name) loads a l agree h =
      query_file_moves (check_file name) a (first_same name loads l agree) (trees_loaded name loads l agree) (λ schemas core q t j k. k) h
  command_moves (plan_file name) loads a l agree h =
      query_file_moves (plan_file name) a (first_same name loads l agree) (trees_loaded name loads l agree) (λ schemas core q t j k. k) h
  command_moves (run_file name bindings) loads a l agree h =
      let all = subst (λ (ns : List (List ℕ)). AgreeOn ns files others) l.4 agree in
      let front = agree_on_front l.0 l.1 all in
      query_file_moves (run_file name bindings) a (first_same name l.0 l.2 front) (trees_loaded name l.0 l.2 front) (behind_moves name bindings l.1 a l.3 (agree_behind l.0 l.1 all)) h

  asked_moves : (asked : Option Command) (loads : List (List ℕ)) (a : Answer) → LoadsAsked files asked loads → AgreeOn loads files others → AnswersCommand files asked a → AnswersCommand others asked a
  asked_moves None loads a l agree h = h
  asked_moves (Some command) loads a l agree h = command_moves command loads a l agree h

  words_move : (texts : Option (List ℕ × List ℕ)) (workload : Option ℕ) (asked : Option Command) (loads : List (List ℕ)) (a : Answer) → LoadsAsked files asked loads → AgreeOn loads files others
      → AnswersWords files texts workload asked a → AnswersWords others texts workload asked a
  words_move (Some texts) workload asked loads a l agree h = h
  words_move None (Some items) asked loads a l agree h = h
  words_move None None asked loads a l agree h = asked_moves asked loads a l agree h

pub answers_look_at_their_loads : ImportsAreOne → AnswersLookAtTheirLoads
answers_look_at_their_loads single words files others loads a l agree h = words_move single files others (texts_to_compare words) (workload_asked words) (command_of words) loads a l agree h
