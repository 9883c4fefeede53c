-- All answers to the words over the files are alike.
use Rattle.std.proofs.Common.{◌≡◌, ℕ, Bool, true, false, ◌&&◌, List, [], ◌∷◌, ◌++◌, inl, inr, length, Option, Some, None, Result, Ok, Err, refl, sym, ◌∙◌, ap, subst, nat_le, if◌then◌else◌}
use Rattle.std.specs.Prelude.{unwrap_or, codes, bytes_eq}
use Rattle.std.specs.Bool.{MatchBool}
use Rattle.std.specs.Str.{chars}
use Rattle.std.proofs.lemmas.Slice.Eq.{bytes_eq-Decides}
use Rattle.gx_subtype.proofs.OneText.{one_text}
use Rattle.gx_base.specs.declared.code.Code.TheVariants.{GLXS0001, SENR0001}
use Rattle.gx_types.specs.SchemaSet.{SchemaSet}
use Rattle.gx_schema.specs.Import.{Imported, declares, breaks}
use Rattle.gx_schema.specs.Laws.{ImportsAreOne}
use Rattle.gx_core.specs.Queries.{Core, TypedCore}
use Rattle.gx_core.specs.Expression.{outer_of}
use Rattle.gx_model.specs.Forest.{Forest}
use Rattle.gx_model.specs.Item.{Items}
use Rattle.gx_core.specs.Outcome.{Outcome, gives, raises, wrong}
use Rattle.gx_core.specs.QueryMeaning.{query_outcome, query_type}
use Rattle.gx_static.specs.QueryJudgement.{QueryJudgement, query_typed, query_rejected, query_judged}
use Rattle.gx_io.specs.Load.{file_of}
use Rattle.gx_documents.specs.Bindings.{Misbound, misbound}
use Rattle.gx_documents.specs.Documents.{Files, Request, document_nodes, tree_requests}
use Rattle.gx_validate.specs.Outcome.{Fault}
use Rattle.gx_xml.specs.declared.source.Source.{Source}
use Rattle.gx_xml.specs.declared.refusal.XmlRule.{XmlRule}
use Rattle.gx_xml.specs.SourceTree.{SourceTree}
use Rattle.gx_xml.proofs.OneReading.{one_document, not_refused, one_refusal}
use Rattle.gx_processor.specs.declared.status.Status.{Status}
use Rattle.gx_processor.specs.declared.status.Status.TheVariants as status
use Rattle.gx_base.specs.declared.place.Place.{Place}
use Rattle.gx_ast.specs.declared.query.Query.{Query as SyntaxQuery}
use Rattle.gx_parse_grammar.specs.Query.{Parsing, parsed, refused}
use Rattle.gx_parse_grammar.proofs.OneParsing.{one_parsing}
use Rattle.gx_processor.specs.NamedQuery.{NamedQuery, named_query, unknown_name, query_named}
use Rattle.gx_processor.specs.Command.{Command, run_file, check_file, plan_file, query_file, command_of, command_named, is_operand, texts_to_compare, workload_asked}
use Rattle.gx_demo.specs.Workload.{items_asked, workload_files}
use Rattle.gx_processor.specs.Externals.{external_words, documents_bound}
use Rattle.gx_processor.specs.SchemaFiles.{schema_files, schema_requests}
use Rattle.gx_processor.specs.TypeBytes.{type_bytes}
use Rattle.gx_processor.specs.FaultLines.{line, read_fault_line, code_line, placed_line, long_document_line, document_line}
use Rattle.gx_processor.proofs.LoadLemmas.{OfDocument}
use Rattle.gx_processor.specs.Answer.{Answer, writes, refuses, can_be_written, AnswersOutcome, AnswersEvaluated, AnswersRead, AnswersKept, AnswersLoaded, AnswersFiles, AnswersBound, AnswersTyped, AnswersJudged, AnswersNamed, AnswersImported, AnswersSources, AnswersSchemas, AnswersParsed, AnswersBytes, AnswersFile, AnswersCommand, AnswersTexts, AnswersWords, Answers, AreOneButForOutput, AreAlike, AnswersAreAlike, ChecksRefuseForRuns, PlansRefuseAsChecks, with_line_feed, workload_command}

outcome_unique : (o : Outcome Items) (a b : Answer) → AnswersOutcome o a → AnswersOutcome o b → a ≡ b
outcome_unique (gives items forest) a b h k = h ∙ sym k
outcome_unique (raises code) a b h k = h ∙ sym k
outcome_unique wrong a b h k = absurd h

evaluated_unique : (schemas : SchemaSet) (core : Core) (forest : Forest) (a b : Answer) → AnswersEvaluated schemas core forest a → AnswersEvaluated schemas core forest b → a ≡ b
evaluated_unique schemas core forest a b h k = outcome_unique (query_outcome schemas core (document_nodes forest) forest) a b h k

-- documents are read in one way, so that answers are the same in any sense in which equal ones are, and those behind the documents
module _ (Same : Answer → Answer → Type 0) (equal : (a b : Answer) → a ≡ b → Same a b) (told : Status) where
  read_alike : (file bytes : List ℕ) (Next : SourceTree → Answer → Type 0) (a b : Answer) → ((t : SourceTree) → Next t a → Next t b → Same a b) → AnswersRead told file bytes Next a → AnswersRead told file bytes Next b → Same a b
  read_alike file bytes Next a b next (inl h) (inl k) =
      next h.0 h.2 (subst (λ (root : SourceTree). Next root b) (one_document bytes k.0 h.0 k.1 h.1) k.2)
  read_alike file bytes Next a b next (inl h) (inr k) = absurd (not_refused bytes h.0 k.0 k.1 h.1 k.2)
  read_alike file bytes Next a b next (inr h) (inl k) = absurd (not_refused bytes k.0 h.0 h.1 k.1 h.2)
  read_alike file bytes Next a b next (inr h) (inr k) =
      let same = one_refusal bytes h.0 k.0 h.1 k.1 h.2 k.2 in
      equal a b (h.3 ∙ ap (λ (rule : XmlRule). refuses told (document_line rule file h.1)) same.0 ∙ ap (λ (place : Place). refuses told (document_line k.0 file place)) same.1 ∙ sym k.3)

  held_alike : (file bytes : List ℕ) (short : Bool) (Next : SourceTree → Answer → Type 0) (c a b : Answer) → ((t : SourceTree) → Next t a → Next t b → Same a b)
      → MatchBool short (AnswersRead told file bytes Next a) (a ≡ c) → MatchBool short (AnswersRead told file bytes Next b) (b ≡ c) → Same a b
  held_alike file bytes true Next c a b next h k = read_alike file bytes Next a b next h k
  held_alike file bytes false Next c a b next h k = equal a b (h ∙ sym k)

  loaded_alike : (file : List ℕ) (bytes : Option (List ℕ)) (Next : SourceTree → Answer → Type 0) (a b : Answer) → ((t : SourceTree) → Next t a → Next t b → Same a b) → AnswersLoaded told file bytes Next a → AnswersLoaded told file bytes Next b → Same a b
  loaded_alike file None Next a b next h k = equal a b (h ∙ sym k)
  loaded_alike file (Some bytes) Next a b next h k = held_alike file bytes (nat_le (length bytes) 16777216) Next (refuses told (long_document_line file)) a b next h k

  kept_alike : {T : Type 0} (file : List ℕ) (outcome : Result T Fault) (Next : T → Answer → Type 0) (a b : Answer) → ((kept : T) → Next kept a → Next kept b → Same a b) → AnswersKept told file outcome Next a → AnswersKept told file outcome Next b → Same a b
  kept_alike file (Ok kept) Next a b next h k = next kept h k
  kept_alike file (Err fault) Next a b next h k = equal a b (h ∙ sym k)

  files_alike : {T : Type 0} (files : Files) (requests : List (Request T)) (before : List T) (Next : List T → Answer → Type 0) (a b : Answer) → ((kept : List T) → Next kept a → Next kept b → Same a b)
      → AnswersFiles told files requests before Next a → AnswersFiles told files requests before Next b → Same a b
  files_alike files [] before Next a b next h k = next before h k
  files_alike files (request ∷ requests) before Next a b next h k =
      loaded_alike request.file (file_of files request.file) (OfDocument told request (λ t n. AnswersFiles told files requests (before ++ t ∷ []) Next n)) a b
      (λ root f g. kept_alike request.file (request.outcome root) (λ t n. AnswersFiles told files requests (before ++ t ∷ []) Next n) a b (λ t f' g'. files_alike files requests (before ++ t ∷ []) Next a b next f' g') f g) h k

bound_unique : (files : Files) (schemas : SchemaSet) (core : Core) (bindings : List (List ℕ)) (fault : Option Misbound) (a b : Answer) → AnswersBound files schemas core bindings fault a → AnswersBound files schemas core bindings fault b → a ≡ b
bound_unique files schemas core bindings (Some fault) a b h k = h ∙ sym k
bound_unique files schemas core bindings None a b h k =
    files_alike (λ (x y : Answer). x ≡ y) (λ x y e. e) status.Document files (tree_requests schemas (documents_bound core.declarations bindings)) [] (AnswersEvaluated schemas core) a b (λ forest f g. evaluated_unique schemas core forest a b f g) h k

run_unique : (files : Files) (schemas : SchemaSet) (core : Core) (bindings : List (List ℕ)) (fault : Option Misbound) (writable : Bool) (c a b : Answer)
    → MatchBool writable (AnswersBound files schemas core bindings fault a) (a ≡ c) → MatchBool writable (AnswersBound files schemas core bindings fault b) (b ≡ c) → a ≡ b
run_unique files schemas core bindings fault true c a b h k = bound_unique files schemas core bindings fault a b h k
run_unique files schemas core bindings fault false c a b h k = h ∙ sym k

-- equal answers are alike
one_but_for_output : (a b : Answer) → a ≡ b → AreOneButForOutput a b
one_but_for_output (writes bytes) (writes others) e = tt
one_but_for_output (writes bytes) (refuses status line) e = e
one_but_for_output (refuses status line) (writes others) e = e
one_but_for_output (refuses status line) (refuses other told) e = e

pub same_alike : (asked : Option Command) (a b : Answer) → a ≡ b → AreAlike asked a b
same_alike None a b e = e
same_alike (Some (run_file name bindings)) a b e = e
same_alike (Some (check_file name)) a b e = e
same_alike (Some (plan_file name)) a b e = one_but_for_output a b e

typed_alike : (files : Files) (command : Command) (schemas : SchemaSet) (core : Core) (t : TypedCore) (a b : Answer) → AnswersTyped files command schemas core t a → AnswersTyped files command schemas core t b → AreAlike (Some command) a b
typed_alike files (run_file name bindings) schemas core t a b h k =
    run_unique files schemas core bindings (misbound (external_words core.declarations) bindings) (can_be_written schemas t) (refuses status.Query (placed_line SENR0001 (outer_of core.body))) a b h k
typed_alike files (check_file name) schemas core t a b h k = h ∙ sym k
typed_alike files (plan_file name) schemas core t a b h k =
    subst (λ (x : Answer). AreOneButForOutput x b) (sym h.2) (subst (λ (x : Answer). AreOneButForOutput (writes h.0) x) (sym k.2) tt)

judged_alike : (files : Files) (command : Command) (schemas : SchemaSet) (core : Core) (j : QueryJudgement) (a b : Answer) → AnswersJudged files command schemas core j a → AnswersJudged files command schemas core j b → AreAlike (Some command) a b
judged_alike files command schemas core (query_typed t) a b h k = typed_alike files command schemas core t a b h k
judged_alike files command schemas core (query_rejected place code) a b h k = same_alike (Some command) a b (h ∙ sym k)

named_alike : (files : Files) (command : Command) (schemas : SchemaSet) (n : NamedQuery) (a b : Answer) → AnswersNamed files command schemas n a → AnswersNamed files command schemas n b → AreAlike (Some command) a b
named_alike files command schemas (named_query core) a b h k = judged_alike files command schemas core (query_judged schemas core) a b h k
named_alike files command schemas (unknown_name place code) a b h k = same_alike (Some command) a b (h ∙ sym k)

imported_alike : (files : Files) (command : Command) (tree : SyntaxQuery) (names : List (List ℕ)) (told : Imported) (a b : Answer) → AnswersImported files command tree names told a → AnswersImported files command tree names told b → AreAlike (Some command) a b
imported_alike files command tree names (declares schemas) a b h k = named_alike files command schemas (query_named schemas tree) a b h k
imported_alike files command tree names (breaks rule file name list) a b h k = same_alike (Some command) a b (h ∙ sym k)

sources_alike : ImportsAreOne → (files : Files) (command : Command) (tree : SyntaxQuery) (sources : List Source) (a b : Answer) → AnswersSources files command tree sources a → AnswersSources files command tree sources b → AreAlike (Some command) a b
sources_alike single files command tree sources a b h k =
    imported_alike files command tree (schema_files tree) h.0 a b h.2
    (subst (λ (told : Imported). AnswersImported files command tree (schema_files tree) told b) (single sources k.0 h.0 k.1 h.1) k.2)

schemas_alike : ImportsAreOne → (files : Files) (command : Command) (tree : SyntaxQuery) (a b : Answer) → AnswersSchemas files command tree a → AnswersSchemas files command tree b → AreAlike (Some command) a b
schemas_alike single files command tree a b h k =
    files_alike (AreAlike (Some command)) (same_alike (Some command)) status.Schema files (schema_requests tree) [] (AnswersSources files command tree) a b (λ sources f g. sources_alike single files command tree sources a b f g) h k

parsed_alike : ImportsAreOne → (files : Files) (command : Command) (p : Parsing) (a b : Answer) → AnswersParsed files command p a → AnswersParsed files command p b → AreAlike (Some command) a b
parsed_alike single files command (parsed tree) a b h k = schemas_alike single files command tree a b h k
parsed_alike single files command (refused rule place) a b h k = same_alike (Some command) a b (h ∙ sym k)

bytes_alike : ImportsAreOne → (files : Files) (command : Command) (bytes : List ℕ) (a b : Answer) → AnswersBytes files command bytes a → AnswersBytes files command bytes b → AreAlike (Some command) a b
bytes_alike single files command bytes a b h k =
    parsed_alike single files command h.0 a b h.2 (subst (λ (p : Parsing). AnswersParsed files command p b) (one_parsing bytes k.0 h.0 k.1 h.1) k.2)

match_alike : ImportsAreOne → (files : Files) (command : Command) (short : Bool) (bytes : List ℕ) (c a b : Answer) → MatchBool short (AnswersBytes files command bytes a) (a ≡ c) → MatchBool short (AnswersBytes files command bytes b) (b ≡ c) → AreAlike (Some command) a b
match_alike single files command true bytes c a b h k = bytes_alike single files command bytes a b h k
match_alike single files command false bytes c a b h k = same_alike (Some command) a b (h ∙ sym k)

file_alike : ImportsAreOne → (files : Files) (command : Command) (file : Option (List ℕ)) (a b : Answer) → AnswersFile files command file a → AnswersFile files command file b → AreAlike (Some command) a b
file_alike single files command None a b h k = same_alike (Some command) a b (h ∙ sym k)
file_alike single files command (Some bytes) a b h k = match_alike single files command (nat_le (length bytes) 16777216) bytes (refuses status.Query (code_line GLXS0001)) a b h k

pub command_alike : ImportsAreOne → (files : Files) (asked : Option Command) (a b : Answer) → AnswersCommand files asked a → AnswersCommand files asked b → AreAlike asked a b
command_alike single files None a b h k = h ∙ sym k
command_alike single files (Some command) a b h k = file_alike single files command (file_of files (query_file command)) a b h k

texts_unique : (left right : List ℕ) (a b : Answer) → AnswersTexts left right a → AnswersTexts left right b → a ≡ b
texts_unique left right a b (inl h) (inl k) = h.1 ∙ sym k.1
texts_unique left right a b (inl h) (inr (inl k)) = absurd (h.0 k.0 k.1)
texts_unique left right a b (inl h) (inr (inr k)) = absurd (h.0 k.1.lower k.1.left_is)
texts_unique left right a b (inr (inl h)) (inl k) = absurd (k.0 h.0 h.1)
texts_unique left right a b (inr (inl h)) (inr (inl k)) = h.3 ∙ sym k.3
texts_unique left right a b (inr (inl h)) (inr (inr k)) = absurd (h.2 k.1.upper k.1.right_is)
texts_unique left right a b (inr (inr h)) (inl k) = absurd (k.0 h.1.lower h.1.left_is)
texts_unique left right a b (inr (inr h)) (inr (inl k)) = absurd (k.2 h.1.upper h.1.right_is)
texts_unique left right a b (inr (inr h)) (inr (inr k)) = h.2 ∙ ap (λ (bytes : List ℕ). writes (line bytes)) (one_text left right h.0 k.0 h.1 k.1) ∙ sym k.2

words_alike : ImportsAreOne → (files : Files) (texts : Option (List ℕ × List ℕ)) (workload : Option ℕ) (asked : Option Command) (a b : Answer)
    → AnswersWords files texts workload asked a → AnswersWords files texts workload asked b → AreAlike asked a b
words_alike single files (Some texts) workload asked a b h k = same_alike asked a b (texts_unique (chars texts.0) (chars texts.1) a b h k)
words_alike single files None (Some items) asked a b h k =
    same_alike asked a b (h.2 ∙ ap with_line_feed (command_alike single (workload_files items) (Some workload_command) h.0 k.0 h.1 k.1) ∙ sym k.2)
words_alike single files None None asked a b h k = command_alike single files asked a b h k

pub answers_are_alike : ImportsAreOne → AnswersAreAlike
answers_are_alike single words files a b h k = words_alike single files (texts_to_compare words) (workload_asked words) (command_of words) a b h k

-- the parts of two pairs that are equal
pub same_parts : (p q : List ℕ × List ℕ) → Some p ≡ Some q → (p.0 ≡ q.0) × (p.1 ≡ q.1)
same_parts p q e = (ap (λ (o : Option (List ℕ × List ℕ)). (unwrap_or o p).0) e, ap (λ (o : Option (List ℕ × List ℕ)). (unwrap_or o p).1) e)

-- words over a query compare no texts: their first word is another one
named_otherwise : (left right : List ℕ) (command : Command) (operand : Bool) → (if operand then command_named (codes "subtype") left (right ∷ []) else None) ≡ Some command → ⊥
named_otherwise left right command true e = cc e
named_otherwise left right command false e = cc e

compare_not : (name left right : List ℕ) (command : Command) (same : Bool) → bytes_eq name (codes "subtype") ≡ same → command_of (name ∷ left ∷ right ∷ []) ≡ Some command
    → if◌then◌else◌ {A = Option (List ℕ × List ℕ)} (same && (is_operand left && is_operand right)) (Some (left, right)) None ≡ None
compare_not name left right command false f e = refl
compare_not name left right command true f e =
    absurd (named_otherwise left right command (is_operand left)
    (subst (λ (x : List ℕ). (if is_operand left then command_named x left (right ∷ []) else None) ≡ Some command) ((bytes_eq-Decides name (codes "subtype")).0 f) e))

pub no_texts : (words : List (List ℕ)) (command : Command) → command_of words ≡ Some command → texts_to_compare words ≡ None
no_texts [] command e = refl
no_texts (a ∷ []) command e = refl
no_texts (a ∷ b ∷ []) command e = refl
no_texts (a ∷ b ∷ c ∷ []) command e = compare_not a b c command (bytes_eq a (codes "subtype")) refl e
no_texts (a ∷ b ∷ c ∷ d ∷ words) command e = refl

-- nor do they ask for the workload
workload_otherwise : (number : List ℕ) (command : Command) (operand : Bool) → (if operand then command_named (codes "demo") number [] else None) ≡ Some command → ⊥
workload_otherwise number command true e = cc e
workload_otherwise number command false e = cc e

workload_not : (name number : List ℕ) (command : Command) (same : Bool) → bytes_eq name (codes "demo") ≡ same → command_of (name ∷ number ∷ []) ≡ Some command
    → if◌then◌else◌ {A = Option ℕ} same (items_asked number) None ≡ None
workload_not name number command false f e = refl
workload_not name number command true f e =
    absurd (workload_otherwise number command (is_operand number)
    (subst (λ (x : List ℕ). (if is_operand number then command_named x number [] else None) ≡ Some command) ((bytes_eq-Decides name (codes "demo")).0 f) e))

pub no_workload : (words : List (List ℕ)) (command : Command) → command_of words ≡ Some command → workload_asked words ≡ None
no_workload [] command e = refl
no_workload (a ∷ []) command e = refl
no_workload (a ∷ b ∷ []) command e = workload_not a b command (bytes_eq a (codes "demo")) refl e
no_workload (a ∷ b ∷ c ∷ words) command e = refl

-- words that ask for the workload compare no texts
pub workload_compares_not : (words : List (List ℕ)) (items : ℕ) → workload_asked words ≡ Some items → texts_to_compare words ≡ None
workload_compares_not [] items e = refl
workload_compares_not (a ∷ []) items e = refl
workload_compares_not (a ∷ b ∷ []) items e = refl
workload_compares_not (a ∷ b ∷ c ∷ words) items e = absurd (cc e)

-- the answer to words over a query
pub answer_asked : (words : List (List ℕ)) (files : Files) (command : Command) (a : Answer) → command_of words ≡ Some command → Answers words files a → AnswersCommand files (Some command) a
answer_asked words files command a e h =
    subst (λ (o : Option Command). AnswersCommand files o a) e
    (subst (λ (o : Option ℕ). AnswersWords files None o (command_of words) a) (no_workload words command e)
    (subst (λ (o : Option (List ℕ × List ℕ)). AnswersWords files o (workload_asked words) (command_of words) a) (no_texts words command e) h))

pub asked_answer : (words : List (List ℕ)) (files : Files) (command : Command) (a : Answer) → command_of words ≡ Some command → AnswersCommand files (Some command) a → Answers words files a
asked_answer words files command a e h =
    subst (λ (o : Option (List ℕ × List ℕ)). AnswersWords files o (workload_asked words) (command_of words) a) (sym (no_texts words command e))
    (subst (λ (o : Option ℕ). AnswersWords files None o (command_of words) a) (sym (no_workload words command e)) (subst (λ (o : Option Command). AnswersCommand files o a) (sym e) h))

-- the answer where the words name a file that is held
pub answer_at : (words : List (List ℕ)) (files : Files) (command : Command) (bytes : List ℕ) (a : Answer) → command_of words ≡ Some command → file_of files (query_file command) ≡ Some bytes → Answers words files a → AnswersFile files command (Some bytes) a
answer_at words files command bytes a e f h =
    subst (λ (o : Option (List ℕ)). AnswersFile files command o a) f (answer_asked words files command a e h)

-- what follows from the documents in files follows from the files
read_through : (told : Status) (file bytes : List ℕ) (Next Other : SourceTree → Answer → Type 0) (a : Answer) → ((t : SourceTree) → Next t a → Other t a) → AnswersRead told file bytes Next a → AnswersRead told file bytes Other a
read_through told file bytes Next Other a f (inl h) = inl (h.0, h.1, f h.0 h.2)
read_through told file bytes Next Other a f (inr h) = inr h

held_through : (told : Status) (file bytes : List ℕ) (short : Bool) (Next Other : SourceTree → Answer → Type 0) (c a : Answer) → ((t : SourceTree) → Next t a → Other t a)
    → MatchBool short (AnswersRead told file bytes Next a) (a ≡ c) → MatchBool short (AnswersRead told file bytes Other a) (a ≡ c)
held_through told file bytes true Next Other c a f h = read_through told file bytes Next Other a f h
held_through told file bytes false Next Other c a f h = h

loaded_through : (told : Status) (file : List ℕ) (held : Option (List ℕ)) (Next Other : SourceTree → Answer → Type 0) (a : Answer) → ((t : SourceTree) → Next t a → Other t a) → AnswersLoaded told file held Next a → AnswersLoaded told file held Other a
loaded_through told file None Next Other a f h = h
loaded_through told file (Some bytes) Next Other a f h = held_through told file bytes (nat_le (length bytes) 16777216) Next Other (refuses told (long_document_line file)) a f h

kept_through : {T : Type 0} (told : Status) (file : List ℕ) (outcome : Result T Fault) (Next Other : T → Answer → Type 0) (a : Answer) → ((kept : T) → Next kept a → Other kept a) → AnswersKept told file outcome Next a → AnswersKept told file outcome Other a
kept_through told file (Ok kept) Next Other a f h = f kept h
kept_through told file (Err fault) Next Other a f h = h

pub files_through : {T : Type 0} (told : Status) (files : Files) (requests : List (Request T)) (before : List T) (Next Other : List T → Answer → Type 0) (a : Answer) → ((kept : List T) → Next kept a → Other kept a)
    → AnswersFiles told files requests before Next a → AnswersFiles told files requests before Other a
files_through told files [] before Next Other a f h = f before h
files_through told files (request ∷ requests) before Next Other a f h =
    loaded_through told request.file (file_of files request.file) (OfDocument told request (λ t n. AnswersFiles told files requests (before ++ t ∷ []) Next n))
    (OfDocument told request (λ t n. AnswersFiles told files requests (before ++ t ∷ []) Other n)) a
    (λ root k. kept_through told request.file (request.outcome root) (λ t n. AnswersFiles told files requests (before ++ t ∷ []) Next n) (λ t n. AnswersFiles told files requests (before ++ t ∷ []) Other n) a
    (λ t k'. files_through told files requests (before ++ t ∷ []) Next Other a f k') k) h

-- ---- what one command refuses, another one refuses too

not_written : (told : Status) (line bytes : List ℕ) → refuses told line ≡ writes bytes → ⊥
not_written told line bytes e = cc

-- a command refuses so no query that has a type
abbrev Never : Files → Command → (told : Status) (line : List ℕ) → Type 0
Never files command told line = (schemas : SchemaSet) (core : Core) (t : TypedCore) → AnswersTyped files command schemas core t (refuses told line) → ⊥

module _ (files : Files) (command other : Command) (told : Status) (line : List ℕ) (never : Never files command told line) where
  judged_refused : (schemas : SchemaSet) (core : Core) (j : QueryJudgement) → AnswersJudged files command schemas core j (refuses told line) → AnswersJudged files other schemas core j (refuses told line)
  judged_refused schemas core (query_typed t) h = absurd (never schemas core t h)
  judged_refused schemas core (query_rejected place code) h = h

  named_refused : (schemas : SchemaSet) (n : NamedQuery) → AnswersNamed files command schemas n (refuses told line) → AnswersNamed files other schemas n (refuses told line)
  named_refused schemas (named_query core) h = judged_refused schemas core (query_judged schemas core) h
  named_refused schemas (unknown_name place code) h = h

  imported_refused : (tree : SyntaxQuery) (names : List (List ℕ)) (declared : Imported) → AnswersImported files command tree names declared (refuses told line) → AnswersImported files other tree names declared (refuses told line)
  imported_refused tree names (declares schemas) h = named_refused schemas (query_named schemas tree) h
  imported_refused tree names (breaks rule file construct list) h = h

  schemas_refused : (tree : SyntaxQuery) → AnswersSchemas files command tree (refuses told line) → AnswersSchemas files other tree (refuses told line)
  schemas_refused tree h =
      files_through status.Schema files (schema_requests tree) [] (AnswersSources files command tree) (AnswersSources files other tree) (refuses told line)
      (λ sources k. (k.0, k.1, imported_refused tree (schema_files tree) k.0 k.2)) h

  parsed_refused : (p : Parsing) → AnswersParsed files command p (refuses told line) → AnswersParsed files other p (refuses told line)
  parsed_refused (parsed tree) h = schemas_refused tree h
  parsed_refused (refused rule place) h = h

  short_refused : (short : Bool) (bytes : List ℕ) (a : Answer) → MatchBool short (AnswersBytes files command bytes (refuses told line)) (refuses told line ≡ a)
      → MatchBool short (AnswersBytes files other bytes (refuses told line)) (refuses told line ≡ a)
  short_refused true bytes a h = (h.0, h.1, parsed_refused h.0 h.2)
  short_refused false bytes a h = h

  file_refused : (file : Option (List ℕ)) → query_file command ≡ query_file other → AnswersFile files command file (refuses told line) → AnswersFile files other file (refuses told line)
  file_refused None same h = h ∙ ap (λ (name : List ℕ). refuses status.ReadFault (read_fault_line name)) same
  file_refused (Some bytes) same h = short_refused (nat_le (length bytes) 16777216) bytes (refuses status.Query (code_line GLXS0001)) h

check_never : (files : Files) (name : List ℕ) (told : Status) (line : List ℕ) → Never files (check_file name) told line
check_never files name told line schemas core t h = not_written told line (type_bytes (query_type t)) h

plan_never : (files : Files) (name : List ℕ) (told : Status) (line : List ℕ) → Never files (plan_file name) told line
plan_never files name told line schemas core t h = not_written told line h.0 h.2

pub check_refused : ChecksRefuseForRuns
check_refused files name bindings told line h =
    file_refused files (check_file name) (run_file name bindings) told line (check_never files name told line) (file_of files name) refl h

pub plans_refuse_as_checks : PlansRefuseAsChecks
plans_refuse_as_checks files name told line = (
  λ h. file_refused files (check_file name) (plan_file name) told line (check_never files name told line) (file_of files name) refl h,
  λ h. file_refused files (plan_file name) (check_file name) told line (plan_never files name told line) (file_of files name) refl h,
)
