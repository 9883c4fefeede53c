-- The steps of an answer, one behind another.
use Rattle.std.proofs.Common.{◌≡◌, ℕ, ◌≤◌, Bool, true, false, List, [], ◌∷◌, length, Option, Some, None, IfSome, Result, Ok, Err, IfOk, IfErr, String, string_bytes, refl, sym, ap, ◌∙◌, subst, nat_le, rules}
use Rattle.std.specs.Bool.{MatchBool}
use Rattle.std.specs.List.{All}
use Rattle.std.proofs.lemmas.Bool.{le-leb}
use Rattle.gx_base.specs.declared.code.Code.{Code}
use Rattle.gx_base.specs.declared.code.Code.TheVariants.{GLXS0001}
use Rattle.gx_base.specs.Code.{is_static}
use Rattle.gx_types.specs.SchemaSet.{SchemaSet}
use Rattle.gx_schema.specs.Import.{declares}
use Rattle.gx_core.specs.Queries.{Core, TypedCore}
use Rattle.gx_static.specs.QueryJudgement.{QueryJudgement, query_typed, query_rejected, query_judged}
use Rattle.gx_static.proofs.StaticCodes.{queries_are_rejected_with_static_codes}
use Rattle.gx_io.specs.Load.{file_of}
use Rattle.gx_ast.specs.declared.query.Query.{Query as SyntaxQuery}
use Rattle.gx_base.specs.declared.place.Place.{Place}
use Rattle.gx_parse_grammar.specs.Query.{Parsing, Parses, parsed, refused}
use Rattle.gx_parse_grammar.specs.declared.refusal.SyntaxRule.{SyntaxRule}
use Rattle.gx_parse_grammar.proofs.OneParsing.{one_parsing}
use Rattle.gx_processor.specs.declared.refusal.Refusal.{Refusal}
use Rattle.gx_processor.specs.declared.refusal.Refusal.TheVariants.{ReadFault, TooLong, Query, SchemaFile, Schema, Binding, Document, Dynamic, Memory}
use Rattle.gx_documents.specs.declared.documents.DocumentFault.TheVariants as faults
use Rattle.gx_documents.specs.Documents.{Files}
use Rattle.gx_processor.specs.declared.status.Status.TheVariants as status
use Rattle.gx_processor.specs.Command.{Command, query_file}
use Rattle.gx_processor.specs.FaultLines.{code_line, placed_line}
use Rattle.gx_names_scope.specs.declared.refusal.Refusal.{Refusal as NamedRefusal}
use Rattle.gx_base.specs.Stacked.{first}
use Rattle.gx_names.specs.Refusals.{query_refusals}
use Rattle.gx_names.specs.Resolution.{query_resolved}
use Rattle.gx_names.specs.Laws.{IsOfStaticCode}
use Rattle.gx_names.proofs.StaticCodes.{names_are_refused_with_static_codes}
use Rattle.gx_normal.specs.Normalisation.{query_core}
use Rattle.gx_processor.specs.NamedQuery.{NamedQuery, named_query, unknown_name, unless_refused, query_named}
use Rattle.gx_processor.specs.Query.{HoldsSyntax, ImportsSchemas, HoldsQuery}
use Rattle.gx_processor.specs.QueryReplies.{AreOfNone, HoldsNone, HoldsThisTree}
use Rattle.gx_processor.specs.SchemaFiles.{schema_requests}
use Rattle.gx_processor.specs.Answer.{Answer, writes, refuses, AnswersTyped, AnswersJudged, AnswersNamed, AnswersSources, AnswersSchemas, AnswersBytes, AnswersFile, AnswersCommand}
use Rattle.gx_processor.specs.Replies.{RefusesSo}
use Rattle.gx_processor.specs.RunReplies.{AnswersSo}
use Rattle.gx_processor.proofs.LoadLemmas.{kept_answer}

-- what follows from an answer follows from a refusal that says it
pub refuses_through : (r : Refusal) (P Q : Answer → Type 0) → ((a : Answer) → P a → Q a) → RefusesSo r P → RefusesSo r Q
refuses_through ReadFault P Q f h = tt
refuses_through TooLong P Q f h = f _ h
refuses_through (Query code place) P Q f h = f _ h
refuses_through (SchemaFile file faults.Unread) P Q f h = tt
refuses_through (SchemaFile file faults.TooLong) P Q f h = f _ h
refuses_through (SchemaFile file (faults.Refused rule place)) P Q f h = f _ h
refuses_through (SchemaFile file (faults.Invalid rule path)) P Q f h = h
refuses_through (Schema rule file name) P Q f h = f _ h
refuses_through (Binding fault) P Q f h = f _ h
refuses_through (Document file faults.Unread) P Q f h = tt
refuses_through (Document file faults.TooLong) P Q f h = f _ h
refuses_through (Document file (faults.Refused rule place)) P Q f h = f _ h
refuses_through (Document file (faults.Invalid rule path)) P Q f h = f _ h
refuses_through (Dynamic code) P Q f h = f _ h
refuses_through Memory P Q f h = tt

-- each step is that of the whole where the steps before it pass
judged_answers : (files : Files) (command : Command) (schemas : SchemaSet) (core : Core) (t : TypedCore) (a : Answer) → query_judged schemas core ≡ query_typed t → AnswersTyped files command schemas core t a
    → AnswersJudged files command schemas core (query_judged schemas core) a
judged_answers files command schemas core t a j h = subst (λ (k : QueryJudgement). AnswersJudged files command schemas core k a) (sym j) h

named_answers : (files : Files) (command : Command) (schemas : SchemaSet) (n : NamedQuery) (core : Core) (a : Answer) → n ≡ named_query core → AnswersJudged files command schemas core (query_judged schemas core) a → AnswersNamed files command schemas n a
named_answers files command schemas n core a e h = subst (λ (m : NamedQuery). AnswersNamed files command schemas m a) (sym e) h

-- the schema files of a tree hold documents, which declare these schemas
pub schemas_answer : (files : Files) (command : Command) (tree : SyntaxQuery) (schemas : SchemaSet) (a : Answer) → ImportsSchemas files tree schemas → AnswersNamed files command schemas (query_named schemas tree) a → AnswersSchemas files command tree a
schemas_answer files command tree schemas a i h =
    kept_answer status.Schema files (schema_requests tree) i.sources [] (AnswersSources files command tree) a i.held (declares schemas, i.imports, h)

short_answers : (files : Files) (command : Command) (short : Bool) (bytes : List ℕ) (a b : Answer) → short ≡ true → AnswersBytes files command bytes a → MatchBool short (AnswersBytes files command bytes a) (a ≡ b)
short_answers files command short bytes a b e h = subst (λ (s : Bool). MatchBool s (AnswersBytes files command bytes a) (a ≡ b)) (sym e) h

file_answers : (files : Files) (command : Command) (file : Option (List ℕ)) (bytes : List ℕ) (a : Answer) → file ≡ Some bytes → length bytes ≤ 16777216 → AnswersBytes files command bytes a → AnswersFile files command file a
file_answers files command file bytes a held within h =
    subst (λ (o : Option (List ℕ)). AnswersFile files command o a) (sym held)
    (short_answers files command (nat_le (length bytes) 16777216) bytes a (refuses status.Query (code_line GLXS0001)) (le-leb (length bytes) 16777216 within) h)

-- a file that holds a query
pub tree_in_file : (files : Files) (name : List ℕ) (command : Command) (read : HoldsSyntax files name) (a : Answer) → AnswersSchemas files command read.tree a → AnswersFile files command (file_of files name) a
tree_in_file files name command read a h =
    file_answers files command (file_of files name) read.bytes a read.held read.within
    (parsed read.tree, read.parses, h)

-- a file that holds a query that has a type
pub query_answers : (files : Files) (command : Command) (schemas : SchemaSet) (core : Core) (t : TypedCore) (a : Answer) → HoldsQuery files (query_file command) schemas core → query_judged schemas core ≡ query_typed t → AnswersTyped files command schemas core t a
    → AnswersCommand files (Some command) a
query_answers files command schemas core t a q j h =
    tree_in_file files (query_file command) command q.read a (schemas_answer files command q.read.tree schemas a q.imports
    (named_answers files command schemas (query_named schemas q.read.tree) core a q.named (judged_answers files command schemas core t a j h)))

-- the refusals of the steps
pub file_refused : (told : Option Files) (name bytes : List ℕ) (r : Refusal) → IfSome told (λ files. file_of files name ≡ Some bytes) → length bytes ≤ 16777216 → ((files : Files) (command : Command) → RefusesSo r (AnswersBytes files command bytes)) → IfSome told (λ files. (command : Command) → RefusesSo r (AnswersFile files command (file_of files name)))
file_refused None name bytes r held within h = tt
file_refused (Some files) name bytes r held within h = λ command.
    refuses_through r (AnswersBytes files command bytes) (AnswersFile files command (file_of files name)) (λ a k. file_answers files command (file_of files name) bytes a held within k) (h files command)

pub bytes_refused : {V : Type 0} (told : Option Files) (name bytes : List ℕ) (r : Result V Refusal) → IfSome told (λ files. file_of files name ≡ Some bytes) → length bytes ≤ 16777216
    → IfErr r (λ e. (files : Files) (command : Command) → RefusesSo e (AnswersBytes files command bytes)) → IfSome told (λ files. IfErr r (λ e. (command : Command) → RefusesSo e (AnswersFile files command (file_of files name))))
bytes_refused None name bytes r held within h = tt
bytes_refused (Some files) name bytes (Ok v) held within h = tt
bytes_refused (Some files) name bytes (Err e) held within h = file_refused (Some files) name bytes e held within h

-- what is refused has no tree
abbrev is_parsed : Parsing → Bool
is_parsed (parsed tree) = true
is_parsed (refused rule place) = false

pub not_parsed : (bytes : List ℕ) (rule : SyntaxRule) (place : Place) → Parses bytes (refused rule place) → (tree : SyntaxQuery) → Parses bytes (parsed tree) → ⊥
not_parsed bytes rule place p tree t =
    let same = ap is_parsed (one_parsing bytes (parsed tree) (refused rule place) t p) in cc

abbrev tree_of_parsing : Parsing → SyntaxQuery → SyntaxQuery
tree_of_parsing (parsed tree) other = tree
tree_of_parsing (refused rule place) other = other

pub same_tree : (bytes : List ℕ) (a b : SyntaxQuery) → Parses bytes (parsed a) → Parses bytes (parsed b) → a ≡ b
same_tree bytes a b p q = ap (λ (x : Parsing). tree_of_parsing x a) (one_parsing bytes (parsed a) (parsed b) p q)

pub held_tree : {E : Type 0} (told : Option Files) (name bytes : List ℕ) (r : Result SyntaxQuery E) → IfSome told (λ files. file_of files name ≡ Some bytes) → length bytes ≤ 16777216 → IfOk r (λ tree. Parses bytes (parsed tree))
    → IfSome told (λ files. IfOk r (HoldsThisTree files name))
held_tree None name bytes r held within p = tt
held_tree (Some files) name bytes (Ok tree) held within p = (record { tree = tree; bytes = bytes; held = held; within = within; parses = p }, refl)
held_tree (Some files) name bytes (Err e) held within p = tt

-- a file whose bytes are refused holds none
tree_of_bytes : (files : Files) (name bytes : List ℕ) (read : HoldsSyntax files name) → file_of files name ≡ Some bytes → Parses bytes (parsed read.tree)
tree_of_bytes files name bytes read held =
    let here : file_of files name ≡ Some read.bytes = read.held in
    let same : read.bytes ≡ bytes = cc in
    subst (λ (xs : List ℕ). Parses xs (parsed read.tree)) same read.parses

none_by : (files : Files) (name bytes : List ℕ) (e : Refusal) → file_of files name ≡ Some bytes → AreOfNone bytes e → HoldsNone files name e
none_by files name bytes (Query code place) held h = λ read. h read.tree (tree_of_bytes files name bytes read held)
none_by files name bytes ReadFault held h = tt
none_by files name bytes TooLong held h = absurd h
none_by files name bytes (SchemaFile file fault) held h = tt
none_by files name bytes (Schema rule file list) held h = tt
none_by files name bytes (Binding fault) held h = tt
none_by files name bytes (Document file fault) held h = tt
none_by files name bytes (Dynamic code) held h = tt
none_by files name bytes Memory held h = tt

pub holds_none : {V : Type 0} (told : Option Files) (name bytes : List ℕ) (r : Result V Refusal) → IfSome told (λ files. file_of files name ≡ Some bytes) → IfErr r (AreOfNone bytes) → IfSome told (λ files. IfErr r (HoldsNone files name))
holds_none None name bytes r held h = tt
holds_none (Some files) name bytes (Ok v) held h = tt
holds_none (Some files) name bytes (Err e) held h = none_by files name bytes e held h

-- what a command writes of a query that has a type, and how it refuses
pub typed_output : {Z : Type 0} (told : Option Files) (command : Command) (schemas : SchemaSet) (core : Core) (t : TypedCore) (r : Result (String Z) Refusal) → IfSome told (λ files. HoldsQuery files (query_file command) schemas core) → query_judged schemas core ≡ query_typed t
    → IfSome told (λ files. AnswersSo (AnswersTyped files command schemas core t) r) → IfSome told (λ files. IfOk r (λ text. AnswersCommand files (Some command) (writes (string_bytes text))))
typed_output None command schemas core t r q j h = tt
typed_output (Some files) command schemas core t (Ok text) q j h = query_answers files command schemas core t (writes (string_bytes text)) q j h
typed_output (Some files) command schemas core t (Err e) q j h = tt

pub typed_refused : {Z : Type 0} (told : Option Files) (command : Command) (schemas : SchemaSet) (core : Core) (t : TypedCore) (r : Result (String Z) Refusal) → IfSome told (λ files. HoldsQuery files (query_file command) schemas core) → query_judged schemas core ≡ query_typed t
    → IfSome told (λ files. AnswersSo (AnswersTyped files command schemas core t) r) → IfSome told (λ files. IfErr r (λ e. RefusesSo e (AnswersCommand files (Some command))))
typed_refused None command schemas core t r q j h = tt
typed_refused (Some files) command schemas core t (Ok v) q j h = tt
typed_refused (Some files) command schemas core t (Err e) q j h = refuses_through e (AnswersTyped files command schemas core t) (AnswersCommand files (Some command)) (λ a k. query_answers files command schemas core t a q j k) h

-- the refusal of the query alone
pub query_refused : (told : Option Files) (command : Command) (e : Refusal) → IfSome told (λ files. (asked : Command) → RefusesSo e (AnswersFile files asked (file_of files (query_file command)))) → IfSome told (λ files. RefusesSo e (AnswersCommand files (Some command)))
query_refused None command e h = tt
query_refused (Some files) command e h = h command

-- the Core of the resolved query, where nothing is refused
pub named_so : (schemas : SchemaSet) (tree : SyntaxQuery) (core : Core) → query_refusals schemas tree ≡ [] → core ≡ query_core (query_resolved schemas tree) → query_named schemas tree ≡ named_query core
named_so schemas tree core h e = ap (λ (refusals : List NamedRefusal). unless_refused refusals (query_core (query_resolved schemas tree))) h ∙ ap named_query (sym e)

refused_among : (refusals : List NamedRefusal) (core : Core) (code : Code) (place : Place) → first refusals ≡ Some (record { code = code; place = place })
    → unless_refused refusals core ≡ unknown_name place code
refused_among [] core code place h = absurd (cc)
refused_among (r ∷ rs) core code place h =
    let same : r ≡ record { code = code; place = place } = cc in ap (λ (x : NamedRefusal). unknown_name x.place x.code) same

-- the first refusal of the names
pub refused_so : (schemas : SchemaSet) (tree : SyntaxQuery) (code : Code) (place : Place) (files : Files) (command : Command) → first (query_refusals schemas tree) ≡ Some (record { code = code; place = place })
    → AnswersNamed files command schemas (query_named schemas tree) (refuses status.Query (placed_line code place))
refused_so schemas tree code place files command h =
    subst (λ (n : NamedQuery). AnswersNamed files command schemas n (refuses status.Query (placed_line code place)))
    (sym (refused_among (query_refusals schemas tree) (query_core (query_resolved schemas tree)) code place h)) refl

-- which has the code of a static error
first_static : (refusals : List NamedRefusal) (code : Code) (place : Place) → All IsOfStaticCode refusals → first refusals ≡ Some (record { code = code; place = place }) → is_static code ≡ true
first_static [] code place all h = absurd (cc)
first_static (r ∷ rs) code place all h =
    let same : r ≡ record { code = code; place = place } = cc in
    let here : IsOfStaticCode r = all 0 r (search rules) in
    subst (λ (x : NamedRefusal). IsOfStaticCode x) same here

pub static_name : (schemas : SchemaSet) (tree : SyntaxQuery) (code : Code) (place : Place) → first (query_refusals schemas tree) ≡ Some (record { code = code; place = place }) → is_static code ≡ true
static_name schemas tree code place h = first_static (query_refusals schemas tree) code place (names_are_refused_with_static_codes schemas tree) h

-- a query that typing rejects, too
pub static_type : (schemas : SchemaSet) (core : Core) (place : Place) (code : Code) → query_judged schemas core ≡ query_rejected place code → is_static code ≡ true
static_type schemas core place code h = queries_are_rejected_with_static_codes schemas core place code h
