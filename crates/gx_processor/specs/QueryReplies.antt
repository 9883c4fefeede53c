-- What reading and typing a query says.
use Rattle.std.specs.Prelude.{◌≡◌, ℕ, true, List, ◌∷◌, None, IfSome, IfOk, IfErr, Result}
use Rattle.gx_base.specs.Code.{is_static}
use Rattle.gx_core.specs.QueryMeaning.{plain_query}
use Rattle.gx_io.specs.LibraryUse.{LibraryUse, LoadsOnly}
use Rattle.gx_io.specs.Load.{file_of}
use Rattle.gx_ast.specs.declared.query.Query.{Query}
use Rattle.gx_parse_grammar.specs.Query.{Parses, parsed}
use Rattle.gx_documents.specs.Documents.{Files, DocumentsLoaded}
use Rattle.gx_processor.specs.declared.query.TypedQuery.{TypedQuery}
use Rattle.gx_processor.specs.declared.refusal.Refusal.{Refusal}
use Rattle.gx_processor.specs.declared.refusal.Refusal.TheVariants as refusal
use Rattle.gx_processor.specs.Answer.{AnswersFile}
use Rattle.gx_processor.specs.Command.{Command}
use Rattle.gx_processor.specs.ImportReplies.{AnswersImport, FailsAtSchema}
use Rattle.gx_processor.specs.Loading.{QueryLoads, loads_behind}
use Rattle.gx_processor.specs.NamedQuery.{named_query, query_named}
use Rattle.gx_processor.specs.Query.{HoldsSyntax, HoldsQuery}
use Rattle.gx_processor.specs.SchemaFiles.{schema_requests}
use Rattle.gx_processor.specs.Replies.{RefusesSo, IsOfQuery, IsOfReader, NamesOneOf, OutcomeLoads, OutcomeFailed}

-- a file holds a query with this tree
abbrev pub HoldsThisTree : Files → (name : List ℕ) → Query → Type 0
HoldsThisTree files name tree = (read : HoldsSyntax files name) × (read.tree ≡ tree)

-- the bytes that a rule of syntax refuses are those of no query
abbrev pub AreOfNone : List ℕ → Refusal → Type 0
AreOfNone bytes (refusal.Query code place) = (tree : Query) → Parses bytes (parsed tree) → ⊥
AreOfNone bytes refusal.TooLong = ⊥
AreOfNone bytes _ = Unit {0}

-- the file that is refused holds none, where it can be read
abbrev pub HoldsNone : Files → (name : List ℕ) → Refusal → Type 0
HoldsNone files name refusal.TooLong = HoldsSyntax files name → ⊥
HoldsNone files name (refusal.Query code place) = HoldsSyntax files name → ⊥
HoldsNone files name _ = Unit {0}

-- a refusal of a query that is read
abbrev pub IsOfTree : Refusal → Type 0
IsOfTree (refusal.Query code place) = is_static code ≡ true
IsOfTree (refusal.SchemaFile file fault) = IsOfReader fault
IsOfTree (refusal.Schema rule file name) = Unit {0}
IsOfTree refusal.Memory = Unit {0}
IsOfTree _ = ⊥

-- a query from its tree, behind the load of its file
pub record TreeSo (library : LibraryUse) (tree : Query) (result : Result TypedQuery Refusal) : Type 0 where
  pub loads : List (List ℕ)
  pub loaded : LoadsOnly library loads
  pub answers : AnswersImport library tree (λ (query : TypedQuery). query.schemas) result
  pub named : IfOk result (λ query. query_named query.schemas tree ≡ named_query (plain_query query.core))
  pub told : IfSome (library.files library.before) (λ files. OutcomeLoads (DocumentsLoaded files (schema_requests tree)) loads result)
  pub failed : FailsAtSchema library loads result
  pub of_loads : IfErr result (NamesOneOf loads)
  pub own : IfErr result IsOfTree

-- the query in a file
pub record QuerySo (library : LibraryUse) (file : List ℕ) (result : Result TypedQuery Refusal) : Type 0 where
  pub loads : List (List ℕ)
  pub loaded : LoadsOnly library loads
  pub first : (schemas : List (List ℕ)) × (loads ≡ file ∷ schemas)
  pub held : IfSome (library.files library.before) (λ files. IfOk result (λ query. HoldsQuery files file query.schemas (plain_query query.core)))
  pub refused : IfSome (library.files library.before) (λ files. IfErr result (λ e. (command : Command) → RefusesSo e (AnswersFile files command (file_of files file))))
  pub told : IfSome (library.files library.before) (λ files. OutcomeLoads (QueryLoads files file) loads result)
  pub failed : OutcomeFailed library file loads result
  pub of_loads : IfErr result (NamesOneOf (loads_behind loads))
  pub own : IfErr result IsOfQuery
