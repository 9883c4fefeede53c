-- The files that the steps of an answer load.
use Rattle.std.specs.Prelude.{◌≡◌, ℕ, true, MatchBool, List, [], ◌∷◌, ◌++◌, map, Option, None, Some, ◌⊎◌}
use Rattle.gx_types.specs.SchemaSet.{SchemaSet}
use Rattle.gx_core.specs.Queries.{Core, TypedCore}
use Rattle.gx_static.specs.QueryJudgement.{query_typed, query_judged}
use Rattle.gx_io.specs.Load.{file_of}
use Rattle.gx_processor.specs.Answer.{Answer, Answers, can_be_written}
use Rattle.gx_tree.specs.PlainTree.{PlainTree}
use Rattle.gx_documents.specs.Bindings.{Misbound, misbound, bound_file, is_one_of}
use Rattle.gx_documents.specs.Documents.{Files, Request, tree_requests, DocumentsLoaded}
use Rattle.gx_processor.specs.Externals.{external_words, documents_bound}
use Rattle.gx_processor.specs.Command.{Command, run_file, check_file, plan_file, command_of}
use Rattle.gx_processor.specs.Query.{HoldsSyntax, HoldsQuery}
use Rattle.gx_processor.specs.SchemaFiles.{schema_requests}

-- the documents that a run of a query that has a type loads: where its value can be written, and the words bind each of its external
-- variables once, those of the variables in order, up to the first that is refused
abbrev pub BoundLoads : Files → Option Misbound → List (Request PlainTree) → (loads : List (List ℕ)) → Type 0
BoundLoads files (Some fault) documents loads = loads ≡ []
BoundLoads files None documents loads = DocumentsLoaded files documents loads

abbrev pub RunLoads : Files → (bindings : List (List ℕ)) → SchemaSet → Core → TypedCore → (loads : List (List ℕ)) → Type 0
RunLoads files bindings schemas core typing loads =
    MatchBool (can_be_written schemas typing)
    (BoundLoads files (misbound (external_words core.declarations) bindings) (tree_requests schemas (documents_bound core.declarations bindings)) loads) (loads ≡ [])

-- the schema files that a query names, behind its file, in order, up to the first that is refused
abbrev pub QueryLoads : Files → (name : List ℕ) → (loads : List (List ℕ)) → Type 0
QueryLoads files name loads =
    ((read : HoldsSyntax files name) × ((rest : List (List ℕ)) × DocumentsLoaded files (schema_requests read.tree) rest × (loads ≡ name ∷ rest)))
    ⊎ ((HoldsSyntax files name → ⊥) × (loads ≡ name ∷ []))

-- a file that holds a query that has a type
pub record HoldsTypedQuery (files : Files) (name : List ℕ) : Type 0 where
  pub schemas : SchemaSet
  pub core : Core
  pub typing : TypedCore
  pub query : HoldsQuery files name schemas core
  pub judgement : query_judged schemas core ≡ query_typed typing

-- a run of a query that has a type loads its documents too
abbrev pub BehindQuery : Files → (name : List ℕ) (bindings : List (List ℕ)) → (loads : List (List ℕ)) → Type 0
BehindQuery files name bindings loads =
    ((typed : HoldsTypedQuery files name) × RunLoads files bindings typed.schemas typed.core typed.typing loads) ⊎ ((HoldsTypedQuery files name → ⊥) × (loads ≡ []))

-- a command loads the file of the query and its schema files, and a run its documents
abbrev pub CommandLoads : Files → Command → (loads : List (List ℕ)) → Type 0
CommandLoads files (check_file name) loads = QueryLoads files name loads
CommandLoads files (plan_file name) loads = QueryLoads files name loads
CommandLoads files (run_file name bindings) loads =
    (front : List (List ℕ)) × (rest : List (List ℕ)) × QueryLoads files name front × BehindQuery files name bindings rest × (loads ≡ front ++ rest)

abbrev pub LoadsAsked : Files → Option Command → (loads : List (List ℕ)) → Type 0
LoadsAsked files None loads = loads ≡ []
LoadsAsked files (Some command) loads = CommandLoads files command loads

abbrev pub LoadsOf : (words : List (List ℕ)) → Files → (loads : List (List ℕ)) → Type 0
LoadsOf words files loads = LoadsAsked files (command_of words) loads

-- the first of these
abbrev pub AreFirstOf : (front whole : List (List ℕ)) → Type 0
AreFirstOf front whole = (rest : List (List ℕ)) × (whole ≡ front ++ rest)

abbrev pub AreBoundFiles : (bindings documents : List (List ℕ)) → Type 0
AreBoundFiles bindings [] = Unit {0}
AreBoundFiles bindings (file ∷ files) = (is_one_of (map bound_file bindings) file ≡ true) × AreBoundFiles bindings files

-- the file of this name is one of the loads
abbrev pub IsOneOfLoads : (loads : List (List ℕ)) → (file : List ℕ) → Type 0
IsOneOfLoads loads file = (front : List (List ℕ)) × (behind : List (List ℕ)) × (loads ≡ front ++ (file ∷ behind))

-- the loads behind the first
abbrev pub loads_behind : List (List ℕ) → List (List ℕ)
loads_behind [] = []
loads_behind (file ∷ files) = files

-- whatever the files are: the file of the query comes first, and then the files that it imports, and those that words bind
abbrev pub MayLoad : Option Command → (loads : List (List ℕ)) → Type 0
MayLoad None loads = loads ≡ []
MayLoad (Some (check_file name)) loads = (schemas : List (List ℕ)) × (loads ≡ name ∷ schemas)
MayLoad (Some (plan_file name)) loads = (schemas : List (List ℕ)) × (loads ≡ name ∷ schemas)
MayLoad (Some (run_file name bindings)) loads =
    (schemas : List (List ℕ)) × (documents : List (List ℕ)) × (loads ≡ name ∷ schemas ++ documents) × AreBoundFiles bindings documents

-- two libraries have the same bytes, or none, under each of these names
abbrev pub AgreeOn : (names : List (List ℕ)) → (files others : Files) → Type 0
AgreeOn [] files others = Unit {0}
AgreeOn (name ∷ names) files others = (file_of files name ≡ file_of others name) × AgreeOn names files others

-- an answer looks at no other files than those that its steps load
abbrev pub AnswersLookAtTheirLoads : Type 0
AnswersLookAtTheirLoads =
    (words : List (List ℕ)) (files others : Files) (loads : List (List ℕ)) (answer : Answer)
    → LoadsOf words files loads → AgreeOn loads files others → Answers words files answer → Answers words others answer
