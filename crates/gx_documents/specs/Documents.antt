-- Documents in files, and what is kept of them.
use Rattle.std.specs.Prelude.{◌≡◌, ℕ, suc, ◌≤◌, List, [], ◌∷◌, length, map, Option, None, Some, Result, Ok, IsSome, IfSome, ◌⊎◌}
use Rattle.gx_base.specs.declared.limits.TheConstants.{FILE_BYTES}
use Rattle.gx_base.specs.declared.name.Name.{Name}
use Rattle.gx_io.specs.Load.{file_of}
use Rattle.gx_types.specs.SchemaSet.{SchemaSet, global_type}
use Rattle.gx_types.specs.SchemaInvariant.{HoldsOfEach}
use Rattle.gx_tree.specs.PlainTree.{PlainTree}
use Rattle.gx_model.specs.Forest.{Forest, PlainNode}
use Rattle.gx_xml.specs.Reading.{IsDocumentOf}
use Rattle.gx_xml.specs.declared.source.Source.{Source}
use Rattle.gx_xml.specs.SourceTree.{SourceTree}
use Rattle.gx_xml.specs.Untyped.{untyped_document}
use Rattle.gx_base.specs.declared.type_name.Builtin.TheVariants.{Untyped}
use Rattle.gx_base.specs.declared.type_name.TypeName.TheVariants.{Builtin}
use Rattle.gx_types.specs.declared.item_type.ItemType.{ItemType}
use Rattle.gx_types.specs.declared.item_type.ItemType.TheVariants.{Document}
use Rattle.gx_validate.specs.Outcome.{Fault, root_type, validated}
use Rattle.gx_validate.specs.Valid.{IsValidTree}

-- files, each by its name
abbrev pub Files : Type 0
Files = List (List ℕ × List ℕ)

-- a file holds a document with this root, within the limits
pub record HoldsDocument (files : Files) (file : List ℕ) (root : SourceTree) : Type 0 where
  pub bytes : List ℕ
  pub held : file_of files file ≡ Some bytes
  pub within : length bytes ≤ FILE_BYTES
  pub reads : IsDocumentOf bytes root

-- ---- what is asked of files

-- a file, and what its document comes to: what is kept of it, or the first rule of validity that it breaks
pub record Request (T : Type 0) : Type 0 where
  pub file : List ℕ
  pub outcome : SourceTree → Result T Fault

abbrev pub files_asked : {T : Type 0} → List (Request T) → List (List ℕ)
files_asked requests = map (λ request. request.file) requests

-- the document as it is written
abbrev pub source_request : List ℕ → Request Source
source_request file = record { file = file; outcome = λ root. Ok (record { root = root }) }

-- the tree of a document: without types, or, where the name of a global element is asked for, with those of the valid document
abbrev pub tree_asked : SchemaSet → (asked : Option Name) → SourceTree → Result PlainTree Fault
tree_asked schemas None root = Ok (untyped_document root)
tree_asked schemas (Some name) root = validated schemas name root

-- that tree, as the Recommendations have it
abbrev pub IsTreeAsked : SchemaSet → (asked : Option Name) → SourceTree → PlainTree → Type 0
IsTreeAsked schemas None root t = t ≡ untyped_document root
IsTreeAsked schemas (Some name) root t = IsValidTree schemas name root t

-- a file, and the name of the global element as which its document is validated, if it is
abbrev pub Asked : Type 0
Asked = List ℕ × Option Name

abbrev pub tree_request : SchemaSet → Asked → Request PlainTree
tree_request schemas asked = record { file = asked.0; outcome = tree_asked schemas asked.1 }

abbrev pub tree_requests : SchemaSet → List Asked → List (Request PlainTree)
tree_requests schemas asked = map (tree_request schemas) asked

-- the names that are asked for are those of global elements
abbrev pub IsGlobal : SchemaSet → Asked → Type 0
IsGlobal schemas asked = IfSome asked.1 (λ name. IsSome (global_type schemas name))

abbrev pub AreGlobal : SchemaSet → List Asked → Type 0
AreGlobal schemas asked = HoldsOfEach (IsGlobal schemas) asked

-- the type of the document nodes of such trees, beside document-node()
abbrev pub item_asked : SchemaSet → Option Name → ItemType
item_asked schemas None = Document (Some (None, Builtin Untyped))
item_asked schemas (Some root) = Document (Some (Some root, root_type schemas root))

-- ---- what is kept

-- a file holds a document of which this is kept
abbrev pub HoldsKept : {T : Type 0} → Files → Request T → T → Type 0
HoldsKept files request kept = (root : SourceTree) × HoldsDocument files request.file root × (request.outcome root ≡ Ok kept)

-- files hold documents of which this is kept, one behind another
abbrev pub HoldKept : {T : Type 0} → Files → List (Request T) → List T → Type 0
HoldKept files [] [] = Unit {0}
HoldKept files [] (kept ∷ others) = ⊥
HoldKept files (request ∷ requests) [] = ⊥
HoldKept files (request ∷ requests) (kept ∷ others) = HoldsKept files request kept × HoldKept files requests others

-- what is kept of some document
abbrev pub IsKept : {T : Type 0} → Request T → T → Type 0
IsKept request kept = (bytes : List ℕ) × (root : SourceTree) × IsDocumentOf bytes root × (request.outcome root ≡ Ok kept)

abbrev pub AreKept : {T : Type 0} → List (Request T) → List T → Type 0
AreKept [] [] = Unit {0}
AreKept [] (kept ∷ others) = ⊥
AreKept (request ∷ requests) [] = ⊥
AreKept (request ∷ requests) (kept ∷ others) = IsKept request kept × AreKept requests others

-- a file holds a document, of which this is the tree that is asked for
abbrev pub HoldsTree : SchemaSet → Files → Asked → PlainTree → Type 0
HoldsTree schemas files asked t = (root : SourceTree) × HoldsDocument files asked.0 root × IsTreeAsked schemas asked.1 root t

-- files hold documents with these trees, one behind another
abbrev pub HoldTrees : SchemaSet → Files → List Asked → Forest → Type 0
HoldTrees schemas files [] [] = Unit {0}
HoldTrees schemas files [] (t ∷ forest) = ⊥
HoldTrees schemas files (asked ∷ others) [] = ⊥
HoldTrees schemas files (asked ∷ others) (t ∷ forest) = HoldsTree schemas files asked t × HoldTrees schemas files others forest

-- the trees of some documents, of which this is asked
abbrev pub AreDocumentTrees : SchemaSet → List Asked → Forest → Type 0
AreDocumentTrees schemas asked forest = AreKept (tree_requests schemas asked) forest

-- ---- which files are loaded

abbrev pub IsHeld : {T : Type 0} → Files → Request T → Type 0
IsHeld {T} files request = (kept : T) × HoldsKept files request kept

-- all up to the first that is refused
abbrev pub DocumentsLoaded : {T : Type 0} → Files → List (Request T) → (loads : List (List ℕ)) → Type 0
DocumentsLoaded files [] loads = loads ≡ []
DocumentsLoaded files (request ∷ others) loads =
    (IsHeld files request × ((rest : List (List ℕ)) × DocumentsLoaded files others rest × (loads ≡ request.file ∷ rest)))
    ⊎ ((IsHeld files request → ⊥) × (loads ≡ request.file ∷ []))

-- ---- nodes

-- the document node of the tree of a number
abbrev pub document_node : ℕ → PlainNode
document_node number = record { tree = number; path = []; attribute = None }

-- those of all trees, which are numbered from there on
abbrev pub document_nodes_from : ℕ → Forest → List PlainNode
document_nodes_from number [] = []
document_nodes_from number (t ∷ forest) = document_node number ∷ document_nodes_from (suc number) forest

abbrev pub document_nodes : Forest → List PlainNode
document_nodes forest = document_nodes_from 0 forest
