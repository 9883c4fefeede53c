-- Laws of documents.
use Rattle.std.specs.Prelude.{◌≡◌, ◌↔◌, List, None, Ok, Err}
use Rattle.gx_tree.specs.PlainTree.{PlainTree}
use Rattle.gx_types.specs.SchemaSet.{SchemaSet}
use Rattle.gx_types.specs.SchemaInvariant.{IsSchemaSet}
use Rattle.gx_model.specs.Forest.{Forest}
use Rattle.gx_model.specs.Honest.{IsHonest}
use Rattle.gx_xml.specs.SourceTree.{SourceTree}
use Rattle.gx_xml.specs.Sound.{IsSoundSource}
use Rattle.gx_validate.specs.Outcome.{Fault}
use Rattle.gx_documents.specs.Documents.{Files, Asked, AreDocumentTrees, AreGlobal, HoldKept, HoldTrees, IsGlobal, IsKept, IsTreeAsked, item_asked, tree_asked, tree_request, tree_requests}
use Rattle.gx_types.specs.declared.item_type.ItemType.TheVariants.{Document}
use Rattle.gx_types.specs.ItemTakes.{ItemTakes}
use Rattle.gx_model.specs.Belongs.{shape_of}

-- a tree is kept of a document exactly where it is the one that is asked for
abbrev pub TreesAreThoseAsked : Type 0
TreesAreThoseAsked =
    (schemas : SchemaSet) (asked : Asked) (root : SourceTree) (t : PlainTree) → IsSchemaSet schemas → IsGlobal schemas asked → IsSoundSource root
    → (tree_asked schemas asked.1 root ≡ Ok t) ↔ IsTreeAsked schemas asked.1 root t

-- so files hold documents with the trees that are asked for exactly where these trees are kept of them
abbrev pub HeldTreesAreKept : Type 0
HeldTreesAreKept =
    (schemas : SchemaSet) (files : Files) (asked : List Asked) (forest : Forest) → IsSchemaSet schemas → AreGlobal schemas asked
    → HoldTrees schemas files asked forest ↔ HoldKept files (tree_requests schemas asked) forest

-- a document has a fault exactly where there is no such tree
abbrev pub RefusedDocumentsHaveNoTrees : Type 0
RefusedDocumentsHaveNoTrees =
    (schemas : SchemaSet) (asked : Asked) (root : SourceTree) → IsSchemaSet schemas → IsGlobal schemas asked → IsSoundSource root
    → ((fault : Fault) × (tree_asked schemas asked.1 root ≡ Err fault)) ↔ ((t : PlainTree) → IsTreeAsked schemas asked.1 root t → ⊥)

-- the document node of a tree is of the type that is asked for
abbrev pub DocumentsAreAsAsked : Type 0
DocumentsAreAsAsked =
    (schemas : SchemaSet) (asked : Asked) (t : PlainTree) → IsSchemaSet schemas → IsGlobal schemas asked → IsKept (tree_request schemas asked) t
    → ItemTakes schemas (Document None) (shape_of t) × ItemTakes schemas (item_asked schemas asked.1) (shape_of t)

-- the trees of documents make an honest forest
abbrev pub DocumentsAreHonest : Type 0
DocumentsAreHonest =
    (schemas : SchemaSet) (asked : List Asked) (forest : Forest) → IsSchemaSet schemas → AreGlobal schemas asked → AreDocumentTrees schemas asked forest → IsHonest schemas forest
