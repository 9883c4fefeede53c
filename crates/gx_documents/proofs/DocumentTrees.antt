-- The trees of documents are honest.
use Rattle.std.proofs.Common.{◌≡◌, ◌↔◌, ℕ, true, List, [], ◌∷◌, ◌++◌, None, Some, Ok, inl, inr, refl, sym, ◌∙◌, ap, subst}
use Rattle.gx_types.specs.SchemaSet.{SchemaSet}
use Rattle.gx_types.specs.SchemaInvariant.{IsSchemaSet}
use Rattle.gx_tree.specs.PlainTree.{PlainTree, document, no_trees, a_tree}
use Rattle.gx_model.specs.Honest.{IsHonestTree}
use Rattle.gx_model.proofs.UntypedTrees.{untyped_is_typed}
use Rattle.gx_xml.specs.Reading.{IsDocumentOf}
use Rattle.gx_xml.specs.Sound.{IsSoundSource}
use Rattle.gx_xml.specs.SourceTree.{SourceTree, source, tree_name}
use Rattle.gx_xml.specs.Untyped.{untyped_document}
use Rattle.gx_xml.proofs.OneReading.{sound_source}
use Rattle.gx_xml.proofs.UntypedDocuments.{document_is_proper, document_is_untyped, document_has_own_names}
use Rattle.gx_base.specs.Name.{same_name}
use Rattle.gx_base.specs.declared.name.Name.{Name}
use Rattle.gx_base.specs.declared.type_name.Builtin.TheVariants.{Untyped}
use Rattle.gx_base.specs.declared.type_name.TypeName.{TypeName}
use Rattle.gx_base.specs.declared.type_name.TypeName.TheVariants.{Builtin}
use Rattle.gx_types.specs.Derivation.{DerivesFrom}
use Rattle.gx_types.specs.declared.item_type.ItemType.TheVariants.{Document}
use Rattle.gx_types.specs.ItemTakes.{ItemTakes}
use Rattle.gx_types.proofs.EqualNames.{names_are_equivalent}
use Rattle.gx_types.proofs.PublicLaws.{derivation_is_a_preorder}
use Rattle.gx_model.specs.Belongs.{shape_of}
use Rattle.gx_xml.specs.declared.source.Declaration.{Declaration}
use Rattle.gx_xml.specs.declared.source.SourceAttribute.{SourceAttribute}
use Rattle.gx_validate.specs.Outcome.{root_type}
use Rattle.gx_validate.specs.Valid.{IsAnnotation, IsTypedTree, IsTreeOfDocument}
use Rattle.gx_validate.proofs.Outcomes as validation
use Rattle.gx_documents.proofs.UntypedTexts.{document_has_separate_texts}
use Rattle.gx_documents.specs.Documents.{Files, Asked, HoldsKept, HoldsTree, IsKept, IsGlobal, item_asked, tree_request}
use Rattle.gx_documents.specs.Laws.{TreesAreThoseAsked, HeldTreesAreKept, RefusedDocumentsHaveNoTrees, DocumentsAreAsAsked, DocumentsAreHonest}

-- the root of a document is sound
document_is_sound : (bytes : List ℕ) (root : SourceTree) → IsDocumentOf bytes root → IsSoundSource root
document_is_sound bytes root h = (sound_source h.0 root h.2.derived).0

untyped_document_is_honest : (schemas : SchemaSet) (bytes : List ℕ) (root : SourceTree) → IsDocumentOf bytes root → IsHonestTree schemas (untyped_document root)
untyped_document_is_honest schemas bytes root h = record {
  proper = document_is_proper root;
  typed = untyped_is_typed schemas (untyped_document root) (document_is_untyped root);
  texts = document_has_separate_texts root (document_is_sound bytes root h);
  names = document_has_own_names bytes root h;
}

pub trees_are_those_asked : TreesAreThoseAsked
trees_are_those_asked schemas (file, None) root t is global sound =
    (λ e. let same : t ≡ untyped_document root = cc in same, λ e. ap (λ (u : PlainTree). Ok u) (sym e))
trees_are_those_asked schemas (file, Some name) root t is global sound = validation.outcomes_are_valid schemas name root t is global sound

held_tree_is_kept : (schemas : SchemaSet) (files : Files) (asked : Asked) (t : PlainTree) → IsSchemaSet schemas → IsGlobal schemas asked → HoldsTree schemas files asked t ↔ HoldsKept files (tree_request schemas asked) t
held_tree_is_kept schemas files asked t is global = (
  λ h. (h.0, h.1, (trees_are_those_asked schemas asked h.0 t is global (document_is_sound h.1.bytes h.0 h.1.reads)).1 h.2),
  λ h. (h.0, h.1, (trees_are_those_asked schemas asked h.0 t is global (document_is_sound h.1.bytes h.0 h.1.reads)).0 h.2),
)

pub held_trees_are_kept : HeldTreesAreKept
held_trees_are_kept schemas files [] [] is global = (λ h. tt, λ h. tt)
held_trees_are_kept schemas files [] (t ∷ forest) is global = (λ h. absurd h, λ h. absurd h)
held_trees_are_kept schemas files (asked ∷ others) [] is global = (λ h. absurd h, λ h. absurd h)
held_trees_are_kept schemas files (asked ∷ others) (t ∷ forest) is global =
    let one = held_tree_is_kept schemas files asked t is global.0 in
    let rest = held_trees_are_kept schemas files others forest is global.1 in
    (λ h. (one.0 h.0, rest.0 h.1), λ h. (one.1 h.0, rest.1 h.1))

pub refused_documents_have_no_trees : RefusedDocumentsHaveNoTrees
refused_documents_have_no_trees schemas (file, None) root is global sound =
    (λ h. let e = h.1 in absurd (cc), λ none. absurd (none (untyped_document root) refl))
refused_documents_have_no_trees schemas (file, Some name) root is global sound = validation.faults_exclude_trees schemas name root is global sound

-- ---- the types of document nodes

-- that of a document without types
untyped_as_asked : (schemas : SchemaSet) (root : SourceTree) → ItemTakes schemas (Document None) (shape_of (untyped_document root)) × ItemTakes schemas (item_asked schemas None) (shape_of (untyped_document root))
untyped_as_asked schemas (source name declarations attributes cs) = (tt, (refl, derivation_is_a_preorder.reflexive schemas (Builtin Untyped)))

-- that of a valid one
annotation_derives : (schemas : SchemaSet) (scope : List Declaration) (declared kind : TypeName) (attributes : List SourceAttribute) → IsAnnotation schemas scope declared attributes kind → DerivesFrom schemas kind declared
annotation_derives schemas scope declared kind attributes (inl h) = subst (λ (t : TypeName). DerivesFrom schemas t declared) (sym h.1) (derivation_is_a_preorder.reflexive schemas declared)
annotation_derives schemas scope declared kind attributes (inr h) = h.3

top_as_asked : (schemas : SchemaSet) (name : Name) (u : SourceTree) (top : PlainTree) → same_name (tree_name u) name ≡ true → IsTypedTree schemas [] (root_type schemas name) u top
    → ItemTakes schemas (Document None) (shape_of (document (a_tree top no_trees))) × ItemTakes schemas (item_asked schemas (Some name)) (shape_of (document (a_tree top no_trees)))
top_as_asked schemas name (source own declarations attributes cs) top named h =
    subst (λ (t : PlainTree). ItemTakes schemas (Document None) (shape_of (document (a_tree t no_trees))) × ItemTakes schemas (item_asked schemas (Some name)) (shape_of (document (a_tree t no_trees)))) (sym h.3)
    (tt, (sym (names_are_equivalent.symm own name) ∙ named, annotation_derives schemas (declarations ++ []) (root_type schemas name) h.0 attributes h.4.annotation))

valid_as_asked : (schemas : SchemaSet) (name : Name) (u : SourceTree) (t : PlainTree) → IsTreeOfDocument schemas name u t → ItemTakes schemas (Document None) (shape_of t) × ItemTakes schemas (item_asked schemas (Some name)) (shape_of t)
valid_as_asked schemas name u t h =
    subst (λ (v : PlainTree). ItemTakes schemas (Document None) (shape_of v) × ItemTakes schemas (item_asked schemas (Some name)) (shape_of v)) (sym h.whole) (top_as_asked schemas name u h.top h.named h.of_root)

pub documents_are_as_asked : DocumentsAreAsAsked
documents_are_as_asked schemas (file, None) t is global (bytes, root, h, e) =
    let same : untyped_document root ≡ t = cc in
    subst (λ (u : PlainTree). ItemTakes schemas (Document None) (shape_of u) × ItemTakes schemas (item_asked schemas None) (shape_of u)) same (untyped_as_asked schemas root)
documents_are_as_asked schemas (file, Some name) t is global (bytes, root, h, e) =
    let valid = (validation.outcomes_are_valid schemas name root t is global (document_is_sound bytes root h)).0 e in valid_as_asked schemas name root t valid.of_document

-- ---- honesty

tree_is_honest : (schemas : SchemaSet) (asked : Asked) (t : PlainTree) → IsSchemaSet schemas → IsGlobal schemas asked → IsKept (tree_request schemas asked) t → IsHonestTree schemas t
tree_is_honest schemas (file, None) t is global (bytes, root, h, e) =
    let same : untyped_document root ≡ t = cc in subst (IsHonestTree schemas) same (untyped_document_is_honest schemas bytes root h)
tree_is_honest schemas (file, Some name) t is global (bytes, root, h, e) =
    let valid = (validation.outcomes_are_valid schemas name root t is global (document_is_sound bytes root h)).0 e in valid.honest

pub documents_are_honest : DocumentsAreHonest
documents_are_honest schemas [] [] is global h = tt
documents_are_honest schemas [] (t ∷ forest) is global h = absurd h
documents_are_honest schemas (asked ∷ others) [] is global h = absurd h
documents_are_honest schemas (asked ∷ others) (t ∷ forest) is global h =
    (tree_is_honest schemas asked t is global.0 h.0, documents_are_honest schemas others forest is global.1 h.1)
