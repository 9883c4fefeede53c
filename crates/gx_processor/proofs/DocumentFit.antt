-- Documents are of the types of external variables.
use Rattle.std.proofs.Common.{◌≡◌, ◌≢◌, ℕ, suc, ◌+◌, List, [], ◌∷◌, ◌++◌, length, Option, None, Some, inl, inr, refl, sym, ap, subst, arith, append_assoc, option_map}
use Rattle.std.specs.Prelude.{unwrap_or, IsSome}
use Rattle.std.specs.List.{slice_get}
use Rattle.gx_base.specs.declared.limits.TheConstants.{ACTIVE_CALLS}
use Rattle.gx_base.specs.declared.name.Name.{Name}
use Rattle.gx_base.specs.declared.type_name.Builtin.TheVariants.{Untyped}
use Rattle.gx_base.specs.declared.type_name.TypeName.{TypeName}
use Rattle.gx_base.specs.declared.type_name.TypeName.TheVariants.{Builtin}
use Rattle.gx_types.specs.declared.item_type.ItemType.{ItemType}
use Rattle.gx_types.specs.declared.item_type.ItemType.TheVariants.{Document}
use Rattle.gx_types.specs.SchemaSet.{SchemaSet, global_type}
use Rattle.gx_types.specs.SchemaInvariant.{IsSchemaSet}
use Rattle.gx_types.specs.declared.shape.Shape.{Shape}
use Rattle.gx_types.specs.declared.shape.Shape.TheVariants.{Doc, Elem, Attr, Text, Atom}
use Rattle.gx_types.specs.ItemTakes.{ItemTakes}
use Rattle.gx_types.specs.SameItemType.{same_type_name}
use Rattle.gx_types.proofs.EqualNames.{type_name_itself}
use Rattle.gx_types.proofs.PublicLaws.{derivation_looks_at_no_prefix}
use Rattle.std.specs.Bool.{IsTrue}
use Rattle.gx_types.specs.SequenceType.{SequenceType, item}
use Rattle.gx_tree.specs.PlainTree.{PlainTree}
use Rattle.gx_model.specs.Forest.{Forest, node_in}
use Rattle.gx_model.specs.Honest.{IsHonest}
use Rattle.gx_model.specs.Item.{node, Items}
use Rattle.gx_model.specs.Belongs.{Belongs, shape_of}
use Rattle.gx_core.specs.Queries.{TypedCore, CoreDeclaration}
use Rattle.gx_core.specs.declared.expression.Declaration.TheVariants.{Global, Function}
use Rattle.gx_core.specs.Outcome.{Outcome, gives, raises, wrong}
use Rattle.gx_core.specs.Soundness.{Setting, typed_setting, Keeps}
use Rattle.gx_core.specs.QueryMeaning.{IsDeclaredSo, DocumentsFit, plain_query, query_outcome, query_type, IsSoundQuery, SoundQueriesKeepTheirTypes}
use Rattle.gx_documents.specs.Documents.{AreDocumentTrees, IsKept, document_node, document_nodes_from, document_nodes, tree_request}
use Rattle.gx_documents.specs.Laws.{DocumentsAreAsAsked, DocumentsAreHonest}
use Rattle.gx_processor.specs.ExternalDocuments.{IsDocumentType, ExternalsAreDocuments, AreDocumentsOf}
use Rattle.gx_processor.specs.Externals.{external_words, root_asked, documents_asked}
use Rattle.gx_processor.proofs.AskedDocuments.{asked_are_global}

tree_at_end : (front rest : Forest) (t : PlainTree) → slice_get (front ++ t ∷ rest) (length front) ≡ Some t
tree_at_end [] rest t = refl
tree_at_end (u ∷ front) rest t = tree_at_end front rest t

-- the node of a tree behind others
node_there : (front rest : Forest) (t : PlainTree) → node_in (front ++ t ∷ rest) (document_node (length front)) ≡ Some t
node_there front rest t = rw (tree_at_end front rest t) refl

belongs_to : (s : SchemaSet) (front rest : Forest) (t : PlainTree) (kind : ItemType) → ItemTakes s kind (shape_of t) → Belongs s (front ++ t ∷ rest) (node (document_node (length front)) ∷ []) (item kind)
belongs_to s front rest t kind h = record {
  seen = shape_of t ∷ [];
  shaped = (ap (option_map shape_of) (node_there front rest t), tt, tt);
  taken = (shape_of t, refl, h);
}

module _ (fits : DocumentsAreAsAsked) (s : SchemaSet) (invariant : IsSchemaSet s) where
  -- the node of a tree that is kept is of the type of its variable
  abbrev Declares : Forest → Forest → PlainTree → Option SequenceType → Type 0
  Declares front rest t kind = IsKept (tree_request s ([], root_asked kind)) t → IsDeclaredSo s (front ++ t ∷ rest) kind (document_node (length front))

  any_declared : (front rest : Forest) (t : PlainTree) → Declares front rest t (Some (item (Document None)))
  any_declared front rest t h = belongs_to s front rest t (Document None) (fits s ([], None) t invariant tt h).0

  untyped_declared : (front rest : Forest) (t : PlainTree) → Declares front rest t (Some (item (Document (Some (None, Builtin Untyped)))))
  untyped_declared front rest t h = belongs_to s front rest t (Document (Some (None, Builtin Untyped))) (fits s ([], None) t invariant tt h).1

  -- a type by another prefix takes the same documents
  written_takes : (shape : Shape) (root : Name) (declared written : TypeName) → IsTrue (same_type_name declared written) → ItemTakes s (Document (Some (Some root, declared))) shape → ItemTakes s (Document (Some (Some root, written))) shape
  written_takes (Doc (Some child)) root declared written same h = (h.0, derivation_looks_at_no_prefix s child.1 child.1 declared written (type_name_itself child.1) same h.1)
  written_takes (Doc None) root declared written same h = absurd h
  written_takes (Elem name kind) root declared written same h = absurd h
  written_takes (Attr name kind) root declared written same h = absurd h
  written_takes Text root declared written same h = absurd h
  written_takes (Atom kind) root declared written same h = absurd h

  typed_declared : (front rest : Forest) (t : PlainTree) (root : Name) (declared written : TypeName) → global_type s root ≡ Some declared → IsTrue (same_type_name declared written) → Declares front rest t (Some (item (Document (Some (Some root, written)))))
  typed_declared front rest t root declared written e same h =
      belongs_to s front rest t (Document (Some (Some root, written)))
      (written_takes (shape_of t) root declared written same
      (subst (λ (kind : TypeName). ItemTakes s (Document (Some (Some root, kind))) (shape_of t)) (ap (λ (o : Option TypeName). unwrap_or o (Builtin Untyped)) e)
      (fits s ([], Some root) t invariant (subst IsSome (sym e) refl) h).1))

  declared_so : (front rest : Forest) (t : PlainTree) (kind : Option SequenceType) → IsDocumentType s kind → Declares front rest t kind
  declared_so front rest t kind (inl e) = subst (λ (k : Option SequenceType). Declares front rest t k) (sym e) (any_declared front rest t)
  declared_so front rest t kind (inr (inl e)) = subst (λ (k : Option SequenceType). Declares front rest t k) (sym e) (untyped_declared front rest t)
  declared_so front rest t kind (inr (inr h)) = subst (λ (k : Option SequenceType). Declares front rest t k) (sym h.5) (typed_declared front rest t h.0 h.1 h.2 h.3 h.4)

  length_more : (front : Forest) (t : PlainTree) → length (front ++ t ∷ []) ≡ suc (length front)
  length_more [] t = refl
  length_more (u ∷ front) t = ap suc (length_more front t)

  -- a document for each external variable, in order
  fit_behind : (ds : List CoreDeclaration) (names : List (List ℕ)) (front rest : Forest) → ExternalsAreDocuments s ds → length names ≡ length (external_words ds) → AreDocumentTrees s (documents_asked ds names) rest
      → DocumentsFit s (front ++ rest) ds (document_nodes_from (length front) rest)
  fit_behind [] names front rest u e h = tt
  fit_behind (Function f ∷ ds) names front rest u e h = fit_behind ds names front rest u e h
  fit_behind (Global name binder (Some value) ∷ ds) names front rest u e h = fit_behind ds names front rest u e h
  fit_behind (Global name binder None ∷ ds) [] front rest u e h = absurd (cc)
  fit_behind (Global name binder None ∷ ds) (file ∷ names) front [] u e h = absurd h
  fit_behind (Global name binder None ∷ ds) (file ∷ names) front (t ∷ rest) u e h = (
    declared_so front rest t binder.kind u.0 h.0,
    subst (λ (forest : Forest). DocumentsFit s forest ds (document_nodes_from (suc (length front)) rest)) (append_assoc front (t ∷ []) rest)
        (subst (λ (n : ℕ). DocumentsFit s ((front ++ t ∷ []) ++ rest) ds (document_nodes_from n rest)) (length_more front t)
        (fit_behind ds names (front ++ t ∷ []) rest u.1 (omega (arith, e)) h.1)),
  )

  pub documents_fit : (ds : List CoreDeclaration) (forest : Forest) → ExternalsAreDocuments s ds → AreDocumentsOf s ds forest → DocumentsFit s forest ds (document_nodes forest)
  documents_fit ds forest u h = fit_behind ds h.names [] forest u h.each h.trees

-- a query that is typed soundly does not go wrong on documents
kept_is_not_wrong : (setting : Setting) (before : Forest) (t : SequenceType) (o : Outcome Items) → Keeps setting before t o → o ≢ wrong
kept_is_not_wrong setting before t (gives items forest) k = λ e. cc
kept_is_not_wrong setting before t (raises code) k = λ e. cc
kept_is_not_wrong setting before t wrong k = absurd k

pub documents_honest : DocumentsAreHonest → (schemas : SchemaSet) (core : TypedCore) (forest : Forest) → IsSchemaSet schemas → ExternalsAreDocuments schemas (plain_query core).declarations
    → AreDocumentsOf schemas (plain_query core).declarations forest → IsHonest schemas forest
documents_honest honest schemas core forest invariant externals documents =
    honest schemas (documents_asked (plain_query core).declarations documents.names) forest invariant (asked_are_global schemas (plain_query core).declarations documents.names externals) documents.trees

pub sound_is_not_wrong : SoundQueriesKeepTheirTypes → DocumentsAreHonest → DocumentsAreAsAsked → (schemas : SchemaSet) (core : TypedCore) (forest : Forest) → IsSchemaSet schemas → IsSoundQuery schemas core
    → ExternalsAreDocuments schemas (plain_query core).declarations → AreDocumentsOf schemas (plain_query core).declarations forest → query_outcome schemas (plain_query core) (document_nodes forest) forest ≢ wrong
sound_is_not_wrong keep honest fits schemas core forest invariant sound externals documents =
    kept_is_not_wrong (typed_setting schemas) forest (query_type core) (query_outcome schemas (plain_query core) (document_nodes forest) forest)
    (keep ACTIVE_CALLS schemas core (document_nodes forest) forest
    (documents_honest honest schemas core forest invariant externals documents)
    (documents_fit fits schemas invariant (plain_query core).declarations forest externals documents) sound)
