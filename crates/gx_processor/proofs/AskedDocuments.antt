-- The documents that are asked for in the place of external variables.
use Rattle.std.proofs.Common.{◌≡◌, ℕ, suc, List, [], ◌∷◌, length, Option, None, Some, IfSome, IsSome, inl, inr, sym, ap, subst, refl, arith}
use Rattle.gx_types.specs.SchemaSet.{SchemaSet, global_type}
use Rattle.gx_types.specs.SequenceType.{SequenceType}
use Rattle.gx_model.specs.Forest.{Forest}
use Rattle.gx_core.specs.Queries.{CoreDeclaration}
use Rattle.gx_core.specs.declared.expression.Declaration.TheVariants.{Global, Function}
use Rattle.gx_documents.specs.Bindings.{files_bound}
use Rattle.gx_documents.specs.Documents.{Asked, AreDocumentTrees, AreGlobal, files_asked, tree_requests}
use Rattle.gx_processor.specs.ExternalDocuments.{AreDocumentsOf, IsAskedOfEach, IsDocumentType, ExternalsAreDocuments}
use Rattle.gx_processor.specs.Externals.{external_words, root_asked, documents_asked, documents_bound}

pub length_bound : (externals words : List (List ℕ)) → length (files_bound externals words) ≡ length externals
length_bound [] words = refl
length_bound (name ∷ names) words = ap suc (length_bound names words)

-- each file is asked for once
files_of_asked : (schemas : SchemaSet) (ds : List CoreDeclaration) (names : List (List ℕ)) → length names ≡ length (external_words ds) → files_asked (tree_requests schemas (documents_asked ds names)) ≡ names
files_of_asked schemas [] [] e = refl
files_of_asked schemas [] (name ∷ names) e = absurd (cc)
files_of_asked schemas (Function f ∷ ds) names e = files_of_asked schemas ds names e
files_of_asked schemas (Global name binder (Some value) ∷ ds) names e = files_of_asked schemas ds names e
files_of_asked schemas (Global name binder None ∷ ds) [] e = refl
files_of_asked schemas (Global name binder None ∷ ds) (file ∷ names) e = ap (λ (ns : List (List ℕ)). file ∷ ns) (files_of_asked schemas ds names (omega (arith, e)))

pub files_of_bound : (schemas : SchemaSet) (ds : List CoreDeclaration) (bindings : List (List ℕ)) → files_asked (tree_requests schemas (documents_bound ds bindings)) ≡ files_bound (external_words ds) bindings
files_of_bound schemas ds bindings = files_of_asked schemas ds (files_bound (external_words ds) bindings) (length_bound (external_words ds) bindings)

-- the roots that are asked for are global elements
abbrev RootIsGlobal : SchemaSet → Option SequenceType → Type 0
RootIsGlobal schemas kind = IfSome (root_asked kind) (λ name. IsSome (global_type schemas name))

root_is_global : (schemas : SchemaSet) (kind : Option SequenceType) → IsDocumentType schemas kind → RootIsGlobal schemas kind
root_is_global schemas kind (inl e) = subst (λ (k : Option SequenceType). RootIsGlobal schemas k) (sym e) tt
root_is_global schemas kind (inr (inl e)) = subst (λ (k : Option SequenceType). RootIsGlobal schemas k) (sym e) tt
root_is_global schemas kind (inr (inr h)) = subst (λ (k : Option SequenceType). RootIsGlobal schemas k) (sym h.5) (subst IsSome (sym h.3) refl)

-- the trees of what is asked for
pub documents_of_asked : (schemas : SchemaSet) (ds : List CoreDeclaration) (asked : List Asked) (forest : Forest) → IsAskedOfEach ds asked → AreDocumentTrees schemas asked forest → AreDocumentsOf schemas ds forest
documents_of_asked schemas ds asked forest a h = record {
  names = a.names;
  each = a.each;
  trees = subst (λ (all : List Asked). AreDocumentTrees schemas all forest) a.same h;
}

pub asked_are_global : (schemas : SchemaSet) (ds : List CoreDeclaration) (names : List (List ℕ)) → ExternalsAreDocuments schemas ds → AreGlobal schemas (documents_asked ds names)
asked_are_global schemas [] names h = tt
asked_are_global schemas (Function f ∷ ds) names h = asked_are_global schemas ds names h
asked_are_global schemas (Global name binder (Some value) ∷ ds) names h = asked_are_global schemas ds names h
asked_are_global schemas (Global name binder None ∷ ds) [] h = tt
asked_are_global schemas (Global name binder None ∷ ds) (file ∷ names) h = (root_is_global schemas binder.kind h.0, asked_are_global schemas ds names h.1)

pub each_is_global : (schemas : SchemaSet) (ds : List CoreDeclaration) (asked : List Asked) → ExternalsAreDocuments schemas ds → IsAskedOfEach ds asked → AreGlobal schemas asked
each_is_global schemas ds asked h a = subst (λ (all : List Asked). AreGlobal schemas all) (sym a.same) (asked_are_global schemas ds a.names h)
