-- The types of external variables.
use Rattle.std.specs.Prelude.{◌≡◌, ℕ, List, [], ◌∷◌, length, Option, None, Some, ◌⊎◌}
use Rattle.std.specs.Bool.{IsTrue}
use Rattle.gx_base.specs.declared.name.Name.{Name}
use Rattle.gx_base.specs.declared.type_name.Builtin.TheVariants.{Untyped}
use Rattle.gx_base.specs.declared.type_name.TypeName.{TypeName}
use Rattle.gx_base.specs.declared.type_name.TypeName.TheVariants.{Builtin}
use Rattle.gx_ast.specs.declared.query.Query.{Query}
use Rattle.gx_types.specs.declared.item_type.ItemType.TheVariants.{Document}
use Rattle.gx_types.specs.SameItemType.{same_type_name}
use Rattle.gx_types.specs.SchemaSet.{SchemaSet, global_type}
use Rattle.gx_types.specs.SequenceType.{SequenceType, item}
use Rattle.gx_model.specs.Forest.{Forest}
use Rattle.gx_core.specs.Queries.{Core, CoreDeclaration}
use Rattle.gx_core.specs.declared.expression.Declaration.TheVariants.{Global, Function}
use Rattle.gx_documents.specs.Documents.{Asked, AreDocumentTrees}
use Rattle.gx_processor.specs.Externals.{external_words, documents_asked}
use Rattle.gx_processor.specs.NamedQuery.{named_query, query_named}

-- document-node(), document-node(element(*, xs:untyped)), and document-node(element(root, kind))
abbrev pub any_document_type : SequenceType
any_document_type = item (Document None)

abbrev pub untyped_document_type : SequenceType
untyped_document_type = item (Document (Some (None, Builtin Untyped)))

abbrev pub document_type_of : (root : Name) (kind : TypeName) → SequenceType
document_type_of root kind = item (Document (Some (Some root, kind)))

-- a type of documents without types, or of those of a global element, which has its declared type
abbrev pub IsDocumentType : SchemaSet → Option SequenceType → Type 0
IsDocumentType schemas kind =
    (kind ≡ Some any_document_type)
    ⊎ ((kind ≡ Some untyped_document_type)
    ⊎ ((root : Name) × (declared : TypeName) × (written : TypeName) × (global_type schemas root ≡ Some declared) × IsTrue (same_type_name declared written) × (kind ≡ Some (document_type_of root written))))

abbrev pub ExternalsAreDocuments : SchemaSet → List CoreDeclaration → Type 0
ExternalsAreDocuments schemas [] = Unit {0}
ExternalsAreDocuments schemas (Function function ∷ others) = ExternalsAreDocuments schemas others
ExternalsAreDocuments schemas (Global name binder (Some value) ∷ others) = ExternalsAreDocuments schemas others
ExternalsAreDocuments schemas (Global name binder None ∷ others) = IsDocumentType schemas binder.kind × ExternalsAreDocuments schemas others

-- each external variable of a query is a document of such a type
abbrev pub NamedQueriesHaveDocuments : Type 0
NamedQueriesHaveDocuments = (schemas : SchemaSet) (query : Query) (core : Core) → query_named schemas query ≡ named_query core → ExternalsAreDocuments schemas core.declarations

-- this is asked of some files, one for each external variable
pub record IsAskedOfEach (declarations : List CoreDeclaration) (asked : List Asked) : Type 0 where
  pub names : List (List ℕ)
  pub each : length names ≡ length (external_words declarations)
  pub same : asked ≡ documents_asked declarations names

-- these are the trees of some documents, one for each external variable
pub record AreDocumentsOf (schemas : SchemaSet) (declarations : List CoreDeclaration) (forest : Forest) : Type 0 where
  pub names : List (List ℕ)
  pub each : length names ≡ length (external_words declarations)
  pub trees : AreDocumentTrees schemas (documents_asked declarations names) forest
