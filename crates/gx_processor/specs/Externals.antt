-- The external variables of a query, and the documents that are asked for in their place.
use Rattle.std.specs.Prelude.{ℕ, List, [], ◌∷◌, Option, None, Some}
use Rattle.gx_base.specs.declared.name.Name.{Name}
use Rattle.gx_types.specs.declared.item_type.ItemType.{ItemType}
use Rattle.gx_types.specs.declared.item_type.ItemType.TheVariants.{Document}
use Rattle.gx_types.specs.SequenceType.{SequenceType, item}
use Rattle.gx_core.specs.Queries.{CoreDeclaration}
use Rattle.gx_core.specs.declared.expression.Declaration.TheVariants.{Global, Function}
use Rattle.gx_documents.specs.Bindings.{files_bound, word_of_name}
use Rattle.gx_documents.specs.Documents.{Asked}

-- their names as words have them, in the order of the declarations
abbrev pub external_words : List CoreDeclaration → List (List ℕ)
external_words [] = []
external_words (Global name binder None ∷ others) = word_of_name name ∷ external_words others
external_words (Function function ∷ others) = external_words others
external_words (Global name binder (Some value) ∷ others) = external_words others

-- the global element as which the document of a variable is validated, if its type names one
abbrev pub root_named : ItemType → Option Name
root_named (Document (Some element)) = element.0
root_named _ = None

abbrev pub root_asked : Option SequenceType → Option Name
root_asked (Some (item kind)) = root_named kind
root_asked _ = None

-- files, one for each of these variables, each with the root that the type of the variable asks for
abbrev pub documents_asked : List CoreDeclaration → (files : List (List ℕ)) → List Asked
documents_asked [] files = []
documents_asked (Function function ∷ others) files = documents_asked others files
documents_asked (Global name binder (Some value) ∷ others) files = documents_asked others files
documents_asked (Global name binder None ∷ others) [] = []
documents_asked (Global name binder None ∷ others) (file ∷ files) = (file, root_asked binder.kind) ∷ documents_asked others files

-- the files that words bind them to
abbrev pub documents_bound : List CoreDeclaration → (bindings : List (List ℕ)) → List Asked
documents_bound declarations bindings = documents_asked declarations (files_bound (external_words declarations) bindings)
