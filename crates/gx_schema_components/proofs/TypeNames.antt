-- The names of the types of documents one after another.
use Rattle.std.proofs.Common.{◌≡◌, List, ◌∷◌, ◌++◌, map}
use Rattle.std.proofs.lemmas.List.{map-append}
use Rattle.gx_schema_syntax.specs.declared.written.TypeDeclaration.{TypeDeclaration}
use Rattle.gx_schema_syntax.specs.DocumentTree.{DocumentTree}
use Rattle.gx_schema_components.specs.DeclaredNames.{type_names_in, types_in}

pub type_names_more : (document : DocumentTree) (documents : List DocumentTree)
    → type_names_in (document ∷ documents) ≡ map (λ (t : TypeDeclaration). t.name) document.types ++ type_names_in documents
type_names_more document documents = map-append (λ (t : TypeDeclaration). t.name) document.types (types_in documents)
