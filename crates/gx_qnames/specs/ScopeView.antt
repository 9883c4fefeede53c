-- The declarations that the code's scopes stand for.
use Rattle.std.specs.Prelude.{List, [], ◌∷◌, ◌++◌}
use Rattle.std.specs.Borrow.{Bor}
use Rattle.gx_xml.specs.declared.source.Declaration.{Declaration}
use Rattle.gx_qnames.specs.declared.scope.Scope.{Scope}

abbrev pub declared_in_tags : List (Bor (List Declaration)) → List Declaration
declared_in_tags [] = []
declared_in_tags (tag ∷ tags) = tag.now ++ declared_in_tags tags

abbrev pub declared_in : Scope → List Declaration
declared_in scope = declared_in_tags scope.tags.items
