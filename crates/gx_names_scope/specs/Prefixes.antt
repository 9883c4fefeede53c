-- Prefixes that a query declares, and those that it may not (XQuery 1.0, section 4.12).
use Rattle.std.specs.Prelude.{Bool, ◌||◌, List, ℕ, codes}
use Rattle.gx_base.specs.declared.place.Place.{Place}
use Rattle.gx_names_scope.specs.Environment.{is_word}

-- the prefixes `xml` and `xmlns` are not declared, and no other prefix is bound to the URI of either
unfoldable pub is_reserved_prefix : List ℕ → Bool
is_reserved_prefix prefix = is_word prefix (codes "xml") || is_word prefix (codes "xmlns")

unfoldable pub is_reserved_uri : List ℕ → Bool
is_reserved_uri uri = is_word uri (codes "http://www.w3.org/XML/1998/namespace") || is_word uri (codes "http://www.w3.org/2000/xmlns/")

-- the prefixes that are declared, with the places of their declarations
abbrev pub DeclaredPrefixes : Type 0
DeclaredPrefixes = List (List ℕ × Place)
