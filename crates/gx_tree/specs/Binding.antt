-- Prefixes and the URIs that they are bound to (Namespaces in XML 1.0).
use Rattle.std.specs.Prelude.{ℕ, List, [], ◌∷◌, bytes_eq, Option, Some, None, if◌then◌else◌, codes}

-- a prefix with its URI; the empty prefix stands for the default namespace, and the empty URI for no namespace
abbrev pub Binding : Type 0
Binding = List ℕ × List ℕ

-- the later one, if there is one
abbrev pub last_of : Option (List ℕ) → Option (List ℕ) → Option (List ℕ)
last_of first None = first
last_of first (Some uri) = Some uri

-- the URI that the last of these bindings of a prefix gives it
abbrev pub bound_to : List Binding → List ℕ → Option (List ℕ)
bound_to [] prefix = None
bound_to (b ∷ bs) prefix = last_of (if bytes_eq b.0 prefix then Some b.1 else None) (bound_to bs prefix)

-- the prefix xml
abbrev pub xml : List ℕ
xml = codes "xml"

-- the URI that the prefix xml is always bound to
abbrev pub xml_uri : List ℕ
xml_uri = codes "http://www.w3.org/XML/1998/namespace"

-- the prefix xmlns, which declares prefixes
abbrev pub xmlns : List ℕ
xmlns = codes "xmlns"

-- the URI that the prefix xmlns is always bound to
abbrev pub xmlns_uri : List ℕ
xmlns_uri = codes "http://www.w3.org/2000/xmlns/"

-- where nothing is declared, a name without a prefix is in no namespace
abbrev pub outermost_scope : List Binding
outermost_scope = ([], []) ∷ []

-- the URI of a prefix where these bindings are in force; the prefix xml is always bound
abbrev pub uri_read : List Binding → List ℕ → Option (List ℕ)
uri_read scope prefix = if bytes_eq prefix xml then Some xml_uri else bound_to scope prefix

-- the URI of an attribute's name; a default declaration does not apply to it
abbrev pub attribute_uri_read : List Binding → List ℕ → Option (List ℕ)
attribute_uri_read scope prefix = if bytes_eq prefix [] then Some [] else uri_read scope prefix
