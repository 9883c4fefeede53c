-- Prefixes and the URIs that they are bound to (Namespaces in XML 1.0).
use Rattle.std.specs.Prelude.{ℕ, zero, suc, ◌+◌, List, ◌++◌, length, Bool, false, not, ◌&&◌, bytes_eq, Option, Some, None, if◌then◌else◌, codes, decimal}
use Rattle.std.specs.List.{list_any}
pub use Rattle.gx_tree.specs.Binding.{Binding, last_of, bound_to, xml, xml_uri, xmlns, xmlns_uri, outermost_scope}

-- two bindings, where there are any, give one URI
abbrev pub gives : Option (List ℕ) → List ℕ → Bool
gives None uri = false
gives (Some bound) uri = bytes_eq bound uri

-- a prefix has to be declared: it is not xml, and no binding in force gives it the URI
abbrev pub needs_declaration : List Binding → List ℕ → List ℕ → Bool
needs_declaration scope prefix uri = not (bytes_eq prefix xml) && not (gives (bound_to scope prefix) uri)

-- the prefix nsk
abbrev pub numbered_prefix : ℕ → List ℕ
numbered_prefix k = codes "ns" ++ decimal k

abbrev pub is_prefix_among : List (List ℕ) → List ℕ → Bool
is_prefix_among prefixes prefix = list_any (λ used. bytes_eq used prefix) prefixes

-- the first number from k on whose prefix is not among these, passing over so many at most
unfoldable pub free_number : List (List ℕ) → ℕ → ℕ → ℕ
free_number used zero k = k
free_number used (suc spare) k = if is_prefix_among used (numbered_prefix k) then free_number used spare (k + 1) else k

-- the first of ns1, ns2, .. that is not among these
abbrev pub free_prefix : List (List ℕ) → List ℕ
free_prefix used = numbered_prefix (free_number used (length used) 1)
