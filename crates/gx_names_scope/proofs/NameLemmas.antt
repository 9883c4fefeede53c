-- The URI of a name with a prefix.
use Rattle.std.proofs.Common.{◌≡◌, ◌≢◌, ℕ, List, [], ◌∷◌, Some, refl}
use Rattle.gx_base.specs.Text.{same_text}
use Rattle.gx_resolved.specs.NestedMap.{innermost_value}
use Rattle.gx_names_scope.specs.Environment.{Namespaces, if_not_empty, uri_of}

pub uri_of_prefixed : (namespaces : Namespaces) (unprefixed prefix : List ℕ) → prefix ≢ [] → uri_of namespaces unprefixed prefix ≡ if_not_empty (innermost_value same_text namespaces prefix)
uri_of_prefixed namespaces unprefixed [] h = absurd (h refl)
uri_of_prefixed namespaces unprefixed (c ∷ cs) h = refl

pub uri_of_unprefixed : (namespaces : Namespaces) (unprefixed prefix : List ℕ) → prefix ≡ [] → uri_of namespaces unprefixed prefix ≡ Some unprefixed
uri_of_unprefixed namespaces unprefixed [] h = refl
uri_of_unprefixed namespaces unprefixed (c ∷ cs) h = absurd (cc)

pub not_empty_uri : (uri : List ℕ) → uri ≢ [] → if_not_empty (Some uri) ≡ Some uri
not_empty_uri [] h = absurd (h refl)
not_empty_uri (c ∷ cs) h = refl
