-- Namespace declarations in scope, the innermost first, and the names that they expand (Namespaces in XML 1.0, section 6; XML Schema 1.0 part 1, section 3.15.3).
use Rattle.std.specs.Prelude.{ℕ, List, [], ◌∷◌, bytes_eq, Option, Some, None, is_some, unwrap_or, if◌then◌else◌}
use Rattle.std.specs.Option.{option_or}
use Rattle.gx_base.specs.Text.{same_text}
use Rattle.gx_tree.specs.Binding.{xml, xml_uri}
use Rattle.gx_xml.specs.declared.source.Declaration.{Declaration}
use Rattle.gx_qnames.specs.declared.reference.Reference.{Reference}
use Rattle.gx_qnames.specs.Lexical.{prefix_in, local_in}
use Rattle.gx_qnames.specs.Words.{has_spelling}

-- the URI that the first declaration of a prefix gives it
abbrev pub declared_uri : List Declaration → List ℕ → Option (List ℕ)
declared_uri [] prefix = None
declared_uri (d ∷ ds) prefix = if same_text d.prefix prefix then Some d.uri else declared_uri ds prefix

-- without a declaration, a name without a prefix is in no namespace; the prefix xml is always bound
abbrev pub uri_in_scope : List Declaration → List ℕ → Option (List ℕ)
uri_in_scope scope prefix = if has_spelling xml prefix then Some xml_uri else option_or (declared_uri scope prefix) (if bytes_eq prefix [] then Some [] else None)

abbrev pub reference_to : Option (List ℕ) → (prefix local : List ℕ) → Reference
reference_to uri prefix local = record { name = record { uri = unwrap_or uri []; prefix = prefix; local = local }; is_bound = is_some uri }

-- what the name in the value of an attribute refers to
abbrev pub reference_in : List Declaration → (value : List ℕ) → Reference
reference_in scope value = reference_to (uri_in_scope scope (prefix_in value)) (prefix_in value) (local_in value)
