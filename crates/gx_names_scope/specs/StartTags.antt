-- The namespaces that the start tags of direct elements declare (XQuery 1.0, section 3.7.1.2).
use Rattle.std.specs.Prelude.{ℕ, Bool, true, false, not, ◌&&◌, ◌||◌, List, [], ◌∷◌, ◌++◌, codes, Option, None, Some, is_some, drop, if◌then◌else◌}
use Rattle.gx_base.specs.Text.{same_text}
use Rattle.gx_base.specs.declared.place.Place.{Place}
use Rattle.gx_base.specs.declared.code.Code.TheVariants.{XQST0022, XQST0070, XQST0071, XQST0085}
use Rattle.gx_ast.specs.declared.name.QName.{QName}
use Rattle.gx_ast.specs.SyntaxTree.{Attributes, AttributeParts, no_attribute, an_attribute, no_attribute_part, attribute_text, attribute_enclosed}
use Rattle.gx_names_scope.specs.declared.refusal.Refusal.{Refusal}
use Rattle.gx_resolved.specs.NestedMap.{innermost_value}
use Rattle.gx_names_scope.specs.Environment.{Environment, is_word}
use Rattle.gx_names_scope.specs.Refusing.{refused_if}
use Rattle.gx_names_scope.specs.Prefixes.{DeclaredPrefixes, is_reserved_prefix, is_reserved_uri}

-- the name is `xmlns`
unfoldable pub is_xmlns : QName → Bool
is_xmlns name = is_word name.prefix (codes "") && is_word name.local (codes "xmlns")

-- the name begins with `xmlns:`
unfoldable pub is_behind_xmlns : QName → Bool
is_behind_xmlns name = is_word name.prefix (codes "xmlns")

-- the prefix that an attribute of this name declares, if it is a namespace declaration: `xmlns:p` declares p, and `xmlns`, which has
-- no prefix, declares the empty one
abbrev pub declared_prefix : QName → Option (List ℕ)
declared_prefix name = if is_xmlns name then Some name.prefix else if is_behind_xmlns name then Some name.local else None

abbrev pub declares_namespace : QName → Bool
declares_namespace name = is_some (declared_prefix name)

-- ---- the values of declarations

-- the characters of a value, but for enclosed expressions
abbrev pub literal_value : AttributeParts → List ℕ
literal_value no_attribute_part = []
literal_value (attribute_text characters others) = characters ++ literal_value others
literal_value (attribute_enclosed value others) = literal_value others

abbrev pub has_enclosed : AttributeParts → Bool
has_enclosed no_attribute_part = false
has_enclosed (attribute_text characters others) = has_enclosed others
has_enclosed (attribute_enclosed value others) = true

-- ---- what is refused

-- a prefix that is not empty is bound to no namespace
unfoldable pub is_unbinding : (prefix uri : List ℕ) → Bool
is_unbinding prefix uri = not (is_word prefix (codes "")) && is_word uri (codes "")

-- an attribute that declares this prefix, if any, behind those that declare these
abbrev pub namespace_refusals : (earlier : DeclaredPrefixes) → Place → Option (List ℕ) → AttributeParts → List Refusal
namespace_refusals earlier place None value = []
namespace_refusals earlier place (Some prefix) value =
    refused_if (has_enclosed value) place XQST0022
    ++ (refused_if (is_reserved_prefix prefix || is_reserved_uri (literal_value value)) place XQST0070
    ++ (refused_if (is_unbinding prefix (literal_value value)) place XQST0085
    ++ refused_if (is_some (innermost_value same_text earlier prefix)) place XQST0071))

abbrev pub prefixes_with : Place → Option (List ℕ) → DeclaredPrefixes → DeclaredPrefixes
prefixes_with place None earlier = earlier
prefixes_with place (Some prefix) earlier = (prefix, place) ∷ earlier

abbrev pub namespaces_refusals : (earlier : DeclaredPrefixes) → Attributes → List Refusal
namespaces_refusals earlier no_attribute = []
namespaces_refusals earlier (an_attribute name value others) =
    namespace_refusals earlier name.place (declared_prefix name) value
    ++ namespaces_refusals (prefixes_with name.place (declared_prefix name) earlier) others

-- ---- what names stand for in the element, in its own tag too

abbrev pub with_namespace : Option (List ℕ) → AttributeParts → Environment → Environment
with_namespace None value environment = environment
with_namespace (Some prefix) value environment = record environment { namespaces = (prefix, literal_value value) ∷ environment.namespaces }

abbrev pub with_namespaces : Attributes → Environment → Environment
with_namespaces no_attribute environment = environment
with_namespaces (an_attribute name value others) environment = with_namespaces others (with_namespace (declared_prefix name) value environment)

-- without the innermost declaration
abbrev pub without_namespace : Option (List ℕ) → Environment → Environment
without_namespace None environment = environment
without_namespace (Some prefix) environment = record environment { namespaces = drop 1 environment.namespaces }

-- without as many as a tag declares
abbrev pub without_namespaces : Attributes → Environment → Environment
without_namespaces no_attribute environment = environment
without_namespaces (an_attribute name value others) environment = without_namespaces others (without_namespace (declared_prefix name) environment)
