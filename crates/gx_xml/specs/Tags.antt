-- Start tags: their declarations, what their names stand for, and their faults (Namespaces in XML 1.0, sections 3 to 6).
use Rattle.std.specs.Prelude.{ℕ, zero, suc, List, [], ◌∷◌, ◌++◌, map, ◌||◌, ◌&&◌, not, Bool, true, false, if◌then◌else◌, bytes_eq, is_none, unwrap_or, Option, Some, None}
use Rattle.std.specs.List.{list_any}
use Rattle.gx_base.specs.declared.name.Name.{Name}
use Rattle.gx_base.specs.Name.{same_name}
use Rattle.gx_tree.specs.Binding.{Binding, uri_read, attribute_uri_read, xml, xmlns, xml_uri, xmlns_uri}
use Rattle.gx_xml.specs.declared.source.Declaration.{Declaration}
use Rattle.gx_xml.specs.declared.source.SourceAttribute.{SourceAttribute}
use Rattle.gx_xml.specs.declared.tag.TagAttribute.{TagAttribute}
use Rattle.gx_xml.specs.SourceTree.{SourceTree, SourceContents, source}
use Rattle.gx_xml.specs.Tokens.{unbound_prefix, duplicate_attribute, too_deep}

-- A tag so far, in front of which these bindings are in force; `room` is how many elements may stand in one another from it on.
pub record TagSoFar : Type 0 where
  pub room : ℕ
  pub scope : List Binding
  pub prefix : List ℕ
  pub local : List ℕ
  pub declarations : List Declaration
  pub attributes : List TagAttribute

abbrev pub declared_binding : Declaration → Binding
declared_binding d = (d.prefix, d.uri)

-- the bindings in force in the tag and behind it
abbrev pub scope_in : TagSoFar → List Binding
scope_in t = t.scope ++ map declared_binding t.declarations

-- What an attribute of this name is for.
pub data Purpose : Type 0 where
  -- to declare the default namespace
  default_namespace : Purpose
  -- to declare a prefix
  namespace_of : List ℕ → Purpose
  -- none of these
  ordinary : Purpose

abbrev pub purpose_of : (prefix local : List ℕ) → Purpose
purpose_of prefix local =
    if bytes_eq prefix xmlns then (namespace_of local) else (if bytes_eq prefix [] && bytes_eq local xmlns then default_namespace else ordinary)

-- the declaration of the prefix `xml`, whose value is known
abbrev pub declares_xml : Purpose → Bool
declares_xml default_namespace = false
declares_xml (namespace_of p) = bytes_eq p xml
declares_xml ordinary = false

abbrev pub is_reserved_namespace : List ℕ → Bool
is_reserved_namespace uri = bytes_eq uri xml_uri || bytes_eq uri xmlns_uri

-- the value may end here: no other prefix has a reserved URI, and a prefix has one
abbrev pub may_close : Purpose → List ℕ → Bool
may_close default_namespace uri = not (is_reserved_namespace uri)
may_close (namespace_of p) uri = if bytes_eq p xml then bytes_eq uri xml_uri else not (bytes_eq uri [] || is_reserved_namespace uri)
may_close ordinary uri = true

-- the tag with one more attribute
abbrev pub with_attribute : TagSoFar → (prefix local value : List ℕ) → Purpose → TagSoFar
with_attribute t prefix local value default_namespace = record t { declarations = t.declarations ++ record { prefix = []; uri = value } ∷ [] }
with_attribute t prefix local value (namespace_of p) = record t { declarations = t.declarations ++ record { prefix = p; uri = value } ∷ [] }
with_attribute t prefix local value ordinary = record t { attributes = t.attributes ++ record { prefix = prefix; local = local; value = value } ∷ [] }

abbrev pub name_with_uri : Option (List ℕ) → (prefix local : List ℕ) → Name
name_with_uri uri prefix local = record { uri = unwrap_or uri []; prefix = prefix; local = local }

-- the name of the element
abbrev pub tag_name : TagSoFar → Name
tag_name t = name_with_uri (uri_read (scope_in t) t.prefix) t.prefix t.local

abbrev pub expanded_attribute : List Binding → TagAttribute → SourceAttribute
expanded_attribute scope a = record { name = name_with_uri (attribute_uri_read scope a.prefix) a.prefix a.local; value = a.value }

abbrev pub tag_attributes : TagSoFar → List SourceAttribute
tag_attributes t = map (expanded_attribute (scope_in t)) t.attributes

-- the element of the tag
abbrev pub tagged_element : TagSoFar → SourceContents → SourceTree
tagged_element t cs = source (tag_name t) t.declarations (tag_attributes t) cs

-- a prefix of the element or an attribute is not bound
abbrev pub has_unbound : TagSoFar → Bool
has_unbound t = is_none (uri_read (scope_in t) t.prefix) || list_any (λ a. is_none (attribute_uri_read (scope_in t) a.prefix)) t.attributes

-- one of the list is the same as one before it, or as one of those
abbrev pub repeats_behind : {A : Type 0} → (A → A → Bool) → List A → List A → Bool
repeats_behind same earlier [] = false
repeats_behind same earlier (x ∷ xs) = list_any (λ y. same y x) earlier || repeats_behind same (earlier ++ x ∷ []) xs

-- two declarations have one prefix, or two attributes one expanded name
abbrev pub has_doubled : TagSoFar → Bool
has_doubled t = repeats_behind bytes_eq [] (map (λ d. d.prefix) t.declarations) || repeats_behind same_name [] (map (λ a. a.name) (tag_attributes t))

-- the first fault of a start tag
abbrev pub fault_in : Bool → Bool → Option ℕ
fault_in unbound doubled = if unbound then (Some unbound_prefix) else (if doubled then (Some duplicate_attribute) else None)

abbrev pub fault_by_room : ℕ → Option ℕ → Option ℕ
fault_by_room zero fault = Some too_deep
fault_by_room (suc room) fault = fault

unfoldable pub tag_fault : TagSoFar → Option ℕ
tag_fault t = fault_by_room t.room (fault_in (has_unbound t) (has_doubled t))
