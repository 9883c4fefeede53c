-- The tags of a tree: which prefixes are written, and which are declared.
use Rattle.std.specs.Prelude.{ℕ, List, [], ◌∷◌, ◌++◌, length, drop, map, Option, Some, None, if◌then◌else◌, bytes_eq}
use Rattle.gx_base.specs.declared.name.Name.{Name}
use Rattle.gx_tree.specs.declared.attribute.Attribute.{Attribute}
use Rattle.gx_tree.specs.PlainTree.{PlainTree, PlainTrees, document, element, attribute, text, no_trees, a_tree}
use Rattle.gx_serial.specs.Binding.{Binding, bound_to, needs_declaration, free_prefix}
use Rattle.gx_serial.specs.Markup.{WrittenAttribute, Tag, Markup, Markups, tagged, characters, several, no_markup, a_markup}

-- the prefixes of the names of a tag
abbrev pub prefixes_of : Name → List Attribute → List (List ℕ)
prefixes_of name attributes = name.prefix ∷ map (λ (a : Attribute). a.name.prefix) attributes

-- a tag so far: the prefixes that its names have taken, and the bindings in force
pub record Begun : Type 0 where
  pub taken_bindings : List Binding
  pub scope : List Binding

-- a name takes a prefix for its URI, which is declared where that is needed
abbrev pub with_prefix : Begun → List ℕ → List ℕ → Begun
with_prefix begun prefix uri = record {
  taken_bindings = begun.taken_bindings ++ ((prefix, uri) ∷ []);
  scope = if needs_declaration begun.scope prefix uri then begun.scope ++ ((prefix, uri) ∷ []) else begun.scope;
}

-- a tag after its element's name
abbrev pub begun : List Binding → Name → Begun
begun scope name = with_prefix (record { taken_bindings = []; scope = scope }) name.prefix name.uri

-- a prefix that nothing has taken, or that the URI itself has taken, or else the first free one
abbrev pub unless_taken : Option (List ℕ) → List (List ℕ) → List Binding → List ℕ → List ℕ → List ℕ
unless_taken None used taken prefix uri = prefix
unless_taken (Some bound) used taken prefix uri =
    if bytes_eq bound uri then prefix else free_prefix (used ++ map (λ (b : Binding). b.0) taken)

-- the prefix that is written for an attribute
abbrev pub written_prefix : List (List ℕ) → Begun → Attribute → List ℕ
written_prefix used tag a =
    if bytes_eq a.name.prefix [] then [] else unless_taken (bound_to tag.taken_bindings a.name.prefix) used tag.taken_bindings a.name.prefix a.name.uri

-- the tag after an attribute's name; an attribute without a prefix is in no namespace, and takes none
abbrev pub after_attribute : List (List ℕ) → Begun → Attribute → Begun
after_attribute used tag a =
    if bytes_eq a.name.prefix [] then tag else with_prefix tag (written_prefix used tag a) a.name.uri

abbrev pub after_attributes : List (List ℕ) → Begun → List Attribute → Begun
after_attributes used tag [] = tag
after_attributes used tag (a ∷ others) = after_attributes used (after_attribute used tag a) others

abbrev pub written_attributes : List (List ℕ) → Begun → List Attribute → List WrittenAttribute
written_attributes used tag [] = []
written_attributes used tag (a ∷ others) =
    record { prefix = written_prefix used tag a; local = a.name.local; written_value = a.value }
    ∷ written_attributes used (after_attribute used tag a) others

-- the bindings in force within an element
abbrev pub scope_within : List Binding → Name → List Attribute → List Binding
scope_within scope name attributes = (after_attributes (prefixes_of name attributes) (begun scope name) attributes).scope

-- the start tag of an element
abbrev pub tag_of : List Binding → Name → List Attribute → Tag
tag_of scope name attributes = record {
  prefix = name.prefix;
  local = name.local;
  declarations = drop (length scope) (scope_within scope name attributes);
  attributes = written_attributes (prefixes_of name attributes) (begun scope name) attributes;
}

-- a tree as tags and characters; a document is its children, and an attribute alone is nothing
abbrev mutual
  pub marked : List Binding → PlainTree → Markup
  marked scope (document ts) = several (all_marked scope ts)
  marked scope (element name kind attributes ts) =
      tagged (tag_of scope name attributes) (all_marked (scope_within scope name attributes) ts)
  marked scope (attribute a) = several no_markup
  marked scope (text t) = characters t

  pub all_marked : List Binding → PlainTrees → Markups
  all_marked scope no_trees = no_markup
  all_marked scope (a_tree t ts) = a_markup (marked scope t) (all_marked scope ts)
