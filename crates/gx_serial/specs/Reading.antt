-- The names of a written text as they are read (Namespaces in XML 1.0, sections 5 and 6).
use Rattle.std.specs.Prelude.{◌≡◌, ◌≢◌, ◌^◌, ◌<◌, List, [], ◌∷◌, ◌++◌, length, Some}
use Rattle.gx_base.specs.declared.name.Name.{Name}
use Rattle.gx_tree.specs.declared.attribute.Attribute.{Attribute}
use Rattle.gx_tree.specs.PlainTree.{PlainTree, PlainTrees, document, element, attribute, text, no_trees, a_tree}
use Rattle.gx_serial.specs.Binding.{Binding, xml, xml_uri, xmlns, xmlns_uri}
use Rattle.gx_serial.specs.Markup.{WrittenAttribute, Markup, Markups, tagged, characters, several, no_markup, a_markup}
pub use Rattle.gx_tree.specs.Binding.{uri_read, attribute_uri_read}

-- written attributes are read with the URIs, local parts and values of those of the tree
abbrev pub AttributesReadAs : List Binding → List WrittenAttribute → List Attribute → Type 0
AttributesReadAs scope [] [] = Unit {0}
AttributesReadAs scope (w ∷ ws) (a ∷ others) =
    (attribute_uri_read scope w.prefix ≡ Some a.name.uri) × (w.local ≡ a.name.local) × (w.written_value ≡ a.value) × AttributesReadAs scope ws others
AttributesReadAs scope _ _ = ⊥

-- tags and characters are read as the tree, each name with the declarations of its own tag and of those round it
abbrev mutual
  pub ReadsAs : List Binding → Markup → PlainTree → Type 0
  ReadsAs scope (tagged tag content) (element name kind attributes ts) =
      (uri_read (scope ++ tag.declarations) tag.prefix ≡ Some name.uri)
      × (tag.local ≡ name.local)
      × AttributesReadAs (scope ++ tag.declarations) tag.attributes attributes
      × AllReadAs (scope ++ tag.declarations) content ts
  ReadsAs scope (characters t) (text u) = t ≡ u
  ReadsAs scope (several ms) (document ts) = AllReadAs scope ms ts
  ReadsAs scope (several ms) (attribute a) = ms ≡ no_markup
  ReadsAs scope _ _ = ⊥

  pub AllReadAs : List Binding → Markups → PlainTrees → Type 0
  AllReadAs scope no_markup no_trees = Unit {0}
  AllReadAs scope (a_markup m ms) (a_tree t ts) = ReadsAs scope m t × AllReadAs scope ms ts
  AllReadAs scope _ _ = ⊥

-- A name can be written: its prefix has a URI, and neither is that of xmlns. The prefix xml has its own URI, and that URI no other
-- prefix.
pub record IsWritableName (name : Name) : Type 0 where
  pub prefix_has_uri : name.prefix ≢ [] → name.uri ≢ []
  pub not_xmlns : name.prefix ≢ xmlns
  pub not_uri_of_xmlns : name.uri ≢ xmlns_uri
  pub xml_has_its_uri : name.prefix ≡ xml → name.uri ≡ xml_uri
  pub uri_of_xml_is_its : name.uri ≡ xml_uri → name.prefix ≡ xml

-- an attribute's name can be written: besides, it has a prefix where it has a URI
pub record IsWritableAttribute (a : Attribute) : Type 0 where
  pub own_name : IsWritableName a.name
  pub uri_has_prefix : a.name.prefix ≡ [] → a.name.uri ≡ []

abbrev pub AreWritableAttributes : List Attribute → Type 0
AreWritableAttributes [] = Unit {0}
AreWritableAttributes (a ∷ others) = IsWritableAttribute a × AreWritableAttributes others

-- the names of a tree can be written, and its elements have attributes as many as memory can hold
abbrev mutual
  pub IsWritable : PlainTree → Type 0
  IsWritable (document ts) = AreWritable ts
  IsWritable (element name kind attributes ts) =
      IsWritableName name × AreWritableAttributes attributes × (length attributes < 2 ^ 62) × AreWritable ts
  IsWritable (attribute a) = Unit {0}
  IsWritable (text t) = Unit {0}

  pub AreWritable : PlainTrees → Type 0
  AreWritable no_trees = Unit {0}
  AreWritable (a_tree t ts) = IsWritable t × AreWritable ts
