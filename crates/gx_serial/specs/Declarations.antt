-- Which declarations the tags of a document may have (Namespaces in XML 1.0, sections 2, 3, 4 and 6.3).
use Rattle.std.specs.Prelude.{◌≡◌, ◌≢◌, List, [], ◌∷◌, map, false}
use Rattle.gx_serial.specs.Binding.{Binding, xml, xml_uri, xmlns, xmlns_uri, is_prefix_among}
use Rattle.gx_serial.specs.Markup.{Tag, Markup, Markups, tagged, characters, several, no_markup, a_markup}

-- xmlns is not declared, xml with its own URI alone, and nothing else with the URI of either; a prefix has a URI
pub record IsAllowedDeclaration (b : Binding) : Type 0 where
  pub not_xmlns : b.0 ≢ xmlns
  pub not_uri_of_xmlns : b.1 ≢ xmlns_uri
  pub xml_has_its_uri : b.0 ≡ xml → b.1 ≡ xml_uri
  pub uri_of_xml_is_its : b.1 ≡ xml_uri → b.0 ≡ xml
  pub prefix_has_uri : b.0 ≢ [] → b.1 ≢ []

abbrev pub AreAllowedDeclarations : List Binding → Type 0
AreAllowedDeclarations [] = Unit {0}
AreAllowedDeclarations (b ∷ bs) = IsAllowedDeclaration b × AreAllowedDeclarations bs

-- no prefix is declared twice
abbrev pub DeclareOnce : List Binding → Type 0
DeclareOnce [] = Unit {0}
DeclareOnce (b ∷ bs) = (is_prefix_among (map (λ (c : Binding). c.0) bs) b.0 ≡ false) × DeclareOnce bs

pub record IsSoundTag (tag : Tag) : Type 0 where
  pub allowed : AreAllowedDeclarations tag.declarations
  pub declared_once : DeclareOnce tag.declarations

-- each tag, at every depth, has declarations that a document may have
abbrev mutual
  pub HasSoundTags : Markup → Type 0
  HasSoundTags (tagged tag content) = IsSoundTag tag × HaveSoundTags content
  HasSoundTags (characters t) = Unit {0}
  HasSoundTags (several ms) = HaveSoundTags ms

  pub HaveSoundTags : Markups → Type 0
  HaveSoundTags no_markup = Unit {0}
  HaveSoundTags (a_markup m ms) = HasSoundTags m × HaveSoundTags ms
