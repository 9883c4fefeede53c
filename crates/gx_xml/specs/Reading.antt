-- What the reading of a document says.
use Rattle.std.specs.Prelude.{◌≡◌, ℕ, ◌+◌, ◌-◌, ◌==◌, if◌then◌else◌, true, List, [], ◌∷◌, length, min, take, encode_utf8_all}
use Rattle.std.specs.Str.{all_scalars}
use Rattle.gx_base.specs.declared.place.Place.{Place}
use Rattle.gx_grammar.specs.Decoding.{IsUnreadableAt}
use Rattle.gx_grammar.specs.Places.{place_at}
use Rattle.gx_grammar.specs.Text.{HasValue, IsUnfit, IsFaulty}
use Rattle.gx_xml.specs.declared.refusal.XmlRule.{XmlRule}
use Rattle.gx_xml.specs.declared.refusal.XmlRule.TheVariants as xml_rule
use Rattle.gx_xml.specs.declared.refusal.XmlRefusal.{XmlRefusal}
use Rattle.gx_xml.specs.declared.refusal.XmlRefusal.TheVariants.{Refused, Memory}
use Rattle.gx_xml.specs.declared.reader.End.{End}
use Rattle.gx_xml.specs.declared.reader.End.TheVariants as ended
use Rattle.gx_xml.specs.SourceTree.{SourceTree}
use Rattle.gx_xml.specs.Nodes.{rooted}
use Rattle.gx_xml.specs.Tokens.{doctype, unbound_prefix, duplicate_attribute, too_deep}
use Rattle.gx_xml.specs.Grammar.{whole_document, documents}

-- the bytes are the UTF-8 of these characters
pub record Encodes (bytes text : List ℕ) : Type 0 where
  pub spelled : encode_utf8_all text ≡ bytes
  pub scalars : all_scalars text ≡ true

-- the text is a document with this root, and with no other
abbrev pub IsDocument : List ℕ → SourceTree → Type 0
IsDocument text root = HasValue documents whole_document text (rooted root)

-- the position of the last `<`, where `found` is that of the last one before, and the characters are counted from n
abbrev pub last_less_from : (found n : ℕ) → List ℕ → ℕ
last_less_from found n [] = found
last_less_from found n (c ∷ x) = last_less_from (if c == 60 then n else found) (n + 1) x

-- the position of the last `<` of a text, or 0 where there is none
abbrev pub last_less : List ℕ → ℕ
last_less x = last_less_from 0 0 x

-- Nothing fits behind the place, which is the end of the longest front of the text that a document may begin with.
pub record IsMalformed (text : List ℕ) (place : Place) : Type 0 where
  pub far : ℕ
  pub unfit : IsUnfit documents whole_document text far
  pub at : place ≡ place_at text (length text - far)

-- A document type declaration stands at the place, where the root may stand.
pub record HasDoctype (text : List ℕ) (place : Place) : Type 0 where
  pub left : ℕ
  pub fault : IsFaulty documents whole_document text doctype left
  pub at : place ≡ place_at text (length text - left)

-- A start tag with this fault ends in front of the last `left` characters. Its `<` is the last one before, since none stands
-- within a tag.
pub record HasTagFault (text : List ℕ) (code : ℕ) (place : Place) : Type 0 where
  pub left : ℕ
  pub fault : IsFaulty documents whole_document text code left
  pub at : place ≡ place_at text (last_less (take (length text - left) text))

-- why a text is refused
abbrev pub IsRefusedBy : XmlRule → List ℕ → Place → Type 0
IsRefusedBy xml_rule.NotUtf8 text place = ⊥
IsRefusedBy xml_rule.Malformed text place = IsMalformed text place
IsRefusedBy xml_rule.Doctype text place = HasDoctype text place
IsRefusedBy xml_rule.UnboundPrefix text place = HasTagFault text unbound_prefix place
IsRefusedBy xml_rule.DuplicateAttribute text place = HasTagFault text duplicate_attribute place
IsRefusedBy xml_rule.TooDeep text place = HasTagFault text too_deep place

-- the bytes are a document with this root
abbrev pub IsDocumentOf : List ℕ → SourceTree → Type 0
IsDocumentOf bytes root = (text : List ℕ) × Encodes bytes text × IsDocument text root

-- Why bytes are refused. Want of memory says nothing of them.
abbrev pub IsDocumentRefusal : List ℕ → XmlRefusal → Type 0
IsDocumentRefusal bytes (Refused place xml_rule.NotUtf8) = IsUnreadableAt bytes place
IsDocumentRefusal bytes (Refused place rule) = (text : List ℕ) × Encodes bytes text × IsRefusedBy rule text place
IsDocumentRefusal bytes Memory = Unit {0}

-- why a text is refused, and where
abbrev pub IsTextRefusal : List ℕ → XmlRefusal → Type 0
IsTextRefusal text (Refused place r) = IsRefusedBy r text place
IsTextRefusal text Memory = Unit {0}

-- the refusal of a text, where reading ended so
abbrev pub IsRefusalOf : List ℕ → End → XmlRefusal → Type 0
IsRefusalOf text (ended.Unfit far) e = e ≡ Refused (place_at text (length text - min far (length text))) xml_rule.Malformed
IsRefusalOf text (ended.Faulty xml_rule.Doctype left) e = e ≡ Refused (place_at text (length text - min left (length text))) xml_rule.Doctype
IsRefusalOf text (ended.Faulty xml_rule.NotUtf8 left) e = e ≡ Memory
IsRefusalOf text (ended.Faulty xml_rule.Malformed left) e = e ≡ Memory
IsRefusalOf text (ended.Faulty r left) e = e ≡ Refused (place_at text (last_less (take (length text - min left (length text)) text))) r
