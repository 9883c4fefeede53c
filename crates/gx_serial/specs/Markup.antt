-- XML text as tags and characters.
use Rattle.std.specs.Prelude.{ℕ, List, [], ◌∷◌, ◌++◌, codes}
use Rattle.gx_serial.specs.Binding.{Binding}
use Rattle.gx_serial.specs.Escape.{text_escaped, value_escaped}

-- an attribute as it is written
pub record WrittenAttribute : Type 0 where
  pub prefix : List ℕ
  pub local : List ℕ
  pub written_value : List ℕ

-- the name, declarations and attributes of a start tag
pub record Tag : Type 0 where
  pub prefix : List ℕ
  pub local : List ℕ
  pub declarations : List Binding
  pub attributes : List WrittenAttribute

mutual
  pub data Markup : Type 0 where
    tagged : (tag : Tag) (content : Markups) → Markup
    characters : List ℕ → Markup
    several : (parts : Markups) → Markup

  pub data Markups : Type 0 where
    no_markup : Markups
    a_markup : (first : Markup) (others : Markups) → Markups

-- a name with its prefix
abbrev pub spelled_name : List ℕ → List ℕ → List ℕ
spelled_name [] local = local
spelled_name (c ∷ cs) local = (c ∷ cs) ++ codes ":" ++ local

-- a declaration of a prefix, or of the default
abbrev pub spelled_declaration : Binding → List ℕ
spelled_declaration ([], uri) = codes " xmlns=\"" ++ value_escaped uri ++ codes "\""
spelled_declaration (c ∷ cs, uri) = codes " xmlns:" ++ (c ∷ cs) ++ codes "=\"" ++ value_escaped uri ++ codes "\""

abbrev pub spelled_declarations : List Binding → List ℕ
spelled_declarations [] = []
spelled_declarations (b ∷ bs) = spelled_declaration b ++ spelled_declarations bs

abbrev pub spelled_attribute : WrittenAttribute → List ℕ
spelled_attribute a = codes " " ++ spelled_name a.prefix a.local ++ codes "=\"" ++ value_escaped a.written_value ++ codes "\""

abbrev pub spelled_attributes : List WrittenAttribute → List ℕ
spelled_attributes [] = []
spelled_attributes (a ∷ others) = spelled_attribute a ++ spelled_attributes others

-- a start tag without its end
abbrev pub spelled_start : Tag → List ℕ
spelled_start tag =
    codes "<" ++ spelled_name tag.prefix tag.local ++ spelled_declarations tag.declarations ++ spelled_attributes tag.attributes

abbrev pub spelled_end : List ℕ → List ℕ → List ℕ
spelled_end prefix local = codes "</" ++ spelled_name prefix local ++ codes ">"

-- the text of tags and characters; an element without content is one tag
abbrev mutual
  pub spelled_markup : Markup → List ℕ
  spelled_markup (tagged tag content) = spelled_start tag ++ spelled_content tag.prefix tag.local content
  spelled_markup (characters t) = text_escaped t
  spelled_markup (several ms) = all_spelled ms

  -- what follows a start tag
  pub spelled_content : List ℕ → List ℕ → Markups → List ℕ
  spelled_content prefix local no_markup = codes "/>"
  spelled_content prefix local (a_markup m ms) = codes ">" ++ (spelled_markup m ++ all_spelled ms) ++ spelled_end prefix local

  pub all_spelled : Markups → List ℕ
  all_spelled no_markup = []
  all_spelled (a_markup m ms) = spelled_markup m ++ all_spelled ms
