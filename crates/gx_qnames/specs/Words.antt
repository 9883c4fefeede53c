-- Words, the namespace of schema documents, and names as they are written.
use Rattle.std.specs.Prelude.{ℕ, Bool, List, [], ◌∷◌, ◌++◌, codes, bytes_eq, if◌then◌else◌}
use Rattle.std.specs.Str.{encode_utf8_all}
use Rattle.gx_base.specs.declared.name.Name.{Name}

-- a text is this word
abbrev pub has_spelling : (word text : List ℕ) → Bool
has_spelling word text = bytes_eq (encode_utf8_all text) word

-- the namespace of schema documents (XML Schema 1.0 part 1, section 2.6)
unfoldable pub is_schema_uri : List ℕ → Bool
is_schema_uri uri = has_spelling (codes "http://www.w3.org/2001/XMLSchema") uri

-- a name with its prefix
abbrev pub written_name : Name → List ℕ
written_name name = if bytes_eq name.prefix [] then name.local else (name.prefix ++ (58 ∷ name.local))
