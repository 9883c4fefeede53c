-- The names of elements of schema documents, and how names are shown.
use Rattle.std.specs.Prelude.{ℕ, Bool, ◌&&◌, List, [], ◌∷◌, ◌++◌, codes, bytes_eq, if◌then◌else◌}
use Rattle.std.specs.Str.{encode_utf8_all}
use Rattle.gx_base.specs.declared.name.Name.{Name}
use Rattle.gx_qnames.specs.Words.{has_spelling, is_schema_uri, written_name}

-- an element has this local name in the namespace of schema documents
abbrev pub is_schema_element : (word : List ℕ) → Name → Bool
is_schema_element word name = is_schema_uri name.uri && has_spelling word name.local

-- what is skipped, with all that stands in it (XML Schema 1.0 part 1, section 3.13)
abbrev pub is_annotation : Name → Bool
is_annotation name = is_schema_element (codes "annotation") name

-- a local name in the namespace of schema documents, behind `xs:`
abbrev pub shown_in_schema_namespace : List ℕ → List ℕ
shown_in_schema_namespace local = codes "xs:" ++ local

-- the name of an element as refusals show it
abbrev pub shown_name : Name → List ℕ
shown_name name = if is_schema_uri name.uri then shown_in_schema_namespace name.local else written_name name
