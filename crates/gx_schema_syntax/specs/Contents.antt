-- What stands in an element of a schema document: its attributes in no namespace, and its parts.
use Rattle.std.specs.Prelude.{ℕ, Bool, true, false, not, ◌&&◌, ◌||◌, List, [], ◌∷◌, codes, bytes_eq, Option, Some, None, is_some, if◌then◌else◌}
use Rattle.std.specs.List.{list_any}
use Rattle.gx_base.specs.declared.name.Name.{Name}
use Rattle.gx_xml.specs.declared.source.SourceAttribute.{SourceAttribute}
use Rattle.gx_xml.specs.declared.source.SourceChild.{SourceChild}
use Rattle.gx_xml.specs.declared.source.SourceChild.TheVariants.{Element, Text}
use Rattle.gx_xml.specs.SourceTree.{SourceContents, no_content, a_child, a_text, tree_name}
use Rattle.gx_qnames.specs.Lexical.{is_blank}
use Rattle.gx_schema_syntax.specs.Words.{is_schema_element, is_annotation}
use Rattle.gx_qnames.specs.Words.{has_spelling}

-- ---- attributes

-- an attribute has this local name in no namespace
abbrev pub is_plain : (word : List ℕ) → Name → Bool
is_plain word name = bytes_eq name.uri [] && has_spelling word name.local

abbrev pub given_value : (word : List ℕ) → List SourceAttribute → Option (List ℕ)
given_value word [] = None
given_value word (a ∷ others) = if is_plain word a.name then Some a.value else given_value word others

abbrev pub is_given : (word : List ℕ) → List SourceAttribute → Bool
is_given word attributes = is_some (given_value word attributes)

abbrev pub is_one_given : (words : List (List ℕ)) → List SourceAttribute → Bool
is_one_given [] attributes = false
is_one_given (word ∷ words) attributes = is_given word attributes || is_one_given words attributes

-- ---- parts

-- an element stands there beside annotations
abbrev pub holds_part : SourceContents → Bool
holds_part no_content = false
holds_part (a_child t cs) = not (is_annotation (tree_name t)) || holds_part cs
holds_part (a_text x cs) = holds_part cs

-- an element of this local name in the namespace of schema documents stands there
abbrev pub holds_named : (word : List ℕ) → SourceContents → Bool
holds_named word no_content = false
holds_named word (a_child t cs) = is_schema_element word (tree_name t) || holds_named word cs
holds_named word (a_text x cs) = holds_named word cs

-- a text other than white space stands there
abbrev pub holds_text : SourceContents → Bool
holds_text no_content = false
holds_text (a_child t cs) = holds_text cs
holds_text (a_text x cs) = not (is_blank x) || holds_text cs

-- ---- the same of one child

abbrev pub is_part : SourceChild → Bool
is_part (Element t) = not (is_annotation (tree_name t))
is_part (Text x) = false

abbrev pub is_child_named : (word : List ℕ) → SourceChild → Bool
is_child_named word (Element t) = is_schema_element word (tree_name t)
is_child_named word (Text x) = false

abbrev pub is_written_text : SourceChild → Bool
is_written_text (Element t) = false
is_written_text (Text x) = not (is_blank x)
