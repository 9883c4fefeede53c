-- The schema files that a query imports.
use Rattle.std.specs.Prelude.{ℕ, List, [], ◌∷◌, ◌≡◌, ◌++◌, map, slice_get, unwrap_or}
use Rattle.std.specs.Str.{encode_utf8_all}
use Rattle.gx_ast.specs.declared.query.Query.{Query}
use Rattle.gx_ast.specs.declared.query.Setting.{Setting}
use Rattle.gx_ast.specs.declared.query.SettingNode.{SettingNode}
use Rattle.gx_ast.specs.declared.query.SettingNode.TheVariants.{Schema}
use Rattle.gx_xml.specs.declared.source.Source.{Source}
use Rattle.gx_documents.specs.Documents.{Request, source_request}

-- the locations of an import
abbrev pub files_named : SettingNode → List (List ℕ)
files_named (Schema prefix uri locations) = map encode_utf8_all locations
files_named _ = []

abbrev pub files_of_settings : List Setting → List (List ℕ)
files_of_settings [] = []
files_of_settings (setting ∷ others) = files_named setting.node ++ files_of_settings others

-- those of all imports, in the order of the text
abbrev pub schema_files : Query → List (List ℕ)
schema_files query = files_of_settings query.settings

-- their documents are read as they are written
abbrev pub schema_requests : Query → List (Request Source)
schema_requests query = map source_request (schema_files query)

-- the name of the file of a number
abbrev pub file_name_at : (names : List (List ℕ)) (file : ℕ) → List ℕ
file_name_at names file = unwrap_or (slice_get names file) []
