-- How references are shown in refusals.
use Rattle.std.specs.Prelude.{ℕ, List, [], ◌∷◌, ◌++◌, bytes_eq, if◌then◌else◌}
use Rattle.gx_base.specs.declared.name.Name.{Name}
use Rattle.gx_qnames.specs.declared.reference.Reference.{Reference}
use Rattle.gx_schema_syntax.specs.Words.{shown_in_schema_namespace}
use Rattle.gx_qnames.specs.Words.{is_schema_uri, written_name}

-- a name with its URI in braces
abbrev pub shown_in_namespace : Name → List ℕ
shown_in_namespace name = 123 ∷ (name.uri ++ (125 ∷ name.local))

abbrev pub shown_expanded : Name → List ℕ
shown_expanded name = if bytes_eq name.uri [] then name.local else (if is_schema_uri name.uri then shown_in_schema_namespace name.local else shown_in_namespace name)

-- as it is written, where its prefix is not bound
abbrev pub shown_reference : Reference → List ℕ
shown_reference reference = if reference.is_bound then shown_expanded reference.name else written_name reference.name
