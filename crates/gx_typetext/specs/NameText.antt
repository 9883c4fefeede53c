-- How names are written in the text of a type.
use Rattle.std.specs.Prelude.{ℕ, List, [], ◌++◌, codes, decimal, if◌then◌else◌}
use Rattle.std.specs.Str.{chars}
use Rattle.gx_base.specs.Text.{same_text}
use Rattle.gx_base.specs.declared.name.Name.{Name}
use Rattle.gx_base.specs.declared.type_name.TypeName.{TypeName}
use Rattle.gx_base.specs.declared.type_name.TypeName.TheVariants.{Builtin, Named, Anonymous}
use Rattle.gx_typetext.specs.BuiltinName.{local_name}

-- the characters of a word
abbrev pub word : List ℕ → List ℕ
word = chars

-- a URI in braces
abbrev pub braced : List ℕ → List ℕ
braced uri = word (codes "{") ++ uri ++ word (codes "}")

-- the URI of the schema namespace
abbrev pub schema_namespace : List ℕ
schema_namespace = word (codes "http://www.w3.org/2001/XMLSchema")

-- what stands before a local part: nothing, `xs:` for the schema namespace, or the URI in braces
abbrev pub space_text : List ℕ → List ℕ
space_text uri =
    if same_text uri [] then []
    else (if same_text uri schema_namespace then word (codes "xs:") else braced uri)

abbrev pub name_text : Name → List ℕ
name_text name = space_text name.uri ++ name.local

-- the name of a type, or the number of one without a name
abbrev pub type_name_text : TypeName → List ℕ
type_name_text (Builtin builtin) = word (codes "xs:") ++ word (local_name builtin)
type_name_text (Named name) = name_text name
type_name_text (Anonymous number) = word (codes "#") ++ word (decimal number)
