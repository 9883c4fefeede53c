-- Declared types that are found by their names.
use Rattle.std.specs.Prelude.{◌≡◌, ℕ, Bool, List, Option, None, Some, slice_get}
use Rattle.indexmap.specs.IndexMap.{IndexMap, get}
use Rattle.gx_base.specs.declared.type_name.TypeName.{TypeName}
use Rattle.gx_base.specs.contracts.type_name.TypeNamePartialEq.TheImpl as type_names
use Rattle.gx_types.specs.SchemaSet.{declaration_among}
use Rattle.gx_types.specs.declared.declaration.Declared.{Declared}

-- what `==` says of two names of types
abbrev pub equal_kinds : TypeName → TypeName → Bool
equal_kinds = (type_names.ghosts).eq

-- the type of a number, if there is one
abbrev pub numbered_type : List Declared → Option ℕ → Option Declared
numbered_type types None = None
numbered_type types (Some number) = slice_get types number

-- a table leads from each name to its declaration
abbrev pub IsTypeIndexOf : {S : Type 0} → List Declared → IndexMap TypeName ℕ S → Type 0
IsTypeIndexOf types numbers = (t : TypeName) → numbered_type types (get equal_kinds numbers t) ≡ declaration_among types t
