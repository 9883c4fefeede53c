-- Names that are declared twice (XML Schema 1.0 part 1, section 3.15.3).
use Rattle.std.specs.Prelude.{ℕ, suc, Bool, false, ◌==◌, List, [], ◌∷◌, Option, None, Some, option_map, if◌then◌else◌}
use Rattle.gx_base.specs.declared.name.Name.{Name}
use Rattle.gx_base.specs.declared.type_name.TypeName.{TypeName}
use Rattle.gx_schema_syntax.specs.DocumentTree.{DocumentTree}
use Rattle.gx_schema_components.specs.declared.mention.ComponentKind.{ComponentKind}
use Rattle.gx_schema_components.specs.DeclaredNames.{declarations_in, names_of_kind, type_names_in}
use Rattle.gx_references.specs.Numbers.{first_from}
use Rattle.gx_schema.specs.declared.found.Found.{Found}
use Rattle.gx_schema.specs.Found.{found_by_number, globals_found, types_found}
use Rattle.gx_schema.specs.TypeNumbers.{own_type_number}

abbrev pub is_number : ℕ → Option ℕ → Bool
is_number number None = false
is_number number (Some other) = other == number

-- the number of the first name that is not the first of those equal to it, where the first of these names has this number
abbrev pub doubled_from : {N : Type 0} → (first : N → Option ℕ) → (number : ℕ) → List N → Option ℕ
doubled_from first number [] = None
doubled_from first number (name ∷ names) = if is_number number (first name) then doubled_from first (suc number) names else Some number

abbrev pub doubled_declared_name : List Name → Option ℕ
doubled_declared_name names = doubled_from (first_from 0 names) 0 names

abbrev pub doubled_type_name : List TypeName → Option ℕ
doubled_type_name names = doubled_from (own_type_number names) 0 names

-- the first second declaration of a type, and of another kind
abbrev pub doubled_type : List DocumentTree → Option Found
doubled_type documents = option_map (found_by_number (types_found 0 documents)) (doubled_type_name (type_names_in documents))

abbrev pub doubled_of_kind : List DocumentTree → ComponentKind → Option Found
doubled_of_kind documents kind = option_map (found_by_number (globals_found kind 0 documents)) (doubled_declared_name (names_of_kind kind (declarations_in documents)))
