-- The numbers of types in a list of their names, and what tables say of them.
use Rattle.std.specs.Prelude.{◌≡◌, ℕ, suc, nat_eq, List, [], ◌∷◌, Option, None, Some, if◌then◌else◌}
use Rattle.indexmap.specs.IndexMap.{get}
use Rattle.gx_base.specs.Name.{same_name}
use Rattle.gx_base.specs.declared.type_name.TypeName.{TypeName}
use Rattle.gx_base.specs.declared.type_name.TypeName.TheVariants as names
use Rattle.gx_types.specs.SameItemType.{same_type_name}
use Rattle.gx_schema.specs.declared.type_numbers.TypeNumbers.{TypeNumbers}

-- the number of the first equal name in a list, counted from a number on
abbrev pub type_number_from : ℕ → List TypeName → TypeName → Option ℕ
type_number_from number [] t = None
type_number_from number (other ∷ others) t = if same_type_name other t then Some number else type_number_from (suc number) others t

abbrev pub first_type_number : List TypeName → TypeName → Option ℕ
first_type_number declared t = type_number_from 0 declared t

-- the number of a declared type; a built-in one has none
abbrev pub own_type_number : List TypeName → TypeName → Option ℕ
own_type_number declared (names.Builtin builtin) = None
own_type_number declared (names.Named name) = first_type_number declared (names.Named name)
own_type_number declared (names.Anonymous number) = first_type_number declared (names.Anonymous number)

-- ---- tables

abbrev pub tabled_number : TypeNumbers → TypeName → Option ℕ
tabled_number numbers (names.Builtin builtin) = None
tabled_number numbers (names.Named name) = get same_name numbers.named name
tabled_number numbers (names.Anonymous number) = get nat_eq numbers.anonymous number

pub record AreTypeNumbers (declared : List TypeName) (numbers : TypeNumbers) : Type 0 where
  pub same : (t : TypeName) → tabled_number numbers t ≡ own_type_number declared t
