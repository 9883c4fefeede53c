-- The numbers of names in a list.
use Rattle.std.specs.Prelude.{ℕ, suc, List, [], ◌∷◌, Option, None, Some, if◌then◌else◌}
use Rattle.gx_base.specs.Name.{same_name}
use Rattle.gx_base.specs.declared.name.Name.{Name}

-- the number of the first equal name in a list, counted from a number on
abbrev pub first_from : ℕ → List Name → Name → Option ℕ
first_from number [] name = None
first_from number (other ∷ others) name = if same_name other name then Some number else first_from (suc number) others name
