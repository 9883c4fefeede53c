-- The first of faults by their places, each shown with the definition that holds it.
use Rattle.std.specs.Prelude.{ℕ, Bool, true, nat_lt, nat_le, List, [], ◌∷◌, Option, None, Some, if◌then◌else◌}
use Rattle.gx_base.specs.declared.name.Name.{Name}
use Rattle.gx_base.specs.declared.type_name.TypeName.{TypeName}
use Rattle.gx_typetext.specs.NameText.{type_name_text}
use Rattle.gx_schema.specs.declared.found.Found.{Found}
use Rattle.gx_schema.specs.Found.{found_named}

-- the earlier of two by place, and the left one at one place
abbrev pub earlier_found : Option Found → Option Found → Option Found
earlier_found None other = other
earlier_found (Some found) None = Some found
earlier_found (Some found) (Some other) = if nat_le found.place other.place then Some found else Some other

-- the first by place of those that are found in the members of a list
abbrev pub first_found : {A : Type 0} → (A → Option Found) → List A → Option Found
first_found found [] = None
first_found found (one ∷ others) = earlier_found (found one) (first_found found others)

-- a place where something is wrong
abbrev pub place_where : Bool → (place : ℕ) → Option ℕ
place_where is_wrong place = if is_wrong then Some place else None

-- a fault in a type, and one in another definition
abbrev pub found_in_type : (file : ℕ) → TypeName → (place : ℕ) → Found
found_in_type file name place = record { file = file; place = place; name = type_name_text name }

abbrev pub found_in_definition : (file : ℕ) → Name → (place : ℕ) → Found
found_in_definition file name place = found_named file place name

-- ---- steps of the code

-- nothing was found, or something behind a place
abbrev pub is_in_front : (place : ℕ) → Option Found → Bool
is_in_front place None = true
is_in_front place (Some found) = nat_lt place found.place
