-- Tables of meanings by number.
use Rattle.std.specs.Prelude.{◌≡◌, ℕ, Bool, List, Option, None, unwrap_or, is_some, slice_index_or}
use Rattle.std.specs.List.{Contains}

-- what a table has at a number
abbrev pub table_entry : {M : Type 0} → List (Option M) → ℕ → Option M
table_entry table number = slice_index_or table number None

-- a table has a meaning at a number
abbrev pub has_entry : {M : Type 0} → List (Option M) → ℕ → Bool
has_entry table number = is_some (table_entry table number)

-- what is known of a number, which is nothing where a table has no meaning
abbrev pub known : {M : Type 0} → M → List (Option M) → ℕ → M
known nothing table number = unwrap_or (table_entry table number) nothing

-- two ways to give meanings agree on numbers
abbrev pub SameMeaningsOn : {M : Type 0} → (f g : ℕ → M) → List ℕ → Type 0
SameMeaningsOn f g numbers = (number : ℕ) → Contains numbers number → f number ≡ g number
