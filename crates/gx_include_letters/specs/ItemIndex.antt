-- The item types at the positions of a type, and which of them may take a shape of a name.
use Rattle.std.specs.Prelude.{◌≡◌, ℕ, ◌+◌, Bool, true, false, List, [], ◌∷◌, ◌++◌, map, Option, None, Some, Vec, slice_get, slice_index_or, ◌⊎◌, if◌then◌else◌}
use Rattle.std.specs.List.{list_any, position_or_len}
use Rattle.gx_base.specs.Name.{same_name}
use Rattle.gx_base.specs.declared.name.Name.{Name}
use Rattle.gx_types.specs.declared.item_type.ItemType.{ItemType}
use Rattle.gx_include_positions.specs.Names.{name_of, may_fit}

-- the start, which passes no test, and what a test says of each item type
abbrev pub tests_at : List ItemType → (ItemType → Bool) → List Bool
tests_at items test = false ∷ map test items

-- the place of the item type of a number, if the item type passes a test
abbrev pub place_if : List ItemType → (ItemType → Bool) → ℕ → List ℕ
place_if items test n = if slice_index_or (tests_at items test) (n + 1) false then (n + 1) ∷ [] else []

-- a number is in a list
abbrev pub IsListed : ℕ → List ℕ → Type 0
IsListed n [] = ⊥
IsListed n (m ∷ ms) = (m ≡ n) ⊎ IsListed n ms

-- a list has the number of each item type that does not exclude a name
abbrev pub HasFitting : List ItemType → Option Name → List ℕ → Type 0
HasFitting items given numbers = (n : ℕ) (kind : ItemType) → slice_get items n ≡ Some kind → may_fit (name_of kind) given ≡ true → IsListed n numbers

abbrev pub numbers_found : {A : Type 0} → Option (Vec ℕ A) → List ℕ
numbers_found None = []
numbers_found (Some numbers) = numbers.items

-- the numbers that stand at a place of a table
abbrev pub numbers_at : {A : Type 0} → List (Vec ℕ A) → ℕ → List ℕ
numbers_at table place = numbers_found (slice_get table place)

-- the numbers of those that ask for a name, where each name that is asked for has its place
abbrev pub numbers_asking : {A : Type 0} → List Name → List (Vec ℕ A) → Name → List ℕ
numbers_asking names asking name = if list_any (same_name name) names then numbers_at asking (position_or_len (same_name name) names) else []

-- the numbers of the item types that do not exclude a name: those that ask for each name, at its place, and those that ask for none
pub record IsItemIndex {A : Type 0} (items : List ItemType) (names : List Name) (asking : List (Vec ℕ A)) (unnamed : List ℕ) : Type 0 where
  pub without : HasFitting items None unnamed
  pub named : (name : Name) → HasFitting items (Some name) (numbers_asking names asking name ++ unnamed)
