-- Numbers of rows that are kept under keys.
use Rattle.std.specs.Prelude.{◌≡◌, ℕ, ◌<◌, Bool, List, [], ◌∷◌, ◌++◌, Option, None, Some, Vec, if◌then◌else◌, length, slice_get}
use Rattle.std.specs.Global.{Global}
use Rattle.std.specs.List.{list_any, AllByRecursion}
use Rattle.gx_join_table.specs.Joining.{numbers_from}
use Rattle.gx_join_table.specs.RowNumbers.{with_last}

-- each key has a list of rows
abbrev pub IsAligned : {K : Type 0} → List K → List (Vec ℕ Global) → Type 0
IsAligned keys rows = length keys ≡ length rows

abbrev pub rows_if_any : Option (Vec ℕ Global) → List ℕ
rows_if_any None = []
rows_if_any (Some rows) = rows.items

abbrev pub rows_at_place : List (Vec ℕ Global) → ℕ → List ℕ
rows_at_place rows place = rows_if_any (slice_get rows place)

module _ {K : Type 0} (eq : K → K → Bool) where
  -- the rows under a key
  abbrev pub rows_under : K → List K → List (Vec ℕ Global) → List ℕ
  rows_under key [] rows = []
  rows_under key (k ∷ ks) [] = []
  rows_under key (k ∷ ks) (rows ∷ others) = if eq key k then rows.items else rows_under key ks others

  -- a row was put under one key, and all else stayed
  abbrev pub IsPutUnder : K → ℕ → List K → List (Vec ℕ Global) → List K → List (Vec ℕ Global) → Type 0
  IsPutUnder key row keys rows next_keys next_rows = (q : K)
      → rows_under q next_keys next_rows ≡ (if eq q key then with_last (rows_under q keys rows) row else rows_under q keys rows)

  -- a row was put under each of its keys, behind the rows that were there
  abbrev pub IsPutUnderEach : List K → ℕ → List K → List (Vec ℕ Global) → List K → List (Vec ℕ Global) → Type 0
  IsPutUnderEach added row keys rows next_keys next_rows = (q : K) → AllByRecursion (λ n. n < row) (rows_under q keys rows)
      → rows_under q next_keys next_rows ≡ rows_under q keys rows ++ (if list_any (eq q) added then row ∷ [] else [])

  -- the rows under each key are those that have an equal key
  pub record IsKeyIndexOf (keys : List K) (rows : List (Vec ℕ Global)) (table : List (List K)) : Type 0 where
    pub aligned : IsAligned keys rows
    pub found : (q : K) → rows_under q keys rows ≡ numbers_from 0 (list_any (eq q)) table
