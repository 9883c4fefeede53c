-- How far a search through references has come.
use Rattle.std.specs.Prelude.{◌≡◌, ℕ, ◌+◌, ◌<◌, Bool, true, false, List, [], ◌∷◌, length, Option, None, Some, slice_index_or, ◌⊎◌, if◌then◌else◌}
use Rattle.std.specs.List.{Contains}
use Rattle.gx_references.specs.References.{named_by, ends_within, meaning_within}
use Rattle.gx_references.specs.Circles.{RefersTo}
use Rattle.gx_references.specs.Known.{table_entry, has_entry}

-- how many meanings a table has
abbrev pub count_known : {M : Type 0} → List (Option M) → ℕ
count_known [] = 0
count_known (None ∷ table) = count_known table
count_known (Some meaning ∷ table) = count_known table + 1

-- a number stands among pending ones behind a place
abbrev pub StandsBehind : ℕ → List ℕ → ℕ → Type 0
StandsBehind place pending number = (k : ℕ) × (place < k) × (k < length pending) × (slice_index_or pending k 0 ≡ number)

-- a declaration is open: it stands among the pending ones, it refers to all that stand behind it, and each that it names is known or
-- stands behind it
pub record IsOpen {B M : Type 0} (references : B → List ℕ) (bodies : List B) (table : List (Option M)) (pending : List ℕ) (number : ℕ) : Type 0 where
  pub place : ℕ
  pub within : place < length pending
  pub here : slice_index_or pending place 0 ≡ number
  pub refers : (k : ℕ) → place < k → k < length pending → RefersTo references bodies number (slice_index_or pending k 0)
  pub named : (other : ℕ) → Contains (named_by references bodies number) other → (has_entry table other ≡ true) ⊎ StandsBehind place pending other

-- a number is that of a declaration, or a declaration refers to it
abbrev pub IsReferredTo : {B : Type 0} → (B → List ℕ) → List B → ℕ → Type 0
IsReferredTo references bodies number = (number < length bodies) ⊎ ((other : ℕ) × (other < length bodies) × RefersTo references bodies other number)

-- a meaning in a table is that of its declaration, whose references end within as many steps as the table has meanings
pub record IsBuilt {B M : Type 0} (references : B → List ℕ) (meant : (ℕ → M) → B → M) (nothing : M) (bodies : List B) (table : List (Option M)) (number : ℕ) (meaning : M) : Type 0 where
  pub ends : ends_within references bodies (count_known table) number ≡ true
  pub follows : meaning ≡ meaning_within meant nothing bodies (count_known table) number

pub record IsSearch {B M : Type 0} (references : B → List ℕ) (meant : (ℕ → M) → B → M) (nothing : M) (bodies : List B) (table : List (Option M)) (opened : List Bool) (pending : List ℕ) : Type 0 where
  pub sized : length table ≡ length bodies
  pub opened_sized : length opened ≡ length bodies
  pub built : (number : ℕ) (meaning : M) → table_entry table number ≡ Some meaning → IsBuilt references meant nothing bodies table number meaning
  pub unfinished : (number : ℕ) → slice_index_or opened number false ≡ true → table_entry table number ≡ None → IsOpen references bodies table pending number
  pub awaited : (number : ℕ) → number < length bodies → table_entry table number ≡ None → Contains pending number
  pub rooted : (k : ℕ) → k < length pending → IsReferredTo references bodies (slice_index_or pending k 0)

-- how much is to be done for the declarations that are not opened yet
abbrev pub unopened_work : {B : Type 0} → (B → List ℕ) → List B → List Bool → ℕ
unopened_work references [] opened = 0
unopened_work references (body ∷ bodies) [] = 0
unopened_work references (body ∷ bodies) (is_opened ∷ opened) = (if is_opened then 0 else length (references body) + 1) + unopened_work references bodies opened

-- how much is to be done
abbrev pub work : {B : Type 0} → (B → List ℕ) → List B → List Bool → List ℕ → ℕ
work references bodies opened pending = unopened_work references bodies opened + length pending
