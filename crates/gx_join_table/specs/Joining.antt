-- Which rows of the build side of a hash join an item of the probe side meets.
use Rattle.std.specs.Prelude.{ℕ, suc, Bool, List, [], ◌∷◌, if◌then◌else◌}
use Rattle.std.specs.List.{list_any}
use Rattle.gx_atomic.specs.declared.join_key.JoinKey.{JoinKey}
use Rattle.gx_atomic.specs.JoinKey.{same_key}

-- the numbers of the items that pass a test, where the first item has this number
abbrev pub numbers_from : {A : Type 0} → ℕ → (A → Bool) → List A → List ℕ
numbers_from n test [] = []
numbers_from n test (x ∷ xs) = if test x then n ∷ numbers_from (suc n) test xs else numbers_from (suc n) test xs

-- whether some key of one list is equal to some key of the other
abbrev pub have_equal_keys : {K : Type 0} → (K → K → Bool) → List K → List K → Bool
have_equal_keys eq keys row = list_any (λ key. list_any (eq key) row) keys

-- the numbers of the rows that have a key equal to one of these, ascending and each once
abbrev pub rows_with_a_key : List JoinKey → List (List JoinKey) → List ℕ
rows_with_a_key keys rows = numbers_from 0 (have_equal_keys same_key keys) rows
