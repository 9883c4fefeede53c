-- The laws of functions over atomic values.
use Rattle.std.specs.Prelude.{◌≡◌, ℕ, true, List, ◌∷◌, ◌++◌, length, is_some}
use Rattle.std.specs.Prelude.{slice_index_or}
use Rattle.std.specs.List.{IsDistinct, IsFirstBest, list_any}
use Rattle.gx_facets.specs.declared.Atomic.{Atomic}
use Rattle.gx_atomic.specs.declared.comparison.Op.{Op}
use Rattle.gx_atomic.specs.declared.comparison.Op.TheVariants.{Lt, Gt}
use Rattle.gx_funcs.specs.Numbers.{numbers_of_values, compares, foremost}
use Rattle.gx_funcs.specs.Distinct.{are_equal_values, distinct_values}

-- it stands in the list, it is in front of each value that stands before it, and no value is in front of it
abbrev pub IsFirstOfForemost : Op → List Atomic → Atomic → Type 0
IsFirstOfForemost op values a = (place : ℕ) × (IsFirstBest (compares op) values (length values) place × (slice_index_or values place a ≡ a))

-- the least and the greatest of some numbers is the first that no other is less or greater than
pub record ForemostNumbersAreFirst : Type 0 where
  pub least : (a : Atomic) (values : List Atomic) → is_some (numbers_of_values (a ∷ values)) ≡ true → IsFirstOfForemost Lt (a ∷ values) (foremost Lt a values)
  pub greatest : (a : Atomic) (values : List Atomic) → is_some (numbers_of_values (a ∷ values)) ≡ true → IsFirstOfForemost Gt (a ∷ values) (foremost Gt a values)

-- no two distinct values are equal, each value is equal to one of them, and what follows some values comes behind their distinct values
pub record DistinctValuesStandOnce : Type 0 where
  pub apart : (values : List Atomic) → IsDistinct are_equal_values (distinct_values values)
  pub kept : (values : List Atomic) (a : Atomic) → list_any (are_equal_values a) (distinct_values values) ≡ list_any (are_equal_values a) values
  pub first : (values more : List Atomic) → (later : List Atomic) × (distinct_values (values ++ more) ≡ distinct_values values ++ later)
