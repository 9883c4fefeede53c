-- The laws of the rows of a hash join.
use Rattle.std.specs.Prelude.{◌≡◌, ℕ, true, false, List, map, filter, nat_eq, Some, Ok, slice_get}
use Rattle.std.specs.List.{list_any, All}
use Rattle.std.specs.Option.{option_map_or}
use Rattle.gx_atomic.specs.declared.join_key.JoinKey.{JoinKey}
use Rattle.gx_facets.specs.declared.Atomic.{Atomic}
use Rattle.gx_facets.specs.Value.{same_family}
use Rattle.gx_atomic.specs.declared.comparison.Op.TheVariants.{Eq}
use Rattle.gx_atomic.specs.Comparison.{general_comparison, pairs_of}
use Rattle.gx_atomic.specs.JoinKey.{join_key_of, same_key}
use Rattle.gx_join_table.specs.Joining.{have_equal_keys, rows_with_a_key}
use Rattle.gx_join_table.specs.RowNumbers.{AscendFrom}

-- the numbers of rows ascend, and are those of the rows that have an equal key
pub record RowsAreThoseThatMeet : Type 0 where
  pub ascending : (keys : List JoinKey) (rows : List (List JoinKey)) → AscendFrom 0 (rows_with_a_key keys rows)
  pub members : (keys : List JoinKey) (rows : List (List JoinKey)) (n : ℕ)
      → list_any (nat_eq n) (rows_with_a_key keys rows) ≡ option_map_or (have_equal_keys same_key keys) (slice_get rows n) false

-- the items at the rows that are found are the items that have an equal key, in their order
abbrev pub ItemsFoundAreThoseThatMeet : Type 0 → Type 0
ItemsFoundAreThoseThatMeet A = (keys : List JoinKey) (keys_of : A → List JoinKey) (items : List A)
    → map (slice_get items) (rows_with_a_key keys (map keys_of items)) ≡ map Some (filter (λ item. have_equal_keys same_key keys (keys_of item)) items)

-- where each value is of one family with each of the other side, the general comparison `=` is whether two of their keys are equal
abbrev pub EqualKeysAreEqualValues : Type 0
EqualKeysAreEqualValues = (left right : List Atomic) → All (λ pair. same_family pair.0.value pair.1.value ≡ true) (pairs_of left right)
    → general_comparison Eq left right ≡ Some (Ok (have_equal_keys same_key (map join_key_of left) (map join_key_of right)))
