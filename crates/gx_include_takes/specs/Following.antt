-- The positions that may come next behind each position of a type, and sets of places that a list of shapes comes to.
use Rattle.std.specs.Prelude.{◌≡◌, ℕ, ◌+◌, ◌*◌, ◌/◌, ◌%◌, ◌^◌, ◌<◌, Bool, true, false, List, length, Option, Some, None, Vec, slice_get, slice_index_or, ◌↔◌}
use Rattle.std.specs.Int.{bit_at}
use Rattle.gx_types.specs.declared.item_type.ItemType.{ItemType}
use Rattle.gx_types.specs.SequenceType.{SequenceType}
use Rattle.gx_types.specs.TypeRules.{positions_of}
use Rattle.gx_include_takes.specs.Bits.{has_bit}
use Rattle.gx_include_positions.specs.Step.{single, all_next, all_tests, step_over}

-- a place may come next behind one of the places of a block of four that are the bits of a number
abbrev pub FollowsOne : SequenceType → (block members place : ℕ) → Type 0
FollowsOne t block members place = (bit : ℕ) × (bit < 4) × (bit_at members bit ≡ 1) × (slice_index_or (all_next t (single (block * 4 + bit))) place false ≡ true)

-- so many rows, for each block of four places sixteen: those that may come next behind the places of the block that are the bits of
-- the numbers below 16
pub record AreFollowing {A : Type 0} (t : SequenceType) (count : ℕ) (rows : List (Vec ℕ A)) : Type 0 where
  pub count_is : length rows ≡ count
  pub are : (index : ℕ) (row : Vec ℕ A) → slice_get rows index ≡ Some row → (place : ℕ) → (has_bit row.items place ≡ true) ↔ FollowsOne t (index / 16) (index % 16) place

-- a row has a place, where there is a row
abbrev pub has_place : {A : Type 0} → Option (Vec ℕ A) → ℕ → Bool
has_place None place = false
has_place (Some row) place = has_bit row.items place

-- the members of a set in a block of four places, as the bits of a number
abbrev pub members_in : (set : List ℕ) → (block : ℕ) → ℕ
members_in set block = slice_index_or set (block / 16) 0 / 2 ^ (block % 16 * 4) % 16

-- by the rows a place may come next behind one of the members of a set in a block
abbrev pub follows_block : {A : Type 0} → List (Vec ℕ A) → (set : List ℕ) → (block place : ℕ) → Bool
follows_block rows set block place = has_place (slice_get rows (block * 16 + members_in set block)) place

-- by the rows a place may come next behind one of the members of a set
abbrev pub FollowsMember : {A : Type 0} → List (Vec ℕ A) → (set : List ℕ) → (place : ℕ) → Type 0
FollowsMember rows set place = (block : ℕ) × (follows_block rows set block place ≡ true)

-- a set has the places whose item type passes a test
abbrev pub IsMask : SequenceType → (ItemType → Bool) → (mask : List ℕ) → Type 0
IsMask t test mask = (place : ℕ) → has_bit mask place ≡ slice_index_or (all_tests t test) place false

-- a set has the places that may come next behind those of another one, and whose item type passes a test
abbrev pub AreComing : {A : Type 0} → SequenceType → List (Vec ℕ A) → (ItemType → Bool) → (before after : List ℕ) → Type 0
AreComing t rows test before after = (place : ℕ) → (has_bit after place ≡ true) ↔ (FollowsMember rows before place × (slice_index_or (all_tests t test) place false ≡ true))

-- places that are all of a type, or its start
abbrev pub AreOfType : SequenceType → (set : List ℕ) → Type 0
AreOfType t set = (place : ℕ) → has_bit set place ≡ true → place < positions_of t + 1

-- the places that a step over an item type that passes a test leads to
abbrev pub AreBehind : SequenceType → (ItemType → Bool) → (before after : List ℕ) → Type 0
AreBehind t test before after = (place : ℕ) → (has_bit after place ≡ true) ↔ ((origin : ℕ) × (has_bit before origin ≡ true) × (slice_index_or (step_over t test (single origin)) place false ≡ true))
