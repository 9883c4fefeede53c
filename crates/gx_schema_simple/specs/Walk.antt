-- How far walks along references have come. A table has for each declaration that was reached the beginning of the walk that reached
-- it; marks stand at declarations on circles.
use Rattle.std.specs.Prelude.{◌≡◌, ℕ, ◌<◌, ◌≤◌, Bool, true, false, List, length, Option, None, Some, slice_index_or, IfSome, ◌⊎◌}
use Rattle.gx_schema_simple.specs.Circles.{named_next, ComesTo, StandsOnCircle}

-- ---- which declarations were reached

abbrev pub walk_at : List (Option ℕ) → ℕ → Option ℕ
walk_at walks number = slice_index_or walks number None

abbrev pub WasReached : List (Option ℕ) → ℕ → Type 0
WasReached walks number = (from : ℕ) × (walk_at walks number ≡ Some from)

abbrev pub IsUnreached : List (Option ℕ) → ℕ → Type 0
IsUnreached walks number = (number < length walks) × (walk_at walks number ≡ None)

abbrev pub IsReachedOrOutside : List (Option ℕ) → ℕ → Type 0
IsReachedOrOutside walks number = (length walks ≤ number) ⊎ WasReached walks number

-- each declaration that a reached one names is reached
pub record IsClosed (bases walks : List (Option ℕ)) : Type 0 where
  pub sized : length walks ≡ length bases
  pub closed : (number next : ℕ) → WasReached walks number → named_next bases number ≡ Some next → next < length bases → WasReached walks next

-- all walks began below a number
abbrev pub BeganBelow : List (Option ℕ) → ℕ → Type 0
BeganBelow walks start = (number from : ℕ) → walk_at walks number ≡ Some from → from < start

abbrev pub StaysReached : (before after : List (Option ℕ)) → Type 0
StaysReached before after = (number from : ℕ) → walk_at before number ≡ Some from → walk_at after number ≡ Some from

-- what is reached was reached before, or by the walk from this start
abbrev pub IsReachedFrom : (before after : List (Option ℕ)) → ℕ → Type 0
IsReachedFrom before after start = (number from : ℕ) → walk_at after number ≡ Some from → (walk_at before number ≡ Some from) ⊎ (from ≡ start)

-- a walk ended on a circle that leads to a declaration
abbrev pub EndComesTo : List (Option ℕ) → Option ℕ → ℕ → Type 0
EndComesTo bases None number = ⊥
EndComesTo bases (Some end) number = ComesTo bases end number

-- a walk from a start, which ends on a circle or on none
pub record WalksTo (bases before after : List (Option ℕ)) (start : ℕ) (end : Option ℕ) : Type 0 where
  pub closed : IsClosed bases after
  pub kept : StaysReached before after
  pub reached : IsReachedFrom before after start
  pub begun : WasReached after start
  pub ended : IfSome end (StandsOnCircle bases)
  pub circle : (number : ℕ) → walk_at after number ≡ Some start → StandsOnCircle bases number → EndComesTo bases end number

-- ---- which declarations are marked

abbrev pub has_mark : List Bool → ℕ → Bool
has_mark marks number = slice_index_or marks number false

abbrev pub IsUnmarked : List Bool → ℕ → Type 0
IsUnmarked marks number = (number < length marks) × (has_mark marks number ≡ false)

abbrev pub IsMarkedOrOutside : List Bool → ℕ → Type 0
IsMarkedOrOutside marks number = (length marks ≤ number) ⊎ (has_mark marks number ≡ true)

-- each declaration that a marked one names is marked
abbrev pub MarksGoOn : List (Option ℕ) → List Bool → Type 0
MarksGoOn bases marks = (number next : ℕ) → has_mark marks number ≡ true → named_next bases number ≡ Some next → has_mark marks next ≡ true

-- a circle is marked, from a declaration on it
pub record MarksCircle (bases : List (Option ℕ)) (before after : List Bool) (end : ℕ) : Type 0 where
  pub sized : length after ≡ length before
  pub kept : (number : ℕ) → has_mark before number ≡ true → has_mark after number ≡ true
  pub sound : (number : ℕ) → has_mark after number ≡ true → (has_mark before number ≡ true) ⊎ StandsOnCircle bases number
  pub onward : MarksGoOn bases after
  pub marked : has_mark after end ≡ true

-- ---- the search for circles

-- all declarations below a start were reached, and of all that were reached those on circles are marked
pub record IsCircleSearch (bases walks : List (Option ℕ)) (marks : List Bool) (start : ℕ) : Type 0 where
  pub closed : IsClosed bases walks
  pub below : BeganBelow walks start
  pub reached : (number : ℕ) → number < start → WasReached walks number
  pub sized : length marks ≡ length bases
  pub sound : (number : ℕ) → has_mark marks number ≡ true → StandsOnCircle bases number
  pub complete : (number : ℕ) → WasReached walks number → StandsOnCircle bases number → has_mark marks number ≡ true
  pub onward : MarksGoOn bases marks
