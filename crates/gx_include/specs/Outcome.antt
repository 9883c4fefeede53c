-- What a walk over pairs comes to.
use Rattle.std.specs.Prelude.{◌≡◌, ℕ, ◌<◌, ◌≤◌, ◌⊎◌, Bool, true, false, nat_lt, List, length, Option, None, Some}
use Rattle.gx_types.specs.SequenceType.{SequenceType}
use Rattle.gx_include_letters.specs.declared.letter.Letter.{Letter}
use Rattle.gx_include.specs.declared.walk.Origin.{Origin}
use Rattle.gx_include.specs.declared.walk.Outcome.{Outcome}
use Rattle.gx_include.specs.declared.walk.Outcome.TheVariants.{Safe, Bad, TooMany}
use Rattle.std.specs.List.{IsDistinct}
use Rattle.gx_include.specs.PairOrder.{same_pair}
use Rattle.gx_include.specs.Pairs.{is_bad}
use Rattle.gx_include.specs.Walk.{StateAt}
use Rattle.gx_include.specs.Traced.{Traced}

-- a number is past a limit
abbrev pub exceeds : Option ℕ → ℕ → Bool
exceeds None count = false
exceeds (Some limit) count = nat_lt limit count

abbrev pub outcome_at : Option ℕ → Outcome
outcome_at None = Safe
outcome_at (Some at) = Bad at

-- the first bad place so far, where the places before this one were judged
abbrev pub first_bad_place : Option ℕ → Bool → ℕ → Option ℕ
first_bad_place (Some place) bad at = Some place
first_bad_place None true at = Some at
first_bad_place None false at = None

-- a bad place was found, and there is no limit
abbrev pub is_settled : (limit place : Option ℕ) → Bool
is_settled (Some limit) place = false
is_settled None None = false
is_settled None (Some place) = true

-- no pair before a place is bad
abbrev pub AreGoodBelow : (a b : SequenceType) → List (ℕ × List Bool) → ℕ → Type 0
AreGoodBelow a b pairs bound = (i : ℕ) (pair : ℕ × List Bool) → i < bound → StateAt pairs i pair → is_bad a b pair ≡ false

-- the pair at a place is the first bad one
pub record IsFirstBadAt (a b : SequenceType) (pairs : List (ℕ × List Bool)) (place : ℕ) : Type 0 where
  pub pair : ℕ × List Bool
  pub here : StateAt pairs place pair
  pub bad : is_bad a b pair ≡ true
  pub good : AreGoodBelow a b pairs place

-- the first bad pair below a place, or none
abbrev pub IsBadBelow : (a b : SequenceType) → List (ℕ × List Bool) → ℕ → Option ℕ → Type 0
IsBadBelow a b pairs bound None = AreGoodBelow a b pairs bound
IsBadBelow a b pairs bound (Some place) = (place < bound) × IsFirstBadAt a b pairs place

-- how far a walk has come, with no more pairs than the limit; all letters of the pairs before a place were looked at
pub record HasWalked (a b : SequenceType) (letters : List Letter) (limit : Option ℕ) (pairs : List (ℕ × List Bool)) (origins : List Origin) (at : ℕ) : Type 0 where
  pub traced : Traced a b letters pairs origins at 0
  pub short : (0 < at) → exceeds limit (length pairs) ≡ false

abbrev pub IsOutcome : (a b : SequenceType) → List Letter → Option ℕ → List (ℕ × List Bool) → List Origin → Outcome → Type 0
IsOutcome a b letters limit pairs origins Safe =
    (at : ℕ) × (length pairs ≤ at) × HasWalked a b letters limit pairs origins at × AreGoodBelow a b pairs (length pairs)
IsOutcome a b letters limit pairs origins (Bad place) =
    (at : ℕ) × (place ≤ at) × HasWalked a b letters limit pairs origins at × IsFirstBadAt a b pairs place × ((limit ≡ None) ⊎ (length pairs ≤ at))
IsOutcome a b letters limit pairs origins TooMany =
    (at : ℕ) × Traced a b letters pairs origins at 0 × IsDistinct same_pair pairs × (exceeds limit (length pairs) ≡ true)
