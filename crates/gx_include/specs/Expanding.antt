-- What is known of a walk while it looks at the letters of one pair.
use Rattle.std.specs.Prelude.{◌≡◌, ℕ, Bool, List}
use Rattle.gx_types.specs.SequenceType.{SequenceType}
use Rattle.gx_include_letters.specs.declared.letter.Letter.{Letter}
use Rattle.gx_include_positions.specs.Step.{single, all_next}
use Rattle.gx_include.specs.declared.walk.Origin.{Origin}
use Rattle.gx_include.specs.Traced.{Traced}
use Rattle.gx_include.specs.Walk.{StateAt, StayInPlace}

-- the letters of a pair below a bound were looked at; with what may come next behind it
pub record Expanding (a b : SequenceType) (letters : List Letter) (old : List (ℕ × List Bool)) (pairs : List (ℕ × List Bool)) (origins : List Origin) (at bound : ℕ) (left right : List Bool) : Type 0 where
  pub pair : ℕ × List Bool
  pub here : StateAt pairs at pair
  pub left_is : left ≡ all_next a (single pair.0)
  pub right_is : right ≡ all_next b pair.1
  pub traced : Traced a b letters pairs origins at bound
  pub kept : StayInPlace old pairs
