-- What is asked of letters: that they are exact, and that there are enough of them.
use Rattle.std.specs.Prelude.{◌≡◌, ℕ, true, false, List, slice_index_or, slice_get, Some}
use Rattle.gx_types.specs.declared.shape.Shape.{Shape}
use Rattle.gx_types.specs.SchemaSet.{SchemaSet}
use Rattle.gx_types.specs.SequenceType.{SequenceType}
use Rattle.gx_include_letters.specs.declared.letter.Letter.{Letter}
use Rattle.gx_include_positions.specs.Step.{all_tests}
use Rattle.gx_include_positions.specs.Test.{is_taken, IsDecided}
use Rattle.gx_include_letters.specs.WellFormed.{IsWellFormedShape}

-- a letter's shape is taken at its position of the left type, and its set has the positions of the right type that take it
pub record IsLetter (schemas : SchemaSet) (a b : SequenceType) (letter : Letter) : Type 0 where
  pub left : IsDecided schemas letter.shape a
  pub right : IsDecided schemas letter.shape b
  pub taken : slice_index_or (all_tests a (is_taken schemas letter.shape)) letter.place false ≡ true
  pub takers : letter.takers ≡ all_tests b (is_taken schemas letter.shape)

abbrev pub AreLetters : SchemaSet → (a b : SequenceType) → List Letter → Type 0
AreLetters schemas a b letters = (number : ℕ) (letter : Letter) → slice_get letters number ≡ Some letter → IsLetter schemas a b letter

-- a letter stands for a shape at a position: it is of that position, and the same positions of the right type take both
pub record HasLetterFor (schemas : SchemaSet) (a b : SequenceType) (letters : List Letter) (place : ℕ) (shape : Shape) : Type 0 where
  pub number : ℕ
  pub letter : Letter
  pub here : slice_get letters number ≡ Some letter
  pub at : letter.place ≡ place
  pub alike : letter.takers ≡ all_tests b (is_taken schemas shape)

-- each well-formed shape that is taken at a position of the left type has a letter there, and is decided
pub record ServeAll (schemas : SchemaSet) (a b : SequenceType) (letters : List Letter) : Type 0 where
  pub left : (shape : Shape) → IsWellFormedShape schemas shape → IsDecided schemas shape a
  pub right : (shape : Shape) → IsWellFormedShape schemas shape → IsDecided schemas shape b
  pub stands : (shape : Shape) → IsWellFormedShape schemas shape → (place : ℕ) → slice_index_or (all_tests a (is_taken schemas shape)) place false ≡ true
      → HasLetterFor schemas a b letters place shape
