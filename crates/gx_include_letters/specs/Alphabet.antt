-- The letters of two types, in the order in which runs are compared: by position of the left type, and then by shape.
use Rattle.std.specs.Prelude.{◌≡◌, ℕ, zero, suc, ◌+◌, Bool, false, List, [], ◌∷◌, ◌++◌, map, length, Some, Vec, nat_eq, slice_get, slice_index_or, if◌then◌else◌}
use Rattle.std.specs.List.{flat_map}
use Rattle.gx_base.specs.declared.name.Name.{Name}
use Rattle.gx_types.specs.declared.item_type.ItemType.{ItemType}
use Rattle.gx_types.specs.declared.shape.Shape.{Shape}
use Rattle.gx_types.specs.SchemaSet.{SchemaSet}
use Rattle.gx_types.specs.SequenceType.{SequenceType}
use Rattle.gx_types.specs.TypeRules.{positions_of}
use Rattle.gx_include_letters.specs.declared.letter.Letter.{Letter}
use Rattle.gx_include_letters.specs.ItemIndex.{tests_at}
use Rattle.gx_include_positions.specs.Step.{all_tests}
use Rattle.gx_include_positions.specs.Test.{is_taken}
use Rattle.gx_include_derivations.specs.Asked.{types_asked}
use Rattle.gx_include_letters.specs.WellFormed.{built_in_types, plain_types}
use Rattle.gx_include_positions.specs.Names.{with_names}
use Rattle.gx_include_letters.specs.Trials.{IsOther, trial_shapes}

-- a position of the left type, a shape, and the positions of the right type that take the shape
abbrev pub LetterEntry : Type 0
LetterEntry = ℕ × Shape × List Bool

abbrev pub entry_of_letter : Letter → LetterEntry
entry_of_letter letter = (letter.place, letter.shape, letter.takers)

-- the letter of a shape at a place, if the place is among those that take it
abbrev pub entry_if : ℕ → Shape → (left right : List Bool) → List LetterEntry
entry_if place shape left right = if slice_index_or left place false then (place, shape, right) ∷ [] else []

-- an entry, at its own place
abbrev pub entry_only : LetterEntry → ℕ → List LetterEntry
entry_only entry place = if nat_eq entry.0 place then entry ∷ [] else []

-- the shapes that are tried, at a place
abbrev pub entries_at : SchemaSet → (a b : SequenceType) → List Shape → ℕ → List LetterEntry
entries_at schemas a b shapes place =
    flat_map (λ shape. entry_if place shape (all_tests a (is_taken schemas shape)) (all_tests b (is_taken schemas shape))) shapes

abbrev pub entries_below : SchemaSet → (a b : SequenceType) → List Shape → ℕ → List LetterEntry
entries_below schemas a b shapes zero = []
entries_below schemas a b shapes (suc place) = entries_below schemas a b shapes place ++ entries_at schemas a b shapes place

-- the letters of two types, over the names in both and one more
pub record IsAlphabet (schemas : SchemaSet) (a b : SequenceType) (letters : List Letter) : Type 0 where
  pub other : Name
  pub fresh : IsOther (with_names (with_names [] a) b) other
  pub are :
      map entry_of_letter letters ≡ entries_below schemas a b (trial_shapes (plain_types schemas) (with_names (with_names [] a) b ++ other ∷ [])) (positions_of a + 1)

-- the same over the item types of both types
abbrev pub entries_over : SchemaSet → (left right : List ItemType) → List Shape → ℕ → List LetterEntry
entries_over schemas left right shapes place =
    flat_map (λ shape. entry_if place shape (tests_at left (is_taken schemas shape)) (tests_at right (is_taken schemas shape))) shapes

-- the entries of the places below a bound
abbrev pub entries_up_to : (ℕ → List LetterEntry) → ℕ → List LetterEntry
entries_up_to entries zero = []
entries_up_to entries (suc place) = entries_up_to entries place ++ entries place

-- the shapes that are tried where the left type has these item types: of declared types those that the item types may take
abbrev pub shapes_asked : SchemaSet → (left : List ItemType) → List Name → List Shape
shapes_asked schemas left names = trial_shapes (built_in_types ++ types_asked schemas left) names

abbrev pub entries_of_column : {A : Type 0} → Vec Letter A → List LetterEntry
entries_of_column column = map entry_of_letter column.items

-- so many columns of letters, by place
pub record AreColumns {A : Type 0} (count : ℕ) (entries : ℕ → List LetterEntry) (columns : List (Vec Letter A)) : Type 0 where
  pub count_is : length columns ≡ count
  pub are : (place : ℕ) (column : Vec Letter A) → slice_get columns place ≡ Some column → entries_of_column column ≡ entries place

-- columns with more letters behind
pub record AreColumnsMore {A : Type 0} (old new : List (Vec Letter A)) (more : ℕ → List LetterEntry) : Type 0 where
  pub count_is : length new ≡ length old
  pub are : (place : ℕ) (before after : Vec Letter A) → slice_get old place ≡ Some before → slice_get new place ≡ Some after
      → entries_of_column after ≡ entries_of_column before ++ more place
