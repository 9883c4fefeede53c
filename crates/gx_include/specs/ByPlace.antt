-- The numbers of letters by their places.
use Rattle.std.specs.Prelude.{◌≡◌, ℕ, Bool, true, false, List, Some, Vec, nat_eq, slice_get, slice_index_or}
use Rattle.std.specs.List.{list_any}
use Rattle.gx_include_letters.specs.declared.letter.Letter.{Letter}
use Rattle.gx_include_letters.specs.ItemIndex.{numbers_at}

-- each letter has its number at its place
abbrev pub AreByPlace : {A : Type 0} → List Letter → List (Vec ℕ A) → Type 0
AreByPlace letters numbers = (n : ℕ) (letter : Letter) → slice_get letters n ≡ Some letter → list_any (λ m. nat_eq m n) (numbers_at numbers letter.place) ≡ true

-- a set of numbers of letters has those whose places are in a set
abbrev pub HasLettersAt : List Letter → (places numbers : List Bool) → Type 0
HasLettersAt letters places numbers =
    (n : ℕ) (letter : Letter) → slice_get letters n ≡ Some letter → slice_index_or places letter.place false ≡ true → slice_index_or numbers n false ≡ true
