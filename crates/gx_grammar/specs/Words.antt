-- Tokens that are one of several words.
use Rattle.std.specs.Prelude.{ℕ, List, [], ◌∷◌, ◌⊎◌, Bool, min, length, Option, Some, None}
use Rattle.gx_grammar.specs.Tokens.{IsWord, IsFrontOf, scan_word, seen_word}

-- How a word is spelled: its characters, and the test that no character right behind it passes.
pub record Spelling : Type 0 where
  pub word : List ℕ
  pub test : ℕ → Bool

-- a word with its value
pub record Entry (V : Type 0) : Type 0 where
  pub spelling : Spelling
  pub value : V

-- one of the words stands there
abbrev pub IsOneOf : {V : Type 0} → List (Entry V) → V → List ℕ → List ℕ → Type 0
IsOneOf [] v x y = ⊥
IsOneOf (e ∷ es) v x y = IsWord e.value e.spelling.word e.spelling.test v x y ⊎ IsOneOf es v x y

abbrev pub OpensOneOf : {V : Type 0} → List (Entry V) → List ℕ → Type 0
OpensOneOf [] x = ⊥
OpensOneOf (e ∷ es) x = IsFrontOf x e.spelling.word ⊎ OpensOneOf es x

abbrev pub or_else : {A : Type 0} → Option A → Option A → Option A
or_else (Some a) other = Some a
or_else None other = other

abbrev pub scan_one_of : {V : Type 0} → List (Entry V) → List ℕ → Option (V × List ℕ)
scan_one_of [] x = None
scan_one_of (e ∷ es) x = or_else (scan_word e.value e.spelling.word e.spelling.test x) (scan_one_of es x)

abbrev pub seen_one_of : {V : Type 0} → List (Entry V) → List ℕ → ℕ
seen_one_of [] x = length x
seen_one_of (e ∷ es) x = min (seen_word e.spelling.word x) (seen_one_of es x)

abbrev pub spellings : {V : Type 0} → List (Entry V) → List Spelling
spellings [] = []
spellings (e ∷ es) = e.spelling ∷ spellings es
