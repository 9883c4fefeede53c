-- White space of a lexical form (XML Schema Part 2, 4.3.6).
use Rattle.std.specs.Prelude.{ℕ, Bool, true, false, ◌++◌, if◌then◌else◌, List, [], ◌∷◌, map}
use Rattle.gx_base.specs.WhiteSpace.{is_white_space}

abbrev pub space_for : ℕ → ℕ
space_for c = if is_white_space c then 32 else c

-- each is replaced by a space
abbrev pub replaced : List ℕ → List ℕ
replaced text = map space_for text

-- c before the first part
abbrev pub before_part : ℕ → List (List ℕ) → List (List ℕ)
before_part c [] = (c ∷ []) ∷ []
before_part c (part ∷ parts) = (c ∷ part) ∷ parts

-- the parts between one white space and the next
abbrev pub parts_of : List ℕ → List (List ℕ)
parts_of [] = [] ∷ []
parts_of (c ∷ cs) = if is_white_space c then [] ∷ parts_of cs else before_part c (parts_of cs)

-- the parts that are not empty, each behind a space
abbrev pub parts_behind_spaces : List (List ℕ) → List ℕ
parts_behind_spaces [] = []
parts_behind_spaces ([] ∷ parts) = parts_behind_spaces parts
parts_behind_spaces ((c ∷ cs) ∷ parts) = 32 ∷ ((c ∷ cs) ++ parts_behind_spaces parts)

-- the parts that are not empty, with one space between
abbrev pub joined_by_spaces : List (List ℕ) → List ℕ
joined_by_spaces [] = []
joined_by_spaces ([] ∷ parts) = joined_by_spaces parts
joined_by_spaces ((c ∷ cs) ∷ parts) = (c ∷ cs) ++ parts_behind_spaces parts

-- white space goes from both ends, and each run of it becomes one space
abbrev pub collapsed : List ℕ → List ℕ
collapsed text = joined_by_spaces (parts_of text)

-- the character before the others, behind a space where there is a gap
abbrev pub behind_space : Bool → ℕ → List ℕ → List ℕ
behind_space true c cs = 32 ∷ c ∷ cs
behind_space false c cs = c ∷ cs
