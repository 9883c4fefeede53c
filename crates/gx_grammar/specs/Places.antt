-- Lines and columns of characters.
use Rattle.std.specs.Prelude.{ℕ, zero, suc, List, [], ◌∷◌, ◌++◌, ◌+◌, ◌≤◌, ◌≡◌, ◌==◌, ◌⊎◌, Bool, true, false, if◌then◌else◌, length}
use Rattle.gx_base.specs.declared.place.Place.{Place}

-- no line feed stands at the front
abbrev pub no_line_feed : List ℕ → Bool
no_line_feed [] = true
no_line_feed (c ∷ x) = if c == 10 then false else true

-- The character c ends a line, where the text x stands behind it: a line feed, or a carriage return that
-- no line feed follows.
abbrev pub ends_line : ℕ → List ℕ → Bool
ends_line c x = if c == 10 then true else (if c == 13 then no_line_feed x else false)

-- the place behind the character c at p, where the text x follows
abbrev pub place_behind : Place → ℕ → List ℕ → Place
place_behind p c x = if ends_line c x then (record { line = p.line + 1; column = 1 }) else (record { line = p.line; column = p.column + 1 })

-- the place of the nth character of a text that begins at p
abbrev pub place_from : Place → List ℕ → ℕ → Place
place_from p x zero = p
place_from p [] (suc n) = p
place_from p (c ∷ x) (suc n) = place_from (place_behind p c x) x n

-- the first place of a text
abbrev pub first_place : Place
first_place = record { line = 1; column = 1 }

-- the place of the nth character of a text, counted from 0
abbrev pub place_at : List ℕ → ℕ → Place
place_at text n = place_from first_place text n

-- how many of the first n characters end a line
abbrev pub line_ends : List ℕ → ℕ → ℕ
line_ends x zero = 0
line_ends [] (suc n) = 0
line_ends (c ∷ x) (suc n) = (if ends_line c x then 1 else 0) + line_ends x n

-- A line begins at `begin`: it is the beginning of the text, or the character before it ends a line.
abbrev pub BeginsLine : List ℕ → ℕ → Type 0
BeginsLine text begin = (begin ≡ 0) ⊎ ((before : List ℕ) × (c : ℕ) × (rest : List ℕ) × (text ≡ before ++ (c ∷ rest)) × (begin ≡ length before + 1) × (ends_line c rest ≡ true))

-- The place of the nth character: lines are counted by the line ends before it, columns from the
-- beginning of its line, both from 1.
pub record IsPlaceAt (text : List ℕ) (n : ℕ) (p : Place) : Type 0 where
  pub begin : ℕ
  pub behind : begin ≤ n
  pub line : p.line ≡ line_ends text n + 1
  pub begins : BeginsLine text begin
  pub same_line : line_ends text begin ≡ line_ends text n
  pub column : p.column + begin ≡ n + 1
