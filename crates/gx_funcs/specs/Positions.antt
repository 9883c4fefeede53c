-- What stands at some positions of a list (Functions and Operators, sections 7.4.3, 15.1.7, 15.1.8 and 15.1.10).
use Rattle.std.specs.Prelude.{ℕ, ◌-◌, ℤ, pos, negsuc, ◌+ℤ◌, Bool, ◌&&◌, List, [], ◌∷◌, ◌++◌, Option, None, Some, int_le, int_lt, if◌then◌else◌}
use Rattle.gx_num.specs.declared.Number.{Number}
use Rattle.gx_num.specs.Arithmetic.{exact_round, truncated}

-- the whole number that is nearest to a number; halves go up
abbrev pub nearest_whole : Number → ℤ
nearest_whole n = truncated (exact_round n)

-- a position from one number on, and below another, if there is one
abbrev pub stands_within : (least : ℤ) (limit : Option ℤ) → ℤ → Bool
stands_within least None position = int_le least position
stands_within least (Some limit) position = int_le least position && int_lt position limit

-- the elements whose positions are so; the first has this position
abbrev pub within_positions : {A : Type 0} → (least : ℤ) (limit : Option ℤ) → (position : ℤ) → List A → List A
within_positions least limit position [] = []
within_positions least limit position (x ∷ xs) =
    if stands_within least limit position then x ∷ within_positions least limit (position +ℤ pos 1) xs
    else within_positions least limit (position +ℤ pos 1) xs

-- the elements from a position on, and so many of them; the first has the position 1
abbrev pub from_position : {A : Type 0} → (start : Number) → List A → List A
from_position start xs = within_positions (nearest_whole start) None (pos 1) xs

abbrev pub so_many_from : {A : Type 0} → (start length : Number) → List A → List A
so_many_from start length xs = within_positions (nearest_whole start) (Some (nearest_whole start +ℤ nearest_whole length)) (pos 1) xs

-- how many positions stand before one
abbrev pub positions_before : ℤ → ℕ
positions_before (pos n) = n - 1
positions_before (negsuc n) = 0

-- two positions are one
abbrev pub is_position : ℤ → ℤ → Bool
is_position wanted position = int_le wanted position && int_le position wanted

-- the elements but that at a position; the first has this position
abbrev pub all_but : {A : Type 0} → (removed position : ℤ) → List A → List A
all_but removed position [] = []
all_but removed position (x ∷ xs) = if is_position removed position then xs else x ∷ all_but removed (position +ℤ pos 1) xs

-- others in front of the element at a position, or behind all elements; the first has this position
abbrev pub with_before : {A : Type 0} → (next position : ℤ) → (others : List A) → List A → List A
with_before next position others [] = others
with_before next position others (x ∷ xs) =
    if int_le next position then others ++ x ∷ xs else x ∷ with_before next (position +ℤ pos 1) others xs

-- the elements but that at a position, and with others before that at a position; the first has the position 1, as a lesser one has
abbrev pub without_position : {A : Type 0} → (removed : ℤ) → List A → List A
without_position removed xs = all_but removed (pos 1) xs

abbrev pub inserted_before : {A : Type 0} → (next : ℤ) → (others : List A) → List A → List A
inserted_before next others xs = with_before next (pos 1) others xs
