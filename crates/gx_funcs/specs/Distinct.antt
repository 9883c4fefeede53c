-- Values that are equal (Functions and Operators, sections 15.1.3 and 15.1.6).
use Rattle.std.specs.Prelude.{ℤ, pos, ◌+ℤ◌, Bool, not, List, [], ◌∷◌, filter, if◌then◌else◌}
use Rattle.gx_facets.specs.declared.Atomic.{Atomic}
use Rattle.gx_atomic.specs.declared.comparison.Op.TheVariants.{Eq}
use Rattle.gx_funcs.specs.Function.{integer_atom}
use Rattle.gx_funcs.specs.Numbers.{compares}

-- values that cannot be compared are not equal
abbrev pub are_equal_values : Atomic → Atomic → Bool
are_equal_values a b = compares Eq a b

-- of values that are equal the first stays
abbrev pub distinct_values : List Atomic → List Atomic
distinct_values [] = []
distinct_values (a ∷ values) = a ∷ filter (λ b. not (are_equal_values a b)) (distinct_values values)

-- the positions of the values that are equal to one; the first has this position
abbrev pub positions_from : (position : ℤ) → (searched : Atomic) → List Atomic → List Atomic
positions_from position searched [] = []
positions_from position searched (a ∷ values) =
    if are_equal_values a searched then integer_atom position ∷ positions_from (position +ℤ pos 1) searched values
    else positions_from (position +ℤ pos 1) searched values

abbrev pub equal_positions : (searched : Atomic) → List Atomic → List Atomic
equal_positions searched values = positions_from (pos 1) searched values
