-- The effective boolean value of one atomic value (XQuery 1.0, section 2.4.3).
use Rattle.std.specs.Prelude.{ℕ, Bool, true, false, not, List, [], ◌∷◌}
use Rattle.gx_num.specs.Number.{is_zero}
use Rattle.gx_facets.specs.declared.AtomValue.{AtomValue}
use Rattle.gx_facets.specs.declared.AtomValue.TheVariants.{Untyped, Str, Truth, Num}

abbrev pub has_character : List ℕ → Bool
has_character [] = false
has_character (c ∷ cs) = true

abbrev pub effective_boolean_value : AtomValue → Bool
effective_boolean_value (Untyped text) = has_character text
effective_boolean_value (Str text) = has_character text
effective_boolean_value (Truth b) = b
effective_boolean_value (Num n) = not (is_zero n)

-- whether a value is a boolean
abbrev pub is_boolean_value : AtomValue → Bool
is_boolean_value (Truth b) = true
is_boolean_value value = false
