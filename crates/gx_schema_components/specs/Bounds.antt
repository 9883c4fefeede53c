-- How often a particle may occur (XML Schema 1.0 part 1, section 3.9.1), of numbers with any number of digits.
use Rattle.std.specs.Prelude.{ℕ, ◌+◌, ◌-◌, ◌*◌, ◌^◌, ◌<◌, min, Bool, true, nat_le, List, [], ◌∷◌, Option, None, Some}
use Rattle.std.specs.Option.{option_map}
use Rattle.std.specs.Str.{encode_utf8_all}
use Rattle.gx_schema_syntax.specs.declared.written.Bounds.{Bounds as WrittenBounds}
use Rattle.gx_schema_components.specs.declared.component.Bounds.{Bounds}

-- a byte that is no digit counts as the nearest one
abbrev pub digit_at : ℕ → ℕ
digit_at byte = min (byte - 48) 9

-- the number of digits behind those of a number
abbrev pub number_behind : ℕ → List ℕ → ℕ
number_behind number [] = number
number_behind number (byte ∷ bytes) = number_behind (10 * number + digit_at byte) bytes

abbrev pub number_written : List ℕ → ℕ
number_written bytes = number_behind 0 bytes

abbrev pub number_of_text : List ℕ → ℕ
number_of_text text = number_written (encode_utf8_all text)

-- the greatest that is kept
abbrev pub saturated : ℕ → ℕ
saturated number = min number (2 ^ 32 - 1)

abbrev pub is_at_most_greatest : ℕ → Option ℕ → Bool
is_at_most_greatest least None = true
is_at_most_greatest least (Some greatest) = nat_le least greatest

abbrev pub bounds_of : WrittenBounds → Bounds
bounds_of bounds = record {
  least = saturated (number_of_text bounds.least);
  greatest = option_map (λ (text : List ℕ). saturated (number_of_text text)) bounds.greatest;
  are_ordered = is_at_most_greatest (number_of_text bounds.least) (option_map number_of_text bounds.greatest);
}

-- ---- steps of the code

-- the first digit is not zero
abbrev pub BeginsWithDigit : List ℕ → Type 0
BeginsWithDigit [] = Unit {0}
BeginsWithDigit (byte ∷ bytes) = 0 < digit_at byte
