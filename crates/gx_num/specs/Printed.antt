-- The text of a number: the canonical representation of XML Schema Part 2, 3.3.13.2, for an integer, and for a decimal
-- digits without trailing zeros, and as an integer where it is whole (Functions and Operators, 17.1.2).
use Rattle.std.specs.Prelude.{ℕ, zero, suc, ◌+◌, ◌/◌, ◌%◌, ◌^◌, ◌==◌, if◌then◌else◌, List, [], ◌∷◌, ◌++◌, ℤ, pos, negsuc}
use Rattle.std.specs.Fmt.{decimal, signed_decimal}
use Rattle.gx_num.specs.declared.Number.{Number}
use Rattle.gx_num.specs.declared.Number.TheVariants.{Int, Dec}

-- the first n places of rest units of 10^-n, up to the last that is not zero
unfoldable pub places_text : ℕ → ℕ → List ℕ
places_text zero rest = []
places_text (suc n) rest = if rest == 0 then [] else (48 + rest / 10 ^ n) ∷ places_text n (rest % 10 ^ n)

abbrev pub fraction_text : ℕ → List ℕ
fraction_text rest = if rest == 0 then [] else 46 ∷ places_text 6 rest

-- so many units of 10^-6
abbrev pub units_text : ℕ → List ℕ
units_text n = decimal (n / 1000000) ++ fraction_text (n % 1000000)

abbrev pub signed_units_text : ℤ → List ℕ
signed_units_text (pos n) = units_text n
signed_units_text (negsuc n) = 45 ∷ units_text (suc n)

abbrev pub printed : Number → List ℕ
printed (Int i) = signed_decimal i
printed (Dec u) = signed_units_text u
