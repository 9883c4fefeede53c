-- What a number is: an integer, or a decimal by its number of units of 10^-6. XML Schema Part 2, 3.3.13 and 3.2.3.
use Rattle.std.specs.Prelude.{◌*ℤ◌, ◌^◌, ◌<◌, ℤ, pos, negsuc, unsigned_abs, Bool, nat_lt, ◌≡◌, FitsSigned}
use Rattle.std.specs.Int.{w128}
use Rattle.gx_num.specs.declared.Number.{Number}
use Rattle.gx_num.specs.declared.Number.TheVariants.{Int, Dec}

-- the number in units of 10^-6
abbrev pub units_of : Number → ℤ
units_of (Int i) = i *ℤ pos 1000000
units_of (Dec u) = u

-- an xs:integer lies from -2^127 to 2^127 - 1
abbrev pub FitsInteger : ℤ → Type 0
FitsInteger i = FitsSigned w128 i

-- an xs:decimal, in units of 10^-6, has a magnitude below 10^12
abbrev pub FitsDecimal : ℤ → Type 0
FitsDecimal u = unsigned_abs u < 1000000000000000000

abbrev pub InRange : Number → Type 0
InRange (Int i) = FitsInteger i
InRange (Dec u) = FitsDecimal u

abbrev pub IsZero : Number → Type 0
IsZero (Int i) = i ≡ pos 0
IsZero (Dec u) = u ≡ pos 0

-- the same as tests
abbrev pub fits_integer : ℤ → Bool
fits_integer (pos n) = nat_lt n (2 ^ 127)
fits_integer (negsuc n) = nat_lt n (2 ^ 127)

abbrev pub fits_decimal : ℤ → Bool
fits_decimal u = nat_lt (unsigned_abs u) 1000000000000000000

abbrev pub in_range : Number → Bool
in_range (Int i) = fits_integer i
in_range (Dec u) = fits_decimal u

abbrev pub is_zero : Number → Bool
is_zero (Int i) = nat_lt (unsigned_abs i) 1
is_zero (Dec u) = nat_lt (unsigned_abs u) 1
