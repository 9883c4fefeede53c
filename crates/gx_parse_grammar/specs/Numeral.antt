-- Numeric literals: digits with at most one point among them, first or last or between.
use Rattle.std.specs.Prelude.{ℕ, List, [], ◌∷◌, ◌++◌, ◌==◌, ◌||◌, Bool, true, false, Option, ℤ, pos, Result, Ok, Err, if◌then◌else◌}
use Rattle.gx_num.specs.declared.Number.{Number}
use Rattle.gx_num.specs.declared.Number.TheVariants.{Int, Dec}
use Rattle.gx_num.specs.declared.NumRead.{NumRead}
use Rattle.gx_num.specs.Lexical.{integer_of, decimal_of}
use Rattle.gx_grammar.specs.Value.{Value, nothing, characters}
use Rattle.gx_grammar.specs.Tokens.{IsRun, IsNamed, scan_run, scan_name, opens_run, opens_name, seen_run, seen_name}
use Rattle.gx_grammar.specs.Joined.{AreJoined, OpensJoined, scan_joined, seen_joined, IsOptional, scan_optional}
use Rattle.gx_grammar.specs.First.{head_passes}
use Rattle.gx_grammar.specs.Fitting.{IsFitting, scan_fitting}
use Rattle.gx_grammar.specs.Apart.{is}
use Rattle.gx_parse_grammar.specs.Characters.{is_digit, no_character}

-- the characters of two values, one behind the other
abbrev pub together : {Node : Type 0} → Value Node → Value Node → Value Node
together (characters a) (characters b) = characters (a ++ b)
together _ _ = nothing

-- digits, which may be none
abbrev pub IsDigits : {Node : Type 0} → Value Node → List ℕ → List ℕ → Type 0
IsDigits = IsRun characters is_digit no_character

abbrev pub scan_numeral_digits : {Node : Type 0} → List ℕ → Option (Value Node × List ℕ)
scan_numeral_digits x = scan_run characters is_digit no_character x

-- a point with the digits behind it
abbrev pub IsFraction : {Node : Type 0} → Value Node → List ℕ → List ℕ → Type 0
IsFraction = IsNamed characters (is 46) is_digit no_character

abbrev pub scan_fraction : {Node : Type 0} → List ℕ → Option (Value Node × List ℕ)
scan_fraction x = scan_name characters (is 46) is_digit no_character x

abbrev pub starts_point : List ℕ → Bool
starts_point x = head_passes (is 46) x

abbrev pub HasFraction : {Node : Type 0} → Value Node → List ℕ → List ℕ → Type 0
HasFraction = IsOptional IsFraction starts_point (characters [])

abbrev pub scan_with_fraction : {Node : Type 0} → List ℕ → Option (Value Node × List ℕ)
scan_with_fraction x = scan_optional scan_fraction starts_point (characters []) x

-- digits and a point in any number
abbrev pub IsPointed : {Node : Type 0} → Value Node → List ℕ → List ℕ → Type 0
IsPointed = AreJoined IsDigits HasFraction together

abbrev pub OpensNumeral : (Node : Type 0) → List ℕ → Type 0
OpensNumeral Node = OpensJoined {V = Value Node} IsDigits (opens_run is_digit) (opens_name (is 46) is_digit)

abbrev pub scan_pointed : {Node : Type 0} → List ℕ → Option (Value Node × List ℕ)
scan_pointed x = scan_joined scan_numeral_digits scan_with_fraction together x

abbrev pub seen_numeral : (Node : Type 0) → List ℕ → ℕ
seen_numeral Node x = seen_joined {V = Value Node} scan_numeral_digits (seen_run is_digit) (seen_name (is 46) is_digit) x

abbrev pub any_digit : List ℕ → Bool
any_digit [] = false
any_digit (c ∷ cs) = is_digit c || any_digit cs

abbrev pub has_digit : {Node : Type 0} → Value Node → Bool
has_digit (characters cs) = any_digit cs
has_digit _ = false

abbrev pub has_point : List ℕ → Bool
has_point [] = false
has_point (c ∷ cs) = (c == 46) || has_point cs

abbrev pub as_integer : Result ℤ NumRead → Result Number NumRead
as_integer (Ok z) = Ok (Int z)
as_integer (Err e) = Err e

abbrev pub as_decimal : Result ℤ NumRead → Result Number NumRead
as_decimal (Ok z) = Ok (Dec z)
as_decimal (Err e) = Err e

-- The number that a literal writes: an xs:integer without a point, and an xs:decimal with one.
unfoldable pub number_of : List ℕ → Result Number NumRead
number_of cs = if has_point cs then (as_decimal (decimal_of cs)) else (as_integer (integer_of cs))

abbrev pub is_right : Result Number NumRead → Bool
is_right (Ok n) = true
is_right (Err e) = false

-- the literal is a number within the limits
abbrev pub is_small : {Node : Type 0} → Value Node → Bool
is_small (characters cs) = is_right (number_of cs)
is_small _ = false

-- A numeric literal of any size, and one within the limits.
abbrev pub IsLiteral : {Node : Type 0} → Value Node → List ℕ → List ℕ → Type 0
IsLiteral = IsFitting IsPointed has_digit

abbrev pub scan_literal : {Node : Type 0} → List ℕ → Option (Value Node × List ℕ)
scan_literal x = scan_fitting scan_pointed has_digit x

abbrev pub IsNumeral : {Node : Type 0} → Value Node → List ℕ → List ℕ → Type 0
IsNumeral = IsFitting IsLiteral is_small

abbrev pub scan_numeral : {Node : Type 0} → List ℕ → Option (Value Node × List ℕ)
scan_numeral x = scan_fitting scan_literal is_small x

-- the number, if there is one
abbrev pub number_or_zero : Result Number NumRead → Number
number_or_zero (Ok n) = n
number_or_zero (Err e) = Int (pos 0)

-- the number that a literal writes
abbrev pub number_in : {Node : Type 0} → Value Node → Number
number_in (characters cs) = number_or_zero (number_of cs)
number_in _ = Int (pos 0)
