-- What is read of numeric literals.
use Rattle.std.specs.Prelude.{ℕ, List, [], ◌∷◌, ◌≡◌, ◌==◌, if◌then◌else◌, length, Some, None, Result, Ok, Err}
use Rattle.gx_num.specs.declared.Number.{Number}
use Rattle.gx_num.specs.declared.NumRead.{NumRead}
use Rattle.gx_grammar.specs.Value.{characters}
use Rattle.gx_grammar.specs.Tokens.{behind_run}
use Rattle.gx_parse_tokens.specs.declared.numbers.LiteralFound.{LiteralFound}
use Rattle.gx_parse_tokens.specs.declared.numbers.LiteralFound.TheVariants.{Nothing, TooLarge, Number as TheNumber}
use Rattle.gx_parse_grammar.specs.Numeral.{number_of, number_or_zero}
use Rattle.gx_parse_grammar.specs.Tokens.{number, number_code, scan, seen, faults}
use Rattle.gx_parse_grammar.specs.Characters.{is_digit}

-- what is behind a point with its digits, if one stands there
abbrev pub digits_behind_point : List ℕ → List ℕ
digits_behind_point [] = []
digits_behind_point (c ∷ x) = if c == 46 then (behind_run is_digit x) else (c ∷ x)

-- what is behind digits, and a point with its digits
abbrev pub behind_literal : List ℕ → List ℕ
behind_literal x = digits_behind_point (behind_run is_digit x)

-- no number was read
abbrev pub IsNoNumber : Result Number NumRead → Type 0
IsNoNumber (Ok n) = ⊥
IsNoNumber (Err e) = Unit {0}

-- what was found at the front of a text
abbrev pub LiteralIs : List ℕ → LiteralFound → Type 0
LiteralIs x (Nothing left) = (scan number x ≡ None) × (faults number x ≡ None) × (left ≡ seen number x)
LiteralIs x TooLarge = faults number x ≡ Some number_code
LiteralIs x (TheNumber n rest) = (cs : List ℕ) × (scan number x ≡ Some (characters cs, rest.now)) × (faults number x ≡ None) × (length rest.now ≡ seen number x) × (n ≡ number_or_zero (number_of cs))
