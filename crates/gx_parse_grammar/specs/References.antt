-- Literal text, and references to characters by number.
use Rattle.std.specs.Prelude.{ℕ, ◌+◌, ◌*◌, ◌-◌, nat_le, List, [], ◌∷◌, ◌++◌, ◌==◌, ◌||◌, ◌&&◌, not, Bool, false, if◌then◌else◌, Option, is_some, codes}
use Rattle.gx_grammar.specs.Value.{nothing, characters}
use Rattle.gx_grammar.specs.Tokens.{IsWord, IsFrontOf, scan_word, seen_word, scan_name}
use Rattle.gx_grammar.specs.Walks.{Walk, IsWalk, reached, scan_walk, opens_walk, seen_walk}
use Rattle.gx_grammar.specs.Joined.{AreJoined, OpensJoined, scan_joined, seen_joined}
use Rattle.gx_grammar.specs.Fitting.{IsFitting, scan_fitting}
use Rattle.gx_parse_grammar.specs.declared.runs.Quote.{Quote}
use Rattle.gx_parse_grammar.specs.declared.runs.Quote.TheVariants as quote
use Rattle.gx_parse_grammar.specs.declared.runs.Run.{Run}
use Rattle.gx_parse_grammar.specs.declared.runs.Run.TheVariants as run
use Rattle.gx_parse_grammar.specs.declared.runs.Radix.{Radix}
use Rattle.gx_parse_grammar.specs.declared.runs.Radix.TheVariants as radix
use Rattle.gx_base.specs.NameCharacters.{lies_between, is_xml_character}
use Rattle.gx_parse_grammar.specs.Characters.{is_digit, no_character}
use Rattle.gx_parse_grammar.specs.Nodes.{Made}

-- literal text

abbrev pub quote_of : Quote → ℕ
quote_of quote.Double = 34
quote_of quote.Single = 39

-- the character stands for itself there
abbrev pub is_run_character : Run → ℕ → Bool
is_run_character (run.String q) = λ c. not (c == 38) && (not (c == quote_of q) && is_xml_character c)
is_run_character (run.Attribute q) = λ c. not (c == 38) && (not (c == quote_of q) && (not (c == 60) && (not (c == 123) && (not (c == 125) && is_xml_character c))))
is_run_character run.Content = λ c. not (c == 38) && (not (c == 60) && (not (c == 123) && (not (c == 125) && is_xml_character c)))

-- Tabs and line feeds in attribute values are spaces (XML 1.0, section 3.3.3).
abbrev pub shown_character : Run → ℕ → ℕ
shown_character (run.Attribute q) = λ c. if (c == 9) || (c == 10) then 32 else c
shown_character _ = λ c. c

-- A carriage return, with the line feed behind it if one stands there, is a line feed (XML 1.0, section 2.11).
-- What a character is, `after` a carriage return or not.
abbrev pub shown_at : Run → Bool → ℕ → List ℕ
shown_at r after c = if (c == 10) && after then [] else (shown_character r (if c == 13 then 10 else c) ∷ [])

abbrev pub text_of : Run → Bool → List ℕ → List ℕ
text_of r after [] = []
text_of r after (c ∷ x) = shown_at r after c ++ text_of r (c == 13) x

abbrev pub text_value : Run → List ℕ → Made
text_value r cs = characters (text_of r false cs)

-- references by number

abbrev pub prefix_of : Radix → List ℕ
prefix_of radix.Decimal = codes "&#"
prefix_of radix.Hexadecimal = codes "&#x"

abbrev pub radix_base : Radix → ℕ
radix_base radix.Decimal = 10
radix_base radix.Hexadecimal = 16

-- the digits, and what each is worth
abbrev pub is_figure : Radix → ℕ → Bool
is_figure radix.Decimal = is_digit
is_figure radix.Hexadecimal = λ c. is_digit c || (lies_between 65 70 c || lies_between 97 102 c)

abbrev pub worth : ℕ → ℕ
worth c = if nat_le c 57 then (c - 48) else (if nat_le c 70 then (c - 55) else (c - 87))

abbrev pub grown : Radix → ℕ → ℕ → ℕ
grown r n c = radix_base r * n + worth c

-- the greatest code point
abbrev pub greatest : ℕ
greatest = 1114111

-- the digits of a number that is no greater
abbrev pub numbering : Radix → Walk
numbering r = record { goes = λ n c. is_figure r c && nat_le (grown r n c) greatest; next = grown r }

abbrev pub code_value : ℕ → Made
code_value n = characters (n ∷ [])

-- the code point that digits write
abbrev pub number_value : Radix → List ℕ → Made
number_value r run = code_value (reached (numbering r) 0 run)

abbrev pub front_value : Made → Made → Made
front_value a b = a

abbrev pub back_value : Made → Made → Made
back_value a b = b

abbrev pub IsPrefix : Radix → Made → List ℕ → List ℕ → Type 0
IsPrefix r = IsWord nothing (prefix_of r) no_character

abbrev pub scan_prefix : Radix → List ℕ → Option (Made × List ℕ)
scan_prefix r x = scan_word nothing (prefix_of r) no_character x

abbrev pub OpensPrefix : Radix → List ℕ → Type 0
OpensPrefix r x = IsFrontOf x (prefix_of r)

abbrev pub IsNumbered : Radix → Made → List ℕ → List ℕ → Type 0
IsNumbered r = IsWalk (number_value r) (numbering r) 0

abbrev pub scan_numbered : Radix → List ℕ → Option (Made × List ℕ)
scan_numbered r x = scan_walk (number_value r) (numbering r) 0 x

abbrev pub IsSemicolon : Made → List ℕ → List ℕ → Type 0
IsSemicolon = IsWord nothing (59 ∷ []) no_character

abbrev pub scan_semicolon : List ℕ → Option (Made × List ℕ)
scan_semicolon x = scan_word nothing (59 ∷ []) no_character x

abbrev pub OpensSemicolon : List ℕ → Type 0
OpensSemicolon x = IsFrontOf x (59 ∷ [])

-- the number with the `;` behind it
abbrev pub IsEnded : Radix → Made → List ℕ → List ℕ → Type 0
IsEnded r = AreJoined (IsNumbered r) IsSemicolon front_value

abbrev pub OpensEnded : Radix → List ℕ → Type 0
OpensEnded r = OpensJoined (IsNumbered r) (opens_walk (numbering r) 0) OpensSemicolon

abbrev pub scan_ended : Radix → List ℕ → Option (Made × List ℕ)
scan_ended r x = scan_joined (scan_numbered r) scan_semicolon front_value x

abbrev pub seen_ended : Radix → List ℕ → ℕ
seen_ended r x = seen_joined (scan_numbered r) (seen_walk (numbering r) 0) (seen_word (59 ∷ [])) x

-- `&#`, digits and `;`, or `&#x`, hexadecimal digits and `;`
abbrev pub IsReferenceWritten : Radix → Made → List ℕ → List ℕ → Type 0
IsReferenceWritten r = AreJoined (IsPrefix r) (IsEnded r) back_value

abbrev pub OpensNumeric : Radix → List ℕ → Type 0
OpensNumeric r = OpensJoined (IsPrefix r) (OpensPrefix r) (OpensEnded r)

abbrev pub scan_written : Radix → List ℕ → Option (Made × List ℕ)
scan_written r x = scan_joined (scan_prefix r) (scan_ended r) back_value x

abbrev pub seen_numeric : Radix → List ℕ → ℕ
seen_numeric r x = seen_joined (scan_prefix r) (seen_word (prefix_of r)) (seen_ended r) x

-- the number is that of a Char (XML 1.0, section 4.1)
abbrev pub names_char : Made → Bool
names_char (characters (c ∷ [])) = is_xml_character c
names_char _ = false

-- A character reference, whose value is its character.
abbrev pub IsNumeric : Radix → Made → List ℕ → List ℕ → Type 0
IsNumeric r = IsFitting (IsReferenceWritten r) names_char

abbrev pub scan_numeric : Radix → List ℕ → Option (Made × List ℕ)
scan_numeric r x = scan_fitting (scan_written r) names_char x

-- digits of any number, with the `;` behind them
abbrev pub scan_figures : Radix → List ℕ → Option (Made × List ℕ)
scan_figures r x = scan_name characters (is_figure r) (is_figure r) no_character x

abbrev pub closes_behind : Radix → List ℕ → Bool
closes_behind r x = is_some (scan_joined (scan_figures r) scan_semicolon front_value x)

-- a reference by number is written there, whether it names a Char or not
abbrev pub closes : Radix → List ℕ → Bool
closes r x = is_some (scan_joined (scan_prefix r) (scan_joined (scan_figures r) scan_semicolon front_value) back_value x)
