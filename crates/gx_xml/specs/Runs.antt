-- Runs of characters: which characters they have, by a state that counts what stands before.
use Rattle.std.specs.Prelude.{ℕ, zero, suc, ◌+◌, ◌-◌, ◌*◌, ◌/◌, ◌==◌, ◌&&◌, ◌||◌, not, nat_le, Bool, true, false, if◌then◌else◌, List, [], ◌∷◌, Option, Some, None, slice_get}
use Rattle.gx_base.specs.WhiteSpace.{is_white_space}
use Rattle.gx_base.specs.NameCharacters.{is_ncname_start, is_ncname_character, is_xml_character, lies_between}
use Rattle.gx_grammar.specs.Walks.{Walk}
use Rattle.gx_tree.specs.Binding.{xml_uri}
use Rattle.gx_xml.specs.declared.runs.Quote.{Quote}
use Rattle.gx_xml.specs.declared.runs.Quote.TheVariants as quote
use Rattle.gx_xml.specs.declared.runs.Base.{Base}
use Rattle.gx_xml.specs.declared.runs.Base.TheVariants as base
use Rattle.gx_xml.specs.declared.runs.Run.{Run}
use Rattle.gx_xml.specs.declared.runs.Run.TheVariants as run

abbrev pub quote_character : Quote → ℕ
quote_character quote.Double = 34
quote_character quote.Single = 39

-- a Char but `<` and `&`
abbrev pub is_text_character : ℕ → Bool
is_text_character c = is_xml_character c && (not (c == 60) && not (c == 38))

abbrev pub same_character : Option ℕ → ℕ → Bool
same_character None c = false
same_character (Some d) c = d == c

-- the character stands at this position of the characters
abbrev pub spells_at : List ℕ → ℕ → ℕ → Bool
spells_at w n c = same_character (slice_get w n) c

abbrev pub radix : Base → ℕ
radix base.Decimal = 10
radix base.Hexadecimal = 16

abbrev pub is_digit_of : Base → ℕ → Bool
is_digit_of base.Decimal c = lies_between 48 57 c
is_digit_of base.Hexadecimal c = lies_between 48 57 c || (lies_between 65 70 c || lies_between 97 102 c)

-- the value of a digit
abbrev pub digit_of : ℕ → ℕ
digit_of c = if nat_le c 57 then c - 48 else (if nat_le c 70 then c - 55 else c - 87)

-- the number is what is left of k where some of its last digits are taken away, at most so many
abbrev pub is_front_of : ℕ → ℕ → ℕ → ℕ → Bool
is_front_of r zero k m = m == k
is_front_of r (suc n) k m = (m == k) || is_front_of r n (k / r) m

-- With further digits, or none, the number can become that of a character, and of the expected one. A number has no more
-- than seven digits in front of which no zero stands.
abbrev pub may_become : ℕ → Option ℕ → ℕ → Bool
may_become r None m = nat_le m 1114111
may_become r (Some k) m = nat_le m 1114111 && is_front_of r 7 k m

-- the character may stand in the run, behind characters with this state
abbrev pub run_goes : Run → ℕ → ℕ → Bool
run_goes run.Space n c = is_white_space c
run_goes run.Name n c = if n == 0 then is_ncname_start c else is_ncname_character c
run_goes run.Colon n c = (n == 0) && (c == 58)
run_goes run.ByteOrderMark n c = (n == 0) && (c == 65279)
run_goes run.Digits n c = is_digit_of base.Decimal c
run_goes run.Text n c = is_text_character c && not ((n == 2) && (c == 62))
run_goes run.CData n c = is_xml_character c && not ((n == 2) && (c == 62))
run_goes run.Comment n c = is_xml_character c && not (n == 2)
run_goes run.Instruction n c = is_xml_character c && not ((n == 1) && (c == 62))
run_goes (run.Value q) n c = is_text_character c && not (c == quote_character q)
run_goes run.NamespaceOfXml n c = spells_at xml_uri n c
run_goes (run.Numeral b expected) n c = is_digit_of b c && may_become (radix b) expected (n * radix b + digit_of c)

-- the state behind the character: how many brackets or hyphens stand there, whether a `?` does, a number, or how much was read
abbrev pub run_next : Run → ℕ → ℕ → ℕ
run_next run.Space n c = 0
run_next run.Name n c = 1
run_next run.Colon n c = 1
run_next run.ByteOrderMark n c = 1
run_next run.Digits n c = 0
run_next run.Text n c = if c == 93 then (if n == 0 then 1 else 2) else 0
run_next run.CData n c = if c == 93 then (if n == 0 then 1 else 2) else 0
run_next run.Comment n c = if c == 45 then (if n == 0 then 1 else 2) else 0
run_next run.Instruction n c = if c == 63 then 1 else 0
run_next (run.Value q) n c = 0
run_next run.NamespaceOfXml n c = n + 1
run_next (run.Numeral b expected) n c = n * radix b + digit_of c

abbrev pub walk_for : Run → Walk
walk_for r = record { goes = run_goes r; next = run_next r }

-- what a character of a text stands for; in a value, a literal tab or line feed becomes a space (XML 1.0, section 3.3.3)
abbrev pub character_kept : Bool → ℕ → ℕ
character_kept spaces c = if spaces && ((c == 9) || (c == 10)) then 32 else c

-- Line ends become line feeds (XML 1.0, section 2.11): behind a carriage return a line feed is dropped.
abbrev pub normalised : (spaces behind_return : Bool) → List ℕ → List ℕ
normalised spaces behind_return [] = []
normalised spaces behind_return (c ∷ x) =
    if c == 13 then (character_kept spaces 10 ∷ normalised spaces true x)
    else (if behind_return && (c == 10) then (normalised spaces false x) else (character_kept spaces c ∷ normalised spaces false x))

-- the characters of a text
abbrev pub text_normalised : List ℕ → List ℕ
text_normalised x = normalised false false x

abbrev pub value_normalised : List ℕ → List ℕ
value_normalised x = normalised true false x
