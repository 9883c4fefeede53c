-- The tokens of type texts.
use Rattle.std.specs.Prelude.{ℕ, List, [], ◌∷◌, Bool, true, false, Option, None}
use Rattle.gx_grammar.specs.Value.{nothing, characters}
use Rattle.gx_grammar.specs.Tokens.{IsWord, IsNamed, IsFrontOf, scan_word, seen_word, scan_name, opens_name, seen_name}
use Rattle.gx_grammar.specs.Gaps.{IsGap, OpensGap, scan_gap, seen_gap}
use Rattle.gx_grammar.specs.Apart.{Shape, headed, shapeless, one_word}
use Rattle.gx_typetext.specs.declared.letters.Run.{Run}
use Rattle.gx_typetext.specs.declared.letters.Run.TheVariants as run
use Rattle.gx_base.specs.NameCharacters.{is_ncname_character, is_xml_character}
use Rattle.gx_typetext.specs.Letters.{no_character, starts, goes, stops}
use Rattle.gx_typetext.specs.Nodes.{Made}

pub data Token : Type 0 where
  -- these characters
  symbol : List ℕ → Token
  -- these characters, behind which no character of names stands
  keyword : List ℕ → Token
  -- a run of letters
  named : Run → Token
  -- white space and comments
  gap : Token

-- an NCName, behind which no `:` stands
abbrev pub local : Token
local = named run.Local

-- the characters of a URI in braces
abbrev pub uri : Token
uri = named run.Uri

abbrev pub derives : Token → Made → List ℕ → List ℕ → Type 0
derives (symbol w) = IsWord nothing w no_character
derives (keyword w) = IsWord nothing w is_ncname_character
derives (named r) = IsNamed characters (starts r) (goes r) (stops r)
derives gap = IsGap is_xml_character nothing

abbrev pub opens : Token → List ℕ → Type 0
opens (symbol w) = λ x. IsFrontOf x w
opens (keyword w) = λ x. IsFrontOf x w
opens (named r) = opens_name (starts r) (goes r)
opens gap = OpensGap is_xml_character 0

abbrev pub scan : Token → List ℕ → Option (Made × List ℕ)
scan (symbol w) = scan_word nothing w no_character
scan (keyword w) = scan_word nothing w is_ncname_character
scan (named r) = scan_name characters (starts r) (goes r) (stops r)
scan gap = scan_gap is_xml_character nothing

abbrev pub seen : Token → List ℕ → ℕ
seen (symbol w) = seen_word w
seen (keyword w) = seen_word w
seen (named r) = seen_name (starts r) (goes r)
seen gap = seen_gap is_xml_character 0

-- no token has a limit of its own
abbrev pub no_faults : Token → List ℕ → Option ℕ
no_faults t x = None

abbrev pub is_full : List ℕ → Bool
is_full [] = false
is_full (c ∷ w) = true

-- the token takes at least one character
abbrev pub takes : Token → Bool
takes (symbol w) = is_full w
takes (keyword w) = is_full w
takes (named r) = true
takes gap = false

-- how the tokens look
abbrev pub token_shape : Token → Shape
token_shape (symbol w) = one_word w no_character
token_shape (keyword w) = one_word w is_ncname_character
token_shape (named r) = headed (starts r)
token_shape gap = shapeless
