-- What the parts of the grammar are made of.
use Rattle.std.specs.Prelude.{ℕ, List, Bool, true, false, nat_eq}
use Rattle.std.specs.Cmp.Lexicographic.{pointwise}
use Rattle.gx_base.specs.declared.place.Place.{Place}
use Rattle.gx_grammar.specs.Grammar.{Grammar, Guard, token, ◌&◌, keyed, made}
use Rattle.gx_grammar.specs.Value.{nothing, characters, node, pair}
use Rattle.gx_grammar.specs.First.{by_tokens}
use Rattle.gx_parse_grammar.specs.declared.word.Word.{Word}
use Rattle.gx_parse_grammar.specs.declared.word.WordSet.{WordSet}
use Rattle.gx_parse_grammar.specs.declared.word.WordSet.TheVariants as set
use Rattle.gx_parse_grammar.specs.Words.{is_keyword}
use Rattle.gx_parse_grammar.specs.Tokens.{Token, one_of, qname, gap, word_end, scan, seen, faults}
use Rattle.gx_parse_grammar.specs.Nodes.{Node, Made, Found, operator_value, name_value}

pub data Production : Type 0 where
  -- a Single, where that many Singles may stand one inside another, itself among them
  single : ℕ → Production
  -- in a direct element that stands where so many Singles may stand one inside another: an expression in braces, and an
  -- element in the content
  within : ℕ → Production
  nested : ℕ → Production

abbrev pub Phrase : Type 0
Phrase = Grammar Token Production Node

-- a token, and the white space and comments behind it
abbrev pub lexeme : Token → Phrase
lexeme t = token t & token gap

abbrev pub word_of : Word → Token
word_of w = one_of (set.Only w)

-- What stands behind a word in front of an expression. A keyword is not joined with a number that begins with a point.
abbrev pub word_gap : Bool → Phrase
word_gap b = token (word_end b) & token gap

-- a keyword with an expression behind it
unfoldable pub keyword : Word → Phrase
keyword w = made (λ left v. nothing) (token (word_of w) & word_gap true)

-- the word that was found is a keyword
abbrev pub keyword_found : Made → Bool
keyword_found (node (Found w)) = is_keyword w
keyword_found _ = false

-- one of the tokens stands there
abbrev pub at_tokens : List Token → Guard
at_tokens ts = by_tokens scan faults seen ts

-- the name is this one, without a prefix
abbrev pub is_name : List ℕ → Made → Bool
is_name cs (pair (characters local) nothing) = pointwise nat_eq cs local
is_name cs _ = false

-- The place of a token is `at` of the number of characters that are left there.
module _ (at : ℕ → Place) where
  unfoldable pub operator : WordSet → Phrase
  operator ws = made (λ left v. operator_value (at left) v) (lexeme (one_of ws))

  -- an operator with an operand behind it
  unfoldable pub infix_operator : WordSet → Phrase
  infix_operator ws = made (λ left v. operator_value (at left) v) (keyed (one_of ws) (λ v. word_gap (keyword_found v)))

  unfoldable pub name : Phrase
  name = made (λ left v. name_value (at left) v) (token qname)
