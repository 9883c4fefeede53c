-- Elements as they are written, with expressions in braces, where at most three elements stand in one another.
--   Element ::= "<" Name (White Attribute?)* ("/>" | ">" (Text | Braces | Element)* "</" Name White? ">")
--   Attribute ::= Name White? "=" White? '"' (Text | '""' | Braces)* '"'
--   Braces ::= "{{" | "}}" | "{" Item ("," Item)* "}"
--   Item ::= Number | Element
-- An end tag has the name of its start tag. White space and comments may stand between the tokens in braces, and nowhere
-- else: in tags white space alone may, and in contents and values it is text.
use Rattle.std.specs.Prelude.{ℕ, zero, suc, List, [], ◌∷◌, ◌++◌, ◌+◌, ◌||◌, ◌&&◌, not, length, codes, Bool, Result}
use Rattle.gx_base.specs.WhiteSpace.{is_white_space}
use Rattle.gx_grammar.specs.Value.{Value, nothing, characters, node, pair, no_item, an_item}
use Rattle.gx_grammar.specs.Grammar.{Grammar, Guard, token, empty, ◌&◌, keyed, choose, many, rule, made}
use Rattle.gx_grammar.specs.Language.{Language}
use Rattle.gx_grammar.specs.First.{by_character, by_tokens}
use Rattle.gx_grammar.specs.Apart.{is}
use Rattle.gx_grammar.specs.Reading.{Refusal}
use Rattle.gx_grammar.specs.Text.{read_text}
use Rattle.gx_grammar.specs.Sums.{is_letter, no_character}
use Rattle.gx_grammar_examples.specs.Tokens.{Token, word, named, run, gap, barred, symbol, name, digits, is_name_character, scan, seen, faults, first_value, second_value, lexeme, language_of}

mutual
  -- what stands in an element, an attribute or braces
  pub data Tree : Type 0 where
    element : (letters : List ℕ) → (attributes content : Trees) → Tree
    attribute : (letters : List ℕ) → (value : Trees) → Tree
    text : (letters : List ℕ) → Tree
    enclosed : (items : Trees) → Tree
    numeral : (digits : List ℕ) → Tree

  pub data Trees : Type 0 where
    no_tree : Trees
    a_tree : (first : Tree) → (others : Trees) → Trees

abbrev pub Made : Type 0
Made = Value Tree

pub data Production : Type 0 where
  -- an element, where so many elements may stand in one another, itself among them
  nested : (levels : ℕ) → Production

abbrev pub Phrase : Type 0
Phrase = Grammar Token Production Tree

-- tokens

abbrev pub less : Token
less = word (codes "<") (is 47)

abbrev pub end_tag_open : Token
end_tag_open = symbol (codes "</")

abbrev pub tag_end : Token
tag_end = symbol (codes ">")

abbrev pub empty_tag_end : Token
empty_tag_end = symbol (codes "/>")

abbrev pub equals : Token
equals = symbol (codes "=")

abbrev pub open_quote : Token
open_quote = symbol (codes "\"")

-- A quote that ends a value is not doubled.
abbrev pub close_quote : Token
close_quote = word (codes "\"") (is 34)

abbrev pub two_quotes : Token
two_quotes = symbol (codes "\"\"")

abbrev pub brace : Token
brace = word (codes "{") (is 123)

abbrev pub close_brace : Token
close_brace = symbol (codes "}")

abbrev pub two_braces : Token
two_braces = symbol (codes "{{")

abbrev pub two_close_braces : Token
two_close_braces = symbol (codes "}}")

abbrev pub comma : Token
comma = symbol (codes ",")

abbrev pub white : Token
white = named is_white_space is_white_space no_character

abbrev pub maybe_white : Token
maybe_white = run is_white_space

-- Text in a content, and in a value. It has no `<`, `&`, `{` or `}`, and in a value no quote.
abbrev pub is_content_character : ℕ → Bool
is_content_character c = not (is 60 c || (is 38 c || (is 123 c || is 125 c)))

abbrev pub is_value_character : ℕ → Bool
is_value_character c = is_content_character c && not (is 34 c)

abbrev pub content_text : Token
content_text = named is_content_character is_content_character no_character

abbrev pub value_text : Token
value_text = named is_value_character is_value_character no_character

-- what begins an element, where so many levels are left
abbrev pub start_of : ℕ → Token
start_of zero = barred (codes "<") is_letter
start_of (suc levels) = less

-- that name again
abbrev pub name_again : Made → Token
name_again (characters letters) = word letters is_name_character
name_again _ = word [] is_name_character

-- what the parts make

abbrev pub text_made : Made → Made
text_made (characters letters) = node (text letters)
text_made _ = nothing

abbrev pub numeral_made : Made → Made
numeral_made (characters digits) = node (numeral digits)
numeral_made _ = nothing

-- Texts that stand side by side are one.
abbrev pub put_first : Tree → Trees → Trees
put_first (text letters) (a_tree (text others) ts) = a_tree (text (letters ++ others)) ts
put_first t ts = a_tree t ts

abbrev pub trees_in : Made → Trees
trees_in (an_item (node t) others) = put_first t (trees_in others)
trees_in _ = no_tree

-- `{`, a gap, an item, others behind commas, and `}`
abbrev pub enclosed_made : Made → Made
enclosed_made (pair begin (pair space (pair first (pair others close)))) = node (enclosed (trees_in (an_item first others)))
enclosed_made _ = nothing

-- a name, white space, `=`, white space, `"`, the value and `"`
abbrev pub attribute_from : Made → Made
attribute_from (pair (characters letters) (pair space (pair sign (pair more (pair begin (pair value close)))))) = node (attribute letters (trees_in value))
attribute_from _ = nothing

-- white space, each with an attribute or none
abbrev pub attributes_in : Made → Trees
attributes_in (an_item (pair space (node t)) others) = a_tree t (attributes_in others)
attributes_in (an_item (pair space nothing) others) = attributes_in others
attributes_in _ = no_tree

-- `<`, a name, the attributes and the content
abbrev pub element_made : Made → Made
element_made (pair begin (pair (characters letters) (pair attributes content))) = node (element letters (attributes_in attributes) (trees_in content))
element_made _ = nothing

-- the grammar

abbrev pub at_tokens : List Token → Guard
at_tokens ts = by_tokens {Node = Tree} scan faults seen ts

-- characters that are written twice stand for one
unfoldable pub doubled : Token → ℕ → Phrase
doubled t c = made (λ left v. node (text (c ∷ []))) (token t)

unfoldable pub enclosed_item : ℕ → Phrase
enclosed_item levels = choose (by_character (is 60)) (made (λ left v. first_value v) (rule (nested levels) & token gap)) (made (λ left v. numeral_made v) (lexeme digits))

unfoldable pub enclosed_items : ℕ → Phrase
enclosed_items levels =
    made (λ left v. enclosed_made v)
    (token brace & token gap & enclosed_item levels & many (by_character (is 44)) (made (λ left v. second_value v) (lexeme comma & enclosed_item levels)) & token close_brace)

unfoldable pub braces : ℕ → Phrase
braces levels = choose (at_tokens (two_braces ∷ [])) (doubled two_braces 123) (enclosed_items levels)

-- braces, or text
unfoldable pub braces_or_text : ℕ → Token → Phrase
braces_or_text levels letters =
    choose (by_character (is 123)) (braces levels) (choose (by_character (is 125)) (doubled two_close_braces 125) (made (λ left v. text_made v) (token letters)))

unfoldable pub value_part : ℕ → Phrase
value_part levels = choose (by_character (is 34)) (doubled two_quotes 34) (braces_or_text levels value_text)

abbrev pub value_starts : List Token
value_starts = value_text ∷ two_quotes ∷ two_braces ∷ two_close_braces ∷ brace ∷ []

unfoldable pub value : ℕ → Phrase
value levels = many (at_tokens value_starts) (value_part levels)

unfoldable pub one_attribute : ℕ → Phrase
one_attribute levels = made (λ left v. attribute_from v) (token name & token maybe_white & token equals & token maybe_white & token open_quote & value levels & token close_quote)

unfoldable pub attributes : ℕ → Phrase
attributes levels = many (by_character is_white_space) (token white & choose (by_character is_letter) (one_attribute levels) empty)

unfoldable pub content_part : ℕ → Phrase
content_part levels = choose (by_character (is 60)) (rule (nested levels)) (braces_or_text levels content_text)

abbrev pub content_starts : ℕ → List Token
content_starts levels = content_text ∷ two_braces ∷ two_close_braces ∷ brace ∷ start_of levels ∷ []

unfoldable pub content : ℕ → Phrase
content levels = many (at_tokens (content_starts levels)) (content_part levels)

unfoldable pub end_tag : Made → Phrase
end_tag v = token end_tag_open & token (name_again v) & token maybe_white & token tag_end

-- `>`, the content and the end tag
abbrev pub content_in : Made → Made
content_in (pair close (pair v end)) = v
content_in _ = nothing

unfoldable pub content_and_end : ℕ → Made → Phrase
content_and_end levels v = made (λ left w. content_in w) (token tag_end & content levels & end_tag v)

-- what stands behind the name of a start tag
unfoldable pub rest_of_element : ℕ → Made → Phrase
rest_of_element levels v = attributes levels & choose (by_character (is 47)) (made (λ left w. no_item) (token empty_tag_end)) (content_and_end levels v)

abbrev pub rules : Production → Phrase
rules (nested zero) = token (start_of zero)
rules (nested (suc levels)) = made (λ left v. element_made v) (token less & keyed name (λ v. rest_of_element levels v))

-- what may stand behind an element: parts of a content, an end tag, or what stands behind an item
abbrev pub following : List Token
following = content_text ∷ two_braces ∷ two_close_braces ∷ brace ∷ start_of zero ∷ less ∷ end_tag_open ∷ gap ∷ comma ∷ close_brace ∷ []

abbrev pub direct : Language
direct = language_of rules following

-- a text is one element
abbrev pub direct_text : Phrase
direct_text = rule (nested 3)

-- what a text reads as
abbrev pub read_direct : List ℕ → Result Made Refusal
read_direct letters = read_text direct (4 + length letters) direct_text letters
