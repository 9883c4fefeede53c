-- Direct constructors (XQuery 1.0, section 3.7.1).
--   Direct ::= "<" QName (White QName White? "=" White? Value)* White? ("/>" | ">" Piece* "</" QName White? ">")
--   Value ::= '"' (text | '""' | Reference | Braces)* '"' | "'" (text | "''" | Reference | Braces)* "'"
--   Piece ::= text | Reference | "<![CDATA[" text "]]>" | Braces | Direct          Braces ::= "{{" | "}}" | "{" Expr "}"
-- An end tag has the name of its start tag as it is written there.
use Rattle.std.specs.Prelude.{ℕ, zero, suc, ◌-◌, List, [], ◌∷◌, ◌++◌}
use Rattle.gx_base.specs.declared.place.Place.{Place}
use Rattle.gx_ast.specs.SyntaxTree.{Attributes, at as located, direct, no_attribute, an_attribute, no_part}
use Rattle.gx_ast.specs.SyntaxView.{attribute_parts_of, parts_of}
use Rattle.gx_grammar.specs.Value.{nothing, characters, node, pair, an_item}
use Rattle.gx_grammar.specs.Grammar.{token, ◌&◌, keyed, choose, many, rule, made}
use Rattle.gx_grammar.specs.First.{by_character}
use Rattle.gx_grammar.specs.Apart.{is}
use Rattle.gx_parse_grammar.specs.declared.word.Word.{Word}
use Rattle.gx_parse_grammar.specs.declared.word.Word.TheVariants as word
use Rattle.gx_parse_grammar.specs.declared.runs.Quote.{Quote}
use Rattle.gx_parse_grammar.specs.declared.runs.Quote.TheVariants as quote
use Rattle.gx_parse_grammar.specs.declared.runs.Run.{Run}
use Rattle.gx_parse_grammar.specs.declared.runs.Run.TheVariants as run
use Rattle.gx_parse_grammar.specs.declared.pieces.Piece.{Piece}
use Rattle.gx_parse_grammar.specs.declared.pieces.Piece.TheVariants.{Literal, Kept, Element, Enclosed}
use Rattle.gx_parse_grammar.specs.Pieces.{content_of_pieces, attribute_value_of}
use Rattle.gx_parse_grammar.specs.Nodes.{Made, Tree, Name, PieceOf, ValueIs, AttributeIs, AttributesAre, PartsAre, first_value, tree, name_at}
use Rattle.gx_base.specs.NameCharacters.{is_ncname_start}
use Rattle.gx_parse_grammar.specs.References.{quote_of}
use Rattle.gx_parse_grammar.specs.Tokens.{Token, text_run, reference, gap, qname, white, blank, no_attribute as no_more, no_element, tag_name, cdata_text}
use Rattle.gx_parse_grammar.specs.Basics.{within, nested, Phrase, word_of, at_tokens, name}
use Rattle.gx_parse_grammar.specs.Strings.{opening_of, closing_of, doubled_of}

-- the characters of a name as it is written
abbrev pub letters_in : Made → List ℕ
letters_in (pair (characters prefix) (characters local)) = prefix ++ 58 ∷ local
letters_in (pair (characters local) _) = local
letters_in _ = []

-- pieces

abbrev pub piece_made : Piece → Made
piece_made p = node (PieceOf p)

abbrev pub literal_piece : Made → Made
literal_piece (characters cs) = piece_made (Literal cs)
literal_piece _ = nothing

abbrev pub kept_piece : Made → Made
kept_piece (characters cs) = piece_made (Kept cs)
kept_piece _ = nothing

-- `<![CDATA[`, characters and their `]]>`
abbrev pub cdata_piece : Made → Made
cdata_piece (pair first (pair (characters cs) close)) = piece_made (Kept cs)
cdata_piece _ = nothing

abbrev pub element_piece : Made → Made
element_piece (node (Tree t)) = piece_made (Element t)
element_piece _ = nothing

-- `{`, a gap, an expression and `}`
abbrev pub enclosed_piece : Made → Made
enclosed_piece (pair first (pair space (pair (node (Tree t)) close))) = piece_made (Enclosed t)
enclosed_piece _ = nothing

abbrev pub pieces_in : Made → List Piece
pieces_in (an_item (node (PieceOf p)) others) = p ∷ pieces_in others
pieces_in _ = []

-- A word stands for one character.
unfoldable pub symbol_piece : Word → ℕ → Phrase
symbol_piece w c = made (λ left v. piece_made (Literal (c ∷ []))) (token (word_of w))

unfoldable pub text_piece : Run → Phrase
text_piece r = made (λ left v. literal_piece v) (token (text_run r))

-- Characters of references are kept, as are those of CDATA sections.
unfoldable pub reference_piece : Phrase
reference_piece = made (λ left v. kept_piece v) (token reference)

unfoldable pub cdata : Phrase
cdata = made (λ left v. cdata_piece v) (token (word_of word.CdataOpen) & token cdata_text & token (word_of word.TagEnd))

unfoldable pub enclosed : Phrase → Phrase
enclosed expr = made (λ left v. enclosed_piece v) (token (word_of word.BraceOpen) & token gap & expr & token (word_of word.CloseBrace))

-- two opening braces, or an enclosed expression
unfoldable pub brace_piece : Phrase → Phrase
brace_piece expr = choose (at_tokens (word_of word.TwoOpenBraces ∷ [])) (symbol_piece word.TwoOpenBraces 123) (enclosed expr)

-- braces or literal text
unfoldable pub plain_piece : Phrase → Run → Phrase
plain_piece expr r = choose (by_character (is 123)) (brace_piece expr) (choose (by_character (is 125)) (symbol_piece word.TwoCloseBraces 125) (text_piece r))

-- attributes

unfoldable pub value_piece : Phrase → Quote → Phrase
value_piece expr q =
    choose (by_character (is 38)) reference_piece (choose (by_character (is (quote_of q))) (symbol_piece (doubled_of q) (quote_of q)) (plain_piece expr (run.Attribute q)))

abbrev pub value_pieces_of : Quote → List Token
value_pieces_of q = text_run (run.Attribute q) ∷ word_of (doubled_of q) ∷ reference ∷ word_of word.TwoOpenBraces ∷ word_of word.TwoCloseBraces ∷ word_of word.BraceOpen ∷ []

unfoldable pub value_pieces : Phrase → Quote → Phrase
value_pieces expr q = many (at_tokens (value_pieces_of q)) (value_piece expr q)

-- a quote, pieces and a quote
abbrev pub value_made : Made → Made
value_made (pair opening (pair pieces closing)) = node (ValueIs (attribute_parts_of (attribute_value_of (pieces_in pieces))))
value_made _ = nothing

unfoldable pub value_in : Phrase → Quote → Phrase
value_in expr q = made (λ left v. value_made v) (token (word_of (opening_of q)) & value_pieces expr q & token (word_of (closing_of q)))

unfoldable pub attribute_value : Phrase → Phrase
attribute_value expr = choose (by_character (is 34)) (value_in expr quote.Double) (value_in expr quote.Single)

-- White space stands between an attribute and the next.
unfoldable pub behind_attribute : Phrase
behind_attribute = choose (at_tokens (white ∷ [])) (token white) (token no_more)

-- a name, white space, `=`, white space, a value, and what stands behind it
abbrev pub attribute_is : Made → Made
attribute_is (pair (node (Name q)) (pair space (pair equals (pair more (pair (node (ValueIs ps)) behind))))) = node (AttributeIs q ps)
attribute_is _ = nothing

abbrev pub attributes_in : Made → Attributes
attributes_in (an_item (node (AttributeIs q ps)) others) = an_attribute q ps (attributes_in others)
attributes_in _ = no_attribute

abbrev pub attributes_are : Made → Made
attributes_are (pair space as') = node (AttributesAre (attributes_in as'))
attributes_are _ = nothing

-- content

-- A piece of the content, where `element` reads an element.
unfoldable pub content_piece : Phrase → Phrase → Phrase
content_piece expr element =
    choose (by_character (is 38)) reference_piece
    (choose (by_character (is 60)) (choose (at_tokens (word_of word.CdataOpen ∷ [])) cdata (made (λ left v. element_piece v) element)) (plain_piece expr run.Content))

-- `start` is the token with which an element begins
abbrev pub content_pieces_of : Token → List Token
content_pieces_of start = text_run run.Content ∷ reference ∷ word_of word.CdataOpen ∷ word_of word.TwoOpenBraces ∷ word_of word.TwoCloseBraces ∷ word_of word.BraceOpen ∷ start ∷ []

unfoldable pub content_pieces : Phrase → Phrase → Token → Phrase
content_pieces expr element start = many (at_tokens (content_pieces_of start)) (content_piece expr element)

abbrev pub content_made : Made → Made
content_made v = node (PartsAre (parts_of (content_of_pieces (pieces_in v))))

unfoldable pub content : Phrase → Phrase → Token → Phrase
content expr element start = made (λ left v. content_made v) (content_pieces expr element start)

-- the end tag of an element with that name
unfoldable pub end_tag : Made → Phrase
end_tag v = token (word_of word.EndTagOpen) & token (tag_name (letters_in v)) & token blank & token (word_of word.TagEnd)

-- `>`, the content and the end tag
abbrev pub filled_value : Made → Made
filled_value (pair close (pair parts end)) = parts
filled_value _ = nothing

unfoldable pub no_content : Phrase
no_content = made (λ left v. node (PartsAre no_part)) (token (word_of word.EmptyTagEnd))

unfoldable pub filled : Phrase → Phrase → Token → Made → Phrase
filled expr element start v = made (λ left u. filled_value u) (token (word_of word.TagEnd) & content expr element start & end_tag v)

-- behind the attributes: `/>`, or `>` and the rest
unfoldable pub content_if_any : Phrase → Phrase → Token → Made → Phrase
content_if_any expr element start v = choose (by_character (is 47)) no_content (filled expr element start v)

-- `<`, a name, attributes, and the rest; the element has the place of the `<`
abbrev pub element_value : Place → Place → Made → Made
element_value place place_of_name (pair first (pair v (pair (node (AttributesAre as')) (node (PartsAre ps))))) = tree (located place (direct (name_at place_of_name v) as' ps))
element_value place place_of_name _ = nothing

-- The place of a token is `at` of the number of characters that are left there.
module _ (at : ℕ → Place) where
  unfoldable pub attribute : Phrase → Phrase
  attribute expr = made (λ left v. attribute_is v) (name at & token blank & token (word_of word.Equals) & token blank & attribute_value expr & behind_attribute)

  unfoldable pub attributes : Phrase → Phrase
  attributes expr = made (λ left v. attributes_are v) (token blank & many (by_character is_ncname_start) (attribute expr))

  -- what stands behind the `<` and the name
  unfoldable pub behind_tag : Phrase → Phrase → Token → Made → Phrase
  behind_tag expr element start v = attributes expr & content_if_any expr element start v

  unfoldable pub element_of : Phrase → Phrase → Token → Phrase
  element_of expr element start = made (λ left v. element_value (at left) (at (left - 1)) v) (token (word_of word.TagOpen) & keyed qname (behind_tag expr element start))

-- An element in the content of another is a level below it, and may not stand at level 0.
abbrev pub start_of : ℕ → Token
start_of zero = no_element
start_of (suc zero) = no_element
start_of (suc (suc n)) = word_of word.TagOpen

-- an element at a level: what it holds is a level below it
unfoldable pub element_at : (at : ℕ → Place) → ℕ → Phrase
element_at at n = element_of at (rule (within n)) (rule (nested n)) (start_of n)

unfoldable pub direct_step : (at : ℕ → Place) → ℕ → Phrase
direct_step at n = made (λ left v. first_value v) (element_at at n & token gap)
