-- String literals (XQuery 1.0, section 3.1.1).
use Rattle.std.specs.Prelude.{ℕ, List, [], ◌∷◌, ◌++◌}
use Rattle.gx_base.specs.declared.place.Place.{Place}
use Rattle.gx_ast.specs.SyntaxTree.{at as located, string}
use Rattle.gx_grammar.specs.Value.{nothing, characters, node, pair, an_item}
use Rattle.gx_grammar.specs.Grammar.{token, ◌&◌, choose, many, made}
use Rattle.gx_grammar.specs.First.{by_character}
use Rattle.gx_grammar.specs.Apart.{is}
use Rattle.gx_parse_grammar.specs.declared.word.Word.{Word}
use Rattle.gx_parse_grammar.specs.declared.word.Word.TheVariants as word
use Rattle.gx_parse_grammar.specs.declared.runs.Quote.{Quote}
use Rattle.gx_parse_grammar.specs.declared.runs.Quote.TheVariants as quote
use Rattle.gx_parse_grammar.specs.declared.runs.Run.TheVariants as run
use Rattle.gx_parse_grammar.specs.Nodes.{Made, Found, tree}
use Rattle.gx_parse_grammar.specs.References.{quote_of}
use Rattle.gx_parse_grammar.specs.Tokens.{Token, text_run, reference, gap}
use Rattle.gx_parse_grammar.specs.Basics.{Phrase, word_of, at_tokens}

-- the quote in front, the one behind, and a doubled one between
abbrev pub opening_of : Quote → Word
opening_of quote.Double = word.Quote
opening_of quote.Single = word.Apostrophe

abbrev pub closing_of : Quote → Word
closing_of quote.Double = word.QuoteEnd
closing_of quote.Single = word.ApostropheEnd

abbrev pub doubled_of : Quote → Word
doubled_of quote.Double = word.TwoQuotes
doubled_of quote.Single = word.TwoApostrophes

-- what a run, a reference or a doubled quote stands for
abbrev pub part_text : Made → List ℕ
part_text (characters cs) = cs
part_text (node (Found word.TwoQuotes)) = 34 ∷ []
part_text (node (Found word.TwoApostrophes)) = 39 ∷ []
part_text _ = []

abbrev pub texts_in : Made → List ℕ
texts_in (an_item v others) = part_text v ++ texts_in others
texts_in _ = []

-- what stands between the quotes
abbrev pub text_of_parts : Made → List ℕ
text_of_parts (pair opening (pair parts closing)) = texts_in parts
text_of_parts _ = []

abbrev pub string_made : Place → Made → Made
string_made place (pair v behind) = tree (located place (string (text_of_parts v)))
string_made place _ = nothing

unfoldable pub string_part : Quote → Phrase
string_part q = choose (by_character (is 38)) (token reference) (choose (by_character (is (quote_of q))) (token (word_of (doubled_of q))) (token (text_run (run.String q))))

-- what begins one
abbrev pub parts_of : Quote → List Token
parts_of q = text_run (run.String q) ∷ word_of (doubled_of q) ∷ reference ∷ []

unfoldable pub string_parts : Quote → Phrase
string_parts q = many (at_tokens (parts_of q)) (string_part q)

unfoldable pub quoted : Quote → Phrase
quoted q = token (word_of (opening_of q)) & string_parts q & token (word_of (closing_of q))

module _ (at : ℕ → Place) where
  unfoldable pub string_of : Quote → Phrase
  string_of q = made (λ left v. string_made (at left) v) (quoted q & token gap)
