-- How a FLWOR expression orders what it returns.
--   OrderBy ::= "stable"? "order" "by" Key ("," Key)*          Key ::= Single and how it orders
-- It has at most 64 keys.
use Rattle.std.specs.Prelude.{ℕ, zero, suc, [], ◌∷◌, Bool, true, false}
use Rattle.gx_base.specs.declared.place.Place.{Place}
use Rattle.gx_ast.specs.SyntaxTree.{Keys, no_key, a_key}
use Rattle.gx_ast.specs.declared.expression.Key.{Key}
use Rattle.gx_grammar.specs.Value.{nothing, node, pair}
use Rattle.gx_grammar.specs.Grammar.{token, empty, ◌&◌, choose, rule, made}
use Rattle.gx_parse_grammar.specs.declared.word.Barrier.TheVariants as barrier
use Rattle.gx_parse_grammar.specs.declared.word.Word.TheVariants as word
use Rattle.gx_parse_grammar.specs.Nodes.{Made, Tree, Found, Ordering, second_value, tree}
use Rattle.gx_parse_grammar.specs.Tokens.{barred}
use Rattle.gx_parse_grammar.specs.Basics.{Phrase, single, word_of, lexeme, keyword, at_tokens}
use Rattle.gx_parse_grammar.specs.Bound.{order_made, key_order}

abbrev pub key_made : Key → Made
key_made k = pair (tree k.value) (order_made k.order)

abbrev pub keys_in : Made → Keys
keys_in (pair (pair (node (Tree t)) (node (Ordering o))) others) = a_key t o (keys_in others)
keys_in _ = no_key

-- whether `stable` stands in front, and the keys
abbrev pub order_clause_made : Bool → Made → Made
order_clause_made true keys = pair (node (Found word.Stable)) keys
order_clause_made false keys = pair nothing keys

abbrev pub is_stable : Made → Bool
is_stable (pair (node stable) keys) = true
is_stable _ = false

abbrev pub clause_keys : Made → Keys
clause_keys (pair stable keys) = keys_in keys
clause_keys _ = no_key

-- The place of a token is `at` of the number of characters that are left there.
module _ (at : ℕ → Place) where
  unfoldable pub key : ℕ → Phrase
  key n = rule (single n) & key_order at

  unfoldable pub further_key : ℕ → Phrase
  further_key n = made (λ left v. second_value v) (lexeme (word_of word.Comma) & key n)

  -- at most so many further keys
  unfoldable pub more_keys : ℕ → ℕ → Phrase
  more_keys n zero = choose (at_tokens (word_of word.Comma ∷ [])) (lexeme (word_of word.Comma) & token (barred barrier.Single)) empty
  more_keys n (suc k) = choose (at_tokens (word_of word.Comma ∷ [])) (further_key n & more_keys n k) empty

  -- `order by` with 1 to 64 keys
  unfoldable pub ordered : ℕ → Phrase
  ordered n = made (λ left v. second_value (second_value v)) (lexeme (word_of word.Order) & keyword word.By & key n & more_keys n 63)

  -- the clause that orders, if it stands there
  unfoldable pub order_clause : ℕ → Phrase
  order_clause n =
      choose (at_tokens (word_of word.Stable ∷ [])) (made (λ left v. order_clause_made true (second_value v)) (lexeme (word_of word.Stable) & ordered n))
      (choose (at_tokens (word_of word.Order ∷ [])) (made (λ left v. order_clause_made false v) (ordered n)) (made (λ left v. order_clause_made false nothing) empty))
