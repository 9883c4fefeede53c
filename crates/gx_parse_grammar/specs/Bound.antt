-- Variables that are bound, with their types and positions, and how sort keys order.
--   Var ::= "$" QName          As ::= "as" SeqType
--   what stands in front of the type of a case ::= (Var "as")?          of a default ::= Var?
--   what stands behind a sort key ::= ("ascending" | "descending")? ("empty" ("greatest" | "least"))?
use Rattle.std.specs.Prelude.{ℕ, [], ◌∷◌, Bool, true, false, Option, Some, None}
use Rattle.gx_base.specs.declared.place.Place.{Place}
use Rattle.gx_ast.specs.declared.name.Variable.{Variable}
use Rattle.gx_ast.specs.declared.sequence_type.SequenceType.{SequenceType}
use Rattle.gx_ast.specs.declared.sequence_type.EmptyOrder.{EmptyOrder}
use Rattle.gx_ast.specs.declared.sequence_type.EmptyOrder.TheVariants as empty_order
use Rattle.gx_ast.specs.declared.sequence_type.KeyOrder.{KeyOrder}
use Rattle.gx_grammar.specs.Value.{nothing, node, pair}
use Rattle.gx_grammar.specs.Grammar.{empty, ◌&◌, choose, made}
use Rattle.gx_grammar.specs.Apart.{is}
use Rattle.gx_grammar.specs.First.{by_character}
use Rattle.gx_parse_grammar.specs.declared.word.Word.{Word}
use Rattle.gx_parse_grammar.specs.declared.word.Word.TheVariants as word
use Rattle.gx_parse_grammar.specs.declared.word.WordSet.TheVariants as set
use Rattle.gx_parse_grammar.specs.Nodes.{Made, Found, Name, MaybeBound, MaybeType, TypeOf, Ordering}
use Rattle.gx_parse_grammar.specs.Tokens.{one_of}
use Rattle.gx_parse_grammar.specs.Basics.{Phrase, word_of, lexeme, at_tokens}
use Rattle.gx_parse_grammar.specs.Types.{written_name, sequence_type}

abbrev pub bound_made : Variable → Made
bound_made v = node (MaybeBound (Some v))

abbrev pub position_made : Option Variable → Made
position_made v = node (MaybeBound v)

abbrev pub kind_made : Option SequenceType → Made
kind_made k = node (MaybeType k)

abbrev pub order_made : KeyOrder → Made
order_made o = node (Ordering o)

abbrev pub bound_value : Place → Made → Made
bound_value p (pair dollar (node (Name q))) = bound_made (record { place = p; name = q })
bound_value p _ = nothing

abbrev pub kind_behind : Made → Made
kind_behind (pair w (node (TypeOf k))) = kind_made (Some k)
kind_behind _ = nothing

abbrev pub bound_behind : Made → Made
bound_behind (pair w v) = v
bound_behind _ = nothing

abbrev pub bound_before : Made → Made
bound_before (pair v w) = v
bound_before _ = nothing

-- a word with its gap, or nothing
abbrev pub direction_made : Option Word → Made
direction_made None = nothing
direction_made (Some w) = pair (node (Found w)) nothing

-- two words with their gaps, or nothing
abbrev pub extreme_made : Option (Word × Word) → Made
extreme_made None = nothing
extreme_made (Some ws) = pair (pair (node (Found ws.0)) nothing) (pair (node (Found ws.1)) nothing)

abbrev pub is_descending : Made → Bool
is_descending (pair (node (Found word.Descending)) space) = true
is_descending _ = false

abbrev pub empty_of : Made → EmptyOrder
empty_of (pair w (pair (node (Found word.Greatest)) space)) = empty_order.Greatest
empty_of (pair w (pair (node (Found word.Least)) space)) = empty_order.Least
empty_of _ = empty_order.Default

abbrev pub order_value : Made → Made
order_value (pair direction extreme) = order_made (record { descending = is_descending direction; empty = empty_of extreme })
order_value _ = nothing

-- The place of a token is `at` of the number of characters that are left there.
module _ (at : ℕ → Place) where
  -- a variable, at its `$`
  unfoldable pub bound : Phrase
  bound = made (λ left v. bound_value (at left) v) (lexeme (word_of word.Dollar) & written_name at)

  -- the type behind `as`, if one stands there
  unfoldable pub bound_type : Phrase
  bound_type = choose (at_tokens (word_of word.As ∷ [])) (made (λ left v. kind_behind v) (lexeme (word_of word.As) & sequence_type at)) (made (λ left v. kind_made None) empty)

  -- the variable behind `at`, if one stands there
  unfoldable pub position : Phrase
  position = choose (at_tokens (word_of word.At ∷ [])) (made (λ left v. bound_behind v) (lexeme (word_of word.At) & bound)) (made (λ left v. position_made None) empty)

  -- the variable and `as` in front of the type of a case, if they stand there
  unfoldable pub case_variable : Phrase
  case_variable = choose (by_character (is 36)) (made (λ left v. bound_before v) (bound & lexeme (word_of word.As))) (made (λ left v. position_made None) empty)

  -- the variable of a default, if one stands there
  unfoldable pub default_variable : Phrase
  default_variable = choose (by_character (is 36)) bound (made (λ left v. position_made None) empty)

  unfoldable pub direction : Phrase
  direction = choose (at_tokens (one_of set.Directions ∷ [])) (lexeme (one_of set.Directions)) empty

  unfoldable pub extreme : Phrase
  extreme = choose (at_tokens (word_of word.Empty ∷ [])) (lexeme (word_of word.Empty) & lexeme (one_of set.Extremes)) empty

  -- what stands behind a sort key
  unfoldable pub key_order : Phrase
  key_order = made (λ left v. order_value v) (direction & extreme)
