-- What the parts of bindings read.
use Rattle.std.proofs.Common.{◌≡◌, ℕ, Bool, true, false, List, [], ◌∷◌, sym, subst, Some, None}
use Rattle.gx_base.specs.declared.place.Place.{Place}
use Rattle.gx_grammar.specs.Value.{nothing, node, pair}
use Rattle.gx_grammar.specs.Grammar.{empty, ◌&◌, made}
use Rattle.gx_grammar.specs.Ran.{Standing, Ran, Looked, left_of}
use Rattle.gx_grammar.specs.Apart.{is}
use Rattle.gx_grammar.specs.First.{by_character}
use Rattle.gx_parse_grammar.specs.declared.word.Word.{Word}
use Rattle.gx_parse_grammar.specs.declared.word.Word.TheVariants as word
use Rattle.gx_parse_grammar.specs.declared.word.WordSet.TheVariants as set
use Rattle.gx_parse_grammar.specs.Nodes.{Made, Found}
use Rattle.gx_parse_grammar.specs.Tokens.{one_of}
use Rattle.gx_parse_grammar.specs.Grammar.{Phrase, word_of, lexeme, at_tokens, place_in}
use Rattle.gx_parse_tokens.specs.Reading.{read_in}
use Rattle.gx_parse_grammar.specs.Types.{written_name, sequence_type}
use Rattle.gx_parse_grammar.specs.Bound.{position_made, kind_made, bound_value, kind_behind, bound_behind, bound_before, direction_made, extreme_made, order_value, bound, bound_type, position, case_variable, default_variable, direction, extreme, key_order}
use Rattle.gx_parse_parts.proofs.Phrases.{in_both, in_empty, in_left, in_right, in_made}

module _ (text : List ℕ) (n : ℕ) where
  abbrev reads : Made → Standing → Standing → Phrase → Type 0
  reads v a b A = Ran v a b (read_in text n A)

  pub bound_read : (place : Place) (x v : Made) (a b c : Standing) → place ≡ place_in text (left_of a) → reads x a b (lexeme (word_of word.Dollar)) → reads v b c (written_name (place_in text)) → reads (bound_value place (pair x v)) a c (bound (place_in text))
  unfolding bound
  bound_read place x v a b c e h k =
      subst (λ p. reads (bound_value p (pair x v)) a c (bound (place_in text))) (sym e)
      (in_made text n (λ left v. bound_value (place_in text left) v) (lexeme (word_of word.Dollar) & written_name (place_in text)) (pair x v) a c (in_both text n (lexeme (word_of word.Dollar)) (written_name (place_in text)) x v a b c h k))

  abbrev typed : Phrase
  typed = made (λ left v. kind_behind v) (lexeme (word_of word.As) & sequence_type (place_in text))

  pub no_type : (taken : Bool) (a b : Standing) → taken ≡ false → Looked taken a b (at_tokens (word_of word.As ∷ [])) → reads (kind_made None) a b (bound_type (place_in text))
  unfolding bound_type
  no_type taken a b e h =
      in_right text n (at_tokens (word_of word.As ∷ [])) typed (made (λ left v. kind_made None) empty) (kind_made None) taken a b b e h (in_made text n (λ left v. kind_made None) empty nothing b b (in_empty text n b))

  pub a_type : (x v : Made) (taken : Bool) (a b c d : Standing) → taken ≡ true → Looked taken a b (at_tokens (word_of word.As ∷ [])) → reads x b c (lexeme (word_of word.As)) → reads v c d (sequence_type (place_in text))
      → reads (kind_behind (pair x v)) a d (bound_type (place_in text))
  unfolding bound_type
  a_type x v taken a b c d e h i k =
      in_left text n (at_tokens (word_of word.As ∷ [])) typed (made (λ left v. kind_made None) empty) (kind_behind (pair x v)) taken a b d e h
      (in_made text n (λ left v. kind_behind v) (lexeme (word_of word.As) & sequence_type (place_in text)) (pair x v) b d (in_both text n (lexeme (word_of word.As)) (sequence_type (place_in text)) x v b c d i k))

  abbrev placed : Phrase
  placed = made (λ left v. bound_behind v) (lexeme (word_of word.At) & bound (place_in text))

  pub no_position : (taken : Bool) (a b : Standing) → taken ≡ false → Looked taken a b (at_tokens (word_of word.At ∷ [])) → reads (position_made None) a b (position (place_in text))
  unfolding position
  no_position taken a b e h =
      in_right text n (at_tokens (word_of word.At ∷ [])) placed (made (λ left v. position_made None) empty) (position_made None) taken a b b e h (in_made text n (λ left v. position_made None) empty nothing b b (in_empty text n b))

  pub a_position : (x v : Made) (taken : Bool) (a b c d : Standing) → taken ≡ true → Looked taken a b (at_tokens (word_of word.At ∷ [])) → reads x b c (lexeme (word_of word.At)) → reads v c d (bound (place_in text)) → reads v a d (position (place_in text))
  unfolding position
  a_position x v taken a b c d e h i k =
      in_left text n (at_tokens (word_of word.At ∷ [])) placed (made (λ left v. position_made None) empty) v taken a b d e h
      (in_made text n (λ left v. bound_behind v) (lexeme (word_of word.At) & bound (place_in text)) (pair x v) b d (in_both text n (lexeme (word_of word.At)) (bound (place_in text)) x v b c d i k))

  abbrev unnamed : Phrase
  unnamed = made (λ left v. position_made None) empty

  pub no_case : (taken : Bool) (a b : Standing) → taken ≡ false → Looked taken a b (by_character (is 36)) → reads (position_made None) a b (case_variable (place_in text))
  unfolding case_variable
  no_case taken a b e h =
      in_right text n (by_character (is 36)) (made (λ left v. bound_before v) (bound (place_in text) & lexeme (word_of word.As))) unnamed (position_made None) taken a b b e h (in_made text n (λ left v. position_made None) empty nothing b b (in_empty text n b))

  pub a_case : (v x : Made) (taken : Bool) (a b c d : Standing) → taken ≡ true → Looked taken a b (by_character (is 36)) → reads v b c (bound (place_in text)) → reads x c d (lexeme (word_of word.As)) → reads v a d (case_variable (place_in text))
  unfolding case_variable
  a_case v x taken a b c d e h i k =
      in_left text n (by_character (is 36)) (made (λ left v. bound_before v) (bound (place_in text) & lexeme (word_of word.As))) unnamed v taken a b d e h
      (in_made text n (λ left v. bound_before v) (bound (place_in text) & lexeme (word_of word.As)) (pair v x) b d (in_both text n (bound (place_in text)) (lexeme (word_of word.As)) v x b c d i k))

  pub no_default : (taken : Bool) (a b : Standing) → taken ≡ false → Looked taken a b (by_character (is 36)) → reads (position_made None) a b (default_variable (place_in text))
  unfolding default_variable
  no_default taken a b e h = in_right text n (by_character (is 36)) (bound (place_in text)) unnamed (position_made None) taken a b b e h (in_made text n (λ left v. position_made None) empty nothing b b (in_empty text n b))

  pub a_default : (v : Made) (taken : Bool) (a b c : Standing) → taken ≡ true → Looked taken a b (by_character (is 36)) → reads v b c (bound (place_in text)) → reads v a c (default_variable (place_in text))
  unfolding default_variable
  a_default v taken a b c e h i = in_left text n (by_character (is 36)) (bound (place_in text)) unnamed v taken a b c e h i

  pub no_direction : (taken : Bool) (a b : Standing) → taken ≡ false → Looked taken a b (at_tokens (one_of set.Directions ∷ [])) → reads (direction_made None) a b (direction (place_in text))
  unfolding direction
  no_direction taken a b e h = in_right text n (at_tokens (one_of set.Directions ∷ [])) (lexeme (one_of set.Directions)) empty nothing taken a b b e h (in_empty text n b)

  pub a_direction : (w : Word) (taken : Bool) (a b c : Standing) → taken ≡ true → Looked taken a b (at_tokens (one_of set.Directions ∷ [])) → reads (pair (node (Found w)) nothing) b c (lexeme (one_of set.Directions)) → reads (direction_made (Some w)) a c (direction (place_in text))
  unfolding direction
  a_direction w taken a b c e h i = in_left text n (at_tokens (one_of set.Directions ∷ [])) (lexeme (one_of set.Directions)) empty (pair (node (Found w)) nothing) taken a b c e h i

  abbrev two_words : Phrase
  two_words = lexeme (word_of word.Empty) & lexeme (one_of set.Extremes)

  pub no_extreme : (taken : Bool) (a b : Standing) → taken ≡ false → Looked taken a b (at_tokens (word_of word.Empty ∷ [])) → reads (extreme_made None) a b (extreme (place_in text))
  unfolding extreme
  no_extreme taken a b e h = in_right text n (at_tokens (word_of word.Empty ∷ [])) two_words empty nothing taken a b b e h (in_empty text n b)

  pub an_extreme : (w z : Word) (taken : Bool) (a b c d : Standing) → taken ≡ true → Looked taken a b (at_tokens (word_of word.Empty ∷ [])) → reads (pair (node (Found w)) nothing) b c (lexeme (word_of word.Empty))
      → reads (pair (node (Found z)) nothing) c d (lexeme (one_of set.Extremes)) → reads (extreme_made (Some (w, z))) a d (extreme (place_in text))
  unfolding extreme
  an_extreme w z taken a b c d e h i k =
      in_left text n (at_tokens (word_of word.Empty ∷ [])) two_words empty (pair (pair (node (Found w)) nothing) (pair (node (Found z)) nothing)) taken a b d e h
      (in_both text n (lexeme (word_of word.Empty)) (lexeme (one_of set.Extremes)) (pair (node (Found w)) nothing) (pair (node (Found z)) nothing) b c d i k)

  pub order_read : (v w : Made) (a b c : Standing) → reads v a b (direction (place_in text)) → reads w b c (extreme (place_in text)) → reads (order_value (pair v w)) a c (key_order (place_in text))
  unfolding key_order
  order_read v w a b c h k =
      in_made text n (λ left v. order_value v) (direction (place_in text) & extreme (place_in text)) (pair v w) a c (in_both text n (direction (place_in text)) (extreme (place_in text)) v w a b c h k)
