-- The guards of the parts of bindings decide.
use Rattle.std.proofs.Common.{◌≡◌, ℕ, Bool, true, false, List, [], ◌∷◌, inl, refl}
use Rattle.std.specs.List.{list_all}
use Rattle.gx_base.specs.declared.place.Place.{Place}
use Rattle.gx_grammar.specs.Grammar.{empty}
use Rattle.gx_grammar.specs.Opening.{open_token, open_first, open_made}
use Rattle.gx_grammar.specs.First.{AllOf, AreApart, AreFronts, IsSorted}
use Rattle.gx_grammar.specs.Apart.{all_apart, is, shape_begins}
use Rattle.gx_grammar.proofs.PublicLaws.{character_chooses, computed_apart, computed_heads, tokens_choose}
use Rattle.gx_parse_grammar.specs.declared.word.Word.TheVariants as word
use Rattle.gx_parse_grammar.specs.declared.word.WordSet.TheVariants as set
use Rattle.gx_parse_grammar.specs.Tokens.{Token, one_of, shape_of_token}
use Rattle.gx_parse_grammar.specs.Grammar.{Phrase, word_of, query_language}
use Rattle.gx_parse_grammar.specs.Bound.{bound, bound_type, position, case_variable, default_variable, direction, extreme, key_order}
use Rattle.gx_parse_grammar.specs.Fronts.{fronts}
use Rattle.gx_parse_grammar.proofs.Shapes.{lawful, shaped}
use Rattle.gx_parse_grammar.proofs.TypesSorted.{written_sorted, sequence_type_sorted}

module _ (at : ℕ → Place) (right : AreFronts (query_language at) (fronts at)) where
  abbrev Sorts : Phrase → List Token → Type 0
  Sorts A us = IsSorted (query_language at) (fronts at) A us

  abbrev apart : (ts us : List Token) → all_apart shape_of_token ts us ≡ true → AllOf (λ u. AllOf (λ t. AreApart (query_language at) t u) ts) us
  apart ts us e = computed_apart (query_language at) shape_of_token (shaped at) ts us e

  pub bound_sorted : (us : List Token) → Sorts (bound at) us
  unfolding bound
  bound_sorted us = ((tt, tt), written_sorted at right us)

  -- before tokens that are not `as` and do not begin with `(`
  pub bound_type_sorted : (us : List Token) → all_apart shape_of_token (word_of word.As ∷ []) us ≡ true → all_apart shape_of_token (word_of word.Open ∷ []) us ≡ true → Sorts (bound_type at) us
  unfolding bound_type
  bound_type_sorted us e f = (
    tokens_choose (query_language at) (lawful at) (fronts at) right (word_of word.As ∷ []) _ _ us
        (record { takes = refl; first = (inl refl, tt); full = (refl, tt); opening = ((λ x o. open_made (open_first (open_first (open_token o)))), tt); apart = apart (word_of word.As ∷ []) us e }),
    ((tt, tt), sequence_type_sorted at right us f),
    tt,
  )

  -- before tokens that are not `at`
  pub position_sorted : (us : List Token) → all_apart shape_of_token (word_of word.At ∷ []) us ≡ true → Sorts (position at) us
  unfolding position
  position_sorted us e = (
    tokens_choose (query_language at) (lawful at) (fronts at) right (word_of word.At ∷ []) _ _ us
        (record { takes = refl; first = (inl refl, tt); full = (refl, tt); opening = ((λ x o. open_made (open_first (open_first (open_token o)))), tt); apart = apart (word_of word.At ∷ []) us e }),
    ((tt, tt), bound_sorted us),
    tt,
  )

  -- no `$` begins these
  abbrev no_dollar : List Token → Bool
  no_dollar us = list_all (λ t. shape_begins 36 false (shape_of_token t)) us

  -- before tokens that do not begin with `$`, as names
  pub case_variable_sorted : (us : List Token) → no_dollar us ≡ true → Sorts (case_variable at) us
  unfolding case_variable bound
  case_variable_sorted us e = (
    character_chooses (query_language at) (is 36) (fronts at) right _ _ us
        (record { takes = refl; passes = computed_heads (query_language at) shape_of_token (shaped at) 36 true (word_of word.Dollar ∷ []) refl; fails = computed_heads (query_language at) shape_of_token (shaped at) 36 false us e }),
    (((tt, tt), written_sorted at right _), (tt, tt)),
    tt,
  )

  pub default_variable_sorted : (us : List Token) → no_dollar us ≡ true → Sorts (default_variable at) us
  unfolding default_variable bound
  default_variable_sorted us e = (
    character_chooses (query_language at) (is 36) (fronts at) right _ _ us
        (record { takes = refl; passes = computed_heads (query_language at) shape_of_token (shaped at) 36 true (word_of word.Dollar ∷ []) refl; fails = computed_heads (query_language at) shape_of_token (shaped at) 36 false us e }),
    ((tt, tt), written_sorted at right us),
    tt,
  )

  extreme_sorted : (us : List Token) → all_apart shape_of_token (word_of word.Empty ∷ []) us ≡ true → Sorts (extreme at) us
  unfolding extreme
  extreme_sorted us e = (
    tokens_choose (query_language at) (lawful at) (fronts at) right (word_of word.Empty ∷ []) _ empty us
        (record { takes = refl; first = (inl refl, tt); full = (refl, tt); opening = ((λ x o. open_first (open_first (open_token o))), tt); apart = apart (word_of word.Empty ∷ []) us e }),
    ((tt, tt), (tt, tt)),
    tt,
  )

  -- before tokens that are none of these words
  pub key_order_sorted : (us : List Token) → all_apart shape_of_token (one_of set.Directions ∷ []) (word_of word.Empty ∷ us) ≡ true → all_apart shape_of_token (word_of word.Empty ∷ []) us ≡ true → Sorts (key_order at) us
  unfolding key_order direction extreme
  key_order_sorted us e f = (
    (
      tokens_choose (query_language at) (lawful at) (fronts at) right (one_of set.Directions ∷ []) _ empty (word_of word.Empty ∷ us)
          (record { takes = refl; first = (inl refl, tt); full = (refl, tt); opening = ((λ x o. open_first (open_token o)), tt); apart = apart (one_of set.Directions ∷ []) (word_of word.Empty ∷ us) e }),
      (tt, tt),
      tt,
    ),
    extreme_sorted us f,
  )
