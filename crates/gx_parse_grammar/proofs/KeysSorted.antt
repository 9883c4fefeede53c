-- The guards of sort keys decide.
use Rattle.std.proofs.Common.{◌≡◌, ℕ, zero, suc, true, List, [], ◌∷◌, inl, inr, refl}
use Rattle.gx_base.specs.declared.place.Place.{Place}
use Rattle.gx_grammar.specs.Grammar.{empty}
use Rattle.gx_grammar.specs.Opening.{open_token, open_first, open_made}
use Rattle.gx_grammar.specs.First.{IsIn, AllOf, AreApart, AreFronts, IsSorted}
use Rattle.gx_grammar.specs.Apart.{all_apart}
use Rattle.gx_grammar.proofs.PublicLaws.{computed_apart, tokens_choose}
use Rattle.gx_parse_grammar.specs.declared.word.Word.TheVariants as word
use Rattle.gx_parse_grammar.specs.declared.word.WordSet.TheVariants as set
use Rattle.gx_parse_grammar.specs.Tokens.{Token, one_of, shape_of_token}
use Rattle.gx_parse_grammar.specs.Grammar.{Phrase, word_of, keyword, behind_single, query_language}
use Rattle.gx_parse_grammar.specs.Bound.{direction, extreme, key_order}
use Rattle.gx_parse_grammar.specs.Keys.{key, further_key, more_keys, ordered, order_clause}
use Rattle.gx_parse_grammar.specs.Fronts.{fronts}
use Rattle.gx_parse_grammar.proofs.Shapes.{lawful, shaped}
use Rattle.gx_parse_grammar.proofs.BoundSorted.{key_order_sorted}

module _ (at : ℕ → Place) (right : AreFronts (query_language at) (fronts at)) where
  abbrev Sorts : Phrase → List Token → Type 0
  Sorts A us = IsSorted (query_language at) (fronts at) A us

  abbrev apart : (ts us : List Token) → all_apart shape_of_token ts us ≡ true → AllOf (λ u. AllOf (λ t. AreApart (query_language at) t u) ts) us
  apart ts us e = computed_apart (query_language at) shape_of_token (shaped at) ts us e

  is_comma : IsIn (behind_single at) (word_of word.Comma)
  is_comma = inl refl

  is_return : IsIn (behind_single at) (word_of word.Return)
  is_return = inr (inr (inr (inr (inr (inr (inr (inl refl)))))))

  is_direction : IsIn (behind_single at) (one_of set.Directions)
  is_direction = inr (inr (inr (inr (inr (inr (inr (inr (inr (inr (inr (inr (inr (inr (inr (inr (inl refl))))))))))))))))

  is_empty : IsIn (behind_single at) (word_of word.Empty)
  is_empty = inr (inr (inr (inr (inr (inr (inr (inr (inr (inr (inr (inr (inr (inr (inr (inr (inr (inl refl)))))))))))))))))

  abbrev behind_keys : List Token
  behind_keys = word_of word.Return ∷ []

  key_sorted : (n : ℕ) → Sorts (key at n) (word_of word.Comma ∷ behind_keys)
  unfolding key key_order direction extreme
  key_sorted n = ((is_direction, (is_empty, (is_comma, (is_return, tt)))), key_order_sorted at right (word_of word.Comma ∷ behind_keys) refl refl)

  further_sorted : (n : ℕ) → Sorts (further_key at n) (word_of word.Comma ∷ behind_keys)
  unfolding further_key
  further_sorted n = ((tt, tt), key_sorted n)

  more_keys_sorted : (n k : ℕ) → Sorts (more_keys at n k) behind_keys
  unfolding more_keys further_key
  more_keys_sorted n zero = (
    tokens_choose (query_language at) (lawful at) (fronts at) right (word_of word.Comma ∷ []) _ empty behind_keys
        (record { takes = refl; first = (inl refl, tt); full = (refl, tt); opening = ((λ x o. open_first (open_first (open_token o))), tt); apart = apart (word_of word.Comma ∷ []) behind_keys refl }),
    ((tt, tt), tt),
    tt,
  )
  more_keys_sorted n (suc zero) = (
    tokens_choose (query_language at) (lawful at) (fronts at) right (word_of word.Comma ∷ []) _ empty behind_keys
        (record { takes = refl; first = (inl refl, tt); full = (refl, tt); opening = ((λ x o. open_first (open_made (open_first (open_first (open_token o))))), tt); apart = apart (word_of word.Comma ∷ []) behind_keys refl }),
    (further_sorted n, more_keys_sorted n zero),
    tt,
  )
  more_keys_sorted n (suc (suc k)) = (
    tokens_choose (query_language at) (lawful at) (fronts at) right (word_of word.Comma ∷ []) _ empty behind_keys
        (record { takes = refl; first = (inl refl, tt); full = (refl, tt); opening = ((λ x o. open_first (open_made (open_first (open_first (open_token o))))), tt); apart = apart (word_of word.Comma ∷ []) behind_keys refl }),
    (further_sorted n, more_keys_sorted n (suc k)),
    tt,
  )

  ordered_sorted : (n : ℕ) → Sorts (ordered at n) behind_keys
  unfolding ordered keyword more_keys further_key
  ordered_sorted n = ((tt, tt), ((tt, (tt, tt)), (key_sorted n, more_keys_sorted n 63)))

  -- before `return`
  pub order_clause_sorted : (n : ℕ) → Sorts (order_clause at n) behind_keys
  unfolding order_clause ordered
  order_clause_sorted n = (
    tokens_choose (query_language at) (lawful at) (fronts at) right (word_of word.Stable ∷ []) _ _ behind_keys
        (record { takes = refl; first = (inl refl, tt); full = (refl, tt); opening = ((λ x o. open_made (open_first (open_first (open_token o)))), tt); apart = apart (word_of word.Stable ∷ []) (word_of word.Order ∷ behind_keys) refl }),
    ((tt, tt), ordered_sorted n),
    (
      tokens_choose (query_language at) (lawful at) (fronts at) right (word_of word.Order ∷ []) _ _ behind_keys
          (record { takes = refl; first = (inl refl, tt); full = (refl, tt); opening = ((λ x o. open_made (open_made (open_first (open_first (open_token o))))), tt); apart = apart (word_of word.Order ∷ []) behind_keys refl }),
      ordered_sorted n,
      tt,
    ),
  )
