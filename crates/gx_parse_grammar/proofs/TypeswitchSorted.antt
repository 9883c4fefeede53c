-- The guards of typeswitches decide.
use Rattle.std.proofs.Common.{◌≡◌, ℕ, zero, suc, true, List, [], ◌∷◌, inl, inr, refl}
use Rattle.gx_base.specs.declared.place.Place.{Place}
use Rattle.gx_grammar.specs.Grammar.{empty}
use Rattle.gx_grammar.specs.Opening.{open_token, open_first, open_made}
use Rattle.gx_grammar.specs.First.{IsIn, AllOf, AreApart, AreFronts, IsSorted}
use Rattle.gx_grammar.specs.Apart.{all_apart}
use Rattle.gx_grammar.proofs.PublicLaws.{computed_apart, tokens_choose}
use Rattle.gx_parse_grammar.specs.declared.word.Word.TheVariants as word
use Rattle.gx_parse_grammar.specs.declared.word.WordSet.TheVariants as set
use Rattle.gx_base.specs.NameCharacters.{is_ncname_start}
use Rattle.gx_parse_grammar.specs.Tokens.{Token, barred_words, shape_of_token}
use Rattle.gx_parse_grammar.specs.Grammar.{Phrase, word_of, keyword, behind_single, query_language}
use Rattle.gx_parse_grammar.specs.Types.{sequence_type}
use Rattle.gx_parse_grammar.specs.Typeswitch.{case_head, case, more_cases, cases, default_head}
use Rattle.gx_parse_grammar.specs.Fronts.{fronts}
use Rattle.gx_parse_grammar.proofs.Shapes.{lawful, shaped}
use Rattle.gx_parse_grammar.proofs.BoundSorted.{case_variable_sorted, default_variable_sorted}
use Rattle.gx_parse_grammar.proofs.TypesSorted.{sequence_type_sorted}

module _ (at : ℕ → Place) (right : AreFronts (query_language at) (fronts at)) where
  abbrev Sorts : Phrase → List Token → Type 0
  Sorts A us = IsSorted (query_language at) (fronts at) A us

  abbrev apart : (ts us : List Token) → all_apart shape_of_token ts us ≡ true → AllOf (λ u. AllOf (λ t. AreApart (query_language at) t u) ts) us
  apart ts us e = computed_apart (query_language at) shape_of_token (shaped at) ts us e

  is_case : IsIn (behind_single at) (word_of word.Case)
  is_case = inr (inr (inr (inr (inr (inr (inr (inr (inr (inl refl)))))))))

  is_default : IsIn (behind_single at) (word_of word.Default)
  is_default = inr (inr (inr (inr (inr (inr (inr (inr (inr (inr (inl refl))))))))))

  is_barred : IsIn (behind_single at) (barred_words (set.Only word.Case))
  is_barred = inr (inr (inr (inr (inr (inr (inr (inr (inr (inr (inr (inr (inr (inr (inr (inr (inr (inr (inl refl))))))))))))))))))

  abbrev behind_cases : List Token
  behind_cases = word_of word.Default ∷ []

  case_head_sorted : (us : List Token) → Sorts (case_head at) us
  unfolding case_head keyword sequence_type is_ncname_start
  case_head_sorted us = ((tt, tt), (case_variable_sorted at right _ refl, (sequence_type_sorted at right (word_of word.Return ∷ []) refl, (tt, (tt, tt)))))

  case_sorted : (n : ℕ) (us : List Token) → AllOf (IsIn (behind_single at)) us → Sorts (case at n) us
  unfolding case
  case_sorted n us f = (case_head_sorted _, f)

  more_cases_sorted : (n k : ℕ) → Sorts (more_cases at n k) behind_cases
  unfolding more_cases case case_head
  more_cases_sorted n zero = (
    tokens_choose (query_language at) (lawful at) (fronts at) right (barred_words (set.Only word.Case) ∷ []) _ empty behind_cases
        (record { takes = refl; first = (inl refl, tt); full = (refl, tt); opening = ((λ x o. open_token o), tt); apart = apart (barred_words (set.Only word.Case) ∷ []) behind_cases refl }),
    tt,
    tt,
  )
  more_cases_sorted n (suc zero) = (
    tokens_choose (query_language at) (lawful at) (fronts at) right (word_of word.Case ∷ []) _ empty behind_cases
        (record { takes = refl; first = (inl refl, tt); full = (refl, tt); opening = ((λ x o. open_first (open_first (open_made (open_first (open_first (open_token o)))))), tt); apart = apart (word_of word.Case ∷ []) behind_cases refl }),
    (case_sorted n (barred_words (set.Only word.Case) ∷ behind_cases) (is_barred, (is_default, tt)), more_cases_sorted n zero),
    tt,
  )
  more_cases_sorted n (suc (suc k)) = (
    tokens_choose (query_language at) (lawful at) (fronts at) right (word_of word.Case ∷ []) _ empty behind_cases
        (record { takes = refl; first = (inl refl, tt); full = (refl, tt); opening = ((λ x o. open_first (open_first (open_made (open_first (open_first (open_token o)))))), tt); apart = apart (word_of word.Case ∷ []) behind_cases refl }),
    (case_sorted n (word_of word.Case ∷ behind_cases) (is_case, (is_default, tt)), more_cases_sorted n (suc k)),
    tt,
  )

  -- before `default`
  pub cases_sorted : (n : ℕ) → Sorts (cases at n) behind_cases
  unfolding cases more_cases case case_head
  cases_sorted n = (case_sorted n (word_of word.Case ∷ behind_cases) (is_case, (is_default, tt)), more_cases_sorted n 63)

  pub default_head_sorted : (us : List Token) → Sorts (default_head at) us
  unfolding default_head keyword
  default_head_sorted us = ((tt, tt), (default_variable_sorted at right (word_of word.Return ∷ []) refl, (tt, (tt, tt))))
