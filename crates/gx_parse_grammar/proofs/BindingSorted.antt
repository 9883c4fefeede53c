-- The guards of FLWOR expressions and quantified ones decide.
use Rattle.std.proofs.Common.{◌≡◌, ℕ, zero, suc, Bool, true, List, [], ◌∷◌, inl, inr, refl}
use Rattle.gx_base.specs.declared.place.Place.{Place}
use Rattle.gx_grammar.specs.Grammar.{empty}
use Rattle.gx_grammar.specs.Opening.{open_token, open_first, open_made, open_key}
use Rattle.gx_grammar.specs.First.{IsIn, AllOf, AreApart, AreFronts, IsSorted}
use Rattle.gx_grammar.specs.Apart.{all_apart}
use Rattle.gx_grammar.proofs.PublicLaws.{computed_apart, tokens_choose}
use Rattle.gx_parse_grammar.specs.declared.word.Word.TheVariants as word
use Rattle.gx_parse_grammar.specs.declared.word.WordSet.TheVariants as set
use Rattle.gx_parse_grammar.specs.declared.word.ClauseWord.{ClauseWord}
use Rattle.gx_parse_grammar.specs.declared.word.Binder.{Binder}
use Rattle.gx_parse_grammar.specs.declared.word.Binder.TheVariants as binder
use Rattle.gx_parse_grammar.specs.Words.{binder_in}
use Rattle.gx_parse_grammar.specs.Nodes.{Made}
use Rattle.gx_parse_grammar.specs.Tokens.{Token, one_of, barred_words, shape_of_token}
use Rattle.gx_parse_grammar.specs.Grammar.{Phrase, word_of, keyword, behind_single, query_language}
use Rattle.gx_parse_grammar.specs.Bound.{bound, bound_type, position}
use Rattle.gx_parse_grammar.specs.Keys.{ordered, order_clause}
use Rattle.gx_parse_grammar.specs.Binding.{first_bound, position_of, bound_to, head, binding, further_binding, more_bindings, bindings, clause, word_found, last_clause, more_clauses, flwor, quantified}
use Rattle.gx_parse_grammar.specs.Fronts.{fronts}
use Rattle.gx_parse_grammar.proofs.Shapes.{lawful, shaped}
use Rattle.gx_parse_grammar.proofs.TypesSorted.{written_sorted}
use Rattle.gx_parse_grammar.proofs.BoundSorted.{bound_sorted, bound_type_sorted, position_sorted}
use Rattle.gx_parse_grammar.proofs.KeysSorted.{order_clause_sorted}

module _ (at : ℕ → Place) (right : AreFronts (query_language at) (fronts at)) where
  abbrev Sorts : Phrase → List Token → Type 0
  Sorts A us = IsSorted (query_language at) (fronts at) A us

  abbrev apart : (ts us : List Token) → all_apart shape_of_token ts us ≡ true → AllOf (λ u. AllOf (λ t. AreApart (query_language at) t u) ts) us
  apart ts us e = computed_apart (query_language at) shape_of_token (shaped at) ts us e

  first_bound_sorted : (us : List Token) → Sorts (first_bound at) us
  unfolding first_bound
  first_bound_sorted us = (tt, written_sorted at right us)

  -- bindings, whose variable is read whatever follows

  head_sorted : (n : ℕ) (b : Binder) (variable : Phrase) (us : List Token) → ((vs : List Token) → Sorts variable vs) → Sorts (head at n b variable) us
  unfolding head bound_to position_of bound_type position
  head_sorted n binder.For variable us s = (s _, (bound_type_sorted at right (word_of word.At ∷ word_of word.In ∷ []) refl refl, (position_sorted at right (word_of word.In ∷ []) refl, (tt, (tt, tt)))))
  head_sorted n binder.Let variable us s = (s _, (bound_type_sorted at right (word_of word.Assign ∷ []) refl refl, (tt, (tt, (tt, tt)))))
  head_sorted n binder.Quantifier variable us s = (s _, (bound_type_sorted at right (word_of word.In ∷ []) refl refl, (tt, (tt, (tt, tt)))))

  binding_sorted : (n : ℕ) (b : Binder) (variable : Phrase) (us : List Token) → ((vs : List Token) → Sorts variable vs) → AllOf (IsIn (behind_single at)) us → Sorts (binding at n b variable) us
  unfolding binding
  binding_sorted n b variable us s f = (head_sorted n b variable _ s, f)

  further_sorted : (n : ℕ) (b : Binder) (us : List Token) → AllOf (IsIn (behind_single at)) us → Sorts (further_binding at n b) us
  unfolding further_binding
  further_sorted n b us f = ((tt, tt), binding_sorted n b (bound at) us (λ vs. bound_sorted at right vs) f)

  -- before tokens that are no comma, and may follow an expression
  more_bindings_sorted : (n : ℕ) (b : Binder) (us : List Token) → all_apart shape_of_token (word_of word.Comma ∷ []) us ≡ true → AllOf (IsIn (behind_single at)) us → (k : ℕ) → Sorts (more_bindings at n b k) us
  unfolding more_bindings further_binding
  more_bindings_sorted n b us e f zero = (
    tokens_choose (query_language at) (lawful at) (fronts at) right (word_of word.Comma ∷ []) _ empty us
        (record { takes = refl; first = (inl refl, tt); full = (refl, tt); opening = ((λ x o. open_first (open_first (open_token o))), tt); apart = apart (word_of word.Comma ∷ []) us e }),
    ((tt, tt), tt),
    tt,
  )
  more_bindings_sorted n b us e f (suc zero) = (
    tokens_choose (query_language at) (lawful at) (fronts at) right (word_of word.Comma ∷ []) _ empty us
        (record { takes = refl; first = (inl refl, tt); full = (refl, tt); opening = ((λ x o. open_first (open_made (open_first (open_first (open_token o))))), tt); apart = apart (word_of word.Comma ∷ []) us e }),
    (further_sorted n b (word_of word.Comma ∷ us) (inl refl, f), more_bindings_sorted n b us e f zero),
    tt,
  )
  more_bindings_sorted n b us e f (suc (suc k)) = (
    tokens_choose (query_language at) (lawful at) (fronts at) right (word_of word.Comma ∷ []) _ empty us
        (record { takes = refl; first = (inl refl, tt); full = (refl, tt); opening = ((λ x o. open_first (open_made (open_first (open_first (open_token o))))), tt); apart = apart (word_of word.Comma ∷ []) us e }),
    (further_sorted n b (word_of word.Comma ∷ us) (inl refl, f), more_bindings_sorted n b us e f (suc k)),
    tt,
  )

  bindings_sorted : (n : ℕ) (b : Binder) (variable : Phrase) (us : List Token) → ((vs : List Token) → Sorts variable vs) → all_apart shape_of_token (word_of word.Comma ∷ []) us ≡ true → AllOf (IsIn (behind_single at)) us → Sorts (bindings at n b variable) us
  unfolding bindings more_bindings binding further_binding
  bindings_sorted n b variable us s e f = (binding_sorted n b variable (word_of word.Comma ∷ us) s (inl refl, f), more_bindings_sorted n b us e f 63)

  -- clauses

  is_return : IsIn (behind_single at) (word_of word.Return)
  is_return = inr (inr (inr (inr (inr (inr (inr (inl refl)))))))

  is_order : IsIn (behind_single at) (word_of word.Order)
  is_order = inr (inr (inr (inr (inr (inr (inr (inr (inr (inr (inr (inl refl)))))))))))

  is_stable : IsIn (behind_single at) (word_of word.Stable)
  is_stable = inr (inr (inr (inr (inr (inr (inr (inr (inr (inr (inr (inr (inl refl))))))))))))

  are_behind : AllOf (IsIn (behind_single at)) (word_of word.Stable ∷ word_of word.Order ∷ word_of word.Return ∷ [])
  are_behind = (is_stable, (is_order, (is_return, tt)))

  is_binder : IsIn (behind_single at) (one_of set.Binders)
  is_binder = inr (inr (inr (inr (inr (inr (inr (inr (inr (inr (inr (inr (inr (inl refl)))))))))))))

  is_barred : IsIn (behind_single at) (barred_words set.Binders)
  is_barred = inr (inr (inr (inr (inr (inr (inr (inr (inr (inr (inr (inr (inr (inr (inl refl))))))))))))))

  is_where : IsIn (behind_single at) (word_of word.Where)
  is_where = inr (inr (inr (inr (inr (inr (inr (inr (inr (inr (inr (inr (inr (inr (inr (inl refl)))))))))))))))

  abbrev behind_clauses : List Token
  behind_clauses = word_of word.Stable ∷ word_of word.Order ∷ word_of word.Return ∷ []

  abbrev behind_clause : Token → List Token
  behind_clause t = t ∷ word_of word.Where ∷ behind_clauses

  clause_sorted : (n : ℕ) (us : List Token) → all_apart shape_of_token (word_of word.Comma ∷ []) us ≡ true → AllOf (IsIn (behind_single at)) us → Sorts (clause at n) us
  unfolding clause
  clause_sorted n us e f = λ v. (tt, bindings_sorted n (binder_in (word_found v)) (bound at) us (λ vs. bound_sorted at right vs) e f)

  last_clause_sorted : (n : ℕ) → Sorts (last_clause at n) behind_clauses
  unfolding last_clause keyword
  last_clause_sorted n = (
    tokens_choose (query_language at) (lawful at) (fronts at) right (word_of word.Where ∷ []) _ empty behind_clauses
        (record { takes = refl; first = (inl refl, tt); full = (refl, tt); opening = ((λ x o. open_first (open_made (open_first (open_made (open_first (open_token o)))))), tt); apart = apart (word_of word.Where ∷ []) behind_clauses refl }),
    (((tt, (tt, tt)), are_behind), tt),
    tt,
  )

  more_clauses_sorted : (n k : ℕ) → Sorts (more_clauses at n k) behind_clauses
  unfolding more_clauses clause last_clause keyword
  more_clauses_sorted n zero = (
    tokens_choose (query_language at) (lawful at) (fronts at) right (barred_words set.Binders ∷ []) _ (last_clause at n) behind_clauses
        (record { takes = refl; first = (inl refl, tt); full = (refl, tt); opening = ((λ x o. open_token o), tt); apart = apart (barred_words set.Binders ∷ []) (word_of word.Where ∷ behind_clauses) refl }),
    tt,
    last_clause_sorted n,
  )
  more_clauses_sorted n (suc zero) = (
    tokens_choose (query_language at) (lawful at) (fronts at) right (one_of set.Binders ∷ []) _ (last_clause at n) behind_clauses
        (record { takes = refl; first = (inl refl, tt); full = (refl, tt); opening = ((λ x o. open_first (open_made (open_key o))), tt); apart = apart (one_of set.Binders ∷ []) (word_of word.Where ∷ behind_clauses) refl }),
    (clause_sorted n (behind_clause (barred_words set.Binders)) refl (is_barred, (is_where, are_behind)), more_clauses_sorted n zero),
    last_clause_sorted n,
  )
  more_clauses_sorted n (suc (suc k)) = (
    tokens_choose (query_language at) (lawful at) (fronts at) right (one_of set.Binders ∷ []) _ (last_clause at n) behind_clauses
        (record { takes = refl; first = (inl refl, tt); full = (refl, tt); opening = ((λ x o. open_first (open_made (open_key o))), tt); apart = apart (one_of set.Binders ∷ []) (word_of word.Where ∷ behind_clauses) refl }),
    (clause_sorted n (behind_clause (one_of set.Binders)) refl (is_binder, (is_where, are_behind)), more_clauses_sorted n (suc k)),
    last_clause_sorted n,
  )

  pub flwor_sorted : (n : ℕ) (b : ClauseWord) (v : Made) (us : List Token) → AllOf (IsIn (behind_single at)) us → Sorts (flwor at n b v) us
  unfolding flwor keyword more_clauses clause last_clause order_clause ordered
  flwor_sorted n b v us f = (
    tt,
    (
      bindings_sorted n (binder_in b) (first_bound at) (behind_clause (one_of set.Binders)) (λ vs. first_bound_sorted vs) refl (is_binder, (is_where, are_behind)),
      (more_clauses_sorted n 63, (order_clause_sorted at right n, ((tt, (tt, tt)), f))),
    ),
  )

  is_satisfies : IsIn (behind_single at) (word_of word.Satisfies)
  is_satisfies = inr (inr (inr (inr (inr (inr (inr (inr (inl refl))))))))

  pub quantified_sorted : (n : ℕ) (every : Bool) (v : Made) (us : List Token) → AllOf (IsIn (behind_single at)) us → Sorts (quantified at n every v) us
  unfolding quantified keyword
  quantified_sorted n every v us f = (tt, (bindings_sorted n binder.Quantifier (first_bound at) (word_of word.Satisfies ∷ []) (λ vs. first_bound_sorted vs) refl (is_satisfies, tt), ((tt, (tt, tt)), f)))
