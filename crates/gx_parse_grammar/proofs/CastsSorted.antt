-- The guards of the operators with a type on their right decide.
use Rattle.std.proofs.Common.{◌≡◌, ℕ, ◌&&◌, Bool, true, false, List, [], ◌∷◌, inl, refl}
use Rattle.std.specs.List.{list_all}
use Rattle.gx_base.specs.declared.place.Place.{Place}
use Rattle.gx_grammar.specs.Grammar.{empty}
use Rattle.gx_grammar.specs.Opening.{open_token, open_first, open_made}
use Rattle.gx_grammar.specs.First.{AllOf, AreApart, AreFronts, IsSorted}
use Rattle.gx_grammar.specs.Apart.{all_apart, shapes_apart}
use Rattle.std.proofs.lemmas.Bool.{and_parts}
use Rattle.gx_grammar.proofs.PublicLaws.{computed_apart, tokens_choose}
use Rattle.gx_parse_grammar.specs.declared.word.Word.TheVariants as word
use Rattle.gx_parse_grammar.specs.declared.casts.TypeTest.{TypeTest}
use Rattle.gx_parse_grammar.specs.declared.casts.TypeTest.TheVariants as test
use Rattle.gx_parse_grammar.specs.declared.casts.CastTest.{CastTest}
use Rattle.gx_parse_grammar.specs.declared.casts.CastTest.TheVariants as cast
use Rattle.gx_parse_grammar.specs.Tokens.{Token, shape_of_token}
use Rattle.gx_parse_grammar.specs.Grammar.{Phrase, word_of, operator, query_language}
use Rattle.gx_parse_grammar.specs.Casts.{test_word, cast_word, type_test, cast_test, casts, behind_instance, behind_treat, behind_castable, behind_cast, casts_fit}
use Rattle.gx_parse_grammar.specs.Fronts.{fronts}
use Rattle.gx_parse_grammar.proofs.Shapes.{lawful, shaped}
use Rattle.gx_parse_grammar.proofs.TypesSorted.{sequence_type_sorted, single_type_sorted}

-- one of two tokens apart from all
each_apart : (t s : Token) (us : List Token) → all_apart shape_of_token (t ∷ s ∷ []) us ≡ true → (all_apart shape_of_token (t ∷ []) us ≡ true) × (all_apart shape_of_token (s ∷ []) us ≡ true)
each_apart t s [] e = (refl, refl)
each_apart t s (u ∷ us) e =
    let p = and_parts (list_all (λ x. shapes_apart (shape_of_token x) (shape_of_token u)) (t ∷ s ∷ [])) (all_apart shape_of_token (t ∷ s ∷ []) us) e in
    let q = and_parts (shapes_apart (shape_of_token t) (shape_of_token u)) (shapes_apart (shape_of_token s) (shape_of_token u) && true) p.0 in
    let r = each_apart t s us p.1 in (
      both_true (shapes_apart (shape_of_token t) (shape_of_token u) && true) (all_apart shape_of_token (t ∷ []) us) (both_true (shapes_apart (shape_of_token t) (shape_of_token u)) true q.0 refl) r.0,
      both_true (shapes_apart (shape_of_token s) (shape_of_token u) && true) (all_apart shape_of_token (s ∷ []) us) q.1 r.1,
    )
  where
    both_true : (a b : Bool) → a ≡ true → b ≡ true → (a && b) ≡ true
    both_true true b f g = g
    both_true false b f g = f

module _ (at : ℕ → Place) (right : AreFronts (query_language at) (fronts at)) where
  abbrev Sorts : Phrase → List Token → Type 0
  Sorts A us = IsSorted (query_language at) (fronts at) A us

  abbrev apart : (ts us : List Token) → all_apart shape_of_token ts us ≡ true → AllOf (λ u. AllOf (λ t. AreApart (query_language at) t u) ts) us
  apart ts us e = computed_apart (query_language at) shape_of_token (shaped at) ts us e

  test_sorted : (o : TypeTest) (first : Phrase) (us : List Token) → all_apart shape_of_token (word_of word.Open ∷ word_of (test_word o) ∷ []) us ≡ true → Sorts first (word_of (test_word o) ∷ us) → Sorts (type_test at o first) us
  unfolding type_test operator
  test_sorted o first us e f =
      let p = each_apart (word_of word.Open) (word_of (test_word o)) us e in (
        f,
        (
          tokens_choose (query_language at) (lawful at) (fronts at) right (word_of (test_word o) ∷ []) _ empty us
              (record { takes = refl; first = (inl refl, tt); full = (refl, tt); opening = ((λ x q. open_first (open_made (open_first (open_token q)))), tt); apart = apart (word_of (test_word o) ∷ []) us p.1 }),
          ((tt, tt), ((tt, tt), sequence_type_sorted at right us p.0)),
          tt,
        ),
      )

  cast_sorted : (o : CastTest) (first : Phrase) (us : List Token) → all_apart shape_of_token (word_of word.Question ∷ word_of (cast_word o) ∷ []) us ≡ true → Sorts first (word_of (cast_word o) ∷ us) → Sorts (cast_test at o first) us
  unfolding cast_test operator
  cast_sorted o first us e f =
      let p = each_apart (word_of word.Question) (word_of (cast_word o)) us e in (
        f,
        (
          tokens_choose (query_language at) (lawful at) (fronts at) right (word_of (cast_word o) ∷ []) _ empty us
              (record { takes = refl; first = (inl refl, tt); full = (refl, tt); opening = ((λ x q. open_first (open_made (open_first (open_token q)))), tt); apart = apart (word_of (cast_word o) ∷ []) us p.1 }),
          ((tt, tt), ((tt, tt), single_type_sorted at right us p.0)),
          tt,
        ),
      )

  -- An operand with these operators is sorted where the operand is, before each of them as well.
  pub casts_sorted : (first : Phrase) (us : List Token) → casts_fit us ≡ true → Sorts first (behind_cast us) → Sorts (casts at first) us
  unfolding casts
  casts_sorted first us e f =
      let p = and_parts (all_apart shape_of_token (word_of word.Open ∷ word_of word.Instance ∷ []) us) _ e in
      let q = and_parts (all_apart shape_of_token (word_of word.Open ∷ word_of word.Treat ∷ []) (behind_instance us)) _ p.1 in
      let r = and_parts (all_apart shape_of_token (word_of word.Question ∷ word_of word.Castable ∷ []) (behind_treat us)) _ q.1 in
      test_sorted test.InstanceOf _ us p.0 (test_sorted test.TreatAs _ (behind_instance us) q.0 (cast_sorted cast.CastableAs _ (behind_treat us) r.0 (cast_sorted cast.CastAs first (behind_castable us) r.1 f)))
