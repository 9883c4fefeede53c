-- The guards of string literals decide.
use Rattle.std.proofs.Common.{◌≡◌, ℕ, true, false, [], ◌∷◌, List, refl, inl, inr}
use Rattle.gx_base.specs.declared.place.Place.{Place}
use Rattle.gx_grammar.specs.First.{HasHead, AreFronts, IsSorted}
use Rattle.gx_grammar.specs.Opening.{open_left, open_right, open_token}
use Rattle.gx_grammar.specs.Apart.{all_apart, is}
use Rattle.gx_grammar.proofs.PublicLaws.{character_chooses, computed_apart, computed_heads, tokens_repeat}
use Rattle.gx_parse_grammar.specs.declared.runs.Quote.{Quote}
use Rattle.gx_parse_grammar.specs.declared.runs.Quote.TheVariants as quote
use Rattle.gx_parse_grammar.specs.declared.runs.Run.TheVariants as run
use Rattle.gx_parse_grammar.specs.Tokens.{Token, text_run, reference, shape_of_token}
use Rattle.gx_parse_grammar.specs.Grammar.{Phrase, word_of, query_language}
use Rattle.gx_parse_grammar.specs.Fronts.{fronts}
use Rattle.gx_parse_grammar.specs.Strings.{closing_of, doubled_of, string_part, string_parts, quoted, string_of}
use Rattle.gx_parse_grammar.proofs.Shapes.{lawful, shaped}

module _ (at : ℕ → Place) (right : AreFronts (query_language at) (fronts at)) where
  abbrev Sorts : Phrase → List Token → Type 0
  Sorts A us = IsSorted (query_language at) (fronts at) A us

  reference_passes : HasHead (query_language at) (is 38) true reference
  reference_passes = record { stands = (shaped at reference).0; opened = (shaped at reference).1 }

  part_sorted : (q : Quote) (us : List Token) → Sorts (string_part q) us
  unfolding string_part
  part_sorted quote.Double us = (
    character_chooses (query_language at) (is 38) (fronts at) right _ _ us
        (record { takes = refl; passes = (reference_passes, tt); fails = computed_heads (query_language at) shape_of_token (shaped at) 38 false (word_of (doubled_of quote.Double) ∷ text_run (run.String quote.Double) ∷ []) refl }),
    tt,
    (
      character_chooses (query_language at) (is 34) (fronts at) right _ _ us
          (record {
            takes = refl;
            passes = computed_heads (query_language at) shape_of_token (shaped at) 34 true (word_of (doubled_of quote.Double) ∷ []) refl;
            fails = computed_heads (query_language at) shape_of_token (shaped at) 34 false (text_run (run.String quote.Double) ∷ []) refl;
          }),
      tt,
      tt,
    ),
  )
  part_sorted quote.Single us = (
    character_chooses (query_language at) (is 38) (fronts at) right _ _ us
        (record { takes = refl; passes = (reference_passes, tt); fails = computed_heads (query_language at) shape_of_token (shaped at) 38 false (word_of (doubled_of quote.Single) ∷ text_run (run.String quote.Single) ∷ []) refl }),
    tt,
    (
      character_chooses (query_language at) (is 39) (fronts at) right _ _ us
          (record {
            takes = refl;
            passes = computed_heads (query_language at) shape_of_token (shaped at) 39 true (word_of (doubled_of quote.Single) ∷ []) refl;
            fails = computed_heads (query_language at) shape_of_token (shaped at) 39 false (text_run (run.String quote.Single) ∷ []) refl;
          }),
      tt,
      tt,
    ),
  )

  abbrev parts : Quote → List Token
  parts q = text_run (run.String q) ∷ word_of (doubled_of q) ∷ reference ∷ []

  closing_apart : (q : Quote) → all_apart shape_of_token (parts q) (word_of (closing_of q) ∷ []) ≡ true
  closing_apart quote.Double = refl
  closing_apart quote.Single = refl

  parts_sorted : (q : Quote) → Sorts (string_parts q) (word_of (closing_of q) ∷ [])
  unfolding string_parts string_part
  parts_sorted q = (
    tokens_repeat (query_language at) (lawful at) (fronts at) right (parts q) (string_part q) (word_of (closing_of q) ∷ [])
        (record {
          takes = refl;
          first = (inr (inr (inl refl)), (inr (inl refl), (inl refl, tt)));
          full = (refl, (refl, (refl, tt)));
          opening = ((λ x o. open_right (open_right (open_token o))), ((λ x o. open_right (open_left (open_token o))), ((λ x o. open_left (open_token o)), tt)));
          apart = computed_apart (query_language at) shape_of_token (shaped at) (parts q) (word_of (closing_of q) ∷ []) (closing_apart q);
        }),
    refl,
    part_sorted q _,
  )

  -- what follows a string decides nothing in it
  pub quoted_sorted : (q : Quote) (us : List Token) → Sorts (quoted q) us
  unfolding quoted
  quoted_sorted q us = (tt, (parts_sorted q, tt))

  pub string_sorted : (q : Quote) (us : List Token) → Sorts (string_of at q) us
  unfolding string_of
  string_sorted q us = (quoted_sorted q _, tt)
