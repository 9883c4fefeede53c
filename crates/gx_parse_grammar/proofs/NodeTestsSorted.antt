-- The guards of node tests decide.
use Rattle.std.proofs.Common.{◌≡◌, ℕ, Bool, true, false, List, [], ◌∷◌, Option, Some, None, inl, refl}
use Rattle.std.specs.List.{list_all}
use Rattle.gx_base.specs.declared.place.Place.{Place}
use Rattle.gx_grammar.specs.Grammar.{empty, choose}
use Rattle.gx_grammar.specs.Value.{nothing, characters, node, pair, no_item, an_item}
use Rattle.gx_grammar.specs.Opening.{open_token, open_first, open_made}
use Rattle.gx_grammar.specs.Levels.{takes_some}
use Rattle.gx_grammar.specs.First.{AllOf, first_of, HasHead, AreFronts, IsSorted, by_character}
use Rattle.gx_grammar.specs.Apart.{is, shape_begins}
use Rattle.gx_grammar.proofs.PublicLaws.{character_chooses, computed_apart, computed_heads, computed_words, tokens_choose}
use Rattle.gx_parse_grammar.specs.declared.word.Word.TheVariants as word
use Rattle.gx_parse_grammar.specs.declared.kind_words.KindWord.{KindWord}
use Rattle.gx_parse_grammar.specs.declared.kind_words.KindWord.TheVariants as kind
use Rattle.gx_base.specs.NameCharacters.{is_ncname_start}
use Rattle.gx_parse_grammar.specs.Nodes.{Made}
use Rattle.gx_parse_grammar.specs.Tokens.{Token, qname, shape_of_token}
use Rattle.gx_parse_grammar.specs.Grammar.{Phrase, word_of, query_language}
use Rattle.gx_parse_grammar.specs.Types.{kind_word, nothing_inside, document, tested, declared, content, named_content, declared_content}
use Rattle.gx_parse_grammar.specs.NodeTests.{if_wildcard, wildcard_or, wildcard, kind_content, behind_test, any_test, node_test, axis_test, attribute_step, wildcard_step}
use Rattle.gx_parse_grammar.specs.Fronts.{fronts}
use Rattle.gx_parse_grammar.proofs.Shapes.{lawful, shaped}
use Rattle.gx_parse_grammar.proofs.TypesSorted.{content_sorted}

-- no `(` begins these
abbrev pub not_open : List Token → Bool
not_open us = list_all (λ t. shape_begins 40 false (shape_of_token t)) us

module _ (at : ℕ → Place) (right : AreFronts (query_language at) (fronts at)) where
  abbrev Sorts : Phrase → List Token → Type 0
  Sorts A us = IsSorted (query_language at) (fronts at) A us

  -- a part that begins with `(`, or nothing
  parentheses_sorted : (A : Phrase) (us : List Token) → takes_some (query_language at) (fronts at).takings A ≡ true → AllOf (HasHead (query_language at) (is 40) true) (first_of (query_language at) (fronts at) A) → not_open us ≡ true → Sorts A us
      → Sorts (choose (by_character (is 40)) A empty) us
  parentheses_sorted A us t h e s = (character_chooses (query_language at) (is 40) (fronts at) right A empty us (record { takes = t; passes = h; fails = computed_heads (query_language at) shape_of_token (shaped at) 40 false us e }), s, tt)

  opening : AllOf (HasHead (query_language at) (is 40) true) (word_of word.Open ∷ [])
  opening = computed_heads (query_language at) shape_of_token (shaped at) 40 true (word_of word.Open ∷ []) refl

  pub kind_content_sorted : (k : Option KindWord) (us : List Token) → not_open us ≡ true → Sorts (kind_content at k) us
  unfolding kind_content content named_content declared_content nothing_inside document tested declared
  kind_content_sorted (Some kind.Node) us e = parentheses_sorted (content at kind.Node) us refl opening e (content_sorted at right kind.Node us)
  kind_content_sorted (Some kind.Text) us e = parentheses_sorted (content at kind.Text) us refl opening e (content_sorted at right kind.Text us)
  kind_content_sorted (Some kind.Document) us e = parentheses_sorted (content at kind.Document) us refl opening e (content_sorted at right kind.Document us)
  kind_content_sorted (Some kind.Element) us e = parentheses_sorted (content at kind.Element) us refl opening e (content_sorted at right kind.Element us)
  kind_content_sorted (Some kind.Attribute) us e = parentheses_sorted (content at kind.Attribute) us refl opening e (content_sorted at right kind.Attribute us)
  kind_content_sorted (Some kind.SchemaElement) us e = parentheses_sorted (content at kind.SchemaElement) us refl opening e (content_sorted at right kind.SchemaElement us)
  kind_content_sorted None us e = tt

  wildcard_sorted : (us : List Token) → Sorts (wildcard at) us
  unfolding wildcard
  wildcard_sorted us = (
    tokens_choose (query_language at) (lawful at) (fronts at) right (word_of word.AnyPrefix ∷ []) _ _ us
        (record {
          takes = refl;
          first = (inl refl, tt);
          full = (refl, tt);
          opening = ((λ x o. open_made (open_first (open_token o))), tt);
          apart = computed_apart (query_language at) shape_of_token (shaped at) (word_of word.AnyPrefix ∷ []) (word_of word.AnyName ∷ []) refl;
        }),
    (tt, (tt, tt)),
    (tt, tt),
  )

  if_wildcard_sorted : (w : Made) (any other : Phrase) (us : List Token) → Sorts any us → Sorts other us → Sorts (if_wildcard w any other) us
  if_wildcard_sorted nothing any other us s t = t
  if_wildcard_sorted (characters cs) any other us s t = s
  if_wildcard_sorted (node x) any other us s t = s
  if_wildcard_sorted (pair x y) any other us s t = s
  if_wildcard_sorted no_item any other us s t = s
  if_wildcard_sorted (an_item x y) any other us s t = s

  pub wildcard_or_sorted : (v : Made) (any other : Phrase) (us : List Token) → Sorts any us → Sorts other us → Sorts (wildcard_or v any other) us
  unfolding wildcard_or
  wildcard_or_sorted v any other us s t = λ w. if_wildcard_sorted w any other us s t

  behind_test_sorted : (v : Made) (us : List Token) → not_open us ≡ true → Sorts (behind_test at v) us
  unfolding behind_test
  behind_test_sorted v us e = (tt, kind_content_sorted (kind_word v) us e)

  pub any_test_sorted : (v : Made) (us : List Token) → Sorts (any_test at v) us
  unfolding any_test
  any_test_sorted v us = tt

  node_test_sorted : (us : List Token) → not_open us ≡ true → Sorts (node_test at) us
  unfolding node_test wildcard is_ncname_start
  node_test_sorted us e = (
    character_chooses (query_language at) is_ncname_start (fronts at) right _ _ us
        (record {
          takes = refl;
          passes = (record { stands = (shaped at qname).0; opened = (shaped at qname).1 }, tt);
          fails = computed_words (query_language at) shape_of_token (shaped at) is_ncname_start false (word_of word.AnyPrefix ∷ word_of word.AnyName ∷ []) refl;
        }),
    (λ v. wildcard_or_sorted v (any_test at v) (behind_test at v) us (any_test_sorted v us) (behind_test_sorted v us e)),
    wildcard_sorted us,
  )

  -- Steps of tests are sorted before tokens that do not begin with `(`.

  pub axis_test_sorted : (us : List Token) → not_open us ≡ true → Sorts (axis_test at) us
  unfolding axis_test
  axis_test_sorted us e = ((tt, tt), node_test_sorted us e)

  pub attribute_step_sorted : (us : List Token) → not_open us ≡ true → Sorts (attribute_step at) us
  unfolding attribute_step
  attribute_step_sorted us e = ((tt, tt), node_test_sorted us e)

  pub wildcard_step_sorted : (us : List Token) → Sorts (wildcard_step at) us
  unfolding wildcard_step
  wildcard_step_sorted us = wildcard_sorted us
