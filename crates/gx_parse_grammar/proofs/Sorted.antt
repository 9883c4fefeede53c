-- The guards of the grammar decide, so it is read exactly.
use Rattle.std.proofs.Common.{◌≡◌, ℕ, zero, suc, ◌&&◌, Bool, true, false, if◌then◌else◌, List, [], ◌∷◌, Option, Some, None, inl, inr, refl}
use Rattle.std.specs.List.{list_all}
use Rattle.gx_base.specs.declared.place.Place.{Place}
use Rattle.gx_grammar.specs.Grammar.{token, empty, choose, rule}
use Rattle.gx_grammar.specs.Opening.{open_token, open_first, open_key, open_made}
use Rattle.gx_grammar.specs.Levels.{takes_some, AreTakings}
use Rattle.gx_grammar.specs.First.{by_character, IsIn, AllOf, first_of, first_behind, HasHead, AreApart, AreFronts, IsSorted, TokensChoose}
use Rattle.gx_grammar.specs.Apart.{all_apart, is, shape_begins, words_begin}
use Rattle.std.proofs.lemmas.Bool.{and_parts}
use Rattle.gx_grammar.proofs.PublicLaws.{apart_by_heads, avoided_choose, character_chooses, computed_apart, computed_heads, computed_words, tokens_choose, tokens_repeat}
use Rattle.gx_parse_grammar.specs.declared.word.Barrier.TheVariants as barrier
use Rattle.gx_parse_grammar.specs.declared.word.Word.TheVariants as word
use Rattle.gx_parse_grammar.specs.declared.word.Level.{Level}
use Rattle.gx_parse_grammar.specs.declared.word.Level.TheVariants as level
use Rattle.gx_parse_grammar.specs.declared.word.WordSet.{WordSet}
use Rattle.gx_parse_grammar.specs.declared.word.WordSet.TheVariants as set
use Rattle.gx_base.specs.NameCharacters.{is_ncname_start}
use Rattle.gx_parse_grammar.specs.Characters.{is_word_character}
use Rattle.gx_parse_grammar.specs.Nodes.{Made, Join, join_binary, join_path, join_comma, second_value}
use Rattle.gx_parse_grammar.specs.declared.word.Barrier.{Barrier}
use Rattle.gx_parse_grammar.specs.Tokens.{Token, one_of, qname, number, gap_then_open, gap_not_open, gap_then_dollar, barred, begins_sign, shape_of_token, constructor}
use Rattle.gx_parse_grammar.specs.Grammar.{Production, single, within, nested, behind, Phrase, word_of, is_single, level_at, is_reserved, keyword, operator, infix_operator, more, stop, chain, two, expression, numeral, literal, name, variable_step, dots, parenthesised_step, more_arguments, arguments_in, arguments, after_name, after_axis, step_of, behind_plain_name, behind_any_name, test_or_literal, other_step, step, predicate, more_predicates, filtered_step, path_from, more_signs, signed_path, other_operand, ladder, condition, typeswitch, branched, branched_or_name, begun, behind_keyword, opened_or_name, named_single, rules, behind_single, query_language, computed, braced, constructor_name, named_node, no_node, constructed, constructed_by}
use Rattle.gx_parse_grammar.specs.Casts.{casts, type_test, cast_test, casts_fit, behind_cast}
use Rattle.gx_parse_grammar.specs.Fronts.{fronts}
use Rattle.gx_parse_grammar.specs.declared.word.Opening.{Opening}
use Rattle.gx_parse_grammar.specs.declared.word.Opening.TheVariants as opening_is
use Rattle.gx_parse_grammar.specs.Binding.{opening_named, opened, flwor, quantified}
use Rattle.gx_parse_grammar.proofs.Tokens.{tokens_taken}
use Rattle.gx_parse_grammar.proofs.Shapes.{lawful, shaped}
use Rattle.gx_parse_grammar.proofs.NoConstructor.{constructors_avoided}
use Rattle.gx_parse_grammar.specs.Computed.{computed_named, node_named}
use Rattle.gx_parse_grammar.specs.declared.word.ComputedNode.{ComputedNode}
use Rattle.gx_parse_grammar.specs.declared.word.NamedNode.{NamedNode}
use Rattle.gx_parse_grammar.proofs.CastsSorted.{casts_sorted}
use Rattle.gx_parse_grammar.specs.declared.runs.Quote.TheVariants as quote
use Rattle.gx_parse_grammar.specs.Strings.{quoted, string_of}
use Rattle.gx_parse_grammar.proofs.StringsSorted.{string_sorted}
use Rattle.gx_parse_grammar.specs.Direct.{element_of, element_at, direct_step}
use Rattle.gx_parse_grammar.proofs.DirectSorted.{element_sorted, direct_sorted}
use Rattle.gx_ast.specs.declared.name.Axis.{Axis}
use Rattle.gx_parse_grammar.specs.Types.{kind_word, nothing_inside, document, tested, declared, content, named_content, declared_content}
use Rattle.gx_parse_grammar.specs.declared.kind_words.KindWord.{KindWord}
use Rattle.gx_parse_grammar.specs.declared.kind_words.KindWord.TheVariants as kind
use Rattle.gx_parse_grammar.specs.NodeTests.{any_step, axis_word, wildcard, kind_content, axis_test, attribute_step, wildcard_step}
use Rattle.gx_parse_grammar.proofs.NodeTestsSorted.{not_open, wildcard_or_sorted, any_test_sorted, kind_content_sorted, axis_test_sorted, attribute_step_sorted, wildcard_step_sorted}
use Rattle.gx_parse_grammar.proofs.Hands.{name_no_sign, number_no_sign, number_no_name, points_apart, gaps_apart, dollar_open_apart, dollar_neither_apart, open_neither_apart}
use Rattle.gx_parse_grammar.proofs.BindingSorted.{flwor_sorted, quantified_sorted}
use Rattle.gx_parse_grammar.specs.declared.word.Branching.{Branching}
use Rattle.gx_parse_grammar.specs.declared.word.Branching.TheVariants as branching_is
use Rattle.gx_parse_grammar.specs.Typeswitch.{branching_named, case_head, case, more_cases, cases, default_head}
use Rattle.gx_parse_grammar.proofs.TypeswitchSorted.{cases_sorted, default_head_sorted}

-- both tests of a pair
both : (a b : Bool) → (a && b) ≡ true → (a ≡ true) × (b ≡ true)
both a b e = and_parts a b e

module _ (at : ℕ → Place) where
  abbrev Sorts : Phrase → List Token → Type 0
  Sorts A us = IsSorted (query_language at) (fronts at) A us

  abbrev Takes : Phrase → Bool
  Takes A = takes_some (query_language at) (fronts at).takings A

  abbrev apart : (ts us : List Token) → all_apart shape_of_token ts us ≡ true → AllOf (λ u. AllOf (λ t. AreApart (query_language at) t u) ts) us
  apart ts us e = computed_apart (query_language at) shape_of_token (shaped at) ts us e

  production_takes : (p : Production) → (fronts at).takings.production_takes p ≡ true → Takes (rules at p) ≡ true
  unfolding ladder casts type_test cast_test chain two expression other_operand operator path_from filtered_step other_step variable_step parenthesised_step direct_step element_at element_of dots test_or_literal attribute_step wildcard_step wildcard literal string_of quoted numeral
  production_takes (single zero) e = refl
  production_takes (single (suc n)) e = refl
  production_takes (within zero) e = refl
  production_takes (within (suc n)) e = refl
  production_takes (nested zero) e = refl
  production_takes (nested (suc zero)) e = refl
  production_takes (nested (suc (suc n))) e = refl

  pub taken : AreTakings (query_language at) (fronts at).takings
  taken = record { tokens = tokens_taken; productions = production_takes }

  firsts : (p : Production) → AllOf (IsIn ((fronts at).first p)) (first_of (query_language at) (fronts at) (rules at p))
  unfolding ladder casts type_test cast_test chain two expression other_operand operator path_from filtered_step other_step variable_step parenthesised_step direct_step element_at element_of dots test_or_literal attribute_step wildcard_step wildcard literal string_of quoted numeral
  firsts (single zero) = (inr (inr (inr (inr (inr (inr (inr (inr (inr (inr (inr (inr (inl refl)))))))))))), tt)
  firsts (single (suc n)) =
      (inl refl, (inr (inl refl), (inr (inr (inl refl)), (inr (inr (inr (inl refl))), (inr (inr (inr (inr (inl refl)))), (inr (inr (inr (inr (inr (inl refl))))), (inr (inr (inr (inr (inr (inr (inl refl)))))), (inr (inr (inr (inr (inr (inr (inr (inl refl))))))), (inr (inr (inr (inr (inr (inr (inr (inr (inl refl)))))))), (inr (inr (inr (inr (inr (inr (inr (inr (inr (inl refl))))))))), (inr (inr (inr (inr (inr (inr (inr (inr (inr (inr (inl refl)))))))))), (inr (inr (inr (inr (inr (inr (inr (inr (inr (inr (inr (inl refl))))))))))), tt))))))))))))
  firsts (within zero) = (inr (inr (inr (inr (inr (inr (inr (inr (inr (inr (inr (inr (inl refl)))))))))))), tt)
  firsts (within (suc n)) =
      (inl refl, (inr (inl refl), (inr (inr (inl refl)), (inr (inr (inr (inl refl))), (inr (inr (inr (inr (inl refl)))), (inr (inr (inr (inr (inr (inl refl))))), (inr (inr (inr (inr (inr (inr (inl refl)))))), (inr (inr (inr (inr (inr (inr (inr (inl refl))))))), (inr (inr (inr (inr (inr (inr (inr (inr (inl refl)))))))), (inr (inr (inr (inr (inr (inr (inr (inr (inr (inl refl))))))))), (inr (inr (inr (inr (inr (inr (inr (inr (inr (inr (inl refl)))))))))), (inr (inr (inr (inr (inr (inr (inr (inr (inr (inr (inr (inl refl))))))))))), (inr (inr (inr (inr (inr (inr (inr (inr (inr (inr (inr (inr (inl refl)))))))))))), tt)))))))))))))
  firsts (nested zero) = (inl refl, tt)
  firsts (nested (suc zero)) = (inl refl, tt)
  firsts (nested (suc (suc n))) = (inl refl, tt)

  pub right : AreFronts (query_language at) (fronts at)
  right = record { taken = taken; firsts = firsts; follows = λ p y. ((λ h. h), (λ h. h)); follows_cut = λ p y. ((λ h. h), (λ h. h)) }

  -- chains

  stop_sorted : (ws : WordSet) (b : Barrier) (us : List Token) → all_apart shape_of_token (one_of ws ∷ []) us ≡ true → Sorts (stop at ws b) us
  unfolding stop operator
  stop_sorted ws b us e = (
    tokens_choose (query_language at) (lawful at) (fronts at) right (one_of ws ∷ []) _ empty us
        (record { takes = refl; first = (inl refl, tt); full = (refl, tt); opening = ((λ x o. open_first (open_made (open_first (open_token o)))), tt); apart = apart (one_of ws ∷ []) us e }),
    ((tt, tt), tt),
    tt,
  )

  more_sorted : (ws : WordSet) (operand : Phrase) (b : Barrier) (us : List Token) → all_apart shape_of_token (one_of ws ∷ []) us ≡ true → Sorts operand (one_of ws ∷ us) → (k : ℕ) → Sorts (more at ws operand (stop at ws b) k) us
  unfolding more stop operator infix_operator
  more_sorted ws operand b us e s zero = stop_sorted ws b us e
  more_sorted ws operand b us e s (suc zero) = (
    tokens_choose (query_language at) (lawful at) (fronts at) right (one_of ws ∷ []) _ empty us
        (record { takes = refl; first = (inl refl, tt); full = (refl, tt); opening = ((λ x o. open_first (open_made (open_key o))), tt); apart = apart (one_of ws ∷ []) us e }),
    ((λ v. (tt, tt)), (s, more_sorted ws operand b us e s zero)),
    tt,
  )
  more_sorted ws operand b us e s (suc (suc k)) = (
    tokens_choose (query_language at) (lawful at) (fronts at) right (one_of ws ∷ []) _ empty us
        (record { takes = refl; first = (inl refl, tt); full = (refl, tt); opening = ((λ x o. open_first (open_made (open_key o))), tt); apart = apart (one_of ws ∷ []) us e }),
    ((λ v. (tt, tt)), (s, more_sorted ws operand b us e s (suc k))),
    tt,
  )

  chain_sorted : (join : Join) (ws : WordSet) (first operand : Phrase) (b : Barrier) (us : List Token) → all_apart shape_of_token (one_of ws ∷ []) us ≡ true → Sorts first (one_of ws ∷ us) → Sorts operand (one_of ws ∷ us) → Sorts (chain at join ws first operand b) us
  unfolding chain more infix_operator
  chain_sorted join ws first operand b us e f s = (f, more_sorted ws operand b us e s 63)

  two_sorted : (ws : WordSet) (first operand : Phrase) (us : List Token) → all_apart shape_of_token (one_of ws ∷ []) us ≡ true → Sorts first (one_of ws ∷ us) → Sorts operand us → Sorts (two at ws first operand) us
  unfolding two more infix_operator
  two_sorted ws first operand us e f s = (
    f,
    (
      tokens_choose (query_language at) (lawful at) (fronts at) right (one_of ws ∷ []) _ empty us
          (record { takes = refl; first = (inl refl, tt); full = (refl, tt); opening = ((λ x o. open_first (open_made (open_key o))), tt); apart = apart (one_of ws ∷ []) us e }),
      ((λ v. (tt, tt)), (s, tt)),
      tt,
    ),
  )

  pub expression_sorted : (n : ℕ) (us : List Token) → all_apart shape_of_token (word_of word.Comma ∷ []) us ≡ true → AllOf (IsIn (behind_single at)) us → Sorts (expression at n) us
  unfolding expression
  expression_sorted n us e f = chain_sorted join_comma (set.Only word.Comma) (rule (single n)) (rule (single n)) barrier.Single us e (inl refl, f) (inl refl, f)

  -- steps

  abbrev not_brace : List Token → Bool
  not_brace us = list_all (λ t. shape_begins 123 false (shape_of_token t)) us

  -- neither `(` nor `::` begins these
  abbrev axis_fits : List Token → Bool
  axis_fits us = not_open us && all_apart shape_of_token (word_of word.Colons ∷ []) us

  -- nor `{`
  abbrev name_fits : List Token → Bool
  name_fits us = axis_fits us && not_brace us

  bare_fits : (us : List Token) → name_fits us ≡ true → not_open us ≡ true
  bare_fits us e = (both (not_open us) (all_apart shape_of_token (word_of word.Colons ∷ []) us) (both (axis_fits us) (not_brace us) e).0).0

  variable_sorted : (us : List Token) → Sorts (variable_step at) us
  unfolding variable_step name
  variable_sorted us = ((tt, tt), (tt, tt))

  numeral_sorted : (us : List Token) → Sorts (numeral at) us
  unfolding numeral
  numeral_sorted us = (tt, (tt, tt))

  literal_sorted : (us : List Token) → Sorts (literal at) us
  unfolding literal string_of quoted numeral
  literal_sorted us = (
    character_chooses (query_language at) (is 34) (fronts at) right _ _ us
        (record {
          takes = refl;
          passes = computed_heads (query_language at) shape_of_token (shaped at) 34 true (word_of word.Quote ∷ []) refl;
          fails = computed_heads (query_language at) shape_of_token (shaped at) 34 false (word_of word.Apostrophe ∷ number ∷ []) refl;
        }),
    string_sorted at right quote.Double us,
    (
      character_chooses (query_language at) (is 39) (fronts at) right _ _ us
          (record {
            takes = refl;
            passes = computed_heads (query_language at) shape_of_token (shaped at) 39 true (word_of word.Apostrophe ∷ []) refl;
            fails = computed_heads (query_language at) shape_of_token (shaped at) 39 false (number ∷ []) refl;
          }),
      string_sorted at right quote.Single us,
      numeral_sorted us,
    ),
  )

  quotes_apart : AllOf (λ u. AllOf (λ t. AreApart (query_language at) t u) (one_of set.Dots ∷ [])) (word_of word.AtSign ∷ word_of word.AnyPrefix ∷ word_of word.AnyName ∷ word_of word.Quote ∷ word_of word.Apostrophe ∷ number ∷ [])
  quotes_apart =
      let w = apart (one_of set.Dots ∷ []) (word_of word.AtSign ∷ word_of word.AnyPrefix ∷ word_of word.AnyName ∷ word_of word.Quote ∷ word_of word.Apostrophe ∷ []) refl in
      (w.0, (w.1.0, (w.1.1.0, (w.1.1.1.0, (w.1.1.1.1.0, ((points_apart at, tt), tt))))))

  dots_sorted : (us : List Token) → Sorts (dots at) us
  unfolding dots
  dots_sorted us = (tt, tt)

  abbrev singles : List Token
  singles = qname ∷ one_of set.Signs ∷ word_of word.Dollar ∷ word_of word.Open ∷ word_of word.TagOpen ∷ one_of set.Dots ∷ word_of word.AtSign ∷ word_of word.AnyPrefix ∷ word_of word.AnyName ∷ word_of word.Quote ∷ word_of word.Apostrophe ∷ number ∷ barred barrier.Single ∷ []

  singles_pass : AllOf (HasHead (query_language at) (is 41) false) singles
  unfolding is_ncname_start
  singles_pass = computed_heads (query_language at) shape_of_token (shaped at) 41 false singles refl

  closing_passes : AllOf (HasHead (query_language at) (is 41) true) (word_of word.Close ∷ [])
  closing_passes = computed_heads (query_language at) shape_of_token (shaped at) 41 true (word_of word.Close ∷ []) refl

  parenthesised_sorted : (n : ℕ) (us : List Token) → Sorts (parenthesised_step at n) us
  unfolding parenthesised_step expression chain
  parenthesised_sorted n us = (
    (tt, tt),
    (
      character_chooses (query_language at) (is 41) (fronts at) right _ _ us (record { takes = refl; passes = closing_passes; fails = singles_pass }),
      (tt, (tt, tt)),
      (expression_sorted n (word_of word.Close ∷ []) refl (inr (inl refl), tt), (tt, tt)),
    ),
  )

  more_arguments_sorted : (n : ℕ) → Sorts (more_arguments at n) (word_of word.Close ∷ [])
  unfolding more_arguments
  more_arguments_sorted n = (
    tokens_repeat (query_language at) (lawful at) (fronts at) right (word_of word.Comma ∷ []) _ (word_of word.Close ∷ [])
        (record { takes = refl; first = (inl refl, tt); full = (refl, tt); opening = ((λ x o. open_first (open_first (open_token o))), tt); apart = apart (word_of word.Comma ∷ []) (word_of word.Close ∷ []) refl }),
    refl,
    ((tt, tt), (inl refl, (inr (inl refl), tt))),
  )

  inside_sorted : (n : ℕ) (us : List Token) → Sorts (arguments_in at n) us
  unfolding arguments_in more_arguments
  inside_sorted n us = (
    character_chooses (query_language at) (is 41) (fronts at) right _ _ us (record { takes = refl; passes = closing_passes; fails = singles_pass }),
    (tt, (tt, tt)),
    (((inl refl, (inr (inl refl), tt)), more_arguments_sorted n), (tt, tt)),
  )

  arguments_sorted : (n : ℕ) (us : List Token) → Sorts (arguments at n) us
  unfolding arguments
  arguments_sorted n us = ((tt, tt), inside_sorted n us)

  after_name_sorted : (n : ℕ) (v : Made) (us : List Token) → not_open us ≡ true → Sorts (after_name at n v) us
  unfolding after_name arguments
  after_name_sorted n v us e = elim (is_reserved v) as (λ b. Sorts (if b then (kind_content at (kind_word v)) else (choose (by_character (is 40)) (arguments at n) empty)) us) [
    | true ↦ kind_content_sorted at right (kind_word v) us e
    | false ↦ (
      character_chooses (query_language at) (is 40) (fronts at) right _ empty us
          (record { takes = refl; passes = computed_heads (query_language at) shape_of_token (shaped at) 40 true (word_of word.Open ∷ []) refl; fails = computed_heads (query_language at) shape_of_token (shaped at) 40 false us e }),
      arguments_sorted n us,
      tt,
    )
  ]

  kind_content_apart : (k : Option KindWord) (us : List Token) → all_apart shape_of_token (word_of word.Colons ∷ []) us ≡ true
      → AllOf (λ u. AllOf (λ t. AreApart (query_language at) t u) (word_of word.Colons ∷ [])) (first_behind (query_language at) (fronts at) (kind_content at k) us)
  unfolding kind_content content named_content declared_content nothing_inside document tested declared
  kind_content_apart (Some kind.Node) us e = apart (word_of word.Colons ∷ []) (word_of word.Open ∷ us) e
  kind_content_apart (Some kind.Text) us e = apart (word_of word.Colons ∷ []) (word_of word.Open ∷ us) e
  kind_content_apart (Some kind.Document) us e = apart (word_of word.Colons ∷ []) (word_of word.Open ∷ us) e
  kind_content_apart (Some kind.Element) us e = apart (word_of word.Colons ∷ []) (word_of word.Open ∷ us) e
  kind_content_apart (Some kind.Attribute) us e = apart (word_of word.Colons ∷ []) (word_of word.Open ∷ us) e
  kind_content_apart (Some kind.SchemaElement) us e = apart (word_of word.Colons ∷ []) (word_of word.Open ∷ us) e
  kind_content_apart None us e = apart (word_of word.Colons ∷ []) us e

  after_name_apart : (n : ℕ) (v : Made) (us : List Token) → all_apart shape_of_token (word_of word.Colons ∷ []) us ≡ true
      → AllOf (λ u. AllOf (λ t. AreApart (query_language at) t u) (word_of word.Colons ∷ [])) (first_behind (query_language at) (fronts at) (after_name at n v) us)
  unfolding after_name arguments
  after_name_apart n v us e =
      elim (is_reserved v) as (λ b. AllOf (λ u. AllOf (λ t. AreApart (query_language at) t u) (word_of word.Colons ∷ [])) (first_behind (query_language at) (fronts at) (if b then (kind_content at (kind_word v)) else (choose (by_character (is 40)) (arguments at n) empty)) us))
      [ true ↦ kind_content_apart (kind_word v) us e | false ↦ apart (word_of word.Colons ∷ []) (word_of word.Open ∷ us) e ]

  after_axis_sorted : (n : ℕ) (a : Option Axis) (v : Made) (us : List Token) → axis_fits us ≡ true → Sorts (after_axis at n a v) us
  unfolding after_axis axis_test
  after_axis_sorted n (Some a) v us e =
      let p = both (not_open us) (all_apart shape_of_token (word_of word.Colons ∷ []) us) e in (
        tokens_choose (query_language at) (lawful at) (fronts at) right (word_of word.Colons ∷ []) _ _ us
            (record { takes = refl; first = (inl refl, tt); full = (refl, tt); opening = ((λ x o. open_made (open_first (open_first (open_token o)))), tt); apart = after_name_apart n v us p.1 }),
        axis_test_sorted at right us p.0,
        after_name_sorted n v us p.0,
      )
  after_axis_sorted n None v us e = after_name_sorted n v us (both (not_open us) (all_apart shape_of_token (word_of word.Colons ∷ []) us) e).0

  plain_name_sorted : (t : Token) (v : Made) (us : List Token) → Sorts (behind_plain_name at t v) us
  unfolding behind_plain_name
  plain_name_sorted t v us = tt

  -- computed constructors

  computed_sorted : (n : ℕ) (c : ComputedNode) (us : List Token) → Sorts (computed at n c) us
  unfolding computed
  computed_sorted n c us = ((tt, tt), (expression_sorted n (word_of word.CloseBrace ∷ []) refl (inr (inr (inr (inr (inr (inl refl))))), tt), (tt, tt)))

  singles_close : AllOf (HasHead (query_language at) (is 125) false) singles
  unfolding is_ncname_start
  singles_close = computed_heads (query_language at) shape_of_token (shaped at) 125 false singles refl

  braced_sorted : (n : ℕ) (us : List Token) → Sorts (braced at n) us
  unfolding braced expression chain
  braced_sorted n us = (
    character_chooses (query_language at) (is 125) (fronts at) right _ _ us
        (record { takes = refl; passes = computed_heads (query_language at) shape_of_token (shaped at) 125 true (word_of word.CloseBrace ∷ []) refl; fails = singles_close }),
    (tt, (tt, tt)),
    (expression_sorted n (word_of word.CloseBrace ∷ []) refl (inr (inr (inr (inr (inr (inl refl))))), tt), (tt, tt)),
  )

  named_node_sorted : (n : ℕ) (k : NamedNode) (us : List Token) → Sorts (named_node at n k) us
  unfolding named_node constructor_name
  named_node_sorted n k us = ((tt, tt), braced_sorted n us)

  kind_content_heads : (k : Option KindWord) (us : List Token) → not_brace us ≡ true → AllOf (HasHead (query_language at) (is 123) false) (first_behind (query_language at) (fronts at) (kind_content at k) us)
  unfolding kind_content content named_content declared_content nothing_inside document tested declared
  kind_content_heads (Some kind.Node) us e = computed_heads (query_language at) shape_of_token (shaped at) 123 false (word_of word.Open ∷ us) e
  kind_content_heads (Some kind.Text) us e = computed_heads (query_language at) shape_of_token (shaped at) 123 false (word_of word.Open ∷ us) e
  kind_content_heads (Some kind.Document) us e = computed_heads (query_language at) shape_of_token (shaped at) 123 false (word_of word.Open ∷ us) e
  kind_content_heads (Some kind.Element) us e = computed_heads (query_language at) shape_of_token (shaped at) 123 false (word_of word.Open ∷ us) e
  kind_content_heads (Some kind.Attribute) us e = computed_heads (query_language at) shape_of_token (shaped at) 123 false (word_of word.Open ∷ us) e
  kind_content_heads (Some kind.SchemaElement) us e = computed_heads (query_language at) shape_of_token (shaped at) 123 false (word_of word.Open ∷ us) e
  kind_content_heads None us e = computed_heads (query_language at) shape_of_token (shaped at) 123 false us e

  after_name_heads : (n : ℕ) (v : Made) (us : List Token) → not_brace us ≡ true → AllOf (HasHead (query_language at) (is 123) false) (first_behind (query_language at) (fronts at) (after_name at n v) us)
  unfolding after_name arguments
  after_name_heads n v us e =
      elim (is_reserved v) as (λ b. AllOf (HasHead (query_language at) (is 123) false) (first_behind (query_language at) (fronts at) (if b then (kind_content at (kind_word v)) else (choose (by_character (is 40)) (arguments at n) empty)) us))
      [ true ↦ kind_content_heads (kind_word v) us e | false ↦ computed_heads (query_language at) shape_of_token (shaped at) 123 false (word_of word.Open ∷ us) e ]

  no_node_sorted : (n : ℕ) (v : Made) (us : List Token) → axis_fits us ≡ true → Sorts (no_node at n v) us
  unfolding no_node
  no_node_sorted n v us e = (tt, after_axis_sorted n (axis_word v) v us e)

  constructed_by_sorted : (n : ℕ) (v : Made) (c : Option ComputedNode) (k : Option NamedNode) (us : List Token) → name_fits us ≡ true → Sorts (constructed_by at n v c k) us
  unfolding constructed_by computed named_node constructor_name no_node
  constructed_by_sorted n v (Some c) k us e = (
    character_chooses (query_language at) (is 123) (fronts at) right _ _ us
        (record { takes = refl; passes = computed_heads (query_language at) shape_of_token (shaped at) 123 true (word_of word.BraceOpen ∷ []) refl; fails = after_name_heads n v us (both (axis_fits us) (not_brace us) e).1 }),
    computed_sorted n c us,
    after_name_sorted n v us (bare_fits us e),
  )
  constructed_by_sorted n v None (Some k) us e = (
    avoided_choose (query_language at) (lawful at) (fronts at) right (constructor ∷ []) (named_node at n k) refl (inl refl, tt) ((λ x o. open_made (open_first (open_made (open_first (open_token o))))), tt) _ _ _
        (constructors_avoided at (λ left u. second_value u) (after_axis at n (axis_word v) v) _ _),
    named_node_sorted n k us,
    no_node_sorted n v us (both (axis_fits us) (not_brace us) e).0,
  )
  constructed_by_sorted n v None None us e = after_axis_sorted n (axis_word v) v us (both (axis_fits us) (not_brace us) e).0

  any_name_sorted : (n : ℕ) (v : Made) (us : List Token) → name_fits us ≡ true → Sorts (behind_any_name at n v) us
  unfolding behind_any_name step_of constructed
  any_name_sorted n v us e = (tt, constructed_by_sorted n v (computed_named v) (node_named v) us e)

  test_or_literal_sorted : (us : List Token) → not_open us ≡ true → Sorts (test_or_literal at) us
  unfolding test_or_literal attribute_step wildcard_step wildcard literal string_of quoted numeral
  test_or_literal_sorted us e = (
    character_chooses (query_language at) (is 64) (fronts at) right _ _ us
        (record {
          takes = refl;
          passes = computed_heads (query_language at) shape_of_token (shaped at) 64 true (word_of word.AtSign ∷ []) refl;
          fails = computed_heads (query_language at) shape_of_token (shaped at) 64 false (word_of word.AnyPrefix ∷ word_of word.AnyName ∷ word_of word.Quote ∷ word_of word.Apostrophe ∷ number ∷ []) refl;
        }),
    attribute_step_sorted at right us e,
    (
      character_chooses (query_language at) (is 42) (fronts at) right _ _ us
          (record {
            takes = refl;
            passes = computed_heads (query_language at) shape_of_token (shaped at) 42 true (word_of word.AnyPrefix ∷ word_of word.AnyName ∷ []) refl;
            fails = computed_heads (query_language at) shape_of_token (shaped at) 42 false (word_of word.Quote ∷ word_of word.Apostrophe ∷ number ∷ []) refl;
          }),
      wildcard_step_sorted at right us,
      literal_sorted us,
    ),
  )

  other_step_sorted : (n : ℕ) (us : List Token) → not_open us ≡ true → Sorts (other_step at n) us
  unfolding other_step variable_step parenthesised_step direct_step element_at element_of dots test_or_literal attribute_step wildcard_step wildcard literal string_of quoted numeral
  other_step_sorted n us e = (
    character_chooses (query_language at) (is 36) (fronts at) right _ _ us
        (record {
          takes = refl;
          passes = computed_heads (query_language at) shape_of_token (shaped at) 36 true (word_of word.Dollar ∷ []) refl;
          fails = computed_heads (query_language at) shape_of_token (shaped at) 36 false (word_of word.Open ∷ word_of word.TagOpen ∷ one_of set.Dots ∷ word_of word.AtSign ∷ word_of word.AnyPrefix ∷ word_of word.AnyName ∷ word_of word.Quote ∷ word_of word.Apostrophe ∷ number ∷ []) refl;
        }),
    variable_sorted us,
    (
      character_chooses (query_language at) (is 40) (fronts at) right _ _ us
          (record {
            takes = refl;
            passes = computed_heads (query_language at) shape_of_token (shaped at) 40 true (word_of word.Open ∷ []) refl;
            fails = computed_heads (query_language at) shape_of_token (shaped at) 40 false (word_of word.TagOpen ∷ one_of set.Dots ∷ word_of word.AtSign ∷ word_of word.AnyPrefix ∷ word_of word.AnyName ∷ word_of word.Quote ∷ word_of word.Apostrophe ∷ number ∷ []) refl;
          }),
      parenthesised_sorted n us,
      (
        character_chooses (query_language at) (is 60) (fronts at) right _ _ us
            (record {
              takes = refl;
              passes = computed_heads (query_language at) shape_of_token (shaped at) 60 true (word_of word.TagOpen ∷ []) refl;
              fails = computed_heads (query_language at) shape_of_token (shaped at) 60 false (one_of set.Dots ∷ word_of word.AtSign ∷ word_of word.AnyPrefix ∷ word_of word.AnyName ∷ word_of word.Quote ∷ word_of word.Apostrophe ∷ number ∷ []) refl;
            }),
        direct_sorted at right n us,
        (
          tokens_choose (query_language at) (lawful at) (fronts at) right (one_of set.Dots ∷ []) _ _ us
              (record { takes = refl; first = (inl refl, tt); full = (refl, tt); opening = ((λ x o. open_made (open_first (open_token o))), tt); apart = quotes_apart }),
          dots_sorted us,
          test_or_literal_sorted us e,
        ),
      ),
    ),
  )

  -- names, and what begins otherwise

  words_no_name : (ts : List Token) → list_all (λ t. words_begin is_ncname_start false (shape_of_token t)) ts ≡ true → AllOf (HasHead (query_language at) is_ncname_start false) ts
  words_no_name ts e = computed_words (query_language at) shape_of_token (shaped at) is_ncname_start false ts e

  step_fails : AllOf (HasHead (query_language at) is_ncname_start false) (word_of word.Dollar ∷ word_of word.Open ∷ word_of word.TagOpen ∷ one_of set.Dots ∷ word_of word.AtSign ∷ word_of word.AnyPrefix ∷ word_of word.AnyName ∷ word_of word.Quote ∷ word_of word.Apostrophe ∷ number ∷ [])
  unfolding is_ncname_start
  step_fails =
      let w = words_no_name (word_of word.Dollar ∷ word_of word.Open ∷ word_of word.TagOpen ∷ one_of set.Dots ∷ word_of word.AtSign ∷ word_of word.AnyPrefix ∷ word_of word.AnyName ∷ word_of word.Quote ∷ word_of word.Apostrophe ∷ []) refl in
      (w.0, (w.1.0, (w.1.1.0, (w.1.1.1.0, (w.1.1.1.1.0, (w.1.1.1.1.1.0, (w.1.1.1.1.1.1.0, (w.1.1.1.1.1.1.1.0, (w.1.1.1.1.1.1.1.1.0, (number_no_name at, tt))))))))))

  name_passes : HasHead (query_language at) is_ncname_start true qname
  name_passes = record { stands = (shaped at qname).0; opened = (shaped at qname).1 }

  any_step_sorted : (v : Made) (us : List Token) → Sorts (any_step at v) us
  unfolding any_step
  any_step_sorted v us = any_test_sorted at right v us

  step_sorted : (n : ℕ) (us : List Token) → name_fits us ≡ true → Sorts (step at n) us
  unfolding step other_step variable_step parenthesised_step direct_step element_at element_of dots test_or_literal attribute_step wildcard_step wildcard literal string_of quoted numeral
  step_sorted n us e = (
    character_chooses (query_language at) is_ncname_start (fronts at) right _ (other_step at n) us (record { takes = refl; passes = (name_passes, tt); fails = step_fails }),
    (λ v. wildcard_or_sorted at right v (any_step at v) (behind_any_name at n v) us (any_step_sorted v us) (any_name_sorted n v us e)),
    other_step_sorted n us (bare_fits us e),
  )

  -- paths and signs

  predicate_sorted : (n : ℕ) (us : List Token) → Sorts (predicate at n) us
  unfolding predicate
  predicate_sorted n us = ((tt, tt), (expression_sorted n (word_of word.CloseBracket ∷ []) refl (inr (inr (inr (inr (inl refl)))), tt), (tt, tt)))

  abbrev predicates_fit : List Token → Bool
  predicates_fit us = all_apart shape_of_token (word_of word.OpenBracket ∷ []) us && all_apart shape_of_token (barred barrier.Predicate ∷ []) us

  more_predicates_sorted : (n k : ℕ) (us : List Token) → predicates_fit us ≡ true → Sorts (more_predicates at n k) us
  unfolding more_predicates predicate
  more_predicates_sorted n zero us e = (
    tokens_choose (query_language at) (lawful at) (fronts at) right (barred barrier.Predicate ∷ []) (token (barred barrier.Predicate)) empty us
        (record {
          takes = refl;
          first = (inl refl, tt);
          full = (refl, tt);
          opening = ((λ x o. open_token o), tt);
          apart = apart (barred barrier.Predicate ∷ []) us (both (all_apart shape_of_token (word_of word.OpenBracket ∷ []) us) _ e).1;
        }),
    tt,
    tt,
  )
  more_predicates_sorted n (suc k) us e = (
    tokens_choose (query_language at) (lawful at) (fronts at) right (word_of word.OpenBracket ∷ []) _ empty us
        (record {
          takes = refl;
          first = (inl refl, tt);
          full = (refl, tt);
          opening = ((λ x o. open_first (open_made (open_first (open_first (open_token o))))), tt);
          apart = apart (word_of word.OpenBracket ∷ []) us (both (all_apart shape_of_token (word_of word.OpenBracket ∷ []) us) _ e).0;
        }),
    (predicate_sorted n (first_behind (query_language at) (fronts at) (more_predicates at n k) us), more_predicates_sorted n k us e),
    tt,
  )

  filtered_sorted : (n : ℕ) (first : Phrase) (us : List Token) → predicates_fit us ≡ true → Sorts first (word_of word.OpenBracket ∷ us) → Sorts (filtered_step at n first) us
  unfolding filtered_step more_predicates predicate
  filtered_sorted n first us e f = (f, more_predicates_sorted n 64 us e)

  abbrev path_fits : List Token → Bool
  path_fits us = all_apart shape_of_token (one_of set.Slashes ∷ []) us && (predicates_fit (one_of set.Slashes ∷ us) && name_fits (word_of word.OpenBracket ∷ one_of set.Slashes ∷ us))

  path_sorted : (n : ℕ) (first : Phrase) (us : List Token) → path_fits us ≡ true → Sorts first (word_of word.OpenBracket ∷ one_of set.Slashes ∷ us) → Sorts (path_from at n first) us
  unfolding path_from
  path_sorted n first us e f =
      let p = both (all_apart shape_of_token (one_of set.Slashes ∷ []) us) _ e in
      let q = both (predicates_fit (one_of set.Slashes ∷ us)) _ p.1 in
      chain_sorted join_path set.Slashes (filtered_step at n first) (filtered_step at n (step at n)) barrier.Step us p.0 (filtered_sorted n first (one_of set.Slashes ∷ us) q.0 f)
      (filtered_sorted n (step at n) (one_of set.Slashes ∷ us) q.0 (step_sorted n (word_of word.OpenBracket ∷ one_of set.Slashes ∷ us) q.1))

  step_fits : (us : List Token) → path_fits us ≡ true → name_fits (word_of word.OpenBracket ∷ one_of set.Slashes ∷ us) ≡ true
  step_fits us e = (both (predicates_fit (one_of set.Slashes ∷ us)) _ (both (all_apart shape_of_token (one_of set.Slashes ∷ []) us) _ e).1).1

  abbrev steps : List Token
  steps = qname ∷ word_of word.Dollar ∷ word_of word.Open ∷ word_of word.TagOpen ∷ one_of set.Dots ∷ word_of word.AtSign ∷ word_of word.AnyPrefix ∷ word_of word.AnyName ∷ word_of word.Quote ∷ word_of word.Apostrophe ∷ number ∷ []

  signs_apart : AllOf (λ u. AllOf (λ t. AreApart (query_language at) t u) (one_of set.Signs ∷ [])) steps
  unfolding is_ncname_start
  signs_apart = apart (one_of set.Signs ∷ []) steps refl

  sign_passes : HasHead (query_language at) begins_sign true (barred barrier.Sign)
  sign_passes = record { stands = (shaped at (barred barrier.Sign)).0; opened = (shaped at (barred barrier.Sign)).1 }

  sign_apart : (u : Token) → HasHead (query_language at) begins_sign false u → AreApart (query_language at) (barred barrier.Sign) u
  sign_apart u h = apart_by_heads (query_language at) begins_sign true false (barred barrier.Sign) u (λ e. absurd (cc)) sign_passes h

  no_sign_apart : AllOf (λ u. AllOf (λ t. AreApart (query_language at) t u) (barred barrier.Sign ∷ [])) steps
  no_sign_apart =
      let w = apart (barred barrier.Sign ∷ []) (word_of word.Dollar ∷ word_of word.Open ∷ word_of word.TagOpen ∷ one_of set.Dots ∷ word_of word.AtSign ∷ word_of word.AnyPrefix ∷ word_of word.AnyName ∷ word_of word.Quote ∷ word_of word.Apostrophe ∷ []) refl in
      ((sign_apart qname (name_no_sign at), tt), (w.0, (w.1.0, (w.1.1.0, (w.1.1.1.0, (w.1.1.1.1.0, (w.1.1.1.1.1.0, (w.1.1.1.1.1.1.0, (w.1.1.1.1.1.1.1.0, (w.1.1.1.1.1.1.1.1.0, ((sign_apart number (number_no_sign at), tt), tt)))))))))))

  more_signs_sorted : (k : ℕ) → Sorts (more_signs at k) steps
  unfolding more_signs operator
  more_signs_sorted zero = (
    tokens_choose (query_language at) (lawful at) (fronts at) right (barred barrier.Sign ∷ []) (token (barred barrier.Sign)) empty steps
        (record { takes = refl; first = (inl refl, tt); full = (refl, tt); opening = ((λ x o. open_token o), tt); apart = no_sign_apart }),
    tt,
    tt,
  )
  more_signs_sorted (suc k) = (
    tokens_choose (query_language at) (lawful at) (fronts at) right (one_of set.Signs ∷ []) _ empty steps
        (record { takes = refl; first = (inl refl, tt); full = (refl, tt); opening = ((λ x o. open_first (open_made (open_first (open_token o)))), tt); apart = signs_apart }),
    ((tt, tt), more_signs_sorted k),
    tt,
  )

  signed_sorted : (n k : ℕ) (us : List Token) → path_fits us ≡ true → Sorts (signed_path at n k) us
  unfolding signed_path path_from filtered_step chain step other_step variable_step parenthesised_step direct_step element_at element_of dots test_or_literal attribute_step wildcard_step wildcard literal string_of quoted numeral
  signed_sorted n k us e = (more_signs_sorted k, path_sorted n (step at n) us e (step_sorted n (word_of word.OpenBracket ∷ one_of set.Slashes ∷ us) (step_fits us e)))

  other_operand_sorted : (n : ℕ) (us : List Token) → path_fits us ≡ true → Sorts (other_operand at n) us
  unfolding other_operand operator path_from filtered_step chain step other_step variable_step parenthesised_step direct_step element_at element_of dots test_or_literal attribute_step wildcard_step wildcard literal string_of quoted numeral
  other_operand_sorted n us e = (
    tokens_choose (query_language at) (lawful at) (fronts at) right (one_of set.Signs ∷ []) _ _ us
        (record {
          takes = refl;
          first = (inl refl, tt);
          full = (refl, tt);
          opening = ((λ x o. open_made (open_first (open_first (open_made (open_first (open_token o)))))), tt);
          apart = signs_apart.1;
        }),
    (((tt, tt), more_signs_sorted 63), path_sorted n (step at n) us e (step_sorted n (word_of word.OpenBracket ∷ one_of set.Slashes ∷ us) (step_fits us e))),
    path_sorted n (other_step at n) us e (other_step_sorted n (word_of word.OpenBracket ∷ one_of set.Slashes ∷ us) (bare_fits (word_of word.OpenBracket ∷ one_of set.Slashes ∷ us) (step_fits us e))),
  )

  -- the levels of operators, before these tokens

  abbrev pub operators : Level → Token
  operators l = one_of (set.Operators l)

  abbrev operands_fit : ℕ → List Token → Bool
  operands_fit zero us = path_fits (behind_cast us) && casts_fit us
  operands_fit (suc k) us =
      all_apart shape_of_token (operators (level_at k) ∷ []) us && (operands_fit k (operators (level_at k) ∷ us) && (if is_single (level_at k) then (operands_fit k us) else true))

  -- what follows the first operand
  abbrev pub innermost : ℕ → List Token → List Token
  innermost zero us = behind_cast us
  innermost (suc k) us = innermost k (operators (level_at k) ∷ us)

  level_sorted : (k n : ℕ) (first : Phrase) (us : List Token) → all_apart shape_of_token (operators (level_at k) ∷ []) us ≡ true → (if is_single (level_at k) then (operands_fit k us) else true) ≡ true
      → (operands_fit k us ≡ true → Sorts (ladder at k n (signed_path at n 64)) us) → Sorts (ladder at k n (signed_path at n 64)) (operators (level_at k) ∷ us) → Sorts (ladder at k n first) (operators (level_at k) ∷ us) → Sorts (ladder at (suc k) n first) us
  unfolding ladder
  level_sorted k n first us e h one operand inner = go (is_single (level_at k)) refl h
    where
      go : (b : Bool) → is_single (level_at k) ≡ b → (if b then (operands_fit k us) else true) ≡ true
          → Sorts (if b then (two at (set.Operators (level_at k)) (ladder at k n first) (ladder at k n (signed_path at n 64))) else (chain at join_binary (set.Operators (level_at k)) (ladder at k n first) (ladder at k n (signed_path at n 64)) barrier.Single)) us
      go true f q = two_sorted (set.Operators (level_at k)) (ladder at k n first) (ladder at k n (signed_path at n 64)) us e inner (one q)
      go false f q = chain_sorted join_binary (set.Operators (level_at k)) (ladder at k n first) (ladder at k n (signed_path at n 64)) barrier.Single us e inner operand

  operand_sorted : (k n : ℕ) (us : List Token) → operands_fit k us ≡ true → Sorts (ladder at k n (signed_path at n 64)) us
  unfolding ladder
  operand_sorted zero n us e = let p = both (path_fits (behind_cast us)) (casts_fit us) e in casts_sorted at right (signed_path at n 64) us p.1 (signed_sorted n 64 (behind_cast us) p.0)
  operand_sorted (suc k) n us e =
      let p = both (all_apart shape_of_token (operators (level_at k) ∷ []) us) _ e in
      let q = both (operands_fit k (operators (level_at k) ∷ us)) _ p.1 in
      level_sorted k n (signed_path at n 64) us p.0 q.1 (λ f. operand_sorted k n us f) (operand_sorted k n (operators (level_at k) ∷ us) q.0) (operand_sorted k n (operators (level_at k) ∷ us) q.0)

  ladder_sorted : (k n : ℕ) (first : Phrase) (us : List Token) → operands_fit k us ≡ true → Sorts first (innermost k us) → Sorts (ladder at k n first) us
  unfolding ladder
  ladder_sorted zero n first us e f = let p = both (path_fits (behind_cast us)) (casts_fit us) e in casts_sorted at right first us p.1 f
  ladder_sorted (suc k) n first us e f =
      let p = both (all_apart shape_of_token (operators (level_at k) ∷ []) us) _ e in
      let q = both (operands_fit k (operators (level_at k) ∷ us)) _ p.1 in
      level_sorted k n first us p.0 q.1 (λ g. operand_sorted k n us g) (operand_sorted k n (operators (level_at k) ∷ us) q.0) (ladder_sorted k n first (operators (level_at k) ∷ us) q.0 f)

  levels_fit : operands_fit 8 (behind_single at) ≡ true
  unfolding is_word_character is_ncname_start
  levels_fit = refl

  inside_fits : path_fits (innermost 8 (behind_single at)) ≡ true
  inside_fits = refl

  -- Singles

  among : (us : List Token) (ts : List Token) → ((u : Token) → IsIn us u → IsIn ts u) → AllOf (IsIn ts) us
  among [] ts f = tt
  among (u ∷ us) ts f = (f u (inl refl), among us ts (λ v h. f v (inr h)))

  all_behind : AllOf (IsIn (behind_single at)) (behind_single at)
  all_behind = among (behind_single at) (behind_single at) (λ u h. h)

  condition_sorted : (n : ℕ) (v : Made) → Sorts (condition at n v) (behind_single at)
  unfolding condition keyword
  condition_sorted n v = (
    tt,
    (
      tt,
      (
        expression_sorted n (word_of word.Close ∷ []) refl (inr (inl refl), tt),
        ((tt, tt), ((tt, (tt, tt)), ((inr (inr (inr (inl refl))), tt), ((tt, (tt, tt)), all_behind)))),
      ),
    ),
  )

  begun_path_sorted : (n : ℕ) (first : Phrase) → Sorts first (word_of word.OpenBracket ∷ one_of set.Slashes ∷ innermost 8 (behind_single at)) → Sorts (ladder at 8 n (path_from at n first)) (behind_single at)
  begun_path_sorted n first f = ladder_sorted 8 n (path_from at n first) (behind_single at) levels_fit (path_sorted n first (innermost 8 (behind_single at)) inside_fits f)

  if_apart : (n : ℕ) (v : Made) → AllOf (λ u. AllOf (λ t. AreApart (query_language at) t u) (gap_then_open ∷ [])) (first_behind (query_language at) (fronts at) (ladder at 8 n (path_from at n (behind_plain_name at gap_not_open v))) (behind_single at))
  unfolding ladder casts type_test cast_test two chain path_from filtered_step more_predicates predicate behind_plain_name more stop operator infix_operator
  if_apart n v =
      ((gaps_apart at, tt), apart (gap_then_open ∷ []) (word_of word.OpenBracket ∷ one_of set.Slashes ∷ word_of word.Cast ∷ word_of word.Castable ∷ word_of word.Treat ∷ word_of word.Instance ∷ operators level.Intersect ∷ operators level.Union ∷ operators level.Product ∷ operators level.Sum ∷ operators level.Range ∷ operators level.Comparison ∷ operators level.And ∷ operators level.Or ∷ behind_single at) refl)

  typeswitch_sorted : (n : ℕ) (v : Made) → Sorts (typeswitch at n v) (behind_single at)
  unfolding typeswitch cases more_cases case case_head default_head
  typeswitch_sorted n v = (tt, (tt, (expression_sorted n (word_of word.Close ∷ []) refl (inr (inl refl), tt), ((tt, tt), (cases_sorted at right n, (default_head_sorted at right _, all_behind))))))

  branched_sorted : (n : ℕ) (v : Made) (b : Branching) → Sorts (branched at n b v) (behind_single at)
  unfolding branched
  branched_sorted n v branching_is.If = condition_sorted n v
  branched_sorted n v branching_is.Typeswitch = typeswitch_sorted n v

  branched_choose : (n : ℕ) (v : Made) (b : Branching) → TokensChoose (query_language at) (fronts at) (gap_then_open ∷ []) (branched at n b v) (ladder at 8 n (path_from at n (behind_plain_name at gap_not_open v))) (behind_single at)
  unfolding branched condition typeswitch
  branched_choose n v branching_is.If = record { takes = refl; first = (inl refl, tt); full = (refl, tt); opening = ((λ x o. open_made (open_first (open_token o))), tt); apart = if_apart n v }
  branched_choose n v branching_is.Typeswitch = record { takes = refl; first = (inl refl, tt); full = (refl, tt); opening = ((λ x o. open_made (open_first (open_token o))), tt); apart = if_apart n v }

  branched_or_name_sorted : (n : ℕ) (v : Made) (b : Option Branching) → Sorts (branched_or_name at n v b) (behind_single at)
  unfolding branched_or_name
  branched_or_name_sorted n v (Some b) = (
    tokens_choose (query_language at) (lawful at) (fronts at) right (gap_then_open ∷ []) _ _ (behind_single at) (branched_choose n v b),
    branched_sorted n v b,
    begun_path_sorted n (behind_plain_name at gap_not_open v) (plain_name_sorted gap_not_open v _),
  )
  branched_or_name_sorted n v None = begun_path_sorted n (behind_any_name at n v) (any_name_sorted n v _ refl)

  begun_sorted : (n : ℕ) (v : Made) → Sorts (begun at n v) (behind_single at)
  unfolding begun
  begun_sorted n v = branched_or_name_sorted n v (branching_named v)

  -- the names of clauses

  abbrev behind_word : List Token
  behind_word =
      word_of word.OpenBracket ∷ one_of set.Slashes ∷ word_of word.Cast ∷ word_of word.Castable ∷ word_of word.Treat ∷ word_of word.Instance ∷ operators level.Intersect ∷ operators level.Union ∷ operators level.Product ∷ operators level.Sum ∷ operators level.Range ∷ operators level.Comparison
      ∷ operators level.And ∷ operators level.Or ∷ behind_single at

  keyword_sorted : (n : ℕ) (v : Made) (us : List Token) → all_apart shape_of_token (gap_then_open ∷ []) us ≡ true → Sorts (behind_keyword at n v) us
  unfolding behind_keyword behind_plain_name
  keyword_sorted n v us e = (
    tokens_choose (query_language at) (lawful at) (fronts at) right (gap_then_open ∷ []) _ _ us
        (record { takes = refl; first = (inl refl, tt); full = (refl, tt); opening = ((λ x o. open_made (open_first (open_first (open_token o)))), tt); apart = ((open_neither_apart at, tt), apart (gap_then_open ∷ []) us e) }),
    ((tt, tt), inside_sorted n us),
    tt,
  )

  keyword_apart : (n : ℕ) (v : Made) → AllOf (λ u. AllOf (λ t. AreApart (query_language at) t u) (gap_then_dollar ∷ [])) (first_behind (query_language at) (fronts at) (ladder at 8 n (path_from at n (behind_keyword at n v))) (behind_single at))
  unfolding ladder casts type_test cast_test two chain path_from filtered_step more_predicates predicate behind_keyword behind_plain_name more stop operator infix_operator
  keyword_apart n v = ((dollar_open_apart at, tt), ((dollar_neither_apart at, tt), apart (gap_then_dollar ∷ []) behind_word refl))

  opened_or_name_sorted : (n : ℕ) (v : Made) (o : Option Opening) → Sorts (opened_or_name at n v o) (behind_single at)
  unfolding opened_or_name opened flwor quantified
  opened_or_name_sorted n v (Some (opening_is.Flwor b)) = (
    tokens_choose (query_language at) (lawful at) (fronts at) right (gap_then_dollar ∷ []) _ _ (behind_single at)
        (record { takes = refl; first = (inl refl, tt); full = (refl, tt); opening = ((λ x o. open_made (open_first (open_token o))), tt); apart = keyword_apart n v }),
    flwor_sorted at right n b v (behind_single at) all_behind,
    begun_path_sorted n (behind_keyword at n v) (keyword_sorted n v _ refl),
  )
  opened_or_name_sorted n v (Some (opening_is.Quantified every)) = (
    tokens_choose (query_language at) (lawful at) (fronts at) right (gap_then_dollar ∷ []) _ _ (behind_single at)
        (record { takes = refl; first = (inl refl, tt); full = (refl, tt); opening = ((λ x o. open_made (open_first (open_token o))), tt); apart = keyword_apart n v }),
    quantified_sorted at right n every v (behind_single at) all_behind,
    begun_path_sorted n (behind_keyword at n v) (keyword_sorted n v _ refl),
  )
  opened_or_name_sorted n v None = begun_sorted n v

  named_sorted : (n : ℕ) (v : Made) → Sorts (named_single at n v) (behind_single at)
  unfolding named_single
  named_sorted n v = opened_or_name_sorted n v (opening_named v)

  pub single_fails : (n : ℕ) → AllOf (HasHead (query_language at) is_ncname_start false) (first_behind (query_language at) (fronts at) (ladder at 8 n (other_operand at n)) (behind_single at))
  unfolding ladder casts type_test cast_test two chain other_operand operator path_from filtered_step other_step variable_step parenthesised_step direct_step element_at element_of dots test_or_literal attribute_step wildcard_step wildcard literal string_of quoted numeral is_ncname_start
  single_fails n = let w = words_no_name (one_of set.Signs ∷ []) refl in (w.0, step_fails)

  pub production_sorted : (p : Production) → Sorts (rules at p) (behind at p)
  production_sorted (single zero) = tt
  production_sorted (single (suc n)) = (
    character_chooses (query_language at) is_ncname_start (fronts at) right _ (ladder at 8 n (other_operand at n)) (behind_single at) (record { takes = refl; passes = (name_passes, tt); fails = single_fails n }),
    (λ v. wildcard_or_sorted at right v (ladder at 8 n (path_from at n (any_step at v))) (named_single at n v) (behind_single at) (begun_path_sorted n (any_step at v) (any_step_sorted v _)) (named_sorted n v)),
    ladder_sorted 8 n (other_operand at n) (behind_single at) levels_fit (other_operand_sorted n (innermost 8 (behind_single at)) inside_fits),
  )
  production_sorted (within zero) = tt
  production_sorted (within (suc n)) = expression_sorted n (word_of word.CloseBrace ∷ []) refl (inr (inr (inr (inr (inr (inl refl))))), tt)
  production_sorted (nested zero) = tt
  production_sorted (nested (suc zero)) = tt
  production_sorted (nested (suc (suc n))) = element_sorted at right (suc n) (behind at (nested (suc (suc n))))
