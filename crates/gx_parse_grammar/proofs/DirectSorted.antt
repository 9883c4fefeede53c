-- The guards of direct constructors decide.
use Rattle.std.proofs.Common.{◌≡◌, ℕ, zero, suc, ◌<◌, ◌==◌, ◌||◌, Bool, true, false, [], ◌∷◌, List, refl, ap, ◌∙◌, inl, inr, eqb-true, arith}
use Rattle.gx_base.specs.WhiteSpace.{is_white_space}
use Rattle.gx_base.specs.declared.place.Place.{Place}
use Rattle.gx_grammar.specs.Grammar.{token, rule}
use Rattle.gx_grammar.specs.Tokens.{IsFrontOf}
use Rattle.gx_grammar.specs.First.{AllOf, AreApart, IsIn, AreFronts, HasHead, IsSorted, Stands, head_passes}
use Rattle.gx_grammar.specs.Opening.{Opens, open_left, open_right, open_first, open_made, open_rule, open_token}
use Rattle.gx_grammar.specs.Apart.{all_apart, is}
use Rattle.gx_grammar.proofs.PublicLaws.{apart_by_heads, character_chooses, character_repeats, computed_apart, computed_heads, computed_words, tokens_choose, tokens_repeat}
use Rattle.gx_parse_grammar.specs.declared.word.Word.TheVariants as word
use Rattle.gx_parse_grammar.specs.declared.runs.Quote.{Quote}
use Rattle.gx_parse_grammar.specs.declared.runs.Quote.TheVariants as quote
use Rattle.gx_parse_grammar.specs.declared.runs.Run.{Run}
use Rattle.gx_parse_grammar.specs.declared.runs.Run.TheVariants as run
use Rattle.gx_base.specs.NameCharacters.{is_ncname_start}
use Rattle.gx_parse_grammar.specs.Nodes.{Node, Made}
use Rattle.gx_parse_grammar.specs.Tokens.{Token, text_run, reference, qname, white, no_attribute, no_element, begins_attribute, shape_of_token, takes, opens, derives, faults}
use Rattle.gx_parse_grammar.specs.Grammar.{Phrase, behind_nested, within, nested, word_of, name, query_language}
use Rattle.gx_parse_grammar.specs.Fronts.{fronts}
use Rattle.gx_parse_grammar.specs.Strings.{opening_of, closing_of, doubled_of}
use Rattle.gx_parse_grammar.specs.Direct.{start_of, symbol_piece, text_piece, reference_piece, cdata, enclosed, brace_piece, plain_piece, value_piece, value_pieces_of, value_pieces, value_in, attribute_value, behind_attribute, attribute, attributes, content_piece, content_pieces_of, content_pieces, content, end_tag, no_content, filled, content_if_any, behind_tag, element_of, element_at, direct_step}
use Rattle.gx_parse_grammar.proofs.Shapes.{lawful, shaped}
use Rattle.gx_parse_grammar.proofs.Hands.{low_no_name, head_other}
use Rattle.gx_parse_grammar.proofs.Tokens.{or_right}

white_passes_both : (c : ℕ) → is_white_space c ≡ true → begins_attribute c ≡ true
white_passes_both c e = or_right (is_ncname_start c) (is_white_space c) e

white_low : (c : ℕ) → is_white_space c ≡ true → c < 65
white_low c e = go (c == 32) (c == 9) (c == 10) (c == 13) refl refl refl refl e
  where
    go : (p q r s : Bool) → (c == 32) ≡ p → (c == 9) ≡ q → (c == 10) ≡ r → (c == 13) ≡ s → ((p || q) || (r || s)) ≡ true → c < 65
    go true q r s a b d f h = let g = eqb-true c 32 a in omega (arith, g)
    go false true r s a b d f h = let g = eqb-true c 9 b in omega (arith, g)
    go false false true s a b d f h = let g = eqb-true c 10 d in omega (arith, g)
    go false false false true a b d f h = let g = eqb-true c 13 f in omega (arith, g)
    go false false false false a b d f h = absurd (cc)

name_no_white : (c : ℕ) → is_ncname_start c ≡ true → is_white_space c ≡ false
name_no_white c e = go (is_white_space c) refl
  where
    go : (b : Bool) → is_white_space c ≡ b → b ≡ false
    go true f = absurd (let g = low_no_name c (white_low c f) in cc (e, g))
    go false f = refl

module _ (at : ℕ → Place) (right : AreFronts (query_language at) (fronts at)) where
  white_passes : HasHead (query_language at) is_white_space true white
  white_passes = record { stands = (shaped at white).0; opened = (shaped at white).1 }

  name_passes : HasHead (query_language at) is_ncname_start true qname
  name_passes = record { stands = (shaped at qname).0; opened = (shaped at qname).1 }

  white_no_name : AreApart (query_language at) white qname
  white_no_name = apart_by_heads (query_language at) is_white_space true false white qname (λ e. absurd (cc)) white_passes (record {
    stands = λ x s. head_other is_ncname_start is_white_space name_no_white x ((shaped at qname).0 x s);
    opened = λ x o n. (head_other is_ncname_start is_white_space name_no_white x (n, (shaped at qname).1 x o n)).1;
  })

  passes_both : (x : List ℕ) → head_passes is_white_space x ≡ true → head_passes begins_attribute x ≡ true
  passes_both [] e = absurd (cc)
  passes_both (c ∷ x) e = white_passes_both c e

  white_never : (x : List ℕ) → Stands {Node = Node} derives faults white x → Stands {Node = Node} derives faults no_attribute x → ⊥
  white_never x s (inl d) =
      let n = d.2 in
      let e : head_passes begins_attribute x ≡ true = passes_both x ((shaped at white).0 x s).1 in
      let f : head_passes begins_attribute x ≡ false = ap (head_passes begins_attribute) n.spelled ∙ n.ended in
      absurd (cc (e, f))
  white_never x s (inr f) = absurd (let g = f.1 in cc g)

  nothing_opens : (x : List ℕ) → IsFrontOf x [] → x ≡ []
  nothing_opens [] o = refl
  nothing_opens (c ∷ x) o = absurd (let e = o.1 in cc e)

  white_apart : AreApart (query_language at) white no_attribute
  white_apart = record { never = white_never; opening = λ x z o s. inl (nothing_opens x o) }

  abbrev Sorts : Phrase → List Token → Type 0
  Sorts A us = IsSorted (query_language at) (fronts at) A us

  reference_passes : HasHead (query_language at) (is 38) true reference
  reference_passes = record { stands = (shaped at reference).0; opened = (shaped at reference).1 }

  abbrev closings : Run → List Token
  closings r = word_of word.TwoCloseBraces ∷ text_run r ∷ []

  abbrev plain : Run → List Token
  plain r = word_of word.TwoOpenBraces ∷ word_of word.BraceOpen ∷ closings r

  -- the token with which an element in content begins

  start_full : (n : ℕ) → takes (start_of n) ≡ true
  start_full zero = refl
  start_full (suc zero) = refl
  start_full (suc (suc n)) = refl

  start_opens : (n : ℕ) (x : List ℕ) → opens (start_of n) x → Opens (query_language at) (rule (nested n)) x
  unfolding element_at element_of
  start_opens zero x o = open_rule (open_token o)
  start_opens (suc zero) x o = open_rule (open_token o)
  start_opens (suc (suc n)) x o = open_rule (open_made (open_first (open_token o)))

  start_less : (n : ℕ) → HasHead (query_language at) (is 60) true (start_of n)
  start_less zero = (computed_heads (query_language at) shape_of_token (shaped at) 60 true (no_element ∷ []) refl).0
  start_less (suc zero) = (computed_heads (query_language at) shape_of_token (shaped at) 60 true (no_element ∷ []) refl).0
  start_less (suc (suc n)) = (computed_heads (query_language at) shape_of_token (shaped at) 60 true (word_of word.TagOpen ∷ []) refl).0

  start_no_ampersand : (n : ℕ) → HasHead (query_language at) (is 38) false (start_of n)
  start_no_ampersand zero = (computed_heads (query_language at) shape_of_token (shaped at) 38 false (no_element ∷ []) refl).0
  start_no_ampersand (suc zero) = (computed_heads (query_language at) shape_of_token (shaped at) 38 false (no_element ∷ []) refl).0
  start_no_ampersand (suc (suc n)) = (computed_heads (query_language at) shape_of_token (shaped at) 38 false (word_of word.TagOpen ∷ []) refl).0

  start_no_cdata : (n : ℕ) → AreApart (query_language at) (word_of word.CdataOpen) (start_of n)
  start_no_cdata zero = (computed_apart (query_language at) shape_of_token (shaped at) (word_of word.CdataOpen ∷ []) (no_element ∷ []) refl).0.0
  start_no_cdata (suc zero) = (computed_apart (query_language at) shape_of_token (shaped at) (word_of word.CdataOpen ∷ []) (no_element ∷ []) refl).0.0
  start_no_cdata (suc (suc n)) = (computed_apart (query_language at) shape_of_token (shaped at) (word_of word.CdataOpen ∷ []) (word_of word.TagOpen ∷ []) refl).0.0

  start_no_end : (n : ℕ) → AreApart (query_language at) (start_of n) (word_of word.EndTagOpen)
  start_no_end zero = (computed_apart (query_language at) shape_of_token (shaped at) (no_element ∷ []) (word_of word.EndTagOpen ∷ []) refl).0.0
  start_no_end (suc zero) = (computed_apart (query_language at) shape_of_token (shaped at) (no_element ∷ []) (word_of word.EndTagOpen ∷ []) refl).0.0
  start_no_end (suc (suc n)) = (computed_apart (query_language at) shape_of_token (shaped at) (word_of word.TagOpen ∷ []) (word_of word.EndTagOpen ∷ []) refl).0.0

  -- the tokens inside which stand in front of an end tag
  abbrev inner : List Token
  inner = text_run run.Content ∷ reference ∷ word_of word.CdataOpen ∷ word_of word.TwoOpenBraces ∷ word_of word.TwoCloseBraces ∷ word_of word.BraceOpen ∷ []

  -- with an expression in the braces of an element at that level
  module _ (n : ℕ) where
    abbrev expr : Phrase
    expr = rule (within n)

    enclosed_sorted : (us : List Token) → Sorts (enclosed expr) us
    unfolding enclosed
    enclosed_sorted us = (tt, (tt, ((inl refl, tt), tt)))

    brace_sorted : (us : List Token) → Sorts (brace_piece expr) us
    unfolding brace_piece enclosed symbol_piece
    brace_sorted us = (
      tokens_choose (query_language at) (lawful at) (fronts at) right (word_of word.TwoOpenBraces ∷ []) _ _ us
          (record { takes = refl; first = (inl refl, tt); full = (refl, tt); opening = ((λ x o. open_made (open_token o)), tt); apart = computed_apart (query_language at) shape_of_token (shaped at) (word_of word.TwoOpenBraces ∷ []) (word_of word.BraceOpen ∷ []) refl }),
      tt,
      enclosed_sorted us,
    )

    -- braces or literal text, where these heads are computed
    module _ (r : Run) (opens_pass : AllOf (HasHead (query_language at) (is 123) false) (closings r)) (closes_pass : AllOf (HasHead (query_language at) (is 125) false) (text_run r ∷ [])) where
      plain_sorted : (us : List Token) → Sorts (plain_piece expr r) us
      unfolding plain_piece brace_piece enclosed symbol_piece text_piece
      plain_sorted us = (
        character_chooses (query_language at) (is 123) (fronts at) right _ _ us (record { takes = refl; passes = computed_heads (query_language at) shape_of_token (shaped at) 123 true (word_of word.TwoOpenBraces ∷ word_of word.BraceOpen ∷ []) refl; fails = opens_pass }),
        brace_sorted us,
        (
          character_chooses (query_language at) (is 125) (fronts at) right _ _ us (record { takes = refl; passes = computed_heads (query_language at) shape_of_token (shaped at) 125 true (word_of word.TwoCloseBraces ∷ []) refl; fails = closes_pass }),
          tt,
          tt,
        ),
      )

    piece_sorted : (q : Quote) (us : List Token) → Sorts (value_piece expr q) us
    unfolding value_piece reference_piece plain_piece brace_piece enclosed symbol_piece text_piece
    piece_sorted quote.Double us = (
      character_chooses (query_language at) (is 38) (fronts at) right _ _ us
          (record { takes = refl; passes = (reference_passes, tt); fails = computed_heads (query_language at) shape_of_token (shaped at) 38 false (word_of (doubled_of quote.Double) ∷ plain (run.Attribute quote.Double)) refl }),
      tt,
      (
        character_chooses (query_language at) (is 34) (fronts at) right _ _ us
            (record {
              takes = refl;
              passes = computed_heads (query_language at) shape_of_token (shaped at) 34 true (word_of (doubled_of quote.Double) ∷ []) refl;
              fails = computed_heads (query_language at) shape_of_token (shaped at) 34 false (plain (run.Attribute quote.Double)) refl;
            }),
        tt,
        plain_sorted (run.Attribute quote.Double) (computed_heads (query_language at) shape_of_token (shaped at) 123 false (closings (run.Attribute quote.Double)) refl) (computed_heads (query_language at) shape_of_token (shaped at) 125 false (text_run (run.Attribute quote.Double) ∷ []) refl) us,
      ),
    )
    piece_sorted quote.Single us = (
      character_chooses (query_language at) (is 38) (fronts at) right _ _ us
          (record { takes = refl; passes = (reference_passes, tt); fails = computed_heads (query_language at) shape_of_token (shaped at) 38 false (word_of (doubled_of quote.Single) ∷ plain (run.Attribute quote.Single)) refl }),
      tt,
      (
        character_chooses (query_language at) (is 39) (fronts at) right _ _ us
            (record {
              takes = refl;
              passes = computed_heads (query_language at) shape_of_token (shaped at) 39 true (word_of (doubled_of quote.Single) ∷ []) refl;
              fails = computed_heads (query_language at) shape_of_token (shaped at) 39 false (plain (run.Attribute quote.Single)) refl;
            }),
        tt,
        plain_sorted (run.Attribute quote.Single) (computed_heads (query_language at) shape_of_token (shaped at) 123 false (closings (run.Attribute quote.Single)) refl) (computed_heads (query_language at) shape_of_token (shaped at) 125 false (text_run (run.Attribute quote.Single) ∷ []) refl) us,
      ),
    )

    closing_apart : (q : Quote) → all_apart shape_of_token (value_pieces_of q) (word_of (closing_of q) ∷ []) ≡ true
    closing_apart quote.Double = refl
    closing_apart quote.Single = refl

    pieces_sorted : (q : Quote) → Sorts (value_pieces expr q) (word_of (closing_of q) ∷ [])
    unfolding value_pieces value_piece reference_piece plain_piece brace_piece enclosed symbol_piece text_piece
    pieces_sorted q = (
      tokens_repeat (query_language at) (lawful at) (fronts at) right (value_pieces_of q) (value_piece expr q) (word_of (closing_of q) ∷ [])
          (record {
            takes = refl;
            first = (inr (inr (inl refl)), (inr (inl refl), (inr (inr (inr (inl refl))), (inr (inr (inr (inr (inr (inl refl))))), (inr (inr (inr (inr (inl refl)))), (inl refl, tt))))));
            full = (refl, (refl, (refl, (refl, (refl, (refl, tt))))));
            opening = (
              (λ x o. open_right (open_right (open_right (open_right (open_made (open_token o)))))),
              (
                (λ x o. open_right (open_left (open_made (open_token o)))),
                (
                  (λ x o. open_left (open_made (open_token o))),
                  (
                    (λ x o. open_right (open_right (open_left (open_left (open_made (open_token o)))))),
                    ((λ x o. open_right (open_right (open_right (open_left (open_made (open_token o)))))), ((λ x o. open_right (open_right (open_left (open_right (open_made (open_first (open_token o))))))), tt)),
                  ),
                ),
              ),
            );
            apart = computed_apart (query_language at) shape_of_token (shaped at) (value_pieces_of q) (word_of (closing_of q) ∷ []) (closing_apart q);
          }),
      refl,
      piece_sorted q _,
    )

    value_sorted : (q : Quote) (us : List Token) → Sorts (value_in expr q) us
    unfolding value_in value_pieces
    value_sorted q us = (tt, (pieces_sorted q, tt))

    attribute_value_sorted : (us : List Token) → Sorts (attribute_value expr) us
    unfolding attribute_value value_in
    attribute_value_sorted us = (
      character_chooses (query_language at) (is 34) (fronts at) right _ _ us
          (record {
            takes = refl;
            passes = computed_heads (query_language at) shape_of_token (shaped at) 34 true (word_of (opening_of quote.Double) ∷ []) refl;
            fails = computed_heads (query_language at) shape_of_token (shaped at) 34 false (word_of (opening_of quote.Single) ∷ []) refl;
          }),
      value_sorted quote.Double us,
      value_sorted quote.Single us,
    )

    -- attributes

    -- behind an attribute: another one, or what follows
    between_sorted : (us : List Token) → all_apart shape_of_token (white ∷ []) us ≡ true → Sorts behind_attribute (qname ∷ us)
    unfolding behind_attribute
    between_sorted us e = (
      tokens_choose (query_language at) (lawful at) (fronts at) right (white ∷ []) (token white) (token no_attribute) (qname ∷ us)
          (record {
            takes = refl;
            first = (inl refl, tt);
            full = (refl, tt);
            opening = ((λ x o. open_token o), tt);
            apart = ((white_apart, tt), ((white_no_name, tt), computed_apart (query_language at) shape_of_token (shaped at) (white ∷ []) us e));
          }),
      tt,
      tt,
    )

    attribute_sorted : (us : List Token) → all_apart shape_of_token (white ∷ []) us ≡ true → Sorts (attribute at expr) (qname ∷ us)
    unfolding attribute name
    attribute_sorted us e = (tt, (tt, (tt, (tt, (attribute_value_sorted _, between_sorted us e)))))

    -- no name begins what follows
    attributes_sorted : (us : List Token) → all_apart shape_of_token (white ∷ []) us ≡ true → AllOf (HasHead (query_language at) is_ncname_start false) us → Sorts (attributes at expr) us
    unfolding attributes attribute name
    attributes_sorted us e h = (
      tt,
      (character_repeats (query_language at) is_ncname_start (fronts at) right (attribute at expr) us (record { takes = refl; passes = (name_passes, tt); fails = h }), refl, attribute_sorted us e),
    )

    -- content

    abbrev start : Token
    start = start_of n

    abbrev element : Phrase
    element = rule (nested n)

    content_piece_sorted : (us : List Token) → AllOf (IsIn (behind_nested at n)) us → Sorts (content_piece expr element) us
    unfolding content_piece reference_piece plain_piece brace_piece enclosed symbol_piece text_piece cdata
    content_piece_sorted us among = (
      character_chooses (query_language at) (is 38) (fronts at) right _ _ us
          (record {
            takes = refl;
            passes = (reference_passes, tt);
            fails = ((computed_heads (query_language at) shape_of_token (shaped at) 38 false (word_of word.CdataOpen ∷ []) refl).0, (start_no_ampersand n, computed_heads (query_language at) shape_of_token (shaped at) 38 false (plain run.Content) refl));
          }),
      tt,
      (
        character_chooses (query_language at) (is 60) (fronts at) right _ _ us
            (record {
              takes = refl;
              passes = ((computed_heads (query_language at) shape_of_token (shaped at) 60 true (word_of word.CdataOpen ∷ []) refl).0, (start_less n, tt));
              fails = computed_heads (query_language at) shape_of_token (shaped at) 60 false (plain run.Content) refl;
            }),
        (
          tokens_choose (query_language at) (lawful at) (fronts at) right (word_of word.CdataOpen ∷ []) _ _ us
              (record { takes = refl; first = (inl refl, tt); full = (refl, tt); opening = ((λ x o. open_made (open_first (open_token o))), tt); apart = ((start_no_cdata n, tt), tt) }),
          (tt, (tt, tt)),
          among,
        ),
        plain_sorted run.Content (computed_heads (query_language at) shape_of_token (shaped at) 123 false (closings run.Content) refl) (computed_heads (query_language at) shape_of_token (shaped at) 125 false (text_run run.Content ∷ []) refl) us,
      ),
    )

    content_pieces_sorted : Sorts (content_pieces expr element start) (word_of word.EndTagOpen ∷ [])
    unfolding content_pieces content_piece reference_piece plain_piece brace_piece enclosed symbol_piece text_piece cdata
    content_pieces_sorted = (
      tokens_repeat (query_language at) (lawful at) (fronts at) right (content_pieces_of start) (content_piece expr element) (word_of word.EndTagOpen ∷ [])
          (record {
            takes = refl;
            first = (inr (inl refl), (inr (inr (inl refl)), (inr (inr (inr (inr (inr (inr (inl refl)))))), (inr (inr (inr (inl refl))), (inr (inr (inr (inr (inr (inl refl))))), (inr (inr (inr (inr (inl refl)))), (inl refl, tt)))))));
            full = (refl, (refl, (refl, (refl, (refl, (refl, (start_full n, tt)))))));
            opening = (
              (λ x o. open_right (open_right (open_right (open_right (open_made (open_token o)))))),
              (
                (λ x o. open_left (open_made (open_token o))),
                (
                  (λ x o. open_right (open_left (open_left (open_made (open_first (open_token o)))))),
                  (
                    (λ x o. open_right (open_right (open_left (open_left (open_made (open_token o)))))),
                    (
                      (λ x o. open_right (open_right (open_right (open_left (open_made (open_token o)))))),
                      ((λ x o. open_right (open_right (open_left (open_right (open_made (open_first (open_token o))))))), ((λ x o. open_right (open_left (open_right (open_made (start_opens n x o))))), tt)),
                    ),
                  ),
                ),
              ),
            );
            apart = (
                let k = computed_apart (query_language at) shape_of_token (shaped at) inner (word_of word.EndTagOpen ∷ []) refl in
                ((k.0.0, (k.0.1.0, (k.0.1.1.0, (k.0.1.1.1.0, (k.0.1.1.1.1.0, (k.0.1.1.1.1.1.0, (start_no_end n, tt))))))), tt)
                );
          }),
      refl,
      content_piece_sorted _ (inl refl, (inr (inl refl), (inr (inr (inl refl)), (inr (inr (inr (inl refl))), (inr (inr (inr (inr (inl refl)))), (inr (inr (inr (inr (inr (inl refl))))), (inr (inr (inr (inr (inr (inr (inl refl)))))), (inr (inr (inr (inr (inr (inr (inr (inl refl))))))), tt)))))))),
    )

    content_sorted : Sorts (content expr element start) (word_of word.EndTagOpen ∷ [])
    unfolding content
    content_sorted = content_pieces_sorted

    abbrev tag_ends : List Token
    tag_ends = word_of word.EmptyTagEnd ∷ word_of word.TagEnd ∷ []

    ends_no_name : AllOf (HasHead (query_language at) is_ncname_start false) tag_ends
    unfolding is_ncname_start
    ends_no_name = computed_words (query_language at) shape_of_token (shaped at) is_ncname_start false tag_ends refl

    end_tag_sorted : (v : Made) (us : List Token) → Sorts (end_tag v) us
    unfolding end_tag
    end_tag_sorted v us = (tt, (tt, (tt, tt)))

    filled_sorted : (v : Made) (us : List Token) → Sorts (filled expr element start v) us
    unfolding filled end_tag
    filled_sorted v us = (tt, (content_sorted, end_tag_sorted v us))

    if_any_sorted : (v : Made) (us : List Token) → Sorts (content_if_any expr element start v) us
    unfolding content_if_any no_content filled
    if_any_sorted v us = (
      character_chooses (query_language at) (is 47) (fronts at) right _ _ us
          (record {
            takes = refl;
            passes = computed_heads (query_language at) shape_of_token (shaped at) 47 true (word_of word.EmptyTagEnd ∷ []) refl;
            fails = computed_heads (query_language at) shape_of_token (shaped at) 47 false (word_of word.TagEnd ∷ []) refl;
          }),
      tt,
      filled_sorted v us,
    )

    behind_tag_sorted : (v : Made) (us : List Token) → Sorts (behind_tag at expr element start v) us
    unfolding behind_tag content_if_any no_content filled
    behind_tag_sorted v us = (attributes_sorted tag_ends refl ends_no_name, if_any_sorted v us)

    -- whatever follows it
    pub element_sorted : (us : List Token) → Sorts (element_at at n) us
    unfolding element_at element_of
    element_sorted us = (tt, (λ v. behind_tag_sorted v us))

    pub direct_sorted : (us : List Token) → Sorts (direct_step at n) us
    unfolding direct_step
    direct_sorted us = (element_sorted _, tt)
