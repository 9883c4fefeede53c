-- The guards of sequence types decide.
use Rattle.std.proofs.Common.{◌≡◌, ◌==◌, ℕ, true, false, List, [], ◌∷◌, ◌++◌, ◌⊎◌, inl, inr, refl, sym, ap, ◌∙◌}
use Rattle.gx_base.specs.declared.place.Place.{Place}
use Rattle.gx_grammar.specs.Grammar.{empty}
use Rattle.gx_grammar.specs.Opening.{Opens, open_token, open_first, open_made}
use Rattle.gx_grammar.specs.Levels.{takes_some}
use Rattle.gx_grammar.specs.First.{IsIn, AllOf, first_of, head_passes, AreApart, Stands, AreFronts, IsSorted}
use Rattle.gx_grammar.specs.Tokens.{IsFrontOf}
use Rattle.gx_grammar.specs.Words.{IsOneOf, OpensOneOf}
use Rattle.gx_grammar.specs.Apart.{all_apart, is}
use Rattle.gx_grammar.proofs.PublicLaws.{character_chooses, computed_apart, computed_heads, tokens_choose}
use Rattle.gx_parse_grammar.specs.declared.word.Word.TheVariants as word
use Rattle.gx_parse_grammar.specs.declared.kind_words.KindWord.{KindWord}
use Rattle.gx_parse_grammar.specs.declared.kind_words.KindWord.TheVariants as kind
use Rattle.gx_parse_grammar.specs.declared.kind_words.TypeWord.{TypeWord}
use Rattle.gx_parse_grammar.specs.declared.kind_words.TypeWord.TheVariants as type_word_is
use Rattle.gx_base.specs.NameCharacters.{is_ncname_start}
use Rattle.gx_parse_grammar.specs.Nodes.{Node, Made}
use Rattle.gx_parse_grammar.specs.Tokens.{Token, qname, indication, indicators, OpensIndicator, stops_type, shape_of_token, derives, opens, faults}
use Rattle.gx_parse_grammar.specs.Grammar.{Phrase, word_of, name, query_language}
use Rattle.gx_parse_grammar.specs.Types.{type_word, written_name, tested_name, behind_comma, tested, declared, nothing_inside, document_test, document, content, named_content, declared_content, bare_tail, item_tail, empty_tail, type_tail, behind_type, sequence_type, single_type}
use Rattle.gx_parse_grammar.specs.Fronts.{fronts}
use Rattle.gx_parse_grammar.proofs.Shapes.{lawful, shaped}

-- an indicator does not begin with `(`

one_not_open : (v : Made) (x y : List ℕ) → IsOneOf indicators v x y → head_passes (is 40) x ≡ false
one_not_open v x y (inl e) = ap (head_passes (is 40)) e.spelled
one_not_open v x y (inr (inl e)) = ap (head_passes (is 40)) e.spelled
one_not_open v x y (inr (inr (inl e))) = ap (head_passes (is 40)) e.spelled
one_not_open v x y (inr (inr (inr e))) = absurd e

front_not_open : (c : ℕ) (x : List ℕ) → (c == 40) ≡ false → IsFrontOf x (c ∷ []) → head_passes (is 40) x ≡ false
front_not_open c [] f o = refl
front_not_open c (d ∷ x) f o = let e = o.1 in let g : c ≡ d = cc e in ap (λ a. a == 40) (sym g) ∙ f

fronts_not_open : (x : List ℕ) → OpensOneOf indicators x → head_passes (is 40) x ≡ false
fronts_not_open x (inl o) = front_not_open 63 x refl o
fronts_not_open x (inr (inl o)) = front_not_open 42 x refl o
fronts_not_open x (inr (inr (inl o))) = front_not_open 43 x refl o
fronts_not_open x (inr (inr (inr o))) = absurd o

opens_not_open : (x : List ℕ) → OpensIndicator x → head_passes (is 40) x ≡ false
opens_not_open x (inl o) = fronts_not_open x o
opens_not_open x (inr o) = one_not_open o.0 x o.1 o.2

module _ (at : ℕ → Place) (right : AreFronts (query_language at) (fronts at)) where
  abbrev Sorts : Phrase → List Token → Type 0
  Sorts A us = IsSorted (query_language at) (fronts at) A us

  abbrev apart : (ts us : List Token) → all_apart shape_of_token ts us ≡ true → AllOf (λ u. AllOf (λ t. AreApart (query_language at) t u) ts) us
  apart ts us e = computed_apart (query_language at) shape_of_token (shaped at) ts us e

  abbrev Stood : Token → List ℕ → Type 0
  Stood t x = Stands {Node = Node} derives faults t x

  open_stands : (x : List ℕ) → Stood (word_of word.Open) x → (y : List ℕ) × (x ≡ 40 ∷ y)
  open_stands x s = go ((shaped at (word_of word.Open)).0 x s)
    where
      go : ((y : List ℕ) × (x ≡ 40 ∷ y) × (head_passes (λ c. false) y ≡ false)) ⊎ ⊥ → (y : List ℕ) × (x ≡ 40 ∷ y)
      go (inl h) = (h.0, h.1)
      go (inr h) = absurd h

  indication_stands : (x y : List ℕ) → x ≡ 40 ∷ y → Stood indication x → ⊥
  indication_stands x y e (inl s) = go s.2
    where
      go : derives indication s.0 x s.1 → ⊥
      go (inl d) = let f = one_not_open d.front x d.between d.begins in let g : head_passes (is 40) x ≡ true = ap (head_passes (is 40)) e in absurd (cc (f, g))
      go (inr d) =
          let f : head_passes stops_type x ≡ false = ap (head_passes stops_type) d.spelled ∙ d.ended in
          let g : head_passes stops_type x ≡ true = ap (head_passes stops_type) e in
          absurd (cc (f, g))
  indication_stands x y e (inr s) = absurd (let f = s.1 in cc f)

  indication_opens : (x z : List ℕ) → opens indication x → Stood (word_of word.Open) (x ++ z) → (x ≡ []) ⊎ opens (word_of word.Open) x
  indication_opens [] z o s = inl refl
  indication_opens (c ∷ x) z (inl o) s =
      let p = open_stands (c ∷ (x ++ z)) s in
      let e = p.1 in
      let f : c ≡ 40 = cc e in
      let g : (c == 40) ≡ false = opens_not_open (c ∷ x) o in
      absurd (let h : (c == 40) ≡ true = ap (λ a. a == 40) f in cc (g, h))
  indication_opens (c ∷ x) z (inr o) s = absurd (let e = o.1 in cc e)

  open_indication : AreApart (query_language at) (word_of word.Open) indication
  open_indication = record { never = λ x s u. (let p = open_stands x s in indication_stands x p.0 p.1 u); opening = indication_opens }

  -- names and tests

  pub written_sorted : (us : List Token) → Sorts (written_name at) us
  unfolding written_name name
  written_sorted us = (tt, tt)

  tested_name_sorted : (us : List Token) → Sorts (tested_name at) us
  unfolding tested_name written_name name is_ncname_start
  tested_name_sorted us = (
    character_chooses (query_language at) (is 42) (fronts at) right _ _ us
        (record {
          takes = refl;
          passes = computed_heads (query_language at) shape_of_token (shaped at) 42 true (word_of word.Times ∷ []) refl;
          fails = computed_heads (query_language at) shape_of_token (shaped at) 42 false (qname ∷ []) refl;
        }),
    (tt, tt),
    (tt, tt),
  )

  behind_comma_sorted : (us : List Token) → all_apart shape_of_token (word_of word.Comma ∷ []) us ≡ true → Sorts (behind_comma at) us
  unfolding behind_comma
  behind_comma_sorted us e = (
    tokens_choose (query_language at) (lawful at) (fronts at) right (word_of word.Comma ∷ []) _ _ us
        (record { takes = refl; first = (inl refl, tt); full = (refl, tt); opening = ((λ x o. open_made (open_first (open_first (open_token o)))), tt); apart = apart (word_of word.Comma ∷ []) us e }),
    ((tt, tt), written_sorted us),
    tt,
  )

  tested_sorted : (us : List Token) → Sorts (tested at) us
  unfolding tested tested_name written_name name is_ncname_start
  tested_sorted us = (
    (tt, tt),
    (
      character_chooses (query_language at) (is 41) (fronts at) right _ _ us
          (record {
            takes = refl;
            passes = computed_heads (query_language at) shape_of_token (shaped at) 41 true (word_of word.Close ∷ []) refl;
            fails = computed_heads (query_language at) shape_of_token (shaped at) 41 false (word_of word.Times ∷ qname ∷ []) refl;
          }),
      (tt, tt),
      ((tested_name_sorted _, behind_comma_sorted (word_of word.Close ∷ []) refl), (tt, tt)),
    ),
  )

  declared_sorted : (us : List Token) → Sorts (declared at) us
  unfolding declared
  declared_sorted us = ((tt, tt), (written_sorted _, (tt, tt)))

  inside_sorted : (us : List Token) → Sorts (nothing_inside at) us
  unfolding nothing_inside
  inside_sorted us = ((tt, tt), (tt, tt))

  document_test_sorted : (us : List Token) → Sorts (document_test at) us
  unfolding document_test
  document_test_sorted us = (
    tokens_choose (query_language at) (lawful at) (fronts at) right (word_of word.Element ∷ []) _ _ us
        (record {
          takes = refl;
          first = (inl refl, tt);
          full = (refl, tt);
          opening = ((λ x o. open_made (open_first (open_first (open_token o)))), tt);
          apart = apart (word_of word.Element ∷ []) (word_of word.SchemaElement ∷ []) refl;
        }),
    ((tt, tt), tested_sorted us),
    ((tt, tt), declared_sorted us),
  )

  document_sorted : (us : List Token) → Sorts (document at) us
  unfolding document document_test
  document_sorted us = (
    (tt, tt),
    (
      character_chooses (query_language at) (is 41) (fronts at) right _ _ us
          (record {
            takes = refl;
            passes = computed_heads (query_language at) shape_of_token (shaped at) 41 true (word_of word.Close ∷ []) refl;
            fails = computed_heads (query_language at) shape_of_token (shaped at) 41 false (word_of word.Element ∷ word_of word.SchemaElement ∷ []) refl;
          }),
      (tt, tt),
      (document_test_sorted _, (tt, tt)),
    ),
  )

  -- A part begins with `(`, and each opening of it opens the part.
  record BeginsOpen (A : Phrase) : Type 0 where
    takes : takes_some (query_language at) (fronts at).takings A ≡ true
    first : AllOf (IsIn (word_of word.Open ∷ [])) (first_of (query_language at) (fronts at) A)
    opening : (x : List ℕ) → opens (word_of word.Open) x → Opens (query_language at) A x

  inside_begins : BeginsOpen (nothing_inside at)
  unfolding nothing_inside
  inside_begins = record { takes = refl; first = (inl refl, tt); opening = λ x o. open_made (open_first (open_first (open_token o))) }

  content_begins : (k : KindWord) → BeginsOpen (content at k)
  unfolding content named_content declared_content nothing_inside document tested declared
  content_begins kind.Node = record { takes = refl; first = (inl refl, tt); opening = λ x o. open_made (open_first (open_first (open_token o))) }
  content_begins kind.Text = record { takes = refl; first = (inl refl, tt); opening = λ x o. open_made (open_first (open_first (open_token o))) }
  content_begins kind.Document = record { takes = refl; first = (inl refl, tt); opening = λ x o. open_made (open_first (open_first (open_token o))) }
  content_begins kind.Element = record { takes = refl; first = (inl refl, tt); opening = λ x o. open_made (open_made (open_first (open_first (open_token o)))) }
  content_begins kind.Attribute = record { takes = refl; first = (inl refl, tt); opening = λ x o. open_made (open_made (open_first (open_first (open_token o)))) }
  content_begins kind.SchemaElement = record { takes = refl; first = (inl refl, tt); opening = λ x o. open_made (open_made (open_first (open_first (open_token o)))) }

  pub content_sorted : (k : KindWord) (us : List Token) → Sorts (content at k) us
  unfolding content named_content declared_content
  content_sorted kind.Node us = inside_sorted us
  content_sorted kind.Text us = inside_sorted us
  content_sorted kind.Document us = document_sorted us
  content_sorted kind.Element us = tested_sorted us
  content_sorted kind.Attribute us = tested_sorted us
  content_sorted kind.SchemaElement us = declared_sorted us

  -- types

  item_tail_sorted : (A : Phrase) (us : List Token) → BeginsOpen A → Sorts A (indication ∷ us) → all_apart shape_of_token (word_of word.Open ∷ []) us ≡ true → Sorts (item_tail at A) us
  unfolding item_tail
  item_tail_sorted A us b s e = (
    (
      tokens_choose (query_language at) (lawful at) (fronts at) right (word_of word.Open ∷ []) A empty (indication ∷ us)
          (record { takes = b.takes; first = b.first; full = (refl, tt); opening = (b.opening, tt); apart = ((open_indication, tt), apart (word_of word.Open ∷ []) us e) }),
      s,
      tt,
    ),
    tt,
  )

  empty_tail_sorted : (us : List Token) → all_apart shape_of_token (word_of word.Open ∷ []) us ≡ true → Sorts (empty_tail at) us
  unfolding empty_tail bare_tail nothing_inside
  empty_tail_sorted us e = (
    tokens_choose (query_language at) (lawful at) (fronts at) right (word_of word.Open ∷ []) _ _ us
        (record {
          takes = refl;
          first = (inl refl, tt);
          full = (refl, tt);
          opening = ((λ x o. open_made (open_made (open_first (open_first (open_token o))))), tt);
          apart = ((open_indication, tt), apart (word_of word.Open ∷ []) us e);
        }),
    ((tt, tt), (tt, tt)),
    tt,
  )

  type_tail_sorted : (w : TypeWord) (us : List Token) → all_apart shape_of_token (word_of word.Open ∷ []) us ≡ true → Sorts (type_tail at w) us
  unfolding type_tail bare_tail
  type_tail_sorted type_word_is.EmptySequence us e = empty_tail_sorted us e
  type_tail_sorted type_word_is.Item us e = item_tail_sorted (nothing_inside at) us inside_begins (inside_sorted (indication ∷ us)) e
  type_tail_sorted (type_word_is.Kind k) us e = item_tail_sorted (content at k) us (content_begins k) (content_sorted k (indication ∷ us)) e
  type_tail_sorted type_word_is.Atomic us e = tt

  -- A sequence type is sorted before tokens that do not begin with `(`.
  pub sequence_type_sorted : (us : List Token) → all_apart shape_of_token (word_of word.Open ∷ []) us ≡ true → Sorts (sequence_type at) us
  unfolding sequence_type behind_type
  sequence_type_sorted us e = λ v. (tt, type_tail_sorted (type_word v) us e)

  -- The type of a cast is sorted before tokens that do not begin with `?`.
  pub single_type_sorted : (us : List Token) → all_apart shape_of_token (word_of word.Question ∷ []) us ≡ true → Sorts (single_type at) us
  unfolding single_type
  single_type_sorted us e = (
    written_sorted _,
    (
      tokens_choose (query_language at) (lawful at) (fronts at) right (word_of word.Question ∷ []) _ empty us
          (record { takes = refl; first = (inl refl, tt); full = (refl, tt); opening = ((λ x o. open_first (open_token o)), tt); apart = apart (word_of word.Question ∷ []) us e }),
      (tt, tt),
      tt,
    ),
  )
