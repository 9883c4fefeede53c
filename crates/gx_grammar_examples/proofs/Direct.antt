-- The guards of the grammar of direct elements decide.
use Rattle.std.proofs.Common.{◌≡◌, ℕ, zero, suc, ◌<◌, ◌+◌, ◌==◌, ◌||◌, Bool, true, false, List, [], ◌∷◌, inl, inr, length, refl, eqb-true, arith}
use Rattle.std.proofs.lemmas.Bool.{lt-leb}
use Rattle.std.specs.List.{list_all}
use Rattle.gx_base.specs.WhiteSpace.{is_white_space}
use Rattle.gx_grammar.specs.Value.{characters, pair}
use Rattle.gx_grammar.specs.Grammar.{empty, choose, rule}
use Rattle.gx_grammar.specs.Derivation.{Derives}
use Rattle.gx_grammar.specs.Opening.{Opens, open_first, open_left, open_made, open_right, open_rule, open_token}
use Rattle.gx_grammar.specs.Laws.{LawfulTokens}
use Rattle.gx_grammar.specs.Levels.{takes_some, HasRanksBelow, IsShielded, IsLevelled}
use Rattle.gx_grammar.specs.Text.{AtEnd, IsReadable, IsVerdict, Nowhere}
use Rattle.gx_grammar.specs.First.{IsIn, AllOf, AreFronts, Fronts, IsSorted, by_character, first_of, first_behind}
use Rattle.gx_grammar.specs.Apart.{HasShape, all_apart, is, shape_begins}
use Rattle.gx_grammar.specs.Sums.{is_letter, no_character}
use Rattle.gx_grammar.proofs.PublicLaws.{below_shields, character_chooses, character_repeats, computed_apart, computed_words, exact_text, never_too_deep, sorted_readable, tokens_choose, tokens_repeat, unique}
use Rattle.gx_grammar_examples.specs.Tokens.{IsTree, Token, named, is_name_character, opens}
use Rattle.gx_grammar_examples.specs.Direct.{element, trees_in, attributes_in, element_made, Made, Production, nested, Phrase, end_tag_open, tag_end, empty_tag_end, close_quote, brace, close_brace, two_braces, two_close_braces, comma, white, is_content_character, is_value_character, content_text, value_text, start_of, doubled, enclosed_item, enclosed_items, braces, braces_or_text, value_part, value_starts, value, one_attribute, attributes, content_part, content_starts, content, end_tag, content_and_end, rest_of_element, rules, following, direct, direct_text, read_direct}
use Rattle.gx_grammar_examples.proofs.Worth.{MayMake, derived_made}
use Rattle.gx_grammar_examples.proofs.Tokens.{takes, token_shape, fronts_of, lawful, shaped, named_head, other_head, taken, right, by_first, many_first}

white_no_letter : (c : ℕ) → is_white_space c ≡ true → is_letter c ≡ false
white_no_letter c e = rw (lt-leb 97 c (low (c == 32) (c == 9) (c == 10) (c == 13) refl refl refl refl e)) refl
  where
    low : (p q r s : Bool) → (c == 32) ≡ p → (c == 9) ≡ q → (c == 10) ≡ r → (c == 13) ≡ s → ((p || q) || (r || s)) ≡ true → c < 97
    low true q r s a b d f h = let g = eqb-true c 32 a in omega (arith, g)
    low false true r s a b d f h = let g = eqb-true c 9 b in omega (arith, g)
    low false false true s a b d f h = let g = eqb-true c 10 d in omega (arith, g)
    low false false false true a b d f h = let g = eqb-true c 13 f in omega (arith, g)
    low false false false false a b d f h = absurd (cc)

-- with what each production begins
abbrev pub firsts : Production → List Token
firsts (nested levels) = start_of levels ∷ []

rules_taken : (p : Production) → takes_some direct (fronts_of rules following firsts).takings (rules p) ≡ true
rules_taken (nested zero) = refl
rules_taken (nested (suc levels)) = refl

rules_begin : (p : Production) → AllOf (IsIn (firsts p)) (first_of direct (fronts_of rules following firsts) (rules p))
rules_begin (nested zero) = (inl refl, tt)
rules_begin (nested (suc levels)) = (inl refl, tt)

abbrev fronts : Fronts direct
fronts = fronts_of rules following firsts

tokens_lawful : LawfulTokens direct
tokens_lawful = lawful rules following

tokens_shaped : (t : Token) → HasShape direct t (token_shape t)
tokens_shaped = shaped rules following

fronts_right : AreFronts direct fronts
fronts_right = right rules following firsts rules_taken rules_begin

abbrev Sorts : Phrase → List Token → Type 0
Sorts A us = IsSorted direct fronts A us

-- A choice by the first character.
abbrev choice : (k : ℕ) (A B : Phrase) (us : List Token) → takes_some direct fronts.takings A ≡ true
    → list_all (λ t. shape_begins k true (token_shape t)) (first_of direct fronts A) ≡ true
    → list_all (λ t. shape_begins k false (token_shape t)) (first_behind direct fronts B us) ≡ true
    → Sorts A us → Sorts B us → Sorts (choose (by_character (is k)) A B) us
choice = by_first rules following firsts rules_taken rules_begin

-- what begins an element

start_less : (levels : ℕ) → list_all (λ t. shape_begins 60 true (token_shape t)) (start_of levels ∷ []) ≡ true
start_less zero = refl
start_less (suc levels) = refl

start_taken : (levels : ℕ) → takes (start_of levels) ≡ true
start_taken zero = refl
start_taken (suc levels) = refl

start_follows : (levels : ℕ) → IsIn following (start_of levels)
start_follows zero = inr (inr (inr (inr (inl refl))))
start_follows (suc levels) = inr (inr (inr (inr (inr (inl refl)))))

start_opens : (levels : ℕ) (x : List ℕ) → opens (start_of levels) x → Opens direct (rule (nested levels)) x
start_opens zero x o = open_rule (open_token o)
start_opens (suc levels) x o = open_rule (open_made (open_first (open_token o)))

starts_apart : (levels : ℕ) → all_apart token_shape (content_starts levels) (end_tag_open ∷ []) ≡ true
starts_apart zero = refl
starts_apart (suc levels) = refl

-- with expressions and elements of that many levels
module _ (levels : ℕ) where
  enclosed_item_sorted : Sorts (enclosed_item levels) (comma ∷ close_brace ∷ [])
  unfolding enclosed_item
  enclosed_item_sorted =
      choice 60 _ _ (comma ∷ close_brace ∷ []) refl (start_less levels) refl
      ((inr (inr (inr (inr (inr (inr (inr (inl refl))))))), (inr (inr (inr (inr (inr (inr (inr (inr (inl refl)))))))), (inr (inr (inr (inr (inr (inr (inr (inr (inr (inl refl))))))))), tt))), tt) (tt, tt)

  enclosed_items_sorted : (us : List Token) → Sorts (enclosed_items levels) us
  unfolding enclosed_items
  enclosed_items_sorted us = (tt, (tt, (enclosed_item_sorted, (many_first rules following firsts rules_taken rules_begin 44 _ (close_brace ∷ []) refl refl refl ((tt, tt), enclosed_item_sorted), tt))))

  braces_sorted : (us : List Token) → Sorts (braces levels) us
  unfolding braces doubled enclosed_items
  braces_sorted us = (
    tokens_choose direct tokens_lawful fronts fronts_right (two_braces ∷ []) _ (enclosed_items levels) us
        (record {
          takes = refl;
          first = (inl refl, tt);
          full = (refl, tt);
          opening = ((λ x o. open_made (open_token o)), tt);
          apart = computed_apart direct token_shape tokens_shaped (two_braces ∷ []) (brace ∷ []) refl;
        }),
    tt,
    enclosed_items_sorted us,
  )

  braces_or_text_sorted : (test : ℕ → Bool) (us : List Token) → list_all (λ t. shape_begins 123 false (token_shape t)) (two_close_braces ∷ named test test no_character ∷ []) ≡ true
      → list_all (λ t. shape_begins 125 false (token_shape t)) (named test test no_character ∷ []) ≡ true → Sorts (braces_or_text levels (named test test no_character)) us
  unfolding braces_or_text braces doubled enclosed_items
  braces_or_text_sorted test us e f = choice 123 _ _ us refl refl e (braces_sorted us) (choice 125 _ _ us refl refl f tt tt)

  value_part_sorted : (us : List Token) → Sorts (value_part levels) us
  unfolding value_part braces_or_text braces doubled enclosed_items
  value_part_sorted us = choice 34 _ _ us refl refl refl tt (braces_or_text_sorted is_value_character us refl refl)

  value_sorted : Sorts (value levels) (close_quote ∷ [])
  unfolding value value_part braces_or_text braces doubled enclosed_items
  value_sorted = (
    tokens_repeat direct tokens_lawful fronts fronts_right value_starts (value_part levels) (close_quote ∷ [])
        (record {
          takes = refl;
          first = (inr (inl refl), (inr (inr (inl refl)), (inr (inr (inr (inr (inl refl)))), (inr (inr (inr (inl refl))), (inl refl, tt)))));
          full = (refl, (refl, (refl, (refl, (refl, tt)))));
          opening = (
            (λ x o. open_right (open_right (open_right (open_made (open_token o))))),
            (
              (λ x o. open_left (open_made (open_token o))),
              ((λ x o. open_right (open_left (open_left (open_made (open_token o))))), ((λ x o. open_right (open_right (open_left (open_made (open_token o))))), ((λ x o. open_right (open_left (open_right (open_made (open_first (open_token o)))))), tt))),
            ),
          );
          apart = computed_apart direct token_shape tokens_shaped value_starts (close_quote ∷ []) refl;
        }),
    refl,
    value_part_sorted _,
  )

  attributes_sorted : Sorts (attributes levels) (empty_tag_end ∷ tag_end ∷ [])
  unfolding attributes one_attribute
  attributes_sorted = (
    character_repeats direct is_white_space fronts fronts_right _ (empty_tag_end ∷ tag_end ∷ [])
        (record {
          takes = refl;
          passes = (named_head rules following is_white_space is_white_space no_character, tt);
          fails = computed_words direct token_shape tokens_shaped is_white_space false (empty_tag_end ∷ tag_end ∷ []) refl;
        }),
    refl,
    (
      tt,
      (
        character_chooses direct is_letter fronts fronts_right _ empty (white ∷ empty_tag_end ∷ tag_end ∷ [])
            (record {
              takes = refl;
              passes = (named_head rules following is_letter is_name_character no_character, tt);
              fails = (other_head rules following is_white_space is_white_space no_character is_letter white_no_letter, computed_words direct token_shape tokens_shaped is_letter false (empty_tag_end ∷ tag_end ∷ []) refl);
            }),
        (tt, (tt, (tt, (tt, (tt, (value_sorted, tt)))))),
        tt,
      ),
    ),
  )

  content_part_sorted : (us : List Token) → AllOf (IsIn following) us → Sorts (content_part levels) us
  unfolding content_part braces_or_text braces doubled enclosed_items
  content_part_sorted us h = choice 60 _ _ us refl (start_less levels) refl h (braces_or_text_sorted is_content_character us refl refl)

  content_sorted : Sorts (content levels) (end_tag_open ∷ [])
  unfolding content content_part braces_or_text braces doubled enclosed_items
  content_sorted = (
    tokens_repeat direct tokens_lawful fronts fronts_right (content_starts levels) (content_part levels) (end_tag_open ∷ [])
        (record {
          takes = refl;
          first = (inr (inr (inr (inr (inl refl)))), (inr (inl refl), (inr (inr (inr (inl refl))), (inr (inr (inl refl)), (inl refl, tt)))));
          full = (refl, (refl, (refl, (refl, (start_taken levels, tt)))));
          opening = (
            (λ x o. open_right (open_right (open_right (open_made (open_token o))))),
            (
              (λ x o. open_right (open_left (open_left (open_made (open_token o))))),
              ((λ x o. open_right (open_right (open_left (open_made (open_token o))))), ((λ x o. open_right (open_left (open_right (open_made (open_first (open_token o)))))), ((λ x o. open_left (start_opens levels x o)), tt))),
            ),
          );
          apart = computed_apart direct token_shape tokens_shaped (content_starts levels) (end_tag_open ∷ []) (starts_apart levels);
        }),
    refl,
    content_part_sorted _ (start_follows levels, (inr (inl refl), (inr (inr (inr (inl refl))), (inr (inr (inl refl)), (inl refl, (inr (inr (inr (inr (inr (inr (inl refl)))))), tt)))))),
  )

  content_and_end_sorted : (v : Made) (us : List Token) → Sorts (content_and_end levels v) us
  unfolding content_and_end end_tag
  content_and_end_sorted v us = (tt, (content_sorted, (tt, (tt, (tt, tt)))))

  rest_sorted : (v : Made) (us : List Token) → Sorts (rest_of_element levels v) us
  unfolding rest_of_element content_and_end
  rest_sorted v us = (attributes_sorted, choice 47 _ _ us refl refl refl tt (content_and_end_sorted v us))

rules_sorted : (p : Production) → Sorts (rules p) following
rules_sorted (nested zero) = tt
rules_sorted (nested (suc levels)) = (tt, λ v. rest_sorted levels v following)

-- What the language owes is met.
pub direct_readable : IsReadable direct direct_text
direct_readable = sorted_readable direct tokens_lawful fronts fronts_right direct_text rules_sorted tt

-- An element holds elements of one level less.

abbrev rank : Production → ℕ
rank (nested levels) = levels

module _ (levels : ℕ) where
  abbrev Low : Phrase → Type 0
  Low A = HasRanksBelow direct rank (suc levels) A

  below : levels < suc levels
  below = omega arith

  enclosed_item_low : Low (enclosed_item levels)
  unfolding enclosed_item
  enclosed_item_low = ((below, tt), (tt, tt))

  braces_or_text_low : (t : Token) → Low (braces_or_text levels t)
  unfolding braces_or_text braces doubled enclosed_items
  braces_or_text_low t = ((tt, (tt, (tt, (enclosed_item_low, (((tt, tt), enclosed_item_low), tt))))), (tt, tt))

  attributes_low : Low (attributes levels)
  unfolding attributes one_attribute value value_part doubled
  attributes_low = (tt, ((tt, (tt, (tt, (tt, (tt, ((tt, braces_or_text_low value_text), tt)))))), tt))

  rest_low : (v : Made) → Low (rest_of_element levels v)
  unfolding rest_of_element content_and_end content content_part end_tag
  rest_low v = (attributes_low, (tt, (tt, ((below, braces_or_text_low content_text), (tt, (tt, (tt, tt)))))))

rules_shielded : (p : Production) → IsShielded direct fronts.takings rank (rank p) (rules p)
rules_shielded (nested zero) = tt
rules_shielded (nested (suc levels)) = below_shields direct fronts.takings rank (suc levels) (rules (nested (suc levels))) (tt, λ v. rest_low levels v)

abbrev direct_levelled : IsLevelled direct fronts.takings
direct_levelled = record { takings = taken rules following firsts rules_taken rules_begin; rank = rank; shielded = rules_shielded }

pub direct_verdict : (text : List ℕ) → IsVerdict direct direct_text text (read_direct text)
direct_verdict text =
    exact_text direct direct_readable.tokens direct_readable.productions direct_text direct_readable.top (4 + length text) text
    (never_too_deep direct direct_text direct_readable fronts.takings direct_levelled 4 (omega arith) (4 + length text) text (omega arith))

pub one_tree : (text : List ℕ) (v w : Made) → Derives direct direct_text v text [] → Derives direct direct_text w text [] → v ≡ w
one_tree text v w d e = (unique direct direct_readable.tokens direct_readable.productions d e AtEnd Nowhere direct_readable.top refl refl).0

-- an element makes a tree

abbrev MakesTree : Production → Made → Type 0
MakesTree p v = IsTree v

element_is_tree : (p : Production) (v : Made) → MayMake direct MakesTree (rules p) v → IsTree v
unfolding rest_of_element
element_is_tree (nested zero) v m = absurd m.2
element_is_tree (nested (suc levels)) v m =
    let k = m.3 in
    let r = k.4 in
    let q = r.4 in
    let d = r.3.2 in
    let e = m.2 in
    let f = k.2 in
    let g = r.2 in
    let h = q.2 in
    let i = d.others.same in
    let j : v ≡ element_made (pair k.0 (pair (characters (d.head ∷ d.others.run)) (pair q.0 q.1))) = cc (e, f, g, h, i) in
    (element (d.head ∷ d.others.run) (attributes_in q.0) (trees_in q.1), j)

pub direct_tree : (text : List ℕ) (v : Made) → Derives direct direct_text v text [] → IsTree v
direct_tree text v d = derived_made direct MakesTree element_is_tree d
