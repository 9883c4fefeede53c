-- No expression begins as a declaration does.
use Rattle.std.proofs.Common.{◌≡◌, ◌≢◌, ℕ, zero, suc, min, ◌==◌, ◌||◌, ◌&&◌, Bool, true, false, if◌then◌else◌, List, [], ◌∷◌, ◌++◌, ◌⊎◌, inl, inr, length, refl, sym, ap, subst, ◌∙◌, Some, None, eqb-true, codes, arith}
use Rattle.gx_base.specs.declared.place.Place.{Place}
use Rattle.gx_base.specs.WhiteSpace.{is_white_space}
use Rattle.gx_grammar.specs.Value.{nothing, characters, node, pair}
use Rattle.gx_grammar.specs.Grammar.{token, ◌&◌, keyed, rule}
use Rattle.gx_grammar.specs.Derivation.{Derives, of_token, of_keyed, of_left, of_right, of_rule, of_made}
use Rattle.gx_grammar.specs.Opening.{Opens, open_end, open_token, open_key, open_behind, open_left, open_right, open_rule, open_made}
use Rattle.gx_grammar.specs.Halting.{Halts, halt_token, halt_key, halt_behind, halt_left, halt_right, halt_rule, halt_made}
use Rattle.gx_grammar.specs.Decision.{Until, BeforeCut}
use Rattle.gx_grammar.specs.Text.{AtEnd, Nowhere}
use Rattle.gx_grammar.specs.First.{IsIn, AllOf, head_passes, HasHead, AreApart, Stands, StandsFirst, EndsOrStarts, BeginsWith, first_behind}
use Rattle.gx_grammar.specs.Apart.{all_apart, words_begin}
use Rattle.gx_grammar.specs.Avoiding.{Avoids}
use Rattle.gx_grammar.specs.Leftmost.{Leftmost, leftmost_here, leftmost_made, leftmost_both}
use Rattle.gx_grammar.specs.Gaps.{Gap, gap_ends, gap_white, comment_begins, OpensGap, opens_end}
use Rattle.gx_grammar.specs.Tokens.{IsFrontOf, all_pass, behind_run, behind_common, strip, unless_passes, seen_name, no_fault}
use Rattle.gx_grammar.specs.Joined.{seen_behind}
use Rattle.std.proofs.lemmas.Bool.{and_parts}
use Rattle.std.proofs.lemmas.Option.{some_pair_parts}
use Rattle.gx_grammar.proofs.PublicLaws.{apart_avoids, apart_by_heads, avoids_more, before_begins, before_cut_less, begins_in, computed_apart, computed_words, ends_in, joined_never, joined_opening, leftmost_cut, leftmost_until, until_less, until_starts}
use Rattle.gx_parse_grammar.specs.declared.word.Barrier.TheVariants as barrier
use Rattle.gx_parse_grammar.specs.declared.word.Word.{Word}
use Rattle.gx_parse_grammar.specs.declared.word.Word.TheVariants as word
use Rattle.gx_parse_grammar.specs.declared.word.WordSet.{WordSet}
use Rattle.gx_parse_grammar.specs.declared.word.WordSet.TheVariants as set
use Rattle.gx_base.specs.NameCharacters.{is_ncname_start, is_ncname_character, is_xml_character}
use Rattle.gx_parse_grammar.specs.Characters.{is_word_character, no_character}
use Rattle.gx_parse_grammar.specs.Words.{letters_of, ends_at, ending_of}
use Rattle.gx_parse_grammar.specs.Nodes.{Node, Made, Found, join_binary}
use Rattle.gx_parse_grammar.specs.Tokens.{Token, one_of, qname, ncname, gap, leading, local_wildcard, IsGapHere, scan_gap_here, IsQName, IsNCName, scan_ncname, seen_local_part, starts_local_part, IsTheWord, IsGapWith, second_of_two, derives, opens, seen, faults, shape_of_token}
use Rattle.gx_parse_grammar.specs.Grammar.{Phrase, word_of, single, is_single, level_at, operator, infix_operator, more, chain, two, expression, step_of, after_name, after_axis, arguments, behind_any_name, path_from, filtered_step, more_predicates, predicate, signed_path, other_operand, ladder, begun, branched_or_name, opened_or_name, named_single, behind_single, query_language, constructed, constructed_by}
use Rattle.gx_parse_grammar.specs.NodeTests.{if_wildcard, wildcard_or, any_step}
use Rattle.gx_parse_grammar.specs.Casts.{casts, type_test, cast_test}
use Rattle.gx_parse_grammar.specs.Fronts.{fronts}
use Rattle.gx_parse_grammar.specs.Tokens.{version_words, setter_words, import_words, definer_words, declaration_words}
use Rattle.gx_parse_grammar.proofs.Tokens.{token_lawful, the_word_lawful, gap_lawful}
use Rattle.gx_parse_grammar.proofs.Shapes.{lawful, shaped}
use Rattle.gx_parse_grammar.proofs.Sorted.{right, innermost, operators, single_fails}

-- characters that end a name

pub record Plain (y : List ℕ) : Type 0 where
  pub head : ℕ
  pub tail : List ℕ
  pub whole : y ≡ head ∷ tail
  pub no_name : is_ncname_character head ≡ false
  pub no_colon : (58 == head) ≡ false

white_plain : (c : ℕ) (x : List ℕ) → is_white_space c ≡ true → Plain (c ∷ x)
unfolding is_ncname_character is_ncname_start
white_plain c x e = go (c == 32) (c == 9) (c == 10) (c == 13) refl refl refl refl e
  where
    this : (d : ℕ) → c ≡ d → is_ncname_character d ≡ false → (58 == d) ≡ false → Plain (c ∷ x)
    this d f g h = record { head = c; tail = x; whole = refl; no_name = ap is_ncname_character f ∙ g; no_colon = ap (λ k. 58 == k) f ∙ h }

    go : (p q r s : Bool) → (c == 32) ≡ p → (c == 9) ≡ q → (c == 10) ≡ r → (c == 13) ≡ s → ((p || q) || (r || s)) ≡ true → Plain (c ∷ x)
    go true q r s f g h k e = this 32 (eqb-true c 32 f) refl refl
    go false true r s f g h k e = this 9 (eqb-true c 9 g) refl refl
    go false false true s f g h k e = this 10 (eqb-true c 10 h) refl refl
    go false false false true f g h k e = this 13 (eqb-true c 13 k) refl refl
    go false false false false f g h k e = absurd (cc)

gap_plain : {y m : List ℕ} → Gap is_xml_character 0 y m → (y ≡ m) ⊎ Plain y
unfolding is_ncname_character is_ncname_start
gap_plain (gap_ends h) = inl refl
gap_plain (gap_white {c = c} {x = x} h d) = inr (white_plain c x h)
gap_plain (comment_begins {x = x} d) = inr (record { head = 40; tail = 58 ∷ x; whole = refl; no_name = refl; no_colon = refl })

behind_all : (test : ℕ → Bool) (cs : List ℕ) (d : ℕ) (y : List ℕ) → all_pass test cs ≡ true → test d ≡ false → behind_run test (cs ++ d ∷ y) ≡ d ∷ y
behind_all test [] d y e f = ap (λ b. if b then (behind_run test y) else (d ∷ y)) f
behind_all test (c ∷ cs) d y e f = let p = and_parts (test c) (all_pass test cs) e in ap (λ b. if b then (behind_run test (cs ++ d ∷ y)) else (c ∷ (cs ++ d ∷ y))) p.0 ∙ behind_all test cs d y p.1 f

-- where no colon stands, no local part does

no_local : (d : ℕ) (y : List ℕ) → (58 == d) ≡ false → starts_local_part (d ∷ y) ≡ false
no_local d [] e = refl
no_local d (c ∷ y) e = ap (λ b. b && is_ncname_start c) e

no_local_seen : (d : ℕ) (y : List ℕ) → (58 == d) ≡ false → seen_local_part (d ∷ y) ≡ length (d ∷ y)
no_local_seen d y e =
    ap (λ b. seen_behind {V = Made} (seen_name is_ncname_start is_ncname_character) (length (if b then (behind_common [] y) else (d ∷ y))) (unless_passes nothing no_character (if b then (strip [] y) else None))) e

-- a name that is a word
module _ (w : Word) (c : ℕ) (cs : List ℕ) (letters : letters_of w ≡ c ∷ cs) (starts : is_ncname_start c ≡ true) (others : all_pass is_ncname_character cs ≡ true) where
  abbrev name_made : Made
  name_made = pair (characters (c ∷ cs)) nothing

  ncname_there : (d : ℕ) (y : List ℕ) → is_ncname_character d ≡ false → IsNCName (characters (c ∷ cs)) ((c ∷ cs) ++ d ∷ y) (d ∷ y)
  ncname_there d y e = record { head = c; tail = cs ++ d ∷ y; whole = refl; begins = starts; others = record { run = cs; same = refl; spelled = refl; passes = others; longest = e; ended = refl } }

  name_there : (x y : List ℕ) → x ≡ (c ∷ cs) ++ y → Plain y → IsQName name_made x y
  name_there x y e p =
      subst (λ m. IsQName name_made m y) (sym e)
      (subst (λ m. IsQName name_made ((c ∷ cs) ++ m) m) (sym p.whole)
      (record { front = characters (c ∷ cs); back = nothing; between = p.head ∷ p.tail; begins = ncname_there p.head p.tail p.no_name; ends = inr (no_local p.head p.tail p.no_colon, refl, refl); same = refl }))

  name_seen : (d : ℕ) (y : List ℕ) → is_ncname_character d ≡ false → (58 == d) ≡ false → seen qname ((c ∷ cs) ++ d ∷ y) ≡ length (d ∷ y)
  name_seen d y e f =
      let k : scan_ncname ((c ∷ cs) ++ d ∷ y) ≡ Some (characters (c ∷ cs), d ∷ y) = (token_lawful ncname).complete (characters (c ∷ cs)) ((c ∷ cs) ++ d ∷ y) (d ∷ y) (ncname_there d y e) in
      let n : seen_name is_ncname_start is_ncname_character ((c ∷ cs) ++ d ∷ y) ≡ length (d ∷ y) =
      ap (λ b. if b then (length (behind_run is_ncname_character (cs ++ d ∷ y))) else (length ((c ∷ cs) ++ d ∷ y))) starts ∙ ap (λ m. length m) (behind_all is_ncname_character cs d y others e)
      in
      ap (λ r. seen_behind seen_local_part (seen_name is_ncname_start is_ncname_character ((c ∷ cs) ++ d ∷ y)) r) k ∙ least (length (d ∷ y)) n (no_local_seen d y f)
    where
      least : (m : ℕ) {a b : ℕ} → a ≡ m → b ≡ m → min a b ≡ m
      least m e f = omega (arith, e, f)

  qname_same : (x y z : List ℕ) (v : Made) → x ≡ (c ∷ cs) ++ y → Plain y → IsQName v x z → (v ≡ name_made) × (z ≡ y)
  qname_same x y z v e p d = some_pair_parts v name_made z y (sym ((token_lawful qname).complete v x z d) ∙ (token_lawful qname).complete name_made x y (name_there x y e p))

  -- what opens a name there opens the word
  qname_opens : (x z y : List ℕ) → x ++ z ≡ (c ∷ cs) ++ y → Plain y → IsTheWord w (node (Found w)) (x ++ z) y → opens qname x → IsFrontOf x (letters_of w)
  qname_opens x z y e p d o =
      let h = (token_lawful qname).longest x z o in
      let k : seen qname (x ++ z) ≡ length y = ap (seen qname) (e ∙ ap (λ m. (c ∷ cs) ++ m) p.whole) ∙ name_seen p.head p.tail p.no_name p.no_colon ∙ sym (ap (λ m. length m) p.whole) in
      (the_word_lawful w).fronts (node (Found w)) x y z d (omega (arith, h, k))

module _ (at : ℕ → Place) where
  abbrev Follows : List Token → List ℕ → Type 0
  Follows us x = EndsOrStarts derives faults us x

  abbrev FollowsCut : List Token → List ℕ → Type 0
  FollowsCut us x = BeginsWith derives opens us x

  -- the operators stand behind an operand
  in_two : (k n : ℕ) (F first : Phrase) (us vs : List Token) → Leftmost (query_language at) (fronts at) F (ladder at k n first) (operators at (level_at k) ∷ us) vs → Leftmost (query_language at) (fronts at) F (two at (set.Operators (level_at k)) (ladder at k n first) (ladder at k n (signed_path at n 64))) us vs
  unfolding two more infix_operator
  in_two k n F first us vs l = leftmost_made (leftmost_both l)

  in_chain : (k n : ℕ) (F first : Phrase) (us vs : List Token) → Leftmost (query_language at) (fronts at) F (ladder at k n first) (operators at (level_at k) ∷ us) vs
      → Leftmost (query_language at) (fronts at) F (chain at join_binary (set.Operators (level_at k)) (ladder at k n first) (ladder at k n (signed_path at n 64)) barrier.Single) us vs
  unfolding chain more infix_operator
  in_chain k n F first us vs l = leftmost_made (leftmost_both l)

  ladder_leftmost : (k n : ℕ) (F first : Phrase) (us vs : List Token) → Leftmost (query_language at) (fronts at) F first (innermost at k us) vs → Leftmost (query_language at) (fronts at) F (ladder at k n first) us vs
  unfolding ladder casts type_test cast_test operator
  ladder_leftmost zero n F first us vs l = leftmost_made (leftmost_both (leftmost_made (leftmost_both (leftmost_made (leftmost_both (leftmost_made (leftmost_both l)))))))
  ladder_leftmost (suc k) n F first us vs l =
      elim (is_single (level_at k)) as (λ b. Leftmost (query_language at) (fronts at) F (if b then (two at (set.Operators (level_at k)) (ladder at k n first) (ladder at k n (signed_path at n 64))) else (chain at join_binary (set.Operators (level_at k)) (ladder at k n first) (ladder at k n (signed_path at n 64)) barrier.Single)) us vs)
      [ true ↦ in_two k n F first us vs (ladder_leftmost k n F first (operators at (level_at k) ∷ us) vs l) | false ↦ in_chain k n F first us vs (ladder_leftmost k n F first (operators at (level_at k) ∷ us) vs l) ]

  path_leftmost : (n : ℕ) (F first : Phrase) (us vs : List Token) → Leftmost (query_language at) (fronts at) F first (word_of word.OpenBracket ∷ one_of set.Slashes ∷ us) vs → Leftmost (query_language at) (fronts at) F (path_from at n first) us vs
  unfolding path_from chain filtered_step more_predicates predicate more infix_operator
  path_leftmost n F first us vs l = leftmost_made (leftmost_both (leftmost_made (leftmost_both l)))

  -- what may follow the name of a step and its gap, in front of a comma or at the end
  abbrev behind_step : List Token
  behind_step = word_of word.Open ∷ word_of word.OpenBracket ∷ one_of set.Slashes ∷ innermost at 8 (word_of word.Comma ∷ [])

  step_leftmost : (n : ℕ) (v : Made) → Leftmost (query_language at) (fronts at) (token gap) (step_of at v (token gap & after_name at n v)) (word_of word.OpenBracket ∷ one_of set.Slashes ∷ innermost at 8 (word_of word.Comma ∷ [])) behind_step
      → Leftmost (query_language at) (fronts at) (token gap) (ladder at 8 n (path_from at n (step_of at v (token gap & after_name at n v)))) (word_of word.Comma ∷ []) behind_step
  step_leftmost n v l = ladder_leftmost 8 n (token gap) (path_from at n (step_of at v (token gap & after_name at n v))) (word_of word.Comma ∷ []) behind_step (path_leftmost n (token gap) (step_of at v (token gap & after_name at n v)) (innermost at 8 (word_of word.Comma ∷ [])) behind_step l)

  -- behind a name that is no keyword stand a gap and then one of these
  declare_leftmost : (n : ℕ) → Leftmost (query_language at) (fronts at) (token gap) (named_single at n (pair (characters (codes "declare")) nothing)) (word_of word.Comma ∷ []) behind_step
  unfolding named_single opened_or_name begun branched_or_name behind_any_name step_of constructed constructed_by after_axis after_name arguments
  declare_leftmost n = step_leftmost n (pair (characters (codes "declare")) nothing) (leftmost_made (leftmost_both leftmost_here))

  import_leftmost : (n : ℕ) → Leftmost (query_language at) (fronts at) (token gap) (named_single at n (pair (characters (codes "import")) nothing)) (word_of word.Comma ∷ []) behind_step
  unfolding named_single opened_or_name begun branched_or_name behind_any_name step_of constructed constructed_by after_axis after_name arguments
  import_leftmost n = step_leftmost n (pair (characters (codes "import")) nothing) (leftmost_made (leftmost_both leftmost_here))

  xquery_leftmost : (n : ℕ) → Leftmost (query_language at) (fronts at) (token gap) (named_single at n (pair (characters (codes "xquery")) nothing)) (word_of word.Comma ∷ []) behind_step
  unfolding named_single opened_or_name begun branched_or_name behind_any_name step_of constructed constructed_by after_axis after_name arguments
  xquery_leftmost n = step_leftmost n (pair (characters (codes "xquery")) nothing) (leftmost_made (leftmost_both leftmost_here))

  -- a word with one of others behind it, where a name that is the word may stand
  module _ (w : Word) (c : ℕ) (cs : List ℕ) (ws : WordSet) (letters : letters_of w ≡ c ∷ cs) (starts : is_ncname_start c ≡ true) (others : all_pass is_ncname_character cs ≡ true) (ends : ends_at (ending_of w) ≡ is_word_character)
      (begins : words_begin is_word_character true (shape_of_token (one_of ws)) ≡ true) (none : opens (one_of ws) []) (apart : all_apart shape_of_token (one_of ws ∷ []) behind_step ≡ true)
      (leftmost : Leftmost (query_language at) (fronts at) (token gap) (named_single at 39 (pair (characters (c ∷ cs)) nothing)) (word_of word.Comma ∷ []) behind_step) where
    abbrev leads : Token
    leads = leading w ws

    abbrev the_name : Made
    the_name = pair (characters (c ∷ cs)) nothing

    -- the second word is avoided behind the gap of a step
    second_avoided : Avoids (query_language at) (one_of ws ∷ []) (Follows behind_step) (FollowsCut behind_step)
    second_avoided = apart_avoids (query_language at) (lawful at) (fronts at) (right at) (one_of ws ∷ []) behind_step (refl, tt) (computed_apart (query_language at) shape_of_token (shaped at) (one_of ws ∷ []) behind_step apart)

    second_never : (y z : List ℕ) (v : Made) → Follows behind_step y → derives (one_of ws) v y z → ⊥
    second_never y z v k d = second_avoided.never y k (record { token = one_of ws; among = inl refl; stands = inl (v, z, d) })

    second_opens : (y : List ℕ) (t : Token) → IsIn (one_of ws ∷ []) t → opens t y → opens (one_of ws) y
    second_opens y t (inl e) o = subst (λ u. opens u y) e o
    second_opens y t (inr i) o = absurd i

    second_opening : (y z r : List ℕ) (v : Made) → FollowsCut behind_step y → derives (one_of ws) v (y ++ z) r → (y ≡ []) ⊎ opens (one_of ws) y
    second_opening y z r v k d = elim (second_avoided.opening y z k (record { token = one_of ws; among = inl refl; stands = inl (v, r, d) })) [ inl n ↦ inl n | inr o ↦ inr (second_opens y o.0 o.1 o.2) ]

    -- a gap stands behind the word, and it is not empty
    word_plain : (x y z : List ℕ) (v u : Made) → IsTheWord w v x y → IsGapWith ws u y z → Plain y
    word_plain x y z v u d j = elim (gap_plain j.begins.gap) [ inr p ↦ p | inl e ↦ absurd (touching e) ]
      where
        touching : y ≡ j.between → ⊥
        touching e =
            let h = (computed_words (query_language at) shape_of_token (shaped at) is_word_character true (one_of ws ∷ []) (ap (λ b. b && true) begins)).0 in
            let k : head_passes is_word_character y ≡ true = ap (head_passes is_word_character) e ∙ (h.stands j.between (inl (j.back, z, j.ends))).1 in
            let n : head_passes is_word_character y ≡ false = ap (λ t. head_passes t y) (sym ends) ∙ d.ended in
            absurd (cc (k, n))

    spelled_so : (x y : List ℕ) (v : Made) → IsTheWord w v x y → x ≡ (c ∷ cs) ++ y
    spelled_so x y v d = d.spelled ∙ ap (λ l. l ++ y) letters

    -- what stands behind the gap of the name
    behind_gap_of : (y : List ℕ) → Until (query_language at) (named_single at 39 the_name) (Follows (word_of word.Comma ∷ [])) y → (v : Made) × (m : List ℕ) × IsGapHere v y m × Follows behind_step m
    behind_gap_of y k = go (leftmost_until (query_language at) (fronts at) (right at) leftmost y k)
      where
        gap_of : (v : Made) (m : List ℕ) → Derives (query_language at) (token gap) v y m → IsGapHere v y m
        gap_of v m (of_token d) = d

        halted : (code : ℕ) (z : List ℕ) → Halts (query_language at) (token gap) y code z → ⊥
        halted code z (halt_token e) = absurd (cc e)

        go : Until (query_language at) (token gap) (Follows behind_step) y → (v : Made) × (m : List ℕ) × IsGapHere v y m × Follows behind_step m
        go (inl b) = (b.value, b.rest, gap_of b.value b.rest b.derived, b.behind)
        go (inr e) = absurd (halted e.0 e.1 e.2)

    -- a Single behind its name, where `:*` may stand right behind that
    abbrev named : Made → Phrase
    named v = wildcard_or v (ladder at 8 39 (path_from at 39 (any_step at v))) (named_single at 39 v)

    abbrev behind_wildcard : Made → Phrase
    behind_wildcard v = if_wildcard v (ladder at 8 39 (path_from at 39 (any_step at the_name))) (named_single at 39 the_name)

    abbrev EndsOrPlain : List ℕ → Type 0
    EndsOrPlain y = (y ≡ []) ⊎ Plain y

    no_colon_first : (y r : List ℕ) → EndsOrPlain y → y ≡ 58 ∷ r → ⊥
    no_colon_first y r (inl n) e = absurd (cc (n, e))
    no_colon_first y r (inr p) e =
        let f : 58 ∷ r ≡ p.head ∷ p.tail = sym e ∙ p.whole in
        let g : 58 ≡ p.head = cc f in
        absurd (let h : (58 == 58) ≡ false = ap (λ k. 58 == k) g ∙ p.no_colon in cc h)

    -- no wildcard stands at the end, nor in front of what is plain
    no_wildcard : (y m : List ℕ) (v : Made) → EndsOrPlain y → derives (local_wildcard false) v y m → (v ≡ nothing) × (m ≡ y)
    no_wildcard y m v n (inl d) = absurd (no_colon_first y (42 ∷ m) n d.spelled)
    no_wildcard y m v n (inr d) = (d.1, d.2)

    derived_so : (y m r : List ℕ) (v u : Made) → EndsOrPlain y → derives (local_wildcard false) v y m → Derives (query_language at) (behind_wildcard v) u m r → Derives (query_language at) (named_single at 39 the_name) u y r
    derived_so y m r v u n d e =
        let w = no_wildcard y m v n d in
        subst (λ t. Derives (query_language at) (named_single at 39 the_name) u t r) w.1 (subst (λ q. Derives (query_language at) (behind_wildcard q) u m r) w.0 e)

    plain_until : (y : List ℕ) → Plain y → Until (query_language at) (named the_name) (Follows (word_of word.Comma ∷ [])) y → Until (query_language at) (named_single at 39 the_name) (Follows (word_of word.Comma ∷ [])) y
    unfolding wildcard_or
    plain_until y p (inl b) = go b.derived b.behind
      where
        go : {u : Made} {r : List ℕ} → Derives (query_language at) (named the_name) u y r → Follows (word_of word.Comma ∷ []) r → Until (query_language at) (named_single at 39 the_name) (Follows (word_of word.Comma ∷ [])) y
        go {r = r} (of_made (of_keyed {v = v} {w = u} {y = m} d e)) k = inl (record { value = u; rest = r; derived = derived_so y m r v u (inr p) d e; behind = k })
    plain_until y p (inr e) = go e.2
      where
        go : {code : ℕ} {z : List ℕ} → Halts (query_language at) (named the_name) y code z → Until (query_language at) (named_single at 39 the_name) (Follows (word_of word.Comma ∷ [])) y
        go (halt_made (halt_key f)) = absurd (cc f)
        go {code = code} {z = z} (halt_made (halt_behind {v = v} {y = m} d h)) =
            let w = no_wildcard y m v (inr p) d in
            inr (code, z, subst (λ t. Halts (query_language at) (named_single at 39 the_name) t code z) w.1 (subst (λ q. Halts (query_language at) (behind_wildcard q) m code z) w.0 h))

    plain_cut : (y : List ℕ) → EndsOrPlain y → BeforeCut (query_language at) (named the_name) (FollowsCut (word_of word.Comma ∷ [])) y → BeforeCut (query_language at) (named_single at 39 the_name) (FollowsCut (word_of word.Comma ∷ [])) y
    unfolding wildcard_or
    plain_cut y n (inl o) = inl (opened y n o)
      where
        key : (y : List ℕ) → EndsOrPlain y → opens (local_wildcard false) y → Opens (query_language at) (named_single at 39 the_name) y
        key [] n o = open_end
        key (c ∷ y) n o = absurd (let f : 58 ∷ 42 ∷ [] ≡ c ∷ (y ++ o.0) = o.1 in no_colon_first (c ∷ y) y n (let g : c ≡ 58 = cc f in ap (λ k. k ∷ y) g))

        opened : (y : List ℕ) → EndsOrPlain y → Opens (query_language at) (named the_name) y → Opens (query_language at) (named_single at 39 the_name) y
        opened y n open_end = open_end
        opened y n (open_made open_end) = open_end
        opened y n (open_made (open_key o)) = key y n o
        opened y n (open_made (open_behind {v = v} {y = m} d o)) =
            let w = no_wildcard y m v n d in
            subst (λ t. Opens (query_language at) (named_single at 39 the_name) t) w.1 (subst (λ q. Opens (query_language at) (behind_wildcard q) m) w.0 o)
    plain_cut y n (inr b) = go b.derived b.behind
      where
        go : {u : Made} {r : List ℕ} → Derives (query_language at) (named the_name) u y r → FollowsCut (word_of word.Comma ∷ []) r → BeforeCut (query_language at) (named_single at 39 the_name) (FollowsCut (word_of word.Comma ∷ [])) y
        go {r = r} (of_made (of_keyed {v = v} {w = u} {y = m} d e)) k = inr (record { value = u; rest = r; derived = derived_so y m r v u n d e; behind = k })

    cut_plain : (y z : List ℕ) → Plain (y ++ z) → EndsOrPlain y
    cut_plain [] z p = inl refl
    cut_plain (d ∷ y) z p = let e : d ≡ p.head = (let f : d ∷ (y ++ z) ≡ p.head ∷ p.tail = p.whole in cc f) in inr (record { head = p.head; tail = y; whole = ap (λ h. h ∷ y) e; no_name = p.no_name; no_colon = p.no_colon })

    name_never : (x y : List ℕ) (v : Made) → IsQName v x y → Until (query_language at) (named v) (Follows (word_of word.Comma ∷ [])) y → (u : Made) (z : List ℕ) → derives leads u x z → ⊥
    name_never x y v d k u z j =
        let p = word_plain x j.between z j.front j.back j.begins j.ends in
        let same = qname_same w c cs letters starts others x j.between y v (spelled_so x j.between j.front j.begins) p d in
        let b = behind_gap_of j.between (plain_until j.between p (subst (λ m. Until (query_language at) (named the_name) (Follows (word_of word.Comma ∷ [])) m) same.1 (subst (λ q. Until (query_language at) (named q) (Follows (word_of word.Comma ∷ [])) y) same.0 k))) in
        joined_never IsGapHere (derives (one_of ws)) (opens gap) (opens (one_of ws)) scan_gap_here (seen gap) no_fault gap_lawful second_of_two (Follows behind_step) second_never j.between b.1 z b.0 j.back b.2 b.3 j.ends

    -- where the text is cut off

    gap_cut : (y : List ℕ) → BeforeCut (query_language at) (token gap) (FollowsCut behind_step) y → OpensGap is_xml_character 0 y ⊎ ((v : Made) × (m : List ℕ) × IsGapHere v y m × FollowsCut behind_step m)
    gap_cut y (inl o) = inl (opened y o)
      where
        opened : (y : List ℕ) → Opens (query_language at) (token gap) y → OpensGap is_xml_character 0 y
        opened y open_end = opens_end
        opened y (open_token g) = g
    gap_cut y (inr b) = inr (b.value, b.rest, gap_of b.derived, b.behind)
      where
        gap_of : Derives (query_language at) (token gap) b.value y b.rest → IsGapHere b.value y b.rest
        gap_of (of_token d) = d

    word_cut : (x y z r : List ℕ) (u : Made) → IsTheWord w (node (Found w)) x y → BeforeCut (query_language at) (named_single at 39 the_name) (FollowsCut (word_of word.Comma ∷ [])) y → IsGapWith ws u (y ++ z) r → opens leads x
    word_cut x y z r u d k j = elim (gap_cut y (leftmost_cut (query_language at) (fronts at) (right at) leftmost y k)) [
      | inl o ↦ inr (node (Found w), y, d, inl o)
      | inr b ↦ inr (node (Found w), y, d, joined_opening IsGapHere (derives (one_of ws)) (opens gap) (opens (one_of ws)) scan_gap_here (seen gap) no_fault gap_lawful second_of_two (FollowsCut behind_step) none second_opening y b.1 z r b.0 u b.2 b.3 j)
    ]

    name_cut : (x y z r : List ℕ) (v u : Made) → IsQName v x y → BeforeCut (query_language at) (named v) (FollowsCut (word_of word.Comma ∷ [])) y → derives leads u (x ++ z) r → opens leads x
    name_cut x y z r v u d k j =
        let p = word_plain (x ++ z) j.between r j.front j.back j.begins j.ends in
        let there = spelled_so (x ++ z) j.between j.front j.begins in
        let whole = subst (λ q. IsTheWord w q (x ++ z) j.between) j.begins.same j.begins in
        elim ((token_lawful qname).goes_on v x y z d) [
          | inr o ↦ inl (qname_opens w c cs letters starts others x z j.between there p whole o)
          | inl q ↦ (let same = qname_same w c cs letters starts others (x ++ z) j.between (y ++ z) v there p q in
              word_cut x y z r j.back ((the_word_lawful w).cut (node (Found w)) x y z (subst (λ m. IsTheWord w (node (Found w)) (x ++ z) m) (sym same.1) whole))
              (plain_cut y (cut_plain y z (subst Plain (sym same.1) p)) (subst (λ q. BeforeCut (query_language at) (named q) (FollowsCut (word_of word.Comma ∷ [])) y) same.0 k)) (subst (λ m. IsGapWith ws j.back m r) (sym same.1) j.ends))
        ]

    key_cut : (x z r : List ℕ) (u : Made) → opens qname x → derives leads u (x ++ z) r → opens leads x
    key_cut x z r u o j =
        inl (qname_opens w c cs letters starts others x z j.between (spelled_so (x ++ z) j.between j.front j.begins) (word_plain (x ++ z) j.between r j.front j.back j.begins j.ends) (subst (λ q. IsTheWord w q (x ++ z) j.between) j.begins.same j.begins) o)

    keyed_never : (x : List ℕ) → Until (query_language at) (keyed qname (λ v. named v)) (Follows (word_of word.Comma ∷ [])) x → (u : Made) (z : List ℕ) → derives leads u x z → ⊥
    keyed_never x (inl b) u z j = go b.derived b.behind
      where
        go : {v : Made} {y : List ℕ} → Derives (query_language at) (keyed qname (λ v. named v)) v x y → Follows (word_of word.Comma ∷ []) y → ⊥
        go {y = y} (of_keyed {v = v} {w = n} {y = m} d e) k = name_never x m v d (inl (record { value = n; rest = y; derived = e; behind = k })) u z j
    keyed_never x (inr e) u z j = go e.2
      where
        go : {code : ℕ} {r : List ℕ} → Halts (query_language at) (keyed qname (λ v. named v)) x code r → ⊥
        go (halt_key f) = absurd (cc f)
        go {code = code} {r = r} (halt_behind {v = v} {y = m} d h) = name_never x m v d (inr (code, r, h)) u z j

    keyed_cut : (x z r : List ℕ) (u : Made) → BeforeCut (query_language at) (keyed qname (λ v. named v)) (FollowsCut (word_of word.Comma ∷ [])) x → derives leads u (x ++ z) r → (x ≡ []) ⊎ opens leads x
    keyed_cut x z r u (inl o) j = go x o j
      where
        go : (x : List ℕ) → Opens (query_language at) (keyed qname (λ v. named v)) x → derives leads u (x ++ z) r → (x ≡ []) ⊎ opens leads x
        go x open_end j = inl refl
        go x (open_key o) j = inr (key_cut x z r u o j)
        go x (open_behind {v = v} {y = m} d o) j = inr (name_cut x m z r v u d (inl o) j)
    keyed_cut x z r u (inr b) j = go b.derived b.behind
      where
        go : {v : Made} {y : List ℕ} → Derives (query_language at) (keyed qname (λ v. named v)) v x y → FollowsCut (word_of word.Comma ∷ []) y → (x ≡ []) ⊎ opens leads x
        go {y = y} (of_keyed {v = v} {w = n} {y = m} d e) k = inr (name_cut x m z r v u d (inr (record { value = n; rest = y; derived = e; behind = k })) j)

    -- what does not begin with a name

    leads_pass : HasHead (query_language at) is_ncname_start true leads
    leads_pass = record { stands = stands; opened = opened }
      where
        head_is : (x y : List ℕ) → x ≡ (c ∷ cs) ++ y → (x ≢ []) × (head_passes is_ncname_start x ≡ true)
        head_is x y e = ((λ n. absurd (cc (n, e))), ap (head_passes is_ncname_start) e ∙ starts)

        stands : (x : List ℕ) → Stands {Node = Node} derives faults leads x → (x ≢ []) × (head_passes is_ncname_start x ≡ true)
        stands x (inl d) = let j = d.2 in head_is x j.between (spelled_so x j.between j.front j.begins)
        stands x (inr f) = absurd (let e = f.1 in cc e)

        front : (x : List ℕ) → IsFrontOf x (letters_of w) → x ≢ [] → head_passes is_ncname_start x ≡ true
        front [] o n = absurd (n refl)
        front (d ∷ x) o n = let e : c ∷ cs ≡ d ∷ (x ++ o.0) = sym letters ∙ o.1 in let f : c ≡ d = cc e in ap is_ncname_start (sym f) ∙ starts

        opened : (x : List ℕ) → opens leads x → x ≢ [] → head_passes is_ncname_start x ≡ true
        opened x (inl o) n = front x o n
        opened x (inr o) n = (head_is x o.1 (spelled_so x o.1 o.0 o.2)).1

    abbrev operand : Phrase
    operand = ladder at 8 39 (other_operand at 39)

    operand_apart : (us : List Token) → AllOf (HasHead (query_language at) is_ncname_start false) us → AllOf (λ u. AllOf (λ t. AreApart (query_language at) t u) (leads ∷ [])) us
    operand_apart [] h = tt
    operand_apart (u ∷ us) h = ((apart_by_heads (query_language at) is_ncname_start true false leads u (λ e. absurd (cc e)) leads_pass h.0, tt), operand_apart us h.1)

    operand_avoided : Avoids (query_language at) (leads ∷ []) (Follows (first_behind (query_language at) (fronts at) operand (behind_single at))) (FollowsCut (first_behind (query_language at) (fronts at) operand (behind_single at)))
    operand_avoided = apart_avoids (query_language at) (lawful at) (fronts at) (right at) (leads ∷ []) (first_behind (query_language at) (fronts at) operand (behind_single at)) (refl, tt) (operand_apart (first_behind (query_language at) (fronts at) operand (behind_single at)) (single_fails at 39))

    comma_behind : (u : Token) → IsIn (word_of word.Comma ∷ []) u → IsIn (behind_single at) u
    comma_behind u (inl e) = inl e
    comma_behind u (inr i) = absurd i

    operand_never : (x : List ℕ) → Until (query_language at) operand (Follows (word_of word.Comma ∷ [])) x → (u : Made) (z : List ℕ) → derives leads u x z → ⊥
    operand_never x k u z d =
        operand_avoided.never x
        (until_starts (query_language at) (fronts at) (right at) operand (behind_single at) x (until_less (query_language at) operand (Follows (behind_single at)) (Follows (word_of word.Comma ∷ [])) (λ y m. ends_in derives faults (word_of word.Comma ∷ []) (behind_single at) y comma_behind m) x k))
        (record { token = leads; among = inl refl; stands = inl (u, z, d) })

    one_opens : (x : List ℕ) (t : Token) → IsIn (leads ∷ []) t → opens t x → opens leads x
    one_opens x t (inl e) o = subst (λ u. opens u x) e o
    one_opens x t (inr i) o = absurd i

    operand_cut : (x z r : List ℕ) (u : Made) → BeforeCut (query_language at) operand (FollowsCut (word_of word.Comma ∷ [])) x → derives leads u (x ++ z) r → (x ≡ []) ⊎ opens leads x
    operand_cut x z r u k d =
        elim (operand_avoided.opening x z
        (before_begins (query_language at) (fronts at) (right at) operand (behind_single at) x (before_cut_less (query_language at) operand (FollowsCut (behind_single at)) (FollowsCut (word_of word.Comma ∷ [])) (λ y m. begins_in derives opens (word_of word.Comma ∷ []) (behind_single at) y comma_behind m) x k))
        (record { token = leads; among = inl refl; stands = inl (u, r, d) })) [ inl n ↦ inl n | inr o ↦ inr (one_opens x o.0 o.1 o.2) ]

    -- Singles

    single_never : (x : List ℕ) → Until (query_language at) (rule (single 40)) (Follows (word_of word.Comma ∷ [])) x → (u : Made) (z : List ℕ) → derives leads u x z → ⊥
    single_never x (inl b) u z j = go b.derived b.behind
      where
        go : {v : Made} {y : List ℕ} → Derives (query_language at) (rule (single 40)) v x y → Follows (word_of word.Comma ∷ []) y → ⊥
        go {y = y} (of_rule (of_left (of_made {v = v} d))) k = keyed_never x (inl (record { value = v; rest = y; derived = d; behind = k })) u z j
        go {v = v} {y = y} (of_rule (of_right d)) k = operand_never x (inl (record { value = v; rest = y; derived = d; behind = k })) u z j
    single_never x (inr e) u z j = go e.2
      where
        go : {code : ℕ} {r : List ℕ} → Halts (query_language at) (rule (single 40)) x code r → ⊥
        go {code = code} {r = r} (halt_rule (halt_left (halt_made h))) = keyed_never x (inr (code, r, h)) u z j
        go {code = code} {r = r} (halt_rule (halt_right h)) = operand_never x (inr (code, r, h)) u z j

    single_cut : (x z r : List ℕ) (u : Made) → BeforeCut (query_language at) (rule (single 40)) (FollowsCut (word_of word.Comma ∷ [])) x → derives leads u (x ++ z) r → (x ≡ []) ⊎ opens leads x
    single_cut x z r u (inl o) j = go x o j
      where
        go : (x : List ℕ) → Opens (query_language at) (rule (single 40)) x → derives leads u (x ++ z) r → (x ≡ []) ⊎ opens leads x
        go x open_end j = inl refl
        go x (open_rule open_end) j = inl refl
        go x (open_rule (open_left open_end)) j = inl refl
        go x (open_rule (open_left (open_made o))) j = keyed_cut x z r u (inl o) j
        go x (open_rule (open_right o)) j = operand_cut x z r u (inl o) j
    single_cut x z r u (inr b) j = go b.derived b.behind
      where
        go : {v : Made} {y : List ℕ} → Derives (query_language at) (rule (single 40)) v x y → FollowsCut (word_of word.Comma ∷ []) y → (x ≡ []) ⊎ opens leads x
        go {y = y} (of_rule (of_left (of_made {v = v} d))) k = keyed_cut x z r u (inr (record { value = v; rest = y; derived = d; behind = k })) j
        go {v = v} {y = y} (of_rule (of_right d)) k = operand_cut x z r u (inr (record { value = v; rest = y; derived = d; behind = k })) j

    -- whole expressions

    only_leads : (x : List ℕ) → StandsFirst {Node = Node} derives faults (leads ∷ []) x → (u : Made) × (z : List ℕ) × derives leads u x z
    only_leads x s = go s.token s.among s.stands
      where
        go : (t : Token) → IsIn (leads ∷ []) t → Stands {Node = Node} derives faults t x → (u : Made) × (z : List ℕ) × derives leads u x z
        go t (inl e) (inl d) = subst (λ n. (u : Made) × (z : List ℕ) × derives n u x z) e d
        go t (inl e) (inr f) = absurd (let h : faults leads x ≡ Some f.0 = ap (λ n. faults n x) (sym e) ∙ f.1 in cc h)
        go t (inr i) d = absurd i

    expression_leftmost : Leftmost (query_language at) (fronts at) (rule (single 40)) (expression at 40) [] (word_of word.Comma ∷ [])
    unfolding expression chain more infix_operator
    expression_leftmost = leftmost_made (leftmost_both leftmost_here)

    pub expression_avoids : Avoids (query_language at) (leads ∷ []) (Until (query_language at) (expression at 40) AtEnd) (BeforeCut (query_language at) (expression at 40) Nowhere)
    expression_avoids = record {
      never = λ x k s. (let d = only_leads x s in
          single_never x (leftmost_until (query_language at) (fronts at) (right at) expression_leftmost x (until_less (query_language at) (expression at 40) (Follows []) AtEnd (λ y m. inl m) x k)) d.0 d.1 d.2);
      opening = λ x z k s. (let d = only_leads (x ++ z) s in
          elim (single_cut x z d.1 d.0 (leftmost_cut (query_language at) (fronts at) (right at) expression_leftmost x (before_cut_less (query_language at) (expression at 40) (FollowsCut []) Nowhere (λ y m. absurd m) x k)) d.2) [ inl n ↦ inl n | inr o ↦ inr (leads, inl refl, o) ]);
    }

  abbrev Avoided : List Token → Type 0
  Avoided ts = Avoids (query_language at) ts (Until (query_language at) (expression at 40) AtEnd) (BeforeCut (query_language at) (expression at 40) Nowhere)

  pub version_avoided : Avoided (version_words ∷ [])
  unfolding is_word_character is_ncname_character is_ncname_start
  version_avoided = expression_avoids word.XQuery 120 (codes "query") (set.Only word.Version) refl refl refl refl refl (inl (codes "version", refl)) refl (xquery_leftmost 39)

  pub setters_avoided : Avoided (setter_words ∷ [])
  unfolding is_word_character is_ncname_character is_ncname_start
  setters_avoided = expression_avoids word.Declare 100 (codes "eclare") set.Setters refl refl refl refl refl (inl (codes "namespace", refl)) refl (declare_leftmost 39)

  pub import_avoided : Avoided (import_words ∷ [])
  unfolding is_word_character is_ncname_character is_ncname_start
  import_avoided = expression_avoids word.Import 105 (codes "mport") (set.Only word.Schema) refl refl refl refl refl (inl (codes "schema", refl)) refl (import_leftmost 39)

  pub definers_avoided : Avoided (definer_words ∷ [])
  unfolding is_word_character is_ncname_character is_ncname_start
  definers_avoided = expression_avoids word.Declare 100 (codes "eclare") set.Definers refl refl refl refl refl (inl (codes "variable", refl)) refl (declare_leftmost 39)

  pub settings_avoided : Avoided (setter_words ∷ import_words ∷ [])
  settings_avoided = avoids_more (query_language at) setter_words (import_words ∷ []) _ _ setters_avoided import_avoided

  pub declarations_avoided : Avoided declaration_words
  declarations_avoided = avoids_more (query_language at) version_words (setter_words ∷ import_words ∷ definer_words ∷ []) _ _ version_avoided (avoids_more (query_language at) setter_words (import_words ∷ definer_words ∷ []) _ _ setters_avoided (avoids_more (query_language at) import_words (definer_words ∷ []) _ _ import_avoided definers_avoided))
