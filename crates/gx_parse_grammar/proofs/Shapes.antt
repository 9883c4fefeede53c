-- How the tokens look.
use Rattle.std.proofs.Common.{◌≡◌, ◌≢◌, ℕ, ◌==◌, ◌||◌, ◌&&◌, Bool, true, false, if◌then◌else◌, List, [], ◌∷◌, ◌++◌, inl, inr, refl, sym, ap, subst, ◌∙◌, eqb-true, eq-eqb, Option, Some, None}
use Rattle.gx_base.specs.declared.place.Place.{Place}
use Rattle.gx_base.specs.WhiteSpace.{is_white_space}
use Rattle.gx_grammar.specs.First.{Stands, head_passes}
use Rattle.gx_grammar.specs.Tokens.{IsFrontOf, all_pass, opens_name}
use Rattle.gx_grammar.specs.Gaps.{Gap, gap_ends, gap_white, comment_begins, OpensGap, opens_end, opens_paren, opens_white, opens_begin}
use Rattle.gx_grammar.specs.Words.{spellings, scan_one_of}
use Rattle.gx_grammar.specs.Fitting.{fault_of, fault_where}
use Rattle.gx_grammar.specs.Laws.{LawfulTokens}
use Rattle.gx_grammar.specs.Apart.{Spells, HasShape, is, word_begins}
use Rattle.std.proofs.lemmas.Bool.{and_parts}
use Rattle.gx_grammar.proofs.PublicLaws.{lawful_tokens, one_of_opened, one_of_opening, one_of_spells}
use Rattle.gx_parse_grammar.specs.declared.word.WordSet.{WordSet}
use Rattle.gx_base.specs.NameCharacters.{is_ncname_start, is_ncname_character, is_xml_character}
use Rattle.gx_parse_grammar.specs.Characters.{is_digit}
use Rattle.gx_parse_grammar.specs.Words.{letters_of, words_of, ends_at}
use Rattle.gx_parse_grammar.specs.declared.word.Ending.TheVariants as end
use Rattle.gx_parse_grammar.specs.declared.word.Word.{Word}
use Rattle.gx_parse_grammar.specs.Nodes.{Node, Made}
use Rattle.gx_parse_grammar.specs.Numeral.{OpensNumeral, is_small, scan_literal}
use Rattle.gx_parse_grammar.specs.declared.word.Barrier.{Barrier}
use Rattle.gx_parse_grammar.specs.Tokens.{Token, one_of, constructor, no_constructor, word_end, qname, number, number_end, gap, gap_then_open, gap_not_open, barred, indication, entries, begins_at, limit_code, number_code, derives, opens, faults, begins_gap, begins_number, shape_of_token, text_run, reference, white, blank, no_attribute, no_element, tag_open, tag_name, cdata_text, ncname, local_wildcard, gap_then_dollar, gap_then_neither, barred_words, begins_dollar, leading, begins_word}
use Rattle.gx_parse_grammar.specs.declared.runs.Run.{Run}
use Rattle.gx_parse_grammar.specs.References.{is_run_character}
use Rattle.gx_parse_grammar.proofs.ReferenceTokens.{reference_begins, fault_begins, reference_opened}
use Rattle.gx_parse_grammar.specs.Grammar.{query_language}
use Rattle.gx_parse_grammar.proofs.Tokens.{token_lawful, literal_lawful, pointed_begins, or_left, or_right, is_full, word_full}

abbrev Stood : Token → List ℕ → Type 0
Stood t x = Stands {Node = Node} derives faults t x

full_head : (test : ℕ → Bool) {x : List ℕ} (c : ℕ) (y : List ℕ) → x ≡ c ∷ y → test c ≡ true → (x ≢ []) × (head_passes test x ≡ true)
full_head test c y e f = ((λ n. absurd (cc (n, e))), ap (head_passes test) e ∙ f)

words_stand : (ws : WordSet) (x : List ℕ) → Stood (one_of ws) x → Spells (spellings (entries (words_of ws))) x
words_stand ws x (inl d) = one_of_spells (entries (words_of ws)) d.0 x d.1 d.2
words_stand ws x (inr f) = absurd (let e = f.1 in cc e)

names_stand : (x : List ℕ) → Stood qname x → (x ≢ []) × (head_passes is_ncname_start x ≡ true)
names_stand x (inl d) = let n = d.2 in let b = n.begins in full_head is_ncname_start b.head b.tail b.whole b.begins
names_stand x (inr f) = absurd (let e = f.1 in cc e)

name_opened : (x : List ℕ) → opens_name is_ncname_start is_ncname_character x → x ≢ [] → head_passes is_ncname_start x ≡ true
name_opened [] o n = absurd (n refl)
name_opened (c ∷ x) o n = o.0

ncnames_stand : (x : List ℕ) → Stood ncname x → (x ≢ []) × (head_passes is_ncname_start x ≡ true)
ncnames_stand x (inl d) = let n = d.2 in full_head is_ncname_start n.head n.tail n.whole n.begins
ncnames_stand x (inr f) = absurd (let e = f.1 in cc e)

names_open : (x : List ℕ) → opens qname x → x ≢ [] → head_passes is_ncname_start x ≡ true
names_open x (inl o) n = name_opened x o n
names_open x (inr o) n = let d = o.2 in ap (head_passes is_ncname_start) d.whole ∙ d.begins

scanned : (x : List ℕ) (code : ℕ) → fault_of {V = Made} number_code is_small (scan_literal x) ≡ Some code → (v : Made) × (y : List ℕ) × (scan_literal {Node = Node} x ≡ Some (v, y))
scanned x code e = go (scan_literal x) refl e
  where
    go : (q : Option (Made × List ℕ)) → scan_literal x ≡ q → fault_of number_code is_small q ≡ Some code → (v : Made) × (y : List ℕ) × (scan_literal {Node = Node} x ≡ Some (v, y))
    go None f g = absurd (cc)
    go (Some r) f g = (r.0, r.1, f)

literal_head : (v : Made) (x y : List ℕ) → scan_literal {Node = Node} x ≡ Some (v, y) → (x ≢ []) × (head_passes begins_number x ≡ true)
literal_head v x y e = let d = literal_lawful.sound v x y e in let b = pointed_begins v x y d.stands d.fits in full_head begins_number b.head b.tail b.whole b.passes

numbers_stand : (x : List ℕ) → Stood number x → (x ≢ []) × (head_passes begins_number x ≡ true)
numbers_stand x (inl d) = let n = d.2 in let b = pointed_begins d.0 x d.1 n.stands.stands n.stands.fits in full_head begins_number b.head b.tail b.whole b.passes
numbers_stand x (inr f) = let s = scanned x f.0 f.1 in literal_head s.0 x s.1 s.2

digits_head : (x : List ℕ) → all_pass is_digit x ≡ true → x ≢ [] → head_passes begins_number x ≡ true
digits_head [] e n = absurd (n refl)
digits_head (c ∷ x) e n = or_left (is_digit c) (is 46 c) (and_parts (is_digit c) (all_pass is_digit x) e).0

point_head : (x : List ℕ) → opens_name (is 46) is_digit x → x ≢ [] → head_passes begins_number x ≡ true
point_head [] o n = absurd (n refl)
point_head (c ∷ x) o n = or_right (is_digit c) (is 46 c) o.0

run_head : (x y run : List ℕ) → x ≡ run ++ y → all_pass is_digit run ≡ true → opens_name (is 46) is_digit y → x ≢ [] → head_passes begins_number x ≡ true
run_head x y [] e h o n = subst (λ w. head_passes begins_number w ≡ true) (sym e) (point_head y o (λ f. n (e ∙ f)))
run_head x y (c ∷ run) e h o n = ap (head_passes begins_number) e ∙ or_left (is_digit c) (is 46 c) (and_parts (is_digit c) (all_pass is_digit run) h).0

numbers_open : (x : List ℕ) → OpensNumeral Node x → x ≢ [] → head_passes begins_number x ≡ true
numbers_open x (inl o) n = digits_head x o n
numbers_open x (inr o) n = let d = o.2 in run_head x o.1 d.run d.spelled d.passes o.3 n

-- a gap with a `(` behind it

gap_head : {x y : List ℕ} → Gap is_xml_character 0 x y → (z : List ℕ) → y ≡ 40 ∷ z → (x ≢ []) × (head_passes begins_gap x ≡ true)
gap_head (gap_ends h) z e = full_head begins_gap 40 z e refl
gap_head (gap_white {c = c} {x = x} h d) z e = full_head begins_gap c x refl (or_left (is_white_space c) (is 40 c) h)
gap_head (comment_begins {x = x} d) z e = full_head begins_gap 40 (58 ∷ x) refl refl

parentheses_stand : (x : List ℕ) → Stood gap_then_open x → (x ≢ []) × (head_passes begins_gap x ≡ true)
parentheses_stand x (inl d) = let j = d.2 in gap_head j.begins.gap d.1 j.ends.spelled
parentheses_stand x (inr f) = absurd (let e = f.1 in cc e)

gap_opened : {x : List ℕ} → OpensGap is_xml_character 0 x → x ≢ [] → head_passes begins_gap x ≡ true
gap_opened opens_end n = absurd (n refl)
gap_opened opens_paren n = refl
gap_opened (opens_white {c = c} h o) n = or_left (is_white_space c) (is 40 c) h
gap_opened (opens_begin o) n = refl

front_head : (x : List ℕ) → IsFrontOf x (40 ∷ []) → x ≢ [] → head_passes begins_gap x ≡ true
front_head [] o n = absurd (n refl)
front_head (c ∷ x) o n = let g = o.1 in let e : 40 ≡ c = cc g in sym (ap begins_gap e)

behind_head : {x y : List ℕ} → Gap is_xml_character 0 x y → IsFrontOf y (40 ∷ []) → x ≢ [] → head_passes begins_gap x ≡ true
behind_head (gap_ends {y = y} h) o n = front_head y o n
behind_head (gap_white {c = c} h d) o n = or_left (is_white_space c) (is 40 c) h
behind_head (comment_begins d) o n = refl

parentheses_open : (x : List ℕ) → opens gap_then_open x → x ≢ [] → head_passes begins_gap x ≡ true
parentheses_open x (inl o) n = gap_opened o n
parentheses_open x (inr o) n = let d = o.2 in behind_head d.gap o.3 n

barriers_stand : (b : Barrier) (x : List ℕ) → Stood (barred b) x → (x ≢ []) × (head_passes (begins_at b) x ≡ true)
barriers_stand b x (inl d) = absurd d.2
barriers_stand b [] (inr f) = absurd (let e = f.1 in cc e)
barriers_stand b (c ∷ x) (inr f) = ((λ n. absurd (cc)), go (begins_at b c) f.1)
  where
    go : (q : Bool) → (if q then (Some limit_code) else None) ≡ Some f.0 → q ≡ true
    go true e = refl
    go false e = absurd (cc)

-- a gap with a `$` behind it

dollar_head : {x y : List ℕ} → Gap is_xml_character 0 x y → (z : List ℕ) → y ≡ 36 ∷ z → (x ≢ []) × (head_passes begins_dollar x ≡ true)
dollar_head (gap_ends h) z e = full_head begins_dollar 36 z e refl
dollar_head (gap_white {c = c} {x = x} h d) z e = full_head begins_dollar c x refl (or_left (is_white_space c) (is 40 c || is 36 c) h)
dollar_head (comment_begins {x = x} d) z e = full_head begins_dollar 40 (58 ∷ x) refl refl

dollars_stand : (x : List ℕ) → Stood gap_then_dollar x → (x ≢ []) × (head_passes begins_dollar x ≡ true)
dollars_stand x (inl d) = let j = d.2 in dollar_head j.begins.gap d.1 j.ends.spelled
dollars_stand x (inr f) = absurd (let e = f.1 in cc e)

dollar_opened : {x : List ℕ} → OpensGap is_xml_character 0 x → x ≢ [] → head_passes begins_dollar x ≡ true
dollar_opened opens_end n = absurd (n refl)
dollar_opened opens_paren n = refl
dollar_opened (opens_white {c = c} h o) n = or_left (is_white_space c) (is 40 c || is 36 c) h
dollar_opened (opens_begin o) n = refl

dollar_front : (x : List ℕ) → IsFrontOf x (36 ∷ []) → x ≢ [] → head_passes begins_dollar x ≡ true
dollar_front [] o n = absurd (n refl)
dollar_front (c ∷ x) o n = let g = o.1 in let e : 36 ≡ c = cc g in sym (ap begins_dollar e)

behind_dollar : {x y : List ℕ} → Gap is_xml_character 0 x y → IsFrontOf y (36 ∷ []) → x ≢ [] → head_passes begins_dollar x ≡ true
behind_dollar (gap_ends {y = y} h) o n = dollar_front y o n
behind_dollar (gap_white {c = c} h d) o n = or_left (is_white_space c) (is 40 c || is 36 c) h
behind_dollar (comment_begins d) o n = refl

dollars_open : (x : List ℕ) → opens gap_then_dollar x → x ≢ [] → head_passes begins_dollar x ≡ true
dollars_open x (inl o) n = dollar_opened o n
dollars_open x (inr o) n = let d = o.2 in behind_dollar d.gap o.3 n

-- words that may not stand

barred_stand : (ws : WordSet) (x : List ℕ) → Stood (barred_words ws) x → Spells (spellings (entries (words_of ws))) x
barred_stand ws x (inl d) = absurd d.2
barred_stand ws x (inr f) = go (scan_one_of (entries (words_of ws)) x) refl f.1
  where
    go : (r : Option (Made × List ℕ)) → scan_one_of (entries (words_of ws)) x ≡ r → fault_where limit_code r ≡ Some f.0 → Spells (spellings (entries (words_of ws))) x
    go None e g = absurd (cc g)
    go (Some r) e g = one_of_spells (entries (words_of ws)) r.0 x r.1 ((token_lawful (one_of ws)).sound r.0 x r.1 e)

-- a `<` with the start of a name

starts_tag : (c : ℕ) → is_ncname_start c ≡ true → ends_at end.Tag c ≡ false
unfolding is_ncname_start
starts_tag c e = go (c == 47) (c == 33) refl refl
  where
    go : (p q : Bool) → (c == 47) ≡ p → (c == 33) ≡ q → (p || q) ≡ false
    go true q f g = absurd (let h : is_ncname_start 47 ≡ true = subst (λ d. is_ncname_start d ≡ true) (eqb-true c 47 f) e in cc h)
    go false true f g = absurd (let h : is_ncname_start 33 ≡ true = subst (λ d. is_ncname_start d ≡ true) (eqb-true c 33 g) e in cc h)
    go false false f g = refl

elements_stand : (x : List ℕ) → Stood no_element x → Spells (spellings tag_open) x
elements_stand x (inl d) = absurd d.2
elements_stand [] (inr f) = absurd (let e = f.1 in cc e)
elements_stand (c ∷ []) (inr f) = absurd (let e = f.1 in cc e)
elements_stand (c ∷ d ∷ x) (inr f) = go (c == 60) (is_ncname_start d) refl refl f.1
  where
    go : (p q : Bool) → (c == 60) ≡ p → is_ncname_start d ≡ q → (if p && q then (Some limit_code) else None) ≡ Some f.0 → Spells (spellings tag_open) (c ∷ d ∷ x)
    go true true g h e = inl (d ∷ x, ap (λ a. a ∷ d ∷ x) (eqb-true c 60 g), starts_tag d h)
    go true false g h e = absurd (cc e)
    go false q g h e = absurd (cc e)

-- two words

letters_begin : (cs x y : List ℕ) → is_full cs ≡ true → x ≡ cs ++ y → (x ≢ []) × (head_passes (λ c. word_begins (is c) true cs) x ≡ true)
letters_begin [] x y e f = absurd (cc)
letters_begin (d ∷ cs) x y e f = full_head (λ c. word_begins (is c) true (d ∷ cs)) d (cs ++ y) f (eq-eqb d d refl)

front_begins : (cs x : List ℕ) → IsFrontOf x cs → x ≢ [] → head_passes (λ c. word_begins (is c) true cs) x ≡ true
front_begins cs [] o n = absurd (n refl)
front_begins cs (c ∷ x) o n = ap (word_begins (is c) true) o.1 ∙ eq-eqb c c refl

leading_stand : (w : Word) (ws : WordSet) (x : List ℕ) → Stood (leading w ws) x → (x ≢ []) × (head_passes (begins_word w) x ≡ true)
leading_stand w ws x (inl d) = let j = d.2 in letters_begin (letters_of w) x j.between (word_full w) j.begins.spelled
leading_stand w ws x (inr f) = absurd (let e = f.1 in cc e)

leading_open : (w : Word) (ws : WordSet) (x : List ℕ) → opens (leading w ws) x → x ≢ [] → head_passes (begins_word w) x ≡ true
leading_open w ws x (inl o) n = front_begins (letters_of w) x o n
leading_open w ws x (inr o) n = let d = o.2 in (letters_begin (letters_of w) x o.1 (word_full w) d.spelled).1

-- literal text and references

texts_stand : (r : Run) (x : List ℕ) → Stood (text_run r) x → (x ≢ []) × (head_passes (is_run_character r) x ≡ true)
texts_stand r x (inl d) = let n = d.2 in full_head (is_run_character r) n.head n.tail n.whole n.begins
texts_stand r x (inr f) = absurd (let e = f.1 in cc e)

texts_open : (r : Run) (x : List ℕ) → opens_name (is_run_character r) (is_run_character r) x → x ≢ [] → head_passes (is_run_character r) x ≡ true
texts_open r [] o n = absurd (n refl)
texts_open r (c ∷ x) o n = o.0

references_stand : (x : List ℕ) → Stood reference x → (x ≢ []) × (head_passes (is 38) x ≡ true)
references_stand x (inl d) = reference_begins d.0 x d.1 d.2
references_stand x (inr f) = fault_begins x f.0 f.1

whites_stand : (x : List ℕ) → Stood white x → (x ≢ []) × (head_passes is_white_space x ≡ true)
whites_stand x (inl d) = let n = d.2 in full_head is_white_space n.head n.tail n.whole n.begins
whites_stand x (inr f) = absurd (let e = f.1 in cc e)

whites_open : (x : List ℕ) → opens_name is_white_space is_white_space x → x ≢ [] → head_passes is_white_space x ≡ true
whites_open [] o n = absurd (n refl)
whites_open (c ∷ x) o n = o.0

-- constructors

constructors_stand : (x : List ℕ) → Stood constructor x → (x ≢ []) × (head_passes is_ncname_start x ≡ true)
constructors_stand x (inl d) = let j = d.2 in names_stand x (inl (j.front, j.between, j.begins))
constructors_stand x (inr f) = absurd (let e = f.1 in cc e)

constructors_open : (x : List ℕ) → opens constructor x → x ≢ [] → head_passes is_ncname_start x ≡ true
constructors_open x (inl o) n = names_open x o n
constructors_open x (inr o) n = (names_stand x (inl (o.0, o.1, o.2))).1

module _ (at : ℕ → Place) where
  pub lawful : LawfulTokens (query_language at)
  lawful = lawful_tokens (query_language at) token_lawful

  pub shaped : (t : Token) → HasShape (query_language at) t (shape_of_token t)
  shaped (one_of ws) = (words_stand ws, (λ x o. one_of_opened (entries (words_of ws)) x o), (λ x o. one_of_opening (entries (words_of ws)) x o))
  shaped qname = (names_stand, names_open)
  shaped number = (numbers_stand, numbers_open)
  shaped gap = tt
  shaped number_end = tt
  shaped gap_then_open = (parentheses_stand, parentheses_open)
  shaped gap_not_open = tt
  shaped (barred b) = (barriers_stand b, (λ x o n. absurd (n o)))
  shaped indication = tt
  shaped (text_run r) = (texts_stand r, texts_open r)
  shaped reference = (references_stand, reference_opened)
  shaped white = (whites_stand, whites_open)
  shaped blank = tt
  shaped no_attribute = tt
  shaped no_element = (elements_stand, (λ x o. one_of_opened tag_open x o), (λ x o. one_of_opening tag_open x o))
  shaped (tag_name cs) = tt
  shaped cdata_text = tt
  shaped ncname = (ncnames_stand, name_opened)
  shaped (local_wildcard b) = tt
  shaped gap_then_dollar = (dollars_stand, dollars_open)
  shaped gap_then_neither = tt
  shaped (barred_words ws) = (barred_stand ws, (λ x o. one_of_opened (entries (words_of ws)) x o), (λ x o. one_of_opening (entries (words_of ws)) x o))
  shaped (leading w ws) = (leading_stand w ws, leading_open w ws)
  shaped constructor = (constructors_stand, constructors_open)
  shaped no_constructor = tt
  shaped (word_end b) = tt
