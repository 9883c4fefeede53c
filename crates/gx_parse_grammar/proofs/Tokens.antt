-- The tokens keep their laws, and how they look.
use Rattle.std.proofs.Common.{◌≡◌, ℕ, ◌<◌, ◌≤◌, ◌==◌, ◌||◌, ◌&&◌, Bool, true, false, List, [], ◌∷◌, ◌++◌, ◌⊎◌, inl, inr, length, length-append, refl, sym, ap, subst, ◌∙◌, Option, Some, None, eqb-true, arith}
use Rattle.gx_base.specs.WhiteSpace.{is_white_space}
use Rattle.gx_grammar.specs.Value.{nothing, characters, node, pair}
use Rattle.gx_grammar.specs.First.{head_passes}
use Rattle.gx_grammar.specs.Tokens.{LawfulToken, no_fault, IsWord, IsNamed, IsFrontOf, all_pass, opens_name, opens_run, scan_word, seen_name, seen_run, seen_word}
use Rattle.gx_grammar.specs.Gaps.{OpensGap, seen_gap}
use Rattle.gx_grammar.specs.Words.{IsOneOf, OpensOneOf, scan_one_of, seen_one_of, spellings}
use Rattle.gx_grammar.specs.Fitting.{Never, scan_never, fault_where}
use Rattle.gx_grammar.specs.Apart.{all_words_apart, is}
use Rattle.std.proofs.lemmas.Bool.{and_parts}
use Rattle.gx_grammar.proofs.PublicLaws.{fitting_firm, head_cut, lawful_barred, lawful_either, lawful_fitting, lawful_gap, lawful_joined, lawful_name, lawful_one_of, lawful_optional, lawful_run, lawful_stop, lawful_walk, lawful_word}
use Rattle.gx_parse_grammar.specs.declared.word.Word.{Word}
use Rattle.gx_parse_grammar.specs.declared.word.Word.TheVariants as word
use Rattle.gx_parse_grammar.specs.declared.word.Level.TheVariants as level
use Rattle.gx_parse_grammar.specs.declared.word.WordSet.{WordSet}
use Rattle.gx_parse_grammar.specs.declared.word.WordSet.TheVariants as set
use Rattle.gx_base.specs.NameCharacters.{is_ncname_start, is_ncname_character, is_xml_character}
use Rattle.gx_parse_grammar.specs.Characters.{is_digit, no_character}
use Rattle.gx_parse_grammar.specs.Words.{letters_of, ends_at, ending_of, words_of}
use Rattle.gx_parse_grammar.specs.Nodes.{Node, Made, Found}
use Rattle.gx_parse_grammar.specs.Numeral.{together, IsDigits, scan_numeral_digits, IsFraction, scan_fraction, starts_point, HasFraction, scan_with_fraction, IsPointed, OpensNumeral, scan_pointed, seen_numeral, has_digit, is_small, IsLiteral, scan_literal}
use Rattle.gx_parse_grammar.specs.Tokens.{Token, one_of, qname, number, number_end, gap, gap_then_open, gap_not_open, barred, indication, entries, IsNCName, scan_ncname, behind_colon, IsColon, scan_colon, OpensColon, IsLocalPart, OpensLocalPart, scan_local_part, seen_local_part, starts_local_part, HasLocalPart, scan_has_local_part, IsQName, OpensQName, no_value, IsGapHere, scan_gap_here, IsParenthesis, scan_parenthesis, OpensParenthesis, scan_no_parenthesis, OpensNothing, indicators, first_of_two, IsIndicator, OpensIndicator, scan_indicator, seen_indicator, stops_type, IsNoIndicator, scan_no_indicator, barrier_fault, limit_code, number_code, derives, opens, scan, seen, faults, takes, begins_number, text_run, reference, white, blank, no_attribute, no_element, tag_open, element_fault, tag_name, cdata_text, ncname, local_wildcard, wildcard_letters, IsLocalWildcard, scan_local_wildcard, starts_local_wildcard, no_characters, begins_attribute, cdata_value, cdata_walk, entity_words, gap_then_dollar, gap_then_neither, barred_words, IsDollar, scan_dollar, OpensDollar, stops_name, IsNeither, scan_neither, word_fault, leading, second_of_two, IsGapWith, OpensGapWith, scan_gap_with, seen_gap_with, IsTheWord, OpensTheWord, scan_the_word}
use Rattle.gx_parse_grammar.specs.References.{is_run_character, text_value}
use Rattle.gx_parse_grammar.proofs.ReferenceTokens.{reference_lawful, number_shorter}
use Rattle.gx_parse_grammar.specs.Tokens.{scan_qname, seen_qname, constructor, no_constructor, IsBrace, OpensBrace, scan_brace, IsGapBrace, OpensGapBrace, scan_gap_brace, seen_gap_brace, IsConstructor, OpensConstructor, scan_constructor, seen_constructor, front_of_two, word_end, starts_fraction, OpensPoint}
use Rattle.gx_parse_grammar.proofs.ConstructorTokens.{no_constructor_lawful}

pub set_apart : (ws : WordSet) → all_words_apart (spellings (entries (words_of ws))) ≡ true
set_apart (set.Only w) = refl
set_apart (set.Operators level.Or) = refl
set_apart (set.Operators level.And) = refl
set_apart (set.Operators level.Comparison) = refl
set_apart (set.Operators level.Range) = refl
set_apart (set.Operators level.Sum) = refl
set_apart (set.Operators level.Product) = refl
set_apart (set.Operators level.Union) = refl
set_apart (set.Operators level.Intersect) = refl
set_apart set.Signs = refl
set_apart set.Slashes = refl
set_apart set.Dots = refl
set_apart set.Indicators = refl
set_apart set.Directions = refl
set_apart set.Extremes = refl
set_apart set.Binders = refl
set_apart set.Versions = refl
set_apart set.Setters = refl
set_apart set.SpaceModes = refl
set_apart set.Definers = refl

-- names

ncname_lawful : LawfulToken IsNCName (opens_name is_ncname_start is_ncname_character) scan_ncname (seen_name is_ncname_start is_ncname_character) no_fault
ncname_lawful = lawful_name characters is_ncname_start is_ncname_character no_character

colon_lawful : LawfulToken IsColon OpensColon scan_colon (seen_word (58 ∷ [])) no_fault
colon_lawful = lawful_word nothing (58 ∷ []) no_character

local_lawful : LawfulToken IsLocalPart OpensLocalPart scan_local_part seen_local_part no_fault
local_lawful = lawful_joined IsColon OpensColon scan_colon (seen_word (58 ∷ [])) colon_lawful IsNCName (opens_name is_ncname_start is_ncname_character) scan_ncname (seen_name is_ncname_start is_ncname_character) ncname_lawful behind_colon

local_begins : (v : Made) (x y : List ℕ) → IsLocalPart v x y → starts_local_part x ≡ true
local_begins v x y d =
    let c = d.begins in
    let n = d.ends in
    let e : x ≡ 58 ∷ n.head ∷ n.tail = c.spelled ∙ ap (λ q. 58 ∷ q) n.whole in
    ap starts_local_part e ∙ n.begins

local_stays : (x z : List ℕ) → starts_local_part (x ++ z) ≡ false → starts_local_part x ≡ false
local_stays [] z e = refl
local_stays (c ∷ []) z e = refl
local_stays (c ∷ d ∷ x) z e = e

local_grows : (x z : List ℕ) → starts_local_part x ≡ false → (starts_local_part (x ++ z) ≡ false) ⊎ OpensLocalPart x
local_grows [] z e = inr (inl (58 ∷ [], refl))
local_grows (c ∷ []) [] e = inl refl
local_grows (c ∷ []) (d ∷ z) e = go (58 == c) refl
  where
    go : (b : Bool) → (58 == c) ≡ b → (starts_local_part (c ∷ d ∷ z) ≡ false) ⊎ OpensLocalPart (c ∷ [])
    go true f = inr (inl ([], ap (λ a. a ∷ []) (eqb-true 58 c f)))
    go false f = inl (ap (λ b. b && is_ncname_start d) f)
local_grows (c ∷ d ∷ x) z e = inl e

has_local_lawful : LawfulToken HasLocalPart OpensLocalPart scan_has_local_part seen_local_part no_fault
has_local_lawful =
    lawful_optional IsLocalPart OpensLocalPart scan_local_part seen_local_part local_lawful starts_local_part nothing
    (record { begins = local_begins; stays = local_stays; grows = local_grows; empty = inl (58 ∷ [], refl) })

wildcard_begins : (v : Made) (x y : List ℕ) → IsLocalWildcard v x y → starts_local_wildcard x ≡ true
wildcard_begins v x y d = ap starts_local_wildcard d.spelled

wildcard_stays : (x z : List ℕ) → starts_local_wildcard (x ++ z) ≡ false → starts_local_wildcard x ≡ false
wildcard_stays [] z e = refl
wildcard_stays (c ∷ []) z e = refl
wildcard_stays (c ∷ d ∷ x) z e = e

wildcard_grows : (x z : List ℕ) → starts_local_wildcard x ≡ false → (starts_local_wildcard (x ++ z) ≡ false) ⊎ IsFrontOf x wildcard_letters
wildcard_grows [] z e = inr (58 ∷ 42 ∷ [], refl)
wildcard_grows (c ∷ []) [] e = inl refl
wildcard_grows (c ∷ []) (d ∷ z) e = go (58 == c) refl
  where
    go : (b : Bool) → (58 == c) ≡ b → (starts_local_wildcard (c ∷ d ∷ z) ≡ false) ⊎ IsFrontOf (c ∷ []) wildcard_letters
    go true f = inr (42 ∷ [], ap (λ a. a ∷ 42 ∷ []) (eqb-true 58 c f))
    go false f = inl (ap (λ b. b && (42 == d)) f)
wildcard_grows (c ∷ d ∷ x) z e = inl e

wildcard_lawful : LawfulToken (derives (local_wildcard false)) (opens (local_wildcard false)) (scan (local_wildcard false)) (seen (local_wildcard false)) no_fault
wildcard_lawful =
    lawful_optional IsLocalWildcard (λ x. IsFrontOf x wildcard_letters) scan_local_wildcard (seen_word wildcard_letters) (lawful_word (characters wildcard_letters) wildcard_letters no_character) starts_local_wildcard nothing
    (record { begins = wildcard_begins; stays = wildcard_stays; grows = wildcard_grows; empty = (58 ∷ 42 ∷ [], refl) })

qname_lawful : LawfulToken (derives qname) (opens qname) (scan qname) (seen qname) no_fault
qname_lawful =
    lawful_joined IsNCName (opens_name is_ncname_start is_ncname_character) scan_ncname (seen_name is_ncname_start is_ncname_character) ncname_lawful
    HasLocalPart OpensLocalPart scan_has_local_part seen_local_part has_local_lawful pair

-- numbers

digits_lawful : LawfulToken {V = Made} IsDigits (opens_run is_digit) scan_numeral_digits (seen_run is_digit) no_fault
digits_lawful = lawful_run characters is_digit no_character

fraction_lawful : LawfulToken {V = Made} IsFraction (opens_name (is 46) is_digit) scan_fraction (seen_name (is 46) is_digit) no_fault
fraction_lawful = lawful_name characters (is 46) is_digit no_character

point_grows : (x z : List ℕ) → starts_point x ≡ false → (starts_point (x ++ z) ≡ false) ⊎ opens_name (is 46) is_digit x
point_grows [] z e = inr tt
point_grows (c ∷ x) z e = inl e

has_fraction_lawful : LawfulToken {V = Made} HasFraction (opens_name (is 46) is_digit) scan_with_fraction (seen_name (is 46) is_digit) no_fault
has_fraction_lawful =
    lawful_optional IsFraction (opens_name (is 46) is_digit) scan_fraction (seen_name (is 46) is_digit) fraction_lawful starts_point (characters [])
    (record { begins = λ v x y d. ap (head_passes (is 46)) d.whole ∙ d.begins; stays = λ x z e. head_cut (is 46) x z e; grows = point_grows; empty = tt })

pointed_lawful : LawfulToken {V = Made} IsPointed (OpensNumeral Node) scan_pointed (seen_numeral Node) no_fault
pointed_lawful =
    lawful_joined IsDigits (opens_run is_digit) scan_numeral_digits (seen_run is_digit) digits_lawful HasFraction (opens_name (is 46) is_digit) scan_with_fraction (seen_name (is 46) is_digit) has_fraction_lawful together

pub literal_lawful : LawfulToken {V = Made} IsLiteral (OpensNumeral Node) scan_literal (seen_numeral Node) no_fault
literal_lawful = lawful_fitting IsPointed (OpensNumeral Node) scan_pointed (seen_numeral Node) no_fault pointed_lawful has_digit no_fault (λ v x y d e. refl) refl

number_lawful : LawfulToken (derives number) (opens number) (scan number) (seen number) (faults number)
number_lawful =
    lawful_fitting IsLiteral (OpensNumeral Node) scan_literal (seen_numeral Node) no_fault literal_lawful is_small (faults number)
    (fitting_firm IsLiteral (OpensNumeral Node) scan_literal (seen_numeral Node) no_fault literal_lawful number_code is_small) refl

-- gaps

pub delimiters : (is_xml_character 40 ≡ true) × (is_xml_character 58 ≡ true)
unfolding is_xml_character
delimiters = (refl, refl)

pub gap_lawful : LawfulToken IsGapHere (OpensGap is_xml_character 0) scan_gap_here (seen_gap is_xml_character 0) no_fault
gap_lawful = lawful_gap is_xml_character delimiters nothing

then_open_lawful : LawfulToken (derives gap_then_open) (opens gap_then_open) (scan gap_then_open) (seen gap_then_open) no_fault
then_open_lawful =
    lawful_joined IsGapHere (OpensGap is_xml_character 0) scan_gap_here (seen_gap is_xml_character 0) gap_lawful IsParenthesis OpensParenthesis scan_parenthesis (seen_word (40 ∷ []))
    (lawful_word nothing (40 ∷ []) no_character) no_value

not_open_lawful : LawfulToken (derives gap_not_open) (opens gap_not_open) (scan gap_not_open) (seen gap_not_open) no_fault
not_open_lawful =
    lawful_joined IsGapHere (OpensGap is_xml_character 0) scan_gap_here (seen_gap is_xml_character 0) gap_lawful _ OpensNothing scan_no_parenthesis (seen_word [])
    (lawful_word nothing [] (is 40)) no_value

then_dollar_lawful : LawfulToken (derives gap_then_dollar) (opens gap_then_dollar) (scan gap_then_dollar) (seen gap_then_dollar) no_fault
then_dollar_lawful =
    lawful_joined IsGapHere (OpensGap is_xml_character 0) scan_gap_here (seen_gap is_xml_character 0) gap_lawful IsDollar OpensDollar scan_dollar (seen_word (36 ∷ []))
    (lawful_word nothing (36 ∷ []) no_character) no_value

then_neither_lawful : LawfulToken (derives gap_then_neither) (opens gap_then_neither) (scan gap_then_neither) (seen gap_then_neither) no_fault
then_neither_lawful =
    lawful_joined IsGapHere (OpensGap is_xml_character 0) scan_gap_here (seen_gap is_xml_character 0) gap_lawful IsNeither OpensNothing scan_neither (seen_word [])
    (lawful_word nothing [] stops_name) no_value

-- the ends of words

fraction_grows : (x z : List ℕ) → starts_fraction x ≡ false → (starts_fraction (x ++ z) ≡ false) ⊎ OpensPoint x
fraction_grows [] z e = inr (46 ∷ [], refl)
fraction_grows (c ∷ []) [] e = inl refl
fraction_grows (c ∷ []) (d ∷ z) e = go (46 == c) refl
  where
    go : (b : Bool) → (46 == c) ≡ b → (starts_fraction (c ∷ d ∷ z) ≡ false) ⊎ OpensPoint (c ∷ [])
    go true f = inr ([], ap (λ a. a ∷ []) (eqb-true 46 c f))
    go false f = inl (ap (λ b. b && is_digit d) f)
fraction_grows (c ∷ d ∷ x) z e = inl e

fraction_stays : (x z : List ℕ) → starts_fraction (x ++ z) ≡ false → starts_fraction x ≡ false
fraction_stays [] z e = refl
fraction_stays (c ∷ []) z e = refl
fraction_stays (c ∷ d ∷ x) z e = e

no_fraction_lawful : LawfulToken (derives (word_end true)) (opens (word_end true)) (scan (word_end true)) (seen (word_end true)) no_fault
no_fraction_lawful =
    lawful_optional Never OpensPoint scan_never (seen_word (46 ∷ [])) (lawful_stop (IsWord nothing (46 ∷ []) no_character) OpensPoint (scan_word nothing (46 ∷ []) no_character) (seen_word (46 ∷ [])) no_fault (lawful_word nothing (46 ∷ []) no_character) no_fault refl) starts_fraction nothing
    (record { begins = λ v x y d. absurd d; stays = fraction_stays; grows = fraction_grows; empty = (46 ∷ [], refl) })

-- constructors

gap_brace_lawful : LawfulToken IsGapBrace OpensGapBrace scan_gap_brace seen_gap_brace no_fault
gap_brace_lawful =
    lawful_joined IsGapHere (OpensGap is_xml_character 0) scan_gap_here (seen_gap is_xml_character 0) gap_lawful IsBrace OpensBrace scan_brace (seen_word (123 ∷ []))
    (lawful_word nothing (123 ∷ []) no_character) no_value

pub constructor_lawful : LawfulToken IsConstructor OpensConstructor scan_constructor seen_constructor no_fault
constructor_lawful = lawful_joined IsQName OpensQName scan_qname seen_qname qname_lawful IsGapBrace OpensGapBrace scan_gap_brace seen_gap_brace gap_brace_lawful front_of_two

-- two words

pub the_word_lawful : (w : Word) → LawfulToken (IsTheWord w) (OpensTheWord w) (scan_the_word w) (seen_word (letters_of w)) no_fault
the_word_lawful w = lawful_word (node (Found w)) (letters_of w) (ends_at (ending_of w))

gap_with_lawful : (ws : WordSet) → LawfulToken (IsGapWith ws) (OpensGapWith ws) (scan_gap_with ws) (seen_gap_with ws) no_fault
gap_with_lawful ws =
    lawful_joined IsGapHere (OpensGap is_xml_character 0) scan_gap_here (seen_gap is_xml_character 0) gap_lawful (IsOneOf (entries (words_of ws))) (OpensOneOf (entries (words_of ws))) (scan_one_of (entries (words_of ws))) (seen_one_of (entries (words_of ws)))
    (lawful_one_of (entries (words_of ws)) (set_apart ws)) second_of_two

leading_lawful : (w : Word) (ws : WordSet) → LawfulToken (derives (leading w ws)) (opens (leading w ws)) (scan (leading w ws)) (seen (leading w ws)) no_fault
leading_lawful w ws =
    lawful_joined (IsTheWord w) (OpensTheWord w) (scan_the_word w) (seen_word (letters_of w)) (the_word_lawful w) (IsGapWith ws) (OpensGapWith ws) (scan_gap_with ws) (seen_gap_with ws) (gap_with_lawful ws) second_of_two

-- indicators

indicator_lawful : LawfulToken IsIndicator OpensIndicator scan_indicator seen_indicator no_fault
indicator_lawful =
    lawful_joined (IsOneOf indicators) (OpensOneOf indicators) (scan_one_of indicators) (seen_one_of indicators) (lawful_one_of indicators refl) IsGapHere (OpensGap is_xml_character 0) scan_gap_here (seen_gap is_xml_character 0) gap_lawful first_of_two

pub indicator_stops : (v : Made) (x y : List ℕ) → IsIndicator v x y → head_passes stops_type x ≡ true
indicator_stops v x y d = go d.begins
  where
    go : IsOneOf indicators d.front x d.between → head_passes stops_type x ≡ true
    go (inl e) = ap (head_passes stops_type) e.spelled
    go (inr (inl e)) = ap (head_passes stops_type) e.spelled
    go (inr (inr (inl e))) = ap (head_passes stops_type) e.spelled
    go (inr (inr (inr e))) = absurd e

indicator_never : (v w : Made) (x y z : List ℕ) → IsIndicator v x y → IsNoIndicator w x z → ⊥
indicator_never v w x y z d e =
    let f = indicator_stops v x y d in
    let g : head_passes stops_type x ≡ false = ap (head_passes stops_type) e.spelled ∙ e.ended in
    absurd (cc (f, g))

indication_lawful : LawfulToken (derives indication) (opens indication) (scan indication) (seen indication) no_fault
indication_lawful =
    lawful_either IsIndicator OpensIndicator scan_indicator seen_indicator indicator_lawful IsNoIndicator OpensNothing scan_no_indicator (seen_word []) (lawful_word nothing [] stops_type) indicator_never

-- what takes characters

abbrev pub is_full : List ℕ → Bool
is_full [] = false
is_full (c ∷ cs) = true

pub word_full : (w : Word) → is_full (letters_of w) ≡ true
word_full word.Comma = refl
word_full word.Open = refl
word_full word.Close = refl
word_full word.Dollar = refl
word_full word.Or = refl
word_full word.And = refl
word_full word.Equal = refl
word_full word.NotEqual = refl
word_full word.Less = refl
word_full word.LessOrEqual = refl
word_full word.Greater = refl
word_full word.GreaterOrEqual = refl
word_full word.Precedes = refl
word_full word.Follows = refl
word_full word.ValueEqual = refl
word_full word.ValueNotEqual = refl
word_full word.ValueLess = refl
word_full word.ValueLessOrEqual = refl
word_full word.ValueGreater = refl
word_full word.ValueGreaterOrEqual = refl
word_full word.Is = refl
word_full word.To = refl
word_full word.Plus = refl
word_full word.Minus = refl
word_full word.Times = refl
word_full word.Divide = refl
word_full word.DivideInteger = refl
word_full word.Modulo = refl
word_full word.Union = refl
word_full word.Bar = refl
word_full word.Intersect = refl
word_full word.Except = refl
word_full word.Slash = refl
word_full word.Slashes = refl
word_full word.Dot = refl
word_full word.Dots = refl
word_full word.Then = refl
word_full word.Else = refl
word_full word.CloseBracket = refl
word_full word.CloseBrace = refl
word_full word.Semicolon = refl
word_full word.Return = refl
word_full word.Satisfies = refl
word_full word.Case = refl
word_full word.Default = refl
word_full word.Order = refl
word_full word.Stable = refl
word_full word.For = refl
word_full word.Let = refl
word_full word.Where = refl
word_full word.Ascending = refl
word_full word.Descending = refl
word_full word.Empty = refl
word_full word.Question = refl
word_full word.Element = refl
word_full word.SchemaElement = refl
word_full word.Instance = refl
word_full word.Of = refl
word_full word.Treat = refl
word_full word.Castable = refl
word_full word.Cast = refl
word_full word.As = refl
word_full word.At = refl
word_full word.Greatest = refl
word_full word.Least = refl
word_full word.Quote = refl
word_full word.Apostrophe = refl
word_full word.QuoteEnd = refl
word_full word.ApostropheEnd = refl
word_full word.TwoQuotes = refl
word_full word.TwoApostrophes = refl
word_full word.LessEntity = refl
word_full word.GreaterEntity = refl
word_full word.AmpersandEntity = refl
word_full word.QuoteEntity = refl
word_full word.ApostropheEntity = refl
word_full word.TagOpen = refl
word_full word.TagEnd = refl
word_full word.EmptyTagEnd = refl
word_full word.EndTagOpen = refl
word_full word.CdataOpen = refl
word_full word.BraceOpen = refl
word_full word.TwoOpenBraces = refl
word_full word.TwoCloseBraces = refl
word_full word.Equals = refl
word_full word.OpenBracket = refl
word_full word.AtSign = refl
word_full word.Colons = refl
word_full word.AnyPrefix = refl
word_full word.AnyName = refl
word_full word.In = refl
word_full word.Assign = refl
word_full word.By = refl
word_full word.XQuery = refl
word_full word.Version = refl
word_full word.DoubleVersion = refl
word_full word.SingleVersion = refl
word_full word.Encoding = refl
word_full word.Declare = refl
word_full word.Namespace = refl
word_full word.BoundarySpace = refl
word_full word.Preserve = refl
word_full word.Strip = refl
word_full word.Construction = refl
word_full word.Ordering = refl
word_full word.Ordered = refl
word_full word.CopyNamespaces = refl
word_full word.NoPreserve = refl
word_full word.NoInherit = refl
word_full word.Import = refl
word_full word.Schema = refl
word_full word.Variable = refl
word_full word.External = refl
word_full word.Function = refl

word_shorter : (ws : List Word) (v : Made) (x y : List ℕ) → IsOneOf (entries ws) v x y → length y < length x
word_shorter [] v x y d = absurd d
word_shorter (w ∷ ws) v x y (inl d) = go (letters_of w) (word_full w) d.spelled
  where
    go : (cs : List ℕ) → is_full cs ≡ true → x ≡ cs ++ y → length y < length x
    go [] f g = absurd (cc)
    go (c ∷ cs) f g = omega (arith, ap length g, length-append cs y)
word_shorter (w ∷ ws) v x y (inr d) = word_shorter ws v x y d

-- no word stands at the end of the text
no_word_fault : (ws : WordSet) → word_fault ws [] ≡ None
no_word_fault ws = go (scan_one_of (entries (words_of ws)) []) refl
  where
    go : (r : Option (Made × List ℕ)) → scan_one_of (entries (words_of ws)) [] ≡ r → word_fault ws [] ≡ None
    go None e = ap (fault_where limit_code) e
    go (Some r) e = absurd (let h = word_shorter (words_of ws) r.0 [] r.1 ((lawful_one_of (entries (words_of ws)) (set_apart ws)).sound r.0 [] r.1 e) in omega (arith, h))

pub token_lawful : (t : Token) → LawfulToken {V = Made} (derives t) (opens t) (scan t) (seen t) (faults t)
token_lawful (one_of ws) = lawful_one_of (entries (words_of ws)) (set_apart ws)
token_lawful qname = qname_lawful
token_lawful number = number_lawful
token_lawful number_end = lawful_word nothing [] is_ncname_start
token_lawful gap = gap_lawful
token_lawful gap_then_open = then_open_lawful
token_lawful gap_not_open = not_open_lawful
token_lawful (barred b) = lawful_barred (barrier_fault b) refl
token_lawful indication = indication_lawful
token_lawful (text_run r) = lawful_name (text_value r) (is_run_character r) (is_run_character r) no_character
token_lawful reference = reference_lawful
token_lawful white = lawful_name no_characters is_white_space is_white_space no_character
token_lawful blank = lawful_run no_characters is_white_space no_character
token_lawful no_attribute = lawful_word nothing [] begins_attribute
token_lawful no_element = lawful_stop (IsOneOf tag_open) (OpensOneOf tag_open) (scan_one_of tag_open) (seen_one_of tag_open) no_fault (lawful_one_of tag_open refl) element_fault refl
token_lawful (tag_name cs) = lawful_word nothing cs is_ncname_character
token_lawful cdata_text = lawful_walk cdata_value cdata_walk 0
token_lawful ncname = ncname_lawful
token_lawful (local_wildcard true) = lawful_word nothing [] no_character
token_lawful (local_wildcard false) = wildcard_lawful
token_lawful gap_then_dollar = then_dollar_lawful
token_lawful gap_then_neither = then_neither_lawful
token_lawful (barred_words ws) =
    lawful_stop (IsOneOf (entries (words_of ws))) (OpensOneOf (entries (words_of ws))) (scan_one_of (entries (words_of ws))) (seen_one_of (entries (words_of ws))) no_fault (lawful_one_of (entries (words_of ws)) (set_apart ws)) (word_fault ws)
    (no_word_fault ws)
token_lawful (leading w ws) = leading_lawful w ws
token_lawful constructor = constructor_lawful
token_lawful no_constructor = no_constructor_lawful constructor_lawful
token_lawful (word_end true) = no_fraction_lawful
token_lawful (word_end false) = lawful_word nothing [] no_character

named_shorter : {value : List ℕ → Made} (first test stop : ℕ → Bool) (v : Made) (x y : List ℕ) → IsNamed value first test stop v x y → length y < length x
named_shorter first test stop v x y d = omega (arith, ap length d.whole, ap length d.others.spelled, length-append d.others.run y)

-- the first character of a literal is a digit or a point

pub record Begins (x y : List ℕ) : Type 0 where
  pub head : ℕ
  pub tail : List ℕ
  pub whole : x ≡ head ∷ tail
  pub passes : begins_number head ≡ true
  pub shorter : length y < length x

pub or_right : (a b : Bool) → b ≡ true → (a || b) ≡ true
or_right true b e = refl
or_right false b e = e

pub or_left : (a b : Bool) → a ≡ true → (a || b) ≡ true
or_left a b e = ap (λ c. c || b) e

pub pointed_begins : (v : Made) (x y : List ℕ) → IsPointed v x y → has_digit v ≡ true → Begins x y
pointed_begins v x y d e = go d.front d.begins.run d.begins.same d.begins.spelled d.begins.passes d.ends
  where
    behind : HasFraction d.back d.between y → length y ≤ length d.between
    behind f = let a = has_fraction_lawful.ends d.back d.between y f in omega (arith, ap length a.1, length-append a.0 y)

    none : (front : Made) → front ≡ characters [] → d.front ≡ front → HasFraction d.back d.between y → x ≡ d.between → Begins x y
    none front f g (inl n) h = record { head = n.head; tail = n.tail; whole = h ∙ n.whole; passes = or_right (is_digit n.head) (is 46 n.head) n.begins; shorter = subst (λ q. length y < length q) (sym h) (named_shorter (is 46) is_digit no_character d.back d.between y n) }
    none front f g (inr n) h =
        let k : has_digit v ≡ false = ap has_digit d.same ∙ ap (λ q. has_digit (together q d.back)) (g ∙ f) ∙ ap (λ q. has_digit (together {Node = Node} (characters []) q)) n.1 in
        absurd (cc (e, k))

    go : (front : Made) (run : List ℕ) → d.front ≡ characters run → x ≡ run ++ d.between → all_pass is_digit run ≡ true → HasFraction d.back d.between y → Begins x y
    go front [] f g h k = none (characters []) refl f k g
    go front (c ∷ run) f g h k =
        let l = behind k in
        record { head = c; tail = run ++ d.between; whole = g; passes = or_left (is_digit c) (is 46 c) (and_parts (is_digit c) (all_pass is_digit run) h).0; shorter = omega (arith, ap length g, length-append run d.between, l) }

gap_behind : (v : Made) (x y : List ℕ) → IsGapHere v x y → length y ≤ length x
gap_behind v x y d = let a = gap_lawful.ends v x y d in omega (arith, ap length a.1, length-append a.0 y)

qname_shorter : (v : Made) (x y : List ℕ) → IsQName v x y → length y < length x
qname_shorter v x y d =
    let n = named_shorter is_ncname_start is_ncname_character no_character d.front x d.between d.begins in
    let a = has_local_lawful.ends d.back d.between y d.ends in
    omega (arith, n, ap length a.1, length-append a.0 y)

pub tokens_taken : (t : Token) (v : Made) (x y : List ℕ) → takes t ≡ true → derives t v x y → length y < length x
tokens_taken (one_of ws) v x y e d = word_shorter (words_of ws) v x y d
tokens_taken qname v x y e d = qname_shorter v x y d
tokens_taken number v x y e d = (pointed_begins v x y d.stands.stands d.stands.fits).shorter
tokens_taken number_end v x y e d = absurd (cc)
tokens_taken gap v x y e d = absurd (cc)
tokens_taken gap_then_open v x y e d = let g = gap_behind d.front x d.between d.begins in omega (arith, g, ap length d.ends.spelled)
tokens_taken gap_not_open v x y e d = absurd (cc)
tokens_taken (barred b) v x y e d = absurd d
tokens_taken indication v x y e d = absurd (cc)
tokens_taken (text_run r) v x y e d = named_shorter (is_run_character r) (is_run_character r) no_character v x y d
tokens_taken reference v x y e (inl d) = word_shorter entity_words d.inner x y d.stands
tokens_taken reference v x y e (inr d) = number_shorter v x y d
tokens_taken white v x y e d = named_shorter is_white_space is_white_space no_character v x y d
tokens_taken blank v x y e d = absurd (cc)
tokens_taken no_attribute v x y e d = absurd (cc)
tokens_taken no_element v x y e d = absurd d
tokens_taken (tag_name cs) v x y e d = absurd (cc)
tokens_taken cdata_text v x y e d = absurd (cc)
tokens_taken ncname v x y e d = named_shorter is_ncname_start is_ncname_character no_character v x y d
tokens_taken (local_wildcard b) v x y e d = absurd (cc)
tokens_taken gap_then_dollar v x y e d = let g = gap_behind d.front x d.between d.begins in omega (arith, g, ap length d.ends.spelled)
tokens_taken gap_then_neither v x y e d = absurd (cc)
tokens_taken (barred_words ws) v x y e d = absurd d
tokens_taken (leading w ws) v x y e d =
    let j = d.ends in
    omega (arith, word_shorter (w ∷ []) d.front x d.between (inl d.begins), gap_behind j.front d.between j.between j.begins, word_shorter (words_of ws) j.back j.between y j.ends)
tokens_taken constructor v x y e d =
    let j = d.ends in
    let n = qname_shorter d.front x d.between d.begins in
    let g = gap_behind j.front d.between j.between j.begins in
    omega (arith, n, g, ap length j.ends.spelled)
tokens_taken no_constructor v x y e d = absurd (cc)
tokens_taken (word_end b) v x y e d = absurd (cc)
