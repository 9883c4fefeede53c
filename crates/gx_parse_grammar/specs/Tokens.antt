-- The tokens of the query language.
use Rattle.std.specs.Prelude.{ℕ, ◌+◌, ◌-◌, min, not, take, List, [], ◌∷◌, ◌==◌, ◌||◌, ◌&&◌, Bool, true, false, if◌then◌else◌, Option, Some, None, is_some, length}
use Rattle.gx_base.specs.WhiteSpace.{is_white_space}
use Rattle.gx_grammar.specs.Value.{nothing, characters, node, pair}
use Rattle.gx_grammar.specs.First.{head_passes}
use Rattle.gx_grammar.specs.Tokens.{IsWord, IsNamed, IsRun, IsFrontOf, scan_word, seen_word, scan_name, opens_name, seen_name, scan_run, opens_run, seen_run, no_fault}
use Rattle.gx_grammar.specs.Walks.{Walk, IsWalk, scan_walk, opens_walk, seen_walk}
use Rattle.gx_grammar.specs.Gaps.{IsGap, OpensGap, scan_gap, seen_gap}
use Rattle.gx_grammar.specs.Words.{Entry, IsOneOf, OpensOneOf, scan_one_of, seen_one_of, spellings}
use Rattle.gx_grammar.specs.Joined.{AreJoined, OpensJoined, scan_joined, seen_joined, IsOptional, scan_optional}
use Rattle.gx_grammar.specs.Either.{IsEither, OpensEither, scan_either, seen_either, IsMapped, scan_mapped}
use Rattle.gx_grammar.specs.Fitting.{Never, scan_never, IsEmpty, fault_of, fault_where}
use Rattle.gx_grammar.specs.Apart.{Shape, spelled, headed, shapeless, is, word_begins}
use Rattle.gx_parse_grammar.specs.declared.word.Barrier.TheVariants as barrier
use Rattle.gx_parse_grammar.specs.declared.word.Word.{Word}
use Rattle.gx_parse_grammar.specs.declared.word.Word.TheVariants as word
use Rattle.gx_parse_grammar.specs.declared.runs.Run.{Run}
use Rattle.gx_parse_grammar.specs.declared.runs.Run.TheVariants as run
use Rattle.gx_parse_grammar.specs.declared.runs.Radix.TheVariants as radix
use Rattle.gx_parse_grammar.specs.declared.word.Barrier.{Barrier}
use Rattle.gx_parse_grammar.specs.declared.word.WordSet.{WordSet}
use Rattle.gx_parse_grammar.specs.declared.word.WordSet.TheVariants as set
use Rattle.gx_base.specs.NameCharacters.{is_ncname_start, is_ncname_character, is_xml_character}
use Rattle.gx_parse_grammar.specs.Characters.{is_digit, no_character}
use Rattle.gx_parse_grammar.specs.Words.{letters_of, ends_at, ending_of, spelling_of, words_of}
use Rattle.gx_parse_grammar.specs.Nodes.{Node, Found, Made}
use Rattle.gx_parse_grammar.specs.References.{is_run_character, text_value, IsNumeric, OpensNumeric, scan_numeric, seen_numeric, closes}
use Rattle.gx_parse_grammar.specs.Numeral.{IsNumeral, OpensNumeral, scan_literal, scan_numeral, seen_numeral, is_small}

pub data Token : Type 0 where
  -- one of the words
  one_of : WordSet → Token
  -- a QName
  qname : Token
  -- a numeric literal
  number : Token
  -- no characters, behind which no name begins
  number_end : Token
  -- white space and comments
  gap : Token
  -- white space and comments with a `(` behind them, or without one
  gap_then_open : Token
  gap_not_open : Token
  -- a token that may not stand
  barred : Barrier → Token
  -- `?`, `*` or `+` with the gap behind it, or nothing where none of them and no `(` stands
  indication : Token
  -- literal text
  text_run : Run → Token
  -- a reference to a character
  reference : Token
  -- white space, of at least one character, or of any number
  white : Token
  blank : Token
  -- no characters, behind which neither a name begins nor white space stands
  no_attribute : Token
  -- a `<` and the start of a name, which may not stand
  no_element : Token
  -- the name of an end tag
  tag_name : List ℕ → Token
  -- the characters of a CDATA section, with the two `]` behind them
  cdata_text : Token
  -- an NCName
  ncname : Token
  -- `:*`, or no characters where it does not stand; behind a prefix and a colon no characters alone
  local_wildcard : Bool → Token
  -- white space and comments with a `$` behind them, or with neither `$` nor `(`
  gap_then_dollar : Token
  gap_then_neither : Token
  -- one of the words, which may not stand
  barred_words : WordSet → Token
  -- a word, white space and comments, and one of the words
  leading : Word → WordSet → Token
  -- a QName, white space and comments, and a `{`
  constructor : Token
  -- no characters, where that does not stand, nor a name with a `-` or a `.`, which is no keyword
  no_constructor : Token
  -- the end of a word, which has no characters; behind a keyword no `.` with a digit stands
  word_end : Bool → Token

abbrev pub entry_of : Word → Entry Made
entry_of w = record { spelling = spelling_of w; value = node (Found w) }

abbrev pub entries : List Word → List (Entry Made)
entries [] = []
entries (w ∷ ws) = entry_of w ∷ entries ws

-- names

abbrev pub IsNCName : Made → List ℕ → List ℕ → Type 0
IsNCName = IsNamed characters is_ncname_start is_ncname_character no_character

abbrev pub scan_ncname : List ℕ → Option (Made × List ℕ)
scan_ncname x = scan_name characters is_ncname_start is_ncname_character no_character x

-- a colon and an NCName, whose value is that of the name
abbrev pub behind_colon : Made → Made → Made
behind_colon colon name = name

abbrev pub IsColon : Made → List ℕ → List ℕ → Type 0
IsColon = IsWord nothing (58 ∷ []) no_character

abbrev pub scan_colon : List ℕ → Option (Made × List ℕ)
scan_colon x = scan_word nothing (58 ∷ []) no_character x

abbrev pub OpensColon : List ℕ → Type 0
OpensColon x = IsFrontOf x (58 ∷ [])

abbrev pub IsLocalPart : Made → List ℕ → List ℕ → Type 0
IsLocalPart = AreJoined IsColon IsNCName behind_colon

abbrev pub OpensLocalPart : List ℕ → Type 0
OpensLocalPart = OpensJoined IsColon OpensColon (opens_name is_ncname_start is_ncname_character)

abbrev pub scan_local_part : List ℕ → Option (Made × List ℕ)
scan_local_part x = scan_joined scan_colon scan_ncname behind_colon x

abbrev pub seen_local_part : List ℕ → ℕ
seen_local_part x = seen_joined scan_colon (seen_word (58 ∷ [])) (seen_name is_ncname_start is_ncname_character) x

-- a colon with the start of a name stands at the front
abbrev pub starts_local_part : List ℕ → Bool
starts_local_part [] = false
starts_local_part (c ∷ []) = false
starts_local_part (c ∷ d ∷ x) = (58 == c) && is_ncname_start d

abbrev pub HasLocalPart : Made → List ℕ → List ℕ → Type 0
HasLocalPart = IsOptional IsLocalPart starts_local_part nothing

abbrev pub scan_has_local_part : List ℕ → Option (Made × List ℕ)
scan_has_local_part x = scan_optional scan_local_part starts_local_part nothing x

-- `:*`
abbrev pub wildcard_letters : List ℕ
wildcard_letters = 58 ∷ 42 ∷ []

abbrev pub IsLocalWildcard : Made → List ℕ → List ℕ → Type 0
IsLocalWildcard = IsWord (characters wildcard_letters) wildcard_letters no_character

abbrev pub scan_local_wildcard : List ℕ → Option (Made × List ℕ)
scan_local_wildcard x = scan_word (characters wildcard_letters) wildcard_letters no_character x

abbrev pub starts_local_wildcard : List ℕ → Bool
starts_local_wildcard [] = false
starts_local_wildcard (c ∷ []) = false
starts_local_wildcard (c ∷ d ∷ x) = (58 == c) && (42 == d)

abbrev pub IsQName : Made → List ℕ → List ℕ → Type 0
IsQName = AreJoined IsNCName HasLocalPart pair

abbrev pub OpensQName : List ℕ → Type 0
OpensQName = OpensJoined IsNCName (opens_name is_ncname_start is_ncname_character) OpensLocalPart

abbrev pub scan_qname : List ℕ → Option (Made × List ℕ)
scan_qname x = scan_joined scan_ncname scan_has_local_part pair x

abbrev pub seen_qname : List ℕ → ℕ
seen_qname x = seen_joined scan_ncname (seen_name is_ncname_start is_ncname_character) seen_local_part x

-- gaps with what stands behind them

abbrev pub no_value : Made → Made → Made
no_value a b = nothing

abbrev pub IsGapHere : Made → List ℕ → List ℕ → Type 0
IsGapHere = IsGap is_xml_character nothing

abbrev pub scan_gap_here : List ℕ → Option (Made × List ℕ)
scan_gap_here x = scan_gap is_xml_character nothing x

abbrev pub IsParenthesis : Made → List ℕ → List ℕ → Type 0
IsParenthesis = IsWord nothing (40 ∷ []) no_character

abbrev pub scan_parenthesis : List ℕ → Option (Made × List ℕ)
scan_parenthesis x = scan_word nothing (40 ∷ []) no_character x

abbrev pub OpensParenthesis : List ℕ → Type 0
OpensParenthesis x = IsFrontOf x (40 ∷ [])

-- no characters, behind which no `(` stands
abbrev pub IsNoParenthesis : Made → List ℕ → List ℕ → Type 0
IsNoParenthesis = IsWord nothing [] (is 40)

abbrev pub scan_no_parenthesis : List ℕ → Option (Made × List ℕ)
scan_no_parenthesis x = scan_word nothing [] (is 40) x

abbrev pub OpensNothing : List ℕ → Type 0
OpensNothing x = IsFrontOf x []

abbrev pub IsDollar : Made → List ℕ → List ℕ → Type 0
IsDollar = IsWord nothing (36 ∷ []) no_character

abbrev pub scan_dollar : List ℕ → Option (Made × List ℕ)
scan_dollar x = scan_word nothing (36 ∷ []) no_character x

abbrev pub OpensDollar : List ℕ → Type 0
OpensDollar x = IsFrontOf x (36 ∷ [])

-- the characters before which a keyword that stands for a name does not end
abbrev pub stops_name : ℕ → Bool
stops_name c = is 36 c || is 40 c

abbrev pub IsNeither : Made → List ℕ → List ℕ → Type 0
IsNeither = IsWord nothing [] stops_name

abbrev pub scan_neither : List ℕ → Option (Made × List ℕ)
scan_neither x = scan_word nothing [] stops_name x

-- constructors

abbrev pub IsBrace : Made → List ℕ → List ℕ → Type 0
IsBrace = IsWord nothing (123 ∷ []) no_character

abbrev pub scan_brace : List ℕ → Option (Made × List ℕ)
scan_brace x = scan_word nothing (123 ∷ []) no_character x

abbrev pub OpensBrace : List ℕ → Type 0
OpensBrace x = IsFrontOf x (123 ∷ [])

abbrev pub IsGapBrace : Made → List ℕ → List ℕ → Type 0
IsGapBrace = AreJoined IsGapHere IsBrace no_value

abbrev pub OpensGapBrace : List ℕ → Type 0
OpensGapBrace = OpensJoined IsGapHere (OpensGap is_xml_character 0) OpensBrace

abbrev pub scan_gap_brace : List ℕ → Option (Made × List ℕ)
scan_gap_brace x = scan_joined scan_gap_here scan_brace no_value x

abbrev pub seen_gap_brace : List ℕ → ℕ
seen_gap_brace x = seen_joined scan_gap_here (seen_gap is_xml_character 0) (seen_word (123 ∷ [])) x

abbrev pub front_of_two : Made → Made → Made
front_of_two a b = a

abbrev pub IsConstructor : Made → List ℕ → List ℕ → Type 0
IsConstructor = AreJoined IsQName IsGapBrace front_of_two

abbrev pub OpensConstructor : List ℕ → Type 0
OpensConstructor = OpensJoined IsQName OpensQName OpensGapBrace

abbrev pub scan_constructor : List ℕ → Option (Made × List ℕ)
scan_constructor x = scan_joined scan_qname scan_gap_brace front_of_two x

abbrev pub seen_constructor : List ℕ → ℕ
seen_constructor x = seen_joined scan_qname seen_qname seen_gap_brace x

-- `-` or `.`
abbrev pub joins_words : ℕ → Bool
joins_words c = c == 45 || c == 46

-- one of the characters of a name is `-` or `.`
abbrev pub has_join : List ℕ → Bool
has_join [] = false
has_join (c ∷ x) = is_ncname_character c && (joins_words c || has_join x)

-- a name with `-` or `.` stands at the front
abbrev pub begins_no_word : List ℕ → Bool
begins_no_word x = head_passes is_ncname_start x && has_join x

abbrev pub starts_constructor : List ℕ → Bool
starts_constructor x = is_some (scan_constructor x) || begins_no_word x

abbrev pub NoConstructor : Made → List ℕ → List ℕ → Type 0
NoConstructor = IsOptional Never starts_constructor nothing

-- keywords

-- a `.` with a digit behind it stands at the front
abbrev pub starts_fraction : List ℕ → Bool
starts_fraction [] = false
starts_fraction (c ∷ []) = false
starts_fraction (c ∷ d ∷ x) = (46 == c) && is_digit d

abbrev pub NoFraction : Made → List ℕ → List ℕ → Type 0
NoFraction = IsOptional Never starts_fraction nothing

abbrev pub OpensPoint : List ℕ → Type 0
OpensPoint x = IsFrontOf x (46 ∷ [])

-- two words

abbrev pub second_of_two : Made → Made → Made
second_of_two a b = b

abbrev pub IsGapWith : WordSet → Made → List ℕ → List ℕ → Type 0
IsGapWith ws = AreJoined IsGapHere (IsOneOf (entries (words_of ws))) second_of_two

abbrev pub OpensGapWith : WordSet → List ℕ → Type 0
OpensGapWith ws = OpensJoined IsGapHere (OpensGap is_xml_character 0) (OpensOneOf (entries (words_of ws)))

abbrev pub scan_gap_with : WordSet → List ℕ → Option (Made × List ℕ)
scan_gap_with ws x = scan_joined scan_gap_here (scan_one_of (entries (words_of ws))) second_of_two x

abbrev pub seen_gap_with : WordSet → List ℕ → ℕ
seen_gap_with ws x = seen_joined scan_gap_here (seen_gap is_xml_character 0) (seen_one_of (entries (words_of ws))) x

abbrev pub IsTheWord : Word → Made → List ℕ → List ℕ → Type 0
IsTheWord w = IsWord (node (Found w)) (letters_of w) (ends_at (ending_of w))

abbrev pub OpensTheWord : Word → List ℕ → Type 0
OpensTheWord w x = IsFrontOf x (letters_of w)

abbrev pub scan_the_word : Word → List ℕ → Option (Made × List ℕ)
scan_the_word w x = scan_word (node (Found w)) (letters_of w) (ends_at (ending_of w)) x

-- the first character is that of the word
abbrev pub begins_word : Word → ℕ → Bool
begins_word w c = word_begins (is c) true (letters_of w)

-- indicators

abbrev pub indicators : List (Entry Made)
indicators = entries (words_of set.Indicators)

abbrev pub first_of_two : Made → Made → Made
first_of_two a b = a

-- an indicator with the gap behind it
abbrev pub IsIndicator : Made → List ℕ → List ℕ → Type 0
IsIndicator = AreJoined (IsOneOf indicators) IsGapHere first_of_two

abbrev pub OpensIndicator : List ℕ → Type 0
OpensIndicator = OpensJoined (IsOneOf indicators) (OpensOneOf indicators) (OpensGap is_xml_character 0)

abbrev pub scan_indicator : List ℕ → Option (Made × List ℕ)
scan_indicator x = scan_joined (scan_one_of indicators) scan_gap_here first_of_two x

abbrev pub seen_indicator : List ℕ → ℕ
seen_indicator x = seen_joined (scan_one_of indicators) (seen_one_of indicators) (seen_gap is_xml_character 0) x

-- the characters before which an item type without an indicator does not end
abbrev pub stops_type : ℕ → Bool
stops_type c = c == 63 || (c == 42 || (c == 43 || c == 40))

abbrev pub IsNoIndicator : Made → List ℕ → List ℕ → Type 0
IsNoIndicator = IsWord nothing [] stops_type

abbrev pub scan_no_indicator : List ℕ → Option (Made × List ℕ)
scan_no_indicator x = scan_word nothing [] stops_type x

-- references

abbrev pub entity_words : List Word
entity_words = word.LessEntity ∷ word.GreaterEntity ∷ word.AmpersandEntity ∷ word.QuoteEntity ∷ word.ApostropheEntity ∷ []

-- the character that an entity stands for (XML 1.0, section 4.6)
abbrev pub entity_value : Made → Made
entity_value (node (Found word.LessEntity)) = characters (60 ∷ [])
entity_value (node (Found word.GreaterEntity)) = characters (62 ∷ [])
entity_value (node (Found word.AmpersandEntity)) = characters (38 ∷ [])
entity_value (node (Found word.QuoteEntity)) = characters (34 ∷ [])
entity_value _ = characters (39 ∷ [])

abbrev pub IsEntityWord : Made → List ℕ → List ℕ → Type 0
IsEntityWord = IsOneOf (entries entity_words)

abbrev pub IsEntity : Made → List ℕ → List ℕ → Type 0
IsEntity = IsMapped IsEntityWord entity_value

abbrev pub OpensEntity : List ℕ → Type 0
OpensEntity = OpensOneOf (entries entity_words)

abbrev pub scan_entity : List ℕ → Option (Made × List ℕ)
scan_entity x = scan_mapped (scan_one_of (entries entity_words)) entity_value x

abbrev pub seen_entity : List ℕ → ℕ
seen_entity x = seen_one_of (entries entity_words) x

-- by number
abbrev pub IsByNumber : Made → List ℕ → List ℕ → Type 0
IsByNumber = IsEither (IsNumeric radix.Decimal) (IsNumeric radix.Hexadecimal)

abbrev pub OpensByNumber : List ℕ → Type 0
OpensByNumber = OpensEither (OpensNumeric radix.Decimal) (OpensNumeric radix.Hexadecimal)

abbrev pub scan_by_number : List ℕ → Option (Made × List ℕ)
scan_by_number x = scan_either (scan_numeric radix.Decimal) (scan_numeric radix.Hexadecimal) x

abbrev pub seen_by_number : List ℕ → ℕ
seen_by_number x = seen_either (seen_numeric radix.Decimal) (seen_numeric radix.Hexadecimal) x

-- by the name of an entity, or by number
abbrev pub IsReference : Made → List ℕ → List ℕ → Type 0
IsReference = IsEither IsEntity IsByNumber

abbrev pub OpensReference : List ℕ → Type 0
OpensReference = OpensEither OpensEntity OpensByNumber

abbrev pub scan_reference : List ℕ → Option (Made × List ℕ)
scan_reference x = scan_either scan_entity scan_by_number x

abbrev pub seen_reference : List ℕ → ℕ
seen_reference x = seen_either seen_entity seen_by_number x

-- direct constructors

abbrev pub no_characters : List ℕ → Made
no_characters cs = nothing

abbrev pub begins_attribute : ℕ → Bool
begins_attribute c = is_ncname_start c || is_white_space c

-- its characters without the two `]`
abbrev pub cdata_value : List ℕ → Made
cdata_value cs = text_value run.Content (take (length cs - 2) cs)

-- Counts the `]` in front, up to two, and ends before a `>` behind two (XML 1.0, section 2.7).
abbrev pub cdata_walk : Walk
cdata_walk = record { goes = λ n c. not ((n == 2) && (c == 62)) && is_xml_character c; next = λ n c. if c == 93 then (min 2 (n + 1)) else 0 }

-- limits

-- the first characters of expressions, of steps, and of signs
abbrev pub begins_step : ℕ → Bool
begins_step c = is_ncname_start c || (is_digit c || (c == 46 || (c == 36 || (c == 40 || (c == 34 || (c == 39 || (c == 64 || (c == 42 || c == 60))))))))

abbrev pub begins_sign : ℕ → Bool
begins_sign c = c == 43 || c == 45

abbrev pub begins_at : Barrier → ℕ → Bool
begins_at barrier.Single = λ c. begins_step c || begins_sign c
begins_at barrier.Step = begins_step
begins_at barrier.Sign = begins_sign
begins_at barrier.Predicate = λ c. c == 91

-- the codes of the faults: a limit of nesting or of a chain, a number that is too large or too precise, and a reference to
-- no character
abbrev pub limit_code : ℕ
limit_code = 2

abbrev pub number_code : ℕ
number_code = 3

abbrev pub reference_code : ℕ
reference_code = 4

abbrev pub word_fault : WordSet → List ℕ → Option ℕ
word_fault ws x = fault_where limit_code (scan_one_of (entries (words_of ws)) x)

abbrev pub barrier_fault : Barrier → List ℕ → Option ℕ
barrier_fault b x = if head_passes (begins_at b) x then (Some limit_code) else None

abbrev pub tag_open : List (Entry Made)
tag_open = entries (word.TagOpen ∷ [])

-- a `<` with the start of a name stands at the front
abbrev pub starts_element : List ℕ → Bool
starts_element [] = false
starts_element (c ∷ []) = false
starts_element (c ∷ d ∷ x) = (c == 60) && is_ncname_start d

abbrev pub element_fault : List ℕ → Option ℕ
element_fault x = if starts_element x then (Some limit_code) else None

-- A reference is written there and names no Char.
abbrev pub reference_fault : List ℕ → Option ℕ
reference_fault x = if is_some (scan_reference x) then None else (if closes radix.Decimal x || closes radix.Hexadecimal x then (Some reference_code) else None)

-- all tokens

abbrev pub derives : Token → Made → List ℕ → List ℕ → Type 0
derives (one_of ws) = IsOneOf (entries (words_of ws))
derives qname = IsQName
derives number = IsNumeral
derives number_end = IsWord nothing [] is_ncname_start
derives gap = IsGapHere
derives gap_then_open = AreJoined IsGapHere IsParenthesis no_value
derives gap_not_open = AreJoined IsGapHere IsNoParenthesis no_value
derives (barred b) = Never
derives indication = IsEither IsIndicator IsNoIndicator
derives (text_run r) = IsNamed (text_value r) (is_run_character r) (is_run_character r) no_character
derives reference = IsReference
derives white = IsNamed no_characters is_white_space is_white_space no_character
derives blank = IsRun no_characters is_white_space no_character
derives no_attribute = IsWord nothing [] begins_attribute
derives no_element = Never
derives (tag_name cs) = IsWord nothing cs is_ncname_character
derives cdata_text = IsWalk cdata_value cdata_walk 0
derives ncname = IsNCName
derives (local_wildcard true) = IsWord nothing [] no_character
derives (local_wildcard false) = IsOptional IsLocalWildcard starts_local_wildcard nothing
derives gap_then_dollar = AreJoined IsGapHere IsDollar no_value
derives gap_then_neither = AreJoined IsGapHere IsNeither no_value
derives (barred_words ws) = Never
derives (leading w ws) = AreJoined (IsTheWord w) (IsGapWith ws) second_of_two
derives constructor = IsConstructor
derives no_constructor = NoConstructor
derives (word_end true) = NoFraction
derives (word_end false) = IsWord nothing [] no_character

abbrev pub opens : Token → List ℕ → Type 0
opens (one_of ws) = OpensOneOf (entries (words_of ws))
opens qname = OpensQName
opens number = OpensNumeral Node
opens number_end = OpensNothing
opens gap = OpensGap is_xml_character 0
opens gap_then_open = OpensJoined IsGapHere (OpensGap is_xml_character 0) OpensParenthesis
opens gap_not_open = OpensJoined IsGapHere (OpensGap is_xml_character 0) OpensNothing
opens (barred b) = IsEmpty
opens indication = OpensEither OpensIndicator OpensNothing
opens (text_run r) = opens_name (is_run_character r) (is_run_character r)
opens reference = OpensReference
opens white = opens_name is_white_space is_white_space
opens blank = opens_run is_white_space
opens no_attribute = OpensNothing
opens no_element = OpensOneOf tag_open
opens (tag_name cs) = λ x. IsFrontOf x cs
opens cdata_text = opens_walk cdata_walk 0
opens ncname = opens_name is_ncname_start is_ncname_character
opens (local_wildcard true) = OpensNothing
opens (local_wildcard false) = λ x. IsFrontOf x wildcard_letters
opens gap_then_dollar = OpensJoined IsGapHere (OpensGap is_xml_character 0) OpensDollar
opens gap_then_neither = OpensJoined IsGapHere (OpensGap is_xml_character 0) OpensNothing
opens (barred_words ws) = OpensOneOf (entries (words_of ws))
opens (leading w ws) = OpensJoined (IsTheWord w) (OpensTheWord w) (OpensGapWith ws)
opens constructor = OpensConstructor
opens no_constructor = OpensConstructor
opens (word_end true) = OpensPoint
opens (word_end false) = OpensNothing

abbrev pub scan : Token → List ℕ → Option (Made × List ℕ)
scan (one_of ws) = scan_one_of (entries (words_of ws))
scan qname = scan_qname
scan number = scan_numeral
scan number_end = scan_word nothing [] is_ncname_start
scan gap = scan_gap_here
scan gap_then_open = scan_joined scan_gap_here scan_parenthesis no_value
scan gap_not_open = scan_joined scan_gap_here scan_no_parenthesis no_value
scan (barred b) = scan_never
scan indication = scan_either scan_indicator scan_no_indicator
scan (text_run r) = scan_name (text_value r) (is_run_character r) (is_run_character r) no_character
scan reference = scan_reference
scan white = scan_name no_characters is_white_space is_white_space no_character
scan blank = scan_run no_characters is_white_space no_character
scan no_attribute = scan_word nothing [] begins_attribute
scan no_element = scan_never
scan (tag_name cs) = scan_word nothing cs is_ncname_character
scan cdata_text = scan_walk cdata_value cdata_walk 0
scan ncname = scan_ncname
scan (local_wildcard true) = scan_word nothing [] no_character
scan (local_wildcard false) = scan_optional scan_local_wildcard starts_local_wildcard nothing
scan gap_then_dollar = scan_joined scan_gap_here scan_dollar no_value
scan gap_then_neither = scan_joined scan_gap_here scan_neither no_value
scan (barred_words ws) = scan_never
scan (leading w ws) = scan_joined (scan_the_word w) (scan_gap_with ws) second_of_two
scan constructor = scan_constructor
scan no_constructor = scan_optional scan_never starts_constructor nothing
scan (word_end true) = scan_optional scan_never starts_fraction nothing
scan (word_end false) = scan_word nothing [] no_character

abbrev pub seen : Token → List ℕ → ℕ
seen (one_of ws) = seen_one_of (entries (words_of ws))
seen qname = seen_qname
seen number = seen_numeral Node
seen number_end = seen_word []
seen gap = seen_gap is_xml_character 0
seen gap_then_open = seen_joined scan_gap_here (seen_gap is_xml_character 0) (seen_word (40 ∷ []))
seen gap_not_open = seen_joined scan_gap_here (seen_gap is_xml_character 0) (seen_word [])
seen (barred b) = length
seen indication = seen_either seen_indicator (seen_word [])
seen (text_run r) = seen_name (is_run_character r) (is_run_character r)
seen reference = seen_reference
seen white = seen_name is_white_space is_white_space
seen blank = seen_run is_white_space
seen no_attribute = seen_word []
seen no_element = seen_one_of tag_open
seen (tag_name cs) = seen_word cs
seen cdata_text = seen_walk cdata_walk 0
seen ncname = seen_name is_ncname_start is_ncname_character
seen (local_wildcard true) = seen_word []
seen (local_wildcard false) = seen_word wildcard_letters
seen gap_then_dollar = seen_joined scan_gap_here (seen_gap is_xml_character 0) (seen_word (36 ∷ []))
seen gap_then_neither = seen_joined scan_gap_here (seen_gap is_xml_character 0) (seen_word [])
seen (barred_words ws) = seen_one_of (entries (words_of ws))
seen (leading w ws) = seen_joined (scan_the_word w) (seen_word (letters_of w)) (seen_gap_with ws)
seen constructor = seen_constructor
seen no_constructor = seen_constructor
seen (word_end true) = seen_word (46 ∷ [])
seen (word_end false) = seen_word []

abbrev pub faults : Token → List ℕ → Option ℕ
faults number = λ x. fault_of {V = Made} number_code is_small (scan_literal x)
faults (barred b) = barrier_fault b
faults reference = reference_fault
faults (barred_words ws) = word_fault ws
faults no_element = element_fault
faults _ = no_fault

-- a token that never stands for the empty text
abbrev pub takes : Token → Bool
takes number_end = false
takes gap = false
takes gap_not_open = false
takes indication = false
takes blank = false
takes no_attribute = false
takes (tag_name cs) = false
takes cdata_text = false
takes gap_then_neither = false
takes (local_wildcard b) = false
takes no_constructor = false
takes (word_end b) = false
takes _ = true

-- the characters that begin a gap with a `(` behind it
abbrev pub begins_gap : ℕ → Bool
begins_gap c = is_white_space c || is 40 c

-- the characters that begin a gap with a `$` behind it
abbrev pub begins_dollar : ℕ → Bool
begins_dollar c = is_white_space c || (is 40 c || is 36 c)

abbrev pub begins_number : ℕ → Bool
begins_number c = is_digit c || is 46 c

-- how the tokens look
abbrev pub shape_of_token : Token → Shape
shape_of_token (one_of ws) = spelled (spellings (entries (words_of ws)))
shape_of_token qname = headed is_ncname_start
shape_of_token number = headed begins_number
shape_of_token number_end = shapeless
shape_of_token gap = shapeless
shape_of_token gap_then_open = headed begins_gap
shape_of_token gap_not_open = shapeless
shape_of_token (barred b) = headed (begins_at b)
shape_of_token indication = shapeless
shape_of_token (text_run r) = headed (is_run_character r)
shape_of_token reference = headed (is 38)
shape_of_token white = headed is_white_space
shape_of_token blank = shapeless
shape_of_token no_attribute = shapeless
shape_of_token no_element = spelled (spellings tag_open)
shape_of_token (tag_name cs) = shapeless
shape_of_token cdata_text = shapeless
shape_of_token ncname = headed is_ncname_start
shape_of_token (local_wildcard b) = shapeless
shape_of_token gap_then_dollar = headed begins_dollar
shape_of_token gap_then_neither = shapeless
shape_of_token (barred_words ws) = spelled (spellings (entries (words_of ws)))
shape_of_token (leading w ws) = headed (begins_word w)
shape_of_token constructor = headed is_ncname_start
shape_of_token no_constructor = shapeless
shape_of_token (word_end b) = shapeless

-- the words that begin a declaration
abbrev pub version_words : Token
version_words = leading word.XQuery (set.Only word.Version)

abbrev pub setter_words : Token
setter_words = leading word.Declare set.Setters

abbrev pub import_words : Token
import_words = leading word.Import (set.Only word.Schema)

abbrev pub definer_words : Token
definer_words = leading word.Declare set.Definers

abbrev pub declaration_words : List Token
declaration_words = version_words ∷ setter_words ∷ import_words ∷ definer_words ∷ []
