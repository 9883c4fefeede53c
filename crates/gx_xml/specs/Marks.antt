-- The words between which a document chooses, and what they say.
use Rattle.std.specs.Prelude.{ℕ, ◌==◌, ◌||◌, Bool, true, false, if◌then◌else◌, List, [], ◌∷◌, ◌++◌, codes}
use Rattle.gx_grammar.specs.Words.{Entry}
use Rattle.gx_xml.specs.declared.runs.Quote.TheVariants as quote
use Rattle.gx_xml.specs.declared.runs.Base.TheVariants as base
use Rattle.gx_xml.specs.declared.marks.Choice.{Choice}
use Rattle.gx_xml.specs.declared.marks.Choice.TheVariants as choice_of
use Rattle.gx_xml.specs.declared.marks.Maybe.{Maybe}
use Rattle.gx_xml.specs.declared.marks.Maybe.TheVariants as maybe
use Rattle.gx_xml.specs.declared.marks.Mark.{Mark}
use Rattle.gx_xml.specs.declared.marks.Mark.TheVariants as mark
use Rattle.gx_xml.specs.Runs.{quote_character}
use Rattle.gx_xml.specs.Nodes.{Made, mark_value}

abbrev pub no_character : ℕ → Bool
no_character c = false

-- the character tells other markup from a start tag
abbrev pub begins_markup : ℕ → Bool
begins_markup c = (c == 33) || ((c == 47) || (c == 63))

abbrev pub mark_word : List ℕ → Mark → Entry Made
mark_word w m = record { spelling = record { word = w; test = no_character }; value = mark_value m }

-- a `<` that begins a start tag
abbrev pub start_of_tag : Entry Made
start_of_tag = record { spelling = record { word = 60 ∷ []; test = begins_markup }; value = mark_value mark.StartTag }

-- a number sign behind which no `x` stands
abbrev pub decimal_sign : Entry Made
decimal_sign = record { spelling = record { word = 35 ∷ []; test = λ c. c == 120 }; value = mark_value (mark.Numeral base.Decimal) }

abbrev pub number_signs : List (Entry Made)
number_signs = mark_word (codes "#x") (mark.Numeral base.Hexadecimal) ∷ decimal_sign ∷ []

abbrev pub only_if : Bool → Entry Made → List (Entry Made)
only_if b e = if b then (e ∷ []) else []

-- the entities that are known (XML 1.0, section 4.6), behind `&`
unfoldable pub named_entities : List (Entry Made)
named_entities =
    mark_word (codes "lt;") (mark.Character 60) ∷ mark_word (codes "gt;") (mark.Character 62) ∷ mark_word (codes "amp;") (mark.Character 38)
    ∷ mark_word (codes "apos;") (mark.Character 39) ∷ mark_word (codes "quot;") (mark.Character 34) ∷ []

unfoldable pub choice_words : Choice → List (Entry Made)
choice_words choice_of.DeclarationStart =
    mark_word (codes "<?xml" ++ 32 ∷ []) mark.Declaration ∷ mark_word (codes "<?xml" ++ 9 ∷ []) mark.Declaration ∷ mark_word (codes "<?xml" ++ 10 ∷ []) mark.Declaration ∷ mark_word (codes "<?xml" ++ 13 ∷ []) mark.Declaration ∷ []
choice_words (choice_of.Declaration false encoding) = mark_word (codes "?>") mark.Only ∷ []
choice_words (choice_of.Declaration true false) = mark_word (codes "?>") mark.Only ∷ mark_word (codes "standalone") mark.Standalone ∷ []
choice_words (choice_of.Declaration true true) = mark_word (codes "?>") mark.Only ∷ mark_word (codes "standalone") mark.Standalone ∷ mark_word (codes "encoding") mark.Encoding ∷ []
choice_words choice_of.Quote = mark_word (34 ∷ []) (mark.Quote quote.Double) ∷ mark_word (39 ∷ []) (mark.Quote quote.Single) ∷ []
choice_words choice_of.Encoding =
    mark_word (codes "UTF-8") mark.Only ∷ mark_word (codes "UTf-8") mark.Only ∷ mark_word (codes "UtF-8") mark.Only ∷ mark_word (codes "Utf-8") mark.Only
    ∷ mark_word (codes "uTF-8") mark.Only ∷ mark_word (codes "uTf-8") mark.Only ∷ mark_word (codes "utF-8") mark.Only ∷ mark_word (codes "utf-8") mark.Only ∷ []
choice_words choice_of.Answer = mark_word (codes "yes") mark.Only ∷ mark_word (codes "no") mark.Only ∷ []
choice_words choice_of.Prolog = mark_word (codes "<!--") mark.Comment ∷ mark_word (codes "<?") mark.Instruction ∷ start_of_tag ∷ []
choice_words choice_of.Epilog = mark_word (codes "<!--") mark.Comment ∷ mark_word (codes "<?") mark.Instruction ∷ []
choice_words choice_of.TagEnd = mark_word (codes ">") mark.Open ∷ mark_word (codes "/>") mark.Empty ∷ []
choice_words (choice_of.Value q closes refers) = only_if closes (mark_word (quote_character q ∷ []) mark.Only) ++ (only_if refers (mark_word (38 ∷ []) mark.Reference) ++ [])
choice_words (choice_of.Reference false) = number_signs ++ []
choice_words (choice_of.Reference true) = number_signs ++ named_entities
choice_words choice_of.Content =
    mark_word (codes "</") mark.EndTag ∷ start_of_tag ∷ mark_word (38 ∷ []) mark.Reference ∷ mark_word (codes "<!--") mark.Comment ∷ mark_word (codes "<![CDATA[") mark.CData
    ∷ mark_word (codes "<?") mark.Instruction ∷ []

-- a word that more content follows
abbrev pub is_item : Mark → Bool
is_item mark.Comment = true
is_item mark.Instruction = true
is_item mark.CData = true
is_item mark.Reference = true
is_item mark.StartTag = true
is_item _ = false

-- a word that begins a comment or a processing instruction
abbrev pub is_misc : Mark → Bool
is_misc mark.Comment = true
is_misc mark.Instruction = true
is_misc _ = false

-- the words of which none need stand there
abbrev pub maybe_words : Maybe → Choice
maybe_words maybe.DeclarationStart = choice_of.DeclarationStart
maybe_words maybe.Epilog = choice_of.Epilog
