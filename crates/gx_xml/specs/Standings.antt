-- Where a reader of documents stands, and what it did.
use Rattle.std.specs.Prelude.{◌≡◌, ◌≢◌, ℕ, min, List, [], length, ◌⊎◌, Option, Some, None, Err}
use Rattle.gx_grammar.specs.Reading.{State, Unfit, Faulty, TooDeep, Reading, taken, unless_fault, read_with, reads}
use Rattle.gx_grammar.specs.Ran.{Standing, Going, GaveUp, Lost, Ran}
use Rattle.gx_xml.specs.declared.refusal.XmlRule.{XmlRule}
use Rattle.gx_xml.specs.declared.refusal.XmlRule.TheVariants as xml_rule
use Rattle.gx_xml.specs.declared.reader.End.{End}
use Rattle.gx_xml.specs.declared.reader.End.TheVariants as ended
use Rattle.gx_xml.specs.Nodes.{Made}
use Rattle.gx_xml.specs.Tokens.{Token, scan, seen, faults, doctype, unbound_prefix, duplicate_attribute, too_deep}
use Rattle.gx_grammar.specs.Grammar.{rule}
use Rattle.gx_xml.specs.declared.runs.Quote.{Quote}
use Rattle.gx_xml.specs.Tags.{TagSoFar, with_attribute, purpose_of}
use Rattle.gx_xml.specs.Grammar.{Phrase, inside, value, documents}

-- the code of a rule
abbrev pub code_of_rule : XmlRule → ℕ
code_of_rule xml_rule.NotUtf8 = 1
code_of_rule xml_rule.Malformed = 2
code_of_rule xml_rule.Doctype = doctype
code_of_rule xml_rule.UnboundPrefix = unbound_prefix
code_of_rule xml_rule.DuplicateAttribute = duplicate_attribute
code_of_rule xml_rule.TooDeep = too_deep

abbrev pub code_of_fault : Option XmlRule → Option ℕ
code_of_fault None = None
code_of_fault (Some r) = Some (code_of_rule r)

-- where a reader stands
abbrev pub document_standing : List ℕ → ℕ → Option End → Standing
document_standing rest far None = Going (record { rest = rest; far = far })
document_standing rest far (Some (ended.Unfit left)) = GaveUp (Unfit left)
document_standing rest far (Some (ended.Faulty r left)) = GaveUp (Faulty (code_of_rule r) left)

-- a token
unfoldable pub read_document_token : Token → State → Reading Made
read_document_token t s = unless_fault (faults t s.rest) (length s.rest) (taken (scan t s.rest) (min s.far (seen t s.rest)))

-- a phrase, where at most so many productions stand in one another
unfoldable pub reading : ℕ → Phrase → State → Reading Made
reading levels A = read_with documents (reads documents levels) A

-- the productions stand in one another deeper than the levels
abbrev pub IsTooDeepAt : Standing → (State → Reading Made) → Type 0
IsTooDeepAt (Going s) read = read s ≡ Err TooDeep
IsTooDeepAt (GaveUp e) read = ⊥
IsTooDeepAt Lost read = ⊥

-- The reader did what the reading gives, unless the levels do not suffice.
abbrev pub RanWithin : Made → Standing → Standing → (State → Reading Made) → Type 0
RanWithin v before after read = Ran v before after read ⊎ IsTooDeepAt before read

-- Whatever the levels are, the reader did what the reading of the phrase gives.
abbrev pub Did : Made → Standing → Standing → Phrase → Type 0
Did v before after A = (levels : ℕ) → RanWithin v before after (reading levels A)

-- The reader went past what stands in front of a phrase.
abbrev pub WentPast : (Phrase → Phrase) → Standing → Standing → Type 0
WentPast f before here = (A : Phrase) (w : Made) (after : Standing) → Did w here after A → Did w before after (f A)

-- It read the front of a phrase, behind which another one stands.
abbrev pub LedTo : Phrase → Phrase → Standing → Standing → Type 0
LedTo B A before here = (w : Made) (after : Standing) → Did w here after A → Did w before after B

-- It read what decides how a phrase goes on.
abbrev pub Chose : {X : Type 0} → X → ((X → Phrase) → Phrase) → Standing → Standing → Type 0
Chose {X = X} x f before here = (k : X → Phrase) (w : Made) (after : Standing) → Did w here after (k x) → Did w before after (f k)

-- It read a name, on which the phrase goes on.
abbrev pub ChoseName : (prefix local : List ℕ) → ((List ℕ → List ℕ → Phrase) → Phrase) → Standing → Standing → Type 0
ChoseName prefix local f before here = (k : List ℕ → List ℕ → Phrase) (w : Made) (after : Standing) → Did w here after (k prefix local) → Did w before after (f k)

-- Behind these characters of a value it read the rest, with the quote.
abbrev pub ReadValue : (prefix local : List ℕ) → Quote → (so_far whole : List ℕ) → Standing → Standing → Type 0
ReadValue prefix local q so_far whole before here =
    (t : TagSoFar) (w : Made) (after : Standing) → Did w here after (rule (inside (with_attribute t prefix local whole (purpose_of prefix local))))
    → Did w before after (rule (value t prefix local q so_far))

-- Of a value it read these characters so far.
abbrev pub ReadSoFar : (prefix local : List ℕ) → Quote → List ℕ → Standing → Standing → Type 0
ReadSoFar prefix local q so_far before here =
    (t : TagSoFar) (w : Made) (after : Standing) → Did w here after (rule (value t prefix local q so_far)) → Did w before after (rule (value t prefix local q []))

-- how the reading of a whole text ended
abbrev pub HasEndedWith : Option End → Standing → Type 0
HasEndedWith None (Going s) = s.rest ≡ []
HasEndedWith (Some (ended.Unfit far)) (Going s) = (s.rest ≢ []) × (far ≡ s.far)
HasEndedWith (Some (ended.Unfit far)) (GaveUp e) = e ≡ Unfit far
HasEndedWith (Some (ended.Faulty r left)) (GaveUp e) = e ≡ Faulty (code_of_rule r) left
HasEndedWith _ _ = ⊥
