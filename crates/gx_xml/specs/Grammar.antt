-- The grammar of documents (XML 1.0, Fifth Edition, and Namespaces in XML 1.0), without document type declarations.
use Rattle.std.specs.Prelude.{ℕ, ◌-◌, Bool, true, false, if◌then◌else◌, not, ◌&&◌, List, [], ◌∷◌, ◌++◌, length, min, codes, bytes_eq, is_none, slice_get, Option, None}
use Rattle.gx_grammar.specs.Value.{nothing, node, pair}
use Rattle.gx_grammar.specs.Grammar.{Grammar, token, empty, ◌&◌, keyed, rule, made}
use Rattle.gx_grammar.specs.Language.{Language}
use Rattle.gx_tree.specs.Binding.{Binding, outermost_scope, xml_uri, xmlns}
use Rattle.gx_xml.specs.declared.runs.Quote.{Quote}
use Rattle.gx_xml.specs.declared.runs.Run.TheVariants as run_of
use Rattle.gx_xml.specs.declared.marks.Choice.TheVariants as choice_of
use Rattle.gx_xml.specs.declared.marks.Maybe.TheVariants as maybe
use Rattle.gx_xml.specs.declared.marks.Mark.{Mark}
use Rattle.gx_xml.specs.declared.marks.Mark.TheVariants as mark
use Rattle.gx_xml.specs.Runs.{quote_character, value_normalised}
use Rattle.gx_xml.specs.SourceTree.{no_content}
use Rattle.gx_xml.specs.Nodes.{DocumentNode, Made, rooted, held, mark_of, run_in, has_some, later, earlier, quote_read, with_characters, with_child, with_text, with_section}
use Rattle.gx_xml.specs.Marks.{is_misc}
use Rattle.gx_xml.specs.Nodes.{Held}
use Rattle.gx_xml.specs.Tokens.{Token, symbol, run, maybe_run, target, declared_prefix, numeral, choice, maybe_choice, tag_end, prolog_mark, numeral_value, derives, opens, scan, seen, faults}
use Rattle.gx_xml.specs.Tags.{TagSoFar, purpose_of, declares_xml, may_close, with_attribute, tagged_element, scope_in, tag_fault}

-- What recurses: what stands in front of the root and behind it; an element behind its `<`; what stands in a start tag
-- behind a name or a value; a value behind these characters of it; what stands between tags.
pub data Production : Type 0 where
  prolog : Production
  epilog : Production
  element : (room : ℕ) (scope : List Binding) → Production
  inside : TagSoFar → Production
  value : (tag : TagSoFar) (prefix local : List ℕ) (q : Quote) (so_far : List ℕ) → Production
  content : (room : ℕ) (scope : List Binding) → Production

abbrev pub Phrase : Type 0
Phrase = Grammar Token Production DocumentNode

-- a token and what stands behind it, whose value counts
unfoldable pub on : Token → (Made → Phrase) → Phrase
on t f = made (λ left v. later v) (keyed t f)

abbrev pub past : Token → Phrase → Phrase
past t A = on t (λ v. A)

-- what stands behind white space, by whether there was any
abbrev pub spaced : (Bool → Phrase) → Phrase
spaced f = on (maybe_run run_of.Space 0) (λ v. f (has_some (run_in v)))

abbrev pub past_space : Phrase → Phrase
past_space A = spaced (λ b. A)

-- Eq ::= S? '=' S?
unfoldable pub past_equals : Phrase → Phrase
past_equals A = past_space (past (symbol (codes "=")) (past_space A))

-- a quote, and what stands behind it
abbrev pub past_opening_quote : (Quote → Phrase) → Phrase
past_opening_quote f = on (choice choice_of.Quote) (λ v. f (quote_read (mark_of v)))

abbrev pub past_quote : Quote → Phrase → Phrase
past_quote q A = past (symbol (quote_character q ∷ [])) A

-- comments and processing instructions

-- a comment behind `<!--`
unfoldable pub past_comment : Phrase → Phrase
past_comment A = past (run run_of.Comment 0) (past (symbol (codes ">")) A)

unfoldable pub past_data : Bool → Phrase → Phrase
past_data false A = past (symbol (codes "?>")) A
past_data true A = past (run run_of.Instruction 0) (past (symbol (codes ">")) A)

-- a processing instruction behind `<?`
unfoldable pub past_instruction : Phrase → Phrase
past_instruction A = past target (spaced (λ b. past_data b A))

-- the XML declaration

-- SDDecl behind its word, with the end of the declaration
unfoldable pub past_standalone : Phrase → Phrase
past_standalone A = past_equals (past_opening_quote (λ q. past (choice choice_of.Answer) (past_quote q (past_space (past (symbol (codes "?>")) A)))))

unfoldable pub behind_encoding : Mark → Phrase → Phrase
behind_encoding mark.Standalone A = past_standalone A
behind_encoding _ A = A

-- EncodingDecl behind its word, and what stands behind it
unfoldable pub past_encoding : Phrase → Phrase
past_encoding A =
    past_equals (past_opening_quote (λ q. past (choice choice_of.Encoding) (past_quote q
    (spaced (λ b. on (choice (choice_of.Declaration b false)) (λ v. behind_encoding (mark_of v) A))))))

unfoldable pub behind_version : Mark → Phrase → Phrase
behind_version mark.Encoding A = past_encoding A
behind_version mark.Standalone A = past_standalone A
behind_version _ A = A

-- the declaration behind `<?xml` and a white space character
unfoldable pub past_declaration : Phrase → Phrase
past_declaration A =
    past_space (past (symbol (codes "version")) (past_equals (past_opening_quote (λ q. past (symbol (codes "1.")) (past (run run_of.Digits 0) (past_quote q
    (spaced (λ b. on (choice (choice_of.Declaration b true)) (λ v. behind_version (mark_of v) A)))))))))

-- references, behind `&`

abbrev pub character_of : Mark → ℕ
character_of (mark.Character c) = c
character_of _ = 0

unfoldable pub character_read : Option ℕ → Mark → (ℕ → Phrase) → Phrase
character_read expected (mark.Numeral b) f = on (numeral b expected) (λ v. past (symbol (codes ";")) (f (numeral_value b expected (run_in v))))
character_read expected m f = f (character_of m)

-- a reference to a character, which may be expected
unfoldable pub character_reference : Option ℕ → (ℕ → Phrase) → Phrase
character_reference expected f = on (choice (choice_of.Reference (is_none expected))) (λ v. character_read expected (mark_of v) f)

-- names

-- a QName whose first part was read, where one behind `xmlns:` is no `xmlns` (of an attribute)
unfoldable pub behind_name : Bool → List ℕ → (List ℕ → List ℕ → Phrase) → Phrase
behind_name false n f = f [] n
behind_name true n f = on (if bytes_eq n xmlns then declared_prefix else run run_of.Name 0) (λ v. f n (run_in v))

unfoldable pub qualified : List ℕ → (List ℕ → List ℕ → Phrase) → Phrase
qualified n f = on (maybe_run run_of.Colon 0) (λ v. behind_name (has_some (run_in v)) n f)

-- the name of an element, whose prefix is not `xmlns`
unfoldable pub past_element_name : List ℕ → (List ℕ → List ℕ → Phrase) → Phrase
past_element_name n f = if bytes_eq n xmlns then (f [] n) else (qualified n f)

-- start tags

abbrev pub begun_tag : (room : ℕ) (scope : List Binding) (prefix local : List ℕ) → TagSoFar
begun_tag room scope prefix local = record { room = room; scope = scope; prefix = prefix; local = local; declarations = []; attributes = [] }

-- the name of an end tag
abbrev pub past_name : (prefix local : List ℕ) → Phrase → Phrase
past_name [] local A = past (symbol local) A
past_name (c ∷ p) local A = past (symbol (c ∷ p)) (past (symbol (codes ":")) (past (symbol local) A))

-- between the tags, with the end tag
abbrev pub with_content : TagSoFar → Made → Made
with_content t (pair (node (Held cs)) w) = rooted (tagged_element t cs)
with_content t _ = nothing

unfoldable pub closing_tag : TagSoFar → Phrase
closing_tag t = past_name t.prefix t.local (past_space (token (symbol (codes ">"))))

unfoldable pub behind_tag : TagSoFar → Mark → Phrase
behind_tag t mark.Open = made (λ left v. with_content t v) (rule (content (t.room - 1) (scope_in t)) & closing_tag t)
behind_tag t _ = made (λ left v. rooted (tagged_element t no_content)) empty

unfoldable pub tag_ending : TagSoFar → Phrase
tag_ending t = on (tag_end (tag_fault t)) (λ v. behind_tag t (mark_of v))

unfoldable pub attribute : TagSoFar → List ℕ → Phrase
attribute t n = qualified n (λ prefix local. past_equals (past_opening_quote (λ q. rule (value t prefix local q []))))

unfoldable pub attribute_or_end : TagSoFar → List ℕ → Phrase
attribute_or_end t [] = tag_ending t
attribute_or_end t (c ∷ n) = attribute t (c ∷ n)

-- in a tag, an attribute only behind white space
unfoldable pub behind_tag_space : TagSoFar → Bool → Phrase
behind_tag_space t false = tag_ending t
behind_tag_space t true = on (maybe_run run_of.Name 0) (λ v. attribute_or_end t (run_in v))

-- values

-- the characters of a value up to a reference or the quote, behind so many; in a declaration of `xml` they are those of its URI
abbrev pub value_run : Bool → Quote → ℕ → Token
value_run of_xml q n = if of_xml then (maybe_run run_of.NamespaceOfXml (min n 36)) else (maybe_run (run_of.Value q) 0)

-- the character that a reference must stand for
abbrev pub expected_at : Bool → ℕ → Option ℕ
expected_at of_xml n = if of_xml then (slice_get xml_uri n) else None

-- a reference may stand here
abbrev pub may_refer : Bool → List ℕ → Bool
may_refer of_xml so_far = not (of_xml && bytes_eq so_far xml_uri)

unfoldable pub behind_value_run : TagSoFar → (prefix local : List ℕ) → Quote → List ℕ → Mark → Phrase
behind_value_run t prefix local q so_far mark.Reference = character_reference (expected_at (declares_xml (purpose_of prefix local)) (length so_far)) (λ c. rule (value t prefix local q (so_far ++ c ∷ [])))
behind_value_run t prefix local q so_far _ = rule (inside (with_attribute t prefix local so_far (purpose_of prefix local)))

unfoldable pub value_ending : TagSoFar → (prefix local : List ℕ) → Quote → List ℕ → Phrase
value_ending t prefix local q so_far =
    on (choice (choice_of.Value q (may_close (purpose_of prefix local) so_far) (may_refer (declares_xml (purpose_of prefix local)) so_far))) (λ v. behind_value_run t prefix local q so_far (mark_of v))

-- content

-- what a word in content says
unfoldable pub behind_content : (room : ℕ) → List Binding → Mark → Phrase
behind_content room scope mark.Comment = past_comment (rule (content room scope))
behind_content room scope mark.Instruction = past_instruction (rule (content room scope))
behind_content room scope mark.CData = made (λ left v. with_section v) (keyed (run run_of.CData 0) (λ v. past (symbol (codes ">")) (rule (content room scope))))
behind_content room scope mark.Reference = character_reference None (λ c. made (λ left v. with_characters (c ∷ []) v) (rule (content room scope)))
behind_content room scope mark.StartTag = made (λ left v. with_child v) (rule (element room scope) & rule (content room scope))
behind_content room scope _ = made (λ left v. held no_content) empty

-- in front of the root and behind it

-- a comment or a processing instruction, behind its first word
unfoldable pub past_misc : Mark → Phrase → Phrase
past_misc mark.Comment A = past_comment A
past_misc mark.Instruction A = past_instruction A
past_misc _ A = A

-- the root, and what stands behind it
unfoldable pub root_and_behind : Phrase
root_and_behind = made (λ left v. earlier v) (rule (element 200 outermost_scope) & rule epilog)

abbrev pub behind_prolog : Mark → Phrase
behind_prolog m = if is_misc m then (past_misc m (rule prolog)) else root_and_behind

abbrev pub behind_epilog : Mark → Phrase
behind_epilog m = if is_misc m then (past_misc m (rule epilog)) else empty

unfoldable pub rules : Production → Phrase
rules prolog = past_space (on prolog_mark (λ v. behind_prolog (mark_of v)))
rules epilog = past_space (on (maybe_choice maybe.Epilog) (λ v. behind_epilog (mark_of v)))
rules (element room scope) = on (run run_of.Name 0) (λ v. past_element_name (run_in v) (λ prefix local. rule (inside (begun_tag room scope prefix local))))
rules (inside t) = spaced (λ b. behind_tag_space t b)
rules (value t prefix local q so_far) = on (value_run (declares_xml (purpose_of prefix local)) q (length so_far)) (λ v. value_ending t prefix local q (so_far ++ value_normalised (run_in v)))
rules (content room scope) = made (λ left v. with_text v) (keyed (maybe_run run_of.Text 0) (λ v. on (choice choice_of.Content) (λ m. behind_content room scope (mark_of m))))

unfoldable pub behind_start : Mark → Phrase
behind_start mark.Declaration = past_declaration (rule prolog)
behind_start _ = rule prolog

-- A document: a byte order mark, if there is one, an XML declaration, if there is one, and the root with what stands round it.
unfoldable pub whole_document : Phrase
whole_document = past (maybe_run run_of.ByteOrderMark 0) (on (maybe_choice maybe.DeclarationStart) (λ v. behind_start (mark_of v)))

abbrev pub documents : Language
documents = record {
  Token = Token;
  Production = Production;
  Node = DocumentNode;
  derives = derives;
  opens = opens;
  scan = scan;
  seen = seen;
  faults = faults;
  rules = rules;
  follows = λ p y. Unit {0};
  follows_cut = λ p y. Unit {0};
}
